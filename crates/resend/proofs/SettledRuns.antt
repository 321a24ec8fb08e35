-- What the runs of the settled legs are where legs in doubt are settled.
use Rattle.std.proofs.Common.{◌≡◌, ◌≢◌, ◌<◌, ◌≤◌, ℕ, Bool, true, false, ◌&&◌, nat_lt, nat_le, List, [], ◌∷◌, ◌++◌, take, drop, refl, sym, ap, ◌∙◌, if◌then◌else◌, arith}
use Rattle.std.specs.Prelude.{map}
use Rattle.std.proofs.lemmas.Bool.Decides.{nat_tests}
use Rattle.leg.specs.declared.leg_state.LegState.{LegState}
use Rattle.resend.specs.declared.run.Run.{Run}
use Rattle.resend.specs.declared.sent.Sent.{Sent}
use Rattle.resend.specs.Log.{SentLeg, is_doubt, settled_as}
use Rattle.resend.specs.Window.{doubts}
use Rattle.resend.specs.Kept.{IsRising, leading}
use Rattle.resend.specs.Runs.{single, singles, goes_on, joined_to, joined}
use Rattle.resend.specs.KeptRuns.{added, added_all}
use Rattle.resend.proofs.Filled.{settled_legs}
use Rattle.resend.proofs.Joining.{merged, it_goes_on, joined_twice}

-- a settled leg in its place among others
abbrev put : Run → List Run → List Run
put leg [] = leg ∷ []
put leg (other ∷ legs) = if nat_lt other.first_number leg.first_number then other ∷ put leg legs else leg ∷ other ∷ legs

abbrev puts : List Run → List Run → List Run
puts [] legs = legs
puts (leg ∷ more) legs = puts more (put leg legs)

-- each of these runs is one leg; and none has this number
abbrev pub AreSingle : List Run → Type 0
AreSingle [] = Unit {0}
AreSingle (leg ∷ legs) = (leg.count ≡ 1) × AreSingle legs

abbrev IsAbsent : ℕ → List Run → Type 0
IsAbsent number [] = Unit {0}
IsAbsent number (leg ∷ legs) = (leg.first_number ≢ number) × IsAbsent number legs

abbrev AreAbsent : List Run → List Run → Type 0
AreAbsent [] legs = Unit {0}
AreAbsent (leg ∷ more) legs = IsAbsent leg.first_number legs × AreAbsent more (put leg legs)

abbrev AreAbove : ℕ → List Run → Type 0
AreAbove low [] = Unit {0}
AreAbove low (leg ∷ legs) = (low < leg.first_number) × AreAbove low legs

-- the first run doesn't begin at a number
abbrev BeginsElsewhere : ℕ → List Run → Type 0
BeginsElsewhere number [] = Unit {0}
BeginsElsewhere number (run ∷ runs) = run.first_number ≢ number

elsewhere_turn : (b : Bool) (number : ℕ) (run next : Run) (runs : List Run) → run.first_number ≢ number
    → BeginsElsewhere number (if b then merged run next ∷ runs else run ∷ next ∷ runs)
elsewhere_turn true number run next runs unlike = unlike
elsewhere_turn false number run next runs unlike = unlike

elsewhere_to : (number : ℕ) (run : Run) (runs : List Run) → run.first_number ≢ number → BeginsElsewhere number (joined_to run runs)
elsewhere_to number run [] unlike = unlike
elsewhere_to number run (next ∷ runs) unlike = elsewhere_turn (goes_on run next) number run next runs unlike

elsewhere : (number : ℕ) (legs : List Run) → IsAbsent number legs → BeginsElsewhere number (joined legs)
elsewhere number [] unlike = tt
elsewhere number (leg ∷ legs) unlike = elsewhere_to number leg (joined legs) unlike.0

-- a leg that is added to runs stands among the legs of which they are made
module _ (leg : Run) where
  before_turn : (b : Bool) (run next : Run) (runs : List Run) → goes_on run next ≡ b → nat_lt run.first_number leg.first_number ≡ false
      → added leg (if b then merged run next ∷ runs else run ∷ next ∷ runs) ≡ joined_to leg (if b then merged run next ∷ runs else run ∷ next ∷ runs)
  before_turn true run next runs is out = rw out refl
  before_turn false run next runs is out = rw out refl

  added_before : (run : Run) (runs : List Run) → nat_lt run.first_number leg.first_number ≡ false → added leg (joined_to run runs) ≡ joined_to leg (joined_to run runs)
  added_before run [] out = rw out refl
  added_before run (next ∷ runs) out = before_turn (goes_on run next) run next runs refl out

  behind_turn : (b : Bool) (run next : Run) (runs : List Run) → goes_on run next ≡ b → nat_lt run.first_number leg.first_number ≡ true → run.count ≡ 1 → next.first_number ≢ leg.first_number
      → added leg (if b then merged run next ∷ runs else run ∷ next ∷ runs) ≡ joined_to run (added leg (next ∷ runs))
  behind_turn true run next runs is below one other =
      let it = it_goes_on run next is in
      let under : nat_lt next.first_number leg.first_number ≡ true =
      (let lt : run.first_number < leg.first_number = grind (arith, nat_tests, below) in
      let less : next.first_number < leg.first_number = omega (arith, it.numbers, one, lt, other) in grind (arith, nat_tests)) in
      rw (under, below) (sym (joined_twice run next (added leg runs) is))
  behind_turn false run next runs is below one other = rw below refl

  added_behind_one : (run : Run) (runs : List Run) → nat_lt run.first_number leg.first_number ≡ true → run.count ≡ 1 → BeginsElsewhere leg.first_number runs
      → added leg (joined_to run runs) ≡ joined_to run (added leg runs)
  added_behind_one run [] below one other = rw below refl
  added_behind_one run (next ∷ runs) below one other = behind_turn (goes_on run next) run next runs refl below one other

  put_turn : (b : Bool) (other : Run) (legs : List Run) → nat_lt other.first_number leg.first_number ≡ b → AreSingle (other ∷ legs) → IsAbsent leg.first_number legs
      → added leg (joined legs) ≡ joined (put leg legs)
      → added leg (joined (other ∷ legs)) ≡ joined (if b then other ∷ put leg legs else leg ∷ other ∷ legs)
  put_turn true other legs is ones unlike e =
      added_behind_one other (joined legs) is ones.0 (elsewhere leg.first_number legs unlike) ∙ ap (joined_to other) e
  put_turn false other legs is ones unlike e = added_before other (joined legs) is

  added_is : (legs : List Run) → AreSingle legs → IsAbsent leg.first_number legs → added leg (joined legs) ≡ joined (put leg legs)
  added_is [] ones unlike = refl
  added_is (other ∷ legs) ones unlike =
      put_turn (nat_lt other.first_number leg.first_number) other legs refl ones unlike.1 (added_is legs ones.1 unlike.1)

  single_turn : (b : Bool) (other : Run) (legs : List Run) → leg.count ≡ 1 → AreSingle (other ∷ legs) → AreSingle (put leg legs)
      → AreSingle (if b then other ∷ put leg legs else leg ∷ other ∷ legs)
  single_turn true other legs one ones rest = (ones.0, rest)
  single_turn false other legs one ones rest = (one, ones)

  put_single : (legs : List Run) → leg.count ≡ 1 → AreSingle legs → AreSingle (put leg legs)
  put_single [] one ones = (one, tt)
  put_single (other ∷ legs) one ones = single_turn (nat_lt other.first_number leg.first_number) other legs one ones (put_single legs one ones.1)

  put_first : (legs : List Run) → AreAbove leg.first_number legs → put leg legs ≡ leg ∷ legs
  put_first [] above = refl
  put_first (other ∷ legs) above = let out : nat_lt other.first_number leg.first_number ≡ false = (let lt = above.0 in grind (arith, nat_tests, lt)) in rw out refl

added_all_is : (more legs : List Run) → AreSingle more → AreSingle legs → AreAbsent more legs → added_all more (joined legs) ≡ joined (puts more legs)
added_all_is [] legs ones all unlike = refl
added_all_is (leg ∷ more) legs ones all unlike =
    ap (added_all more) (added_is leg legs all unlike.0) ∙ added_all_is more (put leg legs) ones.1 (put_single leg legs ones.0 all) unlike.1

-- behind a leg that is below all of them
puts_behind : (first : Run) (more legs : List Run) → AreAbove first.first_number more → puts more (first ∷ legs) ≡ first ∷ puts more legs
puts_behind first [] legs above = refl
puts_behind first (leg ∷ more) legs above =
    let below : nat_lt first.first_number leg.first_number ≡ true = (let lt = above.0 in grind (arith, nat_tests, lt)) in
    rw below (puts_behind first more (put leg legs) above.1)

single_if : (b : Bool) (leg : Run) (legs : List Run) → leg.count ≡ 1 → AreSingle legs → AreSingle (if b then leg ∷ legs else legs)
single_if true leg legs one ones = (one, ones)
single_if false leg legs one ones = ones

single_unless : (b : Bool) (leg : Run) (legs : List Run) → leg.count ≡ 1 → AreSingle legs → AreSingle (if b then legs else leg ∷ legs)
single_unless true leg legs one ones = ones
single_unless false leg legs one ones = (one, ones)

absent_behind : (first : Run) (more legs : List Run) → AreAbove first.first_number more → AreAbsent more legs → AreAbsent more (first ∷ legs)
absent_behind first [] legs above unlike = tt
absent_behind first (leg ∷ more) legs above unlike =
    let below : nat_lt first.first_number leg.first_number ≡ true = (let lt = above.0 in grind (arith, nat_tests, lt)) in
    let other : first.first_number ≢ leg.first_number = (let lt = above.0 in omega (arith, lt)) in
    rw below ((other, unlike.0), absent_behind first more (put leg legs) above.1 unlike.1)

absent_above : (number : ℕ) (legs : List Run) → AreAbove number legs → IsAbsent number legs
absent_above number [] above = tt
absent_above number (leg ∷ legs) above = (let lt = above.0 in omega (arith, lt), absent_above number legs above.1)

above_later : (low least : ℕ) (legs : List Run) → least ≤ low → AreAbove low legs → AreAbove least legs
above_later low least [] le above = tt
above_later low least (leg ∷ legs) le above = (omega (arith, above.0), above_later low least legs le above.1)

-- the legs in doubt that pass a test, as they are settled
abbrev pub moved : (ℕ → Bool) → LegState → List (ℕ × SentLeg) → List Run
moved test state [] = []
moved test state ((number, leg) ∷ legs) =
    if is_doubt leg.state && test number then single number leg.ordinal state ∷ moved test state legs else moved test state legs

above_if : (b : Bool) (low : ℕ) (leg : Run) (legs : List Run) → low < leg.first_number → AreAbove low legs → AreAbove low (if b then leg ∷ legs else legs)
above_if true low leg legs lt above = (lt, above)
above_if false low leg legs lt above = above

above_unless : (b : Bool) (low : ℕ) (leg : Run) (legs : List Run) → low < leg.first_number → AreAbove low legs → AreAbove low (if b then legs else leg ∷ legs)
above_unless true low leg legs lt above = above
above_unless false low leg legs lt above = (lt, above)

singles_above : (low ordinal last : ℕ) (legs : List (ℕ × SentLeg)) → IsRising low ordinal last legs → AreAbove low (singles legs)
singles_above low ordinal last [] r = tt
singles_above low ordinal last ((number, leg) ∷ legs) r =
    above_unless (is_doubt leg.state) low (single number leg.ordinal leg.state) (singles legs) r.0
    (above_later number low (singles legs) (omega (arith, r.0)) (singles_above number leg.ordinal last legs r.3))

singles_single : (legs : List (ℕ × SentLeg)) → AreSingle (singles legs)
singles_single [] = tt
singles_single ((number, leg) ∷ legs) = single_unless (is_doubt leg.state) (single number leg.ordinal leg.state) (singles legs) refl (singles_single legs)

module _ (test : ℕ → Bool) (state : LegState) where
  moved_above : (low ordinal last : ℕ) (legs : List (ℕ × SentLeg)) → IsRising low ordinal last legs → AreAbove low (moved test state legs)
  moved_above low ordinal last [] r = tt
  moved_above low ordinal last ((number, leg) ∷ legs) r =
      above_if (is_doubt leg.state && test number) low (single number leg.ordinal state) (moved test state legs) r.0
      (above_later number low (moved test state legs) (omega (arith, r.0)) (moved_above number leg.ordinal last legs r.3))

  moved_single : (legs : List (ℕ × SentLeg)) → AreSingle (moved test state legs)
  moved_single [] = tt
  moved_single ((number, leg) ∷ legs) = single_if (is_doubt leg.state && test number) (single number leg.ordinal state) (moved test state legs) refl (moved_single legs)

  first_settled : (doubt passes : Bool) (number : ℕ) (leg : SentLeg) (legs : List (ℕ × SentLeg)) → is_doubt leg.state ≡ doubt → is_doubt state ≡ false
      → singles ((number, if passes then settled_as state leg else leg) ∷ legs)
      ≡ (if doubt then (if passes then single number leg.ordinal state ∷ singles legs else singles legs) else single number leg.ordinal leg.state ∷ singles legs)
  first_settled true true number leg legs is settles = rw (is, settles) refl
  first_settled true false number leg legs is settles = rw is refl
  first_settled false true number leg legs is settles = rw (is, is) refl
  first_settled false false number leg legs is settles = rw is refl

  puts_turn : (doubt passes : Bool) (moves stays : Run) (more legs after : List Run) → stays.first_number ≡ moves.first_number
      → AreAbove moves.first_number more → AreAbove moves.first_number legs → puts more legs ≡ after
      → puts (if doubt && passes then moves ∷ more else more) (if doubt then legs else stays ∷ legs)
      ≡ (if doubt then (if passes then moves ∷ after else after) else stays ∷ after)
  puts_turn true true moves stays more legs after same up above e =
      rw (put_first moves legs above) (puts_behind moves more legs up ∙ ap (λ (rest : List Run). moves ∷ rest) e)
  puts_turn true false moves stays more legs after same up above e = e
  puts_turn false passes moves stays more legs after same up above e =
      puts_behind stays more legs (rw same up) ∙ ap (λ (rest : List Run). stays ∷ rest) e

  puts_moved : (low ordinal last : ℕ) (legs : List (ℕ × SentLeg)) → is_doubt state ≡ false → IsRising low ordinal last legs
      → puts (moved test state legs) (singles legs) ≡ singles (settled_legs test state legs)
  puts_moved low ordinal last [] settles r = refl
  puts_moved low ordinal last ((number, leg) ∷ legs) settles r =
      puts_turn (is_doubt leg.state) (test number) (single number leg.ordinal state) (single number leg.ordinal leg.state) (moved test state legs) (singles legs) _ refl
      (moved_above number leg.ordinal last legs r.3) (singles_above number leg.ordinal last legs r.3) (puts_moved number leg.ordinal last legs settles r.3)
      ∙ sym (first_settled (is_doubt leg.state) (test number) number leg (settled_legs test state legs) refl settles)

  absent_turn : (doubt passes : Bool) (moves stays : Run) (more legs : List Run) → stays.first_number ≡ moves.first_number
      → AreAbove moves.first_number more → AreAbove moves.first_number legs → AreAbsent more legs
      → AreAbsent (if doubt && passes then moves ∷ more else more) (if doubt then legs else stays ∷ legs)
  absent_turn true true moves stays more legs same up above unlike =
      (absent_above moves.first_number legs above, rw (put_first moves legs above) (absent_behind moves more legs up unlike))
  absent_turn true false moves stays more legs same up above unlike = unlike
  absent_turn false passes moves stays more legs same up above unlike = absent_behind stays more legs (rw same up) unlike

  moved_absent : (low ordinal last : ℕ) (legs : List (ℕ × SentLeg)) → IsRising low ordinal last legs → AreAbsent (moved test state legs) (singles legs)
  moved_absent low ordinal last [] r = tt
  moved_absent low ordinal last ((number, leg) ∷ legs) r =
      absent_turn (is_doubt leg.state) (test number) (single number leg.ordinal state) (single number leg.ordinal leg.state) (moved test state legs) (singles legs) refl
      (moved_above number leg.ordinal last legs r.3) (singles_above number leg.ordinal last legs r.3) (moved_absent number leg.ordinal last legs r.3)

  -- the runs after them
  pub runs_settled : (last : ℕ) (legs : List (ℕ × SentLeg)) (more runs : List Run) → is_doubt state ≡ false → IsRising 0 0 last legs
      → more ≡ moved test state legs → runs ≡ joined (singles legs) → added_all more runs ≡ joined (singles (settled_legs test state legs))
  runs_settled last legs more runs settles r are kept =
      rw (are, kept) (
      added_all_is (moved test state legs) (singles legs) (moved_single legs) (singles_single legs) (moved_absent 0 0 last legs r)
      ∙ ap joined (puts_moved 0 0 last legs settles r))

-- which part of the window they are
abbrev pub as_settled : LegState → Sent → Run
as_settled state sent = single sent.number sent.ordinal state

none_if : (b : Bool) (leg : Run) (legs : List Run) → legs ≡ [] → (if b && false then leg ∷ legs else legs) ≡ []
none_if true leg legs e = e
none_if false leg legs e = e

none_moved : (number low ordinal last : ℕ) (state : LegState) (legs : List (ℕ × SentLeg)) → number ≤ low → IsRising low ordinal last legs → moved (λ n. nat_lt n number) state legs ≡ []
none_moved number low ordinal last state [] le r = refl
none_moved number low ordinal last state ((next, leg) ∷ legs) le r =
    let out : nat_lt next number ≡ false = (let above : number ≤ next = omega (arith, r.0) in grind (arith, nat_tests)) in
    rw out (none_if (is_doubt leg.state) _ _ (none_moved number next leg.ordinal last state legs (omega (arith, r.0)) r.3))

all_if : (b : Bool) (state : LegState) (sent : Sent) (legs : List Run) (window : List Sent) → legs ≡ map (as_settled state) window
    → (if b && true then as_settled state sent ∷ legs else legs) ≡ map (as_settled state) (if b then sent ∷ window else window)
all_if true state sent legs window e = ap (λ (rest : List Run). as_settled state sent ∷ rest) e
all_if false state sent legs window e = e

all_moved : (number low ordinal last : ℕ) (state : LegState) (legs : List (ℕ × SentLeg)) → number ≤ low → IsRising low ordinal last legs
    → moved (λ n. nat_le number n) state legs ≡ map (as_settled state) (doubts legs)
all_moved number low ordinal last state [] le r = refl
all_moved number low ordinal last state ((next, leg) ∷ legs) le r =
    let here : nat_le number next ≡ true = (let above : number ≤ next = omega (arith, r.0) in grind (arith, nat_tests)) in
    rw here (all_if (is_doubt leg.state) state (record { number = next; ordinal = leg.ordinal; id = leg.id }) _ _ (all_moved number next leg.ordinal last state legs (omega (arith, r.0)) r.3))

below_turn : (doubt below : Bool) (number : ℕ) (state : LegState) (sent : Sent) (legs : List Run) (window : List Sent) → nat_lt sent.number number ≡ below
    → (below ≡ false → legs ≡ []) → legs ≡ map (as_settled state) (take (leading (λ (s : Sent). nat_lt s.number number) window) window)
    → (if doubt && below then as_settled state sent ∷ legs else legs)
    ≡ map (as_settled state) (take (leading (λ (s : Sent). nat_lt s.number number) (if doubt then sent ∷ window else window)) (if doubt then sent ∷ window else window))
below_turn true true number state sent legs window is none e = rw is (ap (λ (rest : List Run). as_settled state sent ∷ rest) e)
below_turn true false number state sent legs window is none e = rw is (none refl)
below_turn false below number state sent legs window is none e = e

pub moved_below : (number low ordinal last : ℕ) (state : LegState) (legs : List (ℕ × SentLeg)) → IsRising low ordinal last legs
    → moved (λ n. nat_lt n number) state legs ≡ map (as_settled state) (take (leading (λ (s : Sent). nat_lt s.number number) (doubts legs)) (doubts legs))
moved_below number low ordinal last state [] r = refl
moved_below number low ordinal last state ((next, leg) ∷ legs) r =
    below_turn (is_doubt leg.state) (nat_lt next number) number state (record { number = next; ordinal = leg.ordinal; id = leg.id }) _ _ refl
    (λ out. none_moved number next leg.ordinal last state legs (grind (arith, nat_tests, out)) r.3) (moved_below number next leg.ordinal last state legs r.3)

above_turn : (doubt below from : Bool) (number : ℕ) (state : LegState) (sent : Sent) (legs : List Run) (window : List Sent) → nat_lt sent.number number ≡ below → nat_le number sent.number ≡ from
    → (below ≡ false → legs ≡ map (as_settled state) window) → legs ≡ map (as_settled state) (drop (leading (λ (s : Sent). nat_lt s.number number) window) window)
    → (if doubt && from then as_settled state sent ∷ legs else legs)
    ≡ map (as_settled state) (drop (leading (λ (s : Sent). nat_lt s.number number) (if doubt then sent ∷ window else window)) (if doubt then sent ∷ window else window))
above_turn true true true number state sent legs window is at all e = absurd (grind (arith, nat_tests, is, at))
above_turn true true false number state sent legs window is at all e = rw is e
above_turn true false true number state sent legs window is at all e = rw is (ap (λ (rest : List Run). as_settled state sent ∷ rest) (all refl))
above_turn true false false number state sent legs window is at all e = absurd (grind (arith, nat_tests, is, at))
above_turn false below from number state sent legs window is at all e = e

pub moved_from : (number low ordinal last : ℕ) (state : LegState) (legs : List (ℕ × SentLeg)) → IsRising low ordinal last legs
    → moved (λ n. nat_le number n) state legs ≡ map (as_settled state) (drop (leading (λ (s : Sent). nat_lt s.number number) (doubts legs)) (doubts legs))
moved_from number low ordinal last state [] r = refl
moved_from number low ordinal last state ((next, leg) ∷ legs) r =
    above_turn (is_doubt leg.state) (nat_lt next number) (nat_le number next) number state (record { number = next; ordinal = leg.ordinal; id = leg.id }) _ _ refl refl
    (λ out. all_moved number next leg.ordinal last state legs (grind (arith, nat_tests, out)) r.3) (moved_from number next leg.ordinal last state legs r.3)

-- a leg in doubt is in no run
pub singles_doubt : (legs : List (ℕ × SentLeg)) (number : ℕ) (leg : SentLeg) → is_doubt leg.state ≡ true → singles (legs ++ (number, leg) ∷ []) ≡ singles legs
singles_doubt [] number leg is = rw is refl
singles_doubt ((at, first) ∷ legs) number leg is =
    ap (λ (rest : List Run). if is_doubt first.state then rest else single at first.ordinal first.state ∷ rest) (singles_doubt legs number leg is)
