-- How the leg of an ordinal stands: in the window or in a run.
use Rattle.std.proofs.Common.{◌≡◌, ◌<◌, ◌≤◌, ◌+◌, ◌==◌, ℕ, zero, suc, Bool, true, false, nat_lt, nat_le, List, [], ◌∷◌, length, get_or, Option, Some, None, refl, ap, ◌∙◌, if◌then◌else◌, arith}
use Rattle.std.specs.Prelude.{slice_get}
use Rattle.std.specs.List.Sorted.{IsNonDecreasingBy}
use Rattle.std.proofs.lemmas.Bool.Decides.{nat_tests}
use Rattle.leg.specs.declared.leg_state.LegState.{LegState}
use Rattle.leg.specs.declared.leg_state.LegState.TheVariants.{Doubt}
use Rattle.resend.specs.declared.run.Run.{Run}
use Rattle.resend.specs.declared.sent.Sent.{Sent}
use Rattle.resend.specs.Log.{SentLeg, is_doubt, state_in, state_of}
use Rattle.resend.specs.Window.{doubts}
use Rattle.resend.specs.Runs.{single, singles, goes_on, joined_to, joined}
use Rattle.resend.specs.Kept.{entries, IsRising, leading}
use Rattle.resend.specs.KeptRuns.{has_ordinal, state_among, Follow}
use Rattle.resend.proofs.Joining.{merged, it_goes_on}
use Rattle.resend.proofs.Kept.{sent_legs-entries}
use Rattle.resend.proofs.Standing.{doubt_is}

-- runs that are made one have the same ordinals
module _ (ordinal : ℕ) where
  merged_turn : (here first second : Bool) (run next : Run) (rest : Option LegState) → has_ordinal ordinal (merged run next) ≡ here → has_ordinal ordinal run ≡ first → has_ordinal ordinal next ≡ second
      → goes_on run next ≡ true
      → (if here then Some run.state else rest) ≡ (if first then Some run.state else (if second then Some next.state else rest))
  merged_turn true true second run next rest is one two on = refl
  merged_turn true false true run next rest is one two on = ap (λ (state : LegState). Some state) (it_goes_on run next on).states
  merged_turn true false false run next rest is one two on = absurd (let it = it_goes_on run next on in grind (arith, nat_tests, it.ordinals, is, one, two))
  merged_turn false true second run next rest is one two on = absurd (let it = it_goes_on run next on in grind (arith, nat_tests, it.ordinals, is, one))
  merged_turn false false true run next rest is one two on = absurd (let it = it_goes_on run next on in grind (arith, nat_tests, it.ordinals, is, two))
  merged_turn false false false run next rest is one two on = refl

  joined_turn : (b : Bool) (run next : Run) (runs : List Run) → goes_on run next ≡ b
      → state_among ordinal (if b then merged run next ∷ runs else run ∷ next ∷ runs) ≡ state_among ordinal (run ∷ next ∷ runs)
  joined_turn true run next runs on = merged_turn (has_ordinal ordinal (merged run next)) (has_ordinal ordinal run) (has_ordinal ordinal next) run next (state_among ordinal runs) refl refl refl on
  joined_turn false run next runs on = refl

  state_among-joined_to : (run : Run) (runs : List Run) → state_among ordinal (joined_to run runs) ≡ state_among ordinal (run ∷ runs)
  state_among-joined_to run [] = refl
  state_among-joined_to run (next ∷ runs) = joined_turn (goes_on run next) run next runs refl

  state_among-joined : (runs : List Run) → state_among ordinal (joined runs) ≡ state_among ordinal runs
  state_among-joined [] = refl
  state_among-joined (run ∷ runs) =
      state_among-joined_to run (joined runs) ∙ ap (λ (rest : Option LegState). if has_ordinal ordinal run then Some run.state else rest) (state_among-joined runs)

-- the runs follow one another
follow_later : (low least : ℕ) (runs : List Run) → least ≤ low → Follow low runs → Follow least runs
follow_later low least [] le follow = tt
follow_later low least (run ∷ runs) le follow = (omega (arith, follow.0), follow.1)

follow_turn : (b : Bool) (low : ℕ) (run next : Run) (runs : List Run) → goes_on run next ≡ b → Follow low (run ∷ next ∷ runs) → Follow low (if b then merged run next ∷ runs else run ∷ next ∷ runs)
follow_turn true low run next runs on follow =
    let it = it_goes_on run next on in
    let end : run.first_ordinal + (run.count + next.count) ≡ next.first_ordinal + next.count = omega (arith, it.ordinals) in
    (follow.0, rw end follow.1.1)
follow_turn false low run next runs on follow = follow

follow_joined_to : (low : ℕ) (run : Run) (runs : List Run) → Follow low (run ∷ runs) → Follow low (joined_to run runs)
follow_joined_to low run [] follow = follow
follow_joined_to low run (next ∷ runs) follow = follow_turn (goes_on run next) low run next runs refl follow

follow_joined : (low : ℕ) (runs : List Run) → Follow low runs → Follow low (joined runs)
follow_joined low [] follow = tt
follow_joined low (run ∷ runs) follow = follow_joined_to low run (joined runs) (follow.0, follow_joined (run.first_ordinal + run.count) runs follow.1)

single_turn : (b : Bool) (low : ℕ) (run : Run) (runs : List Run) → low ≤ run.first_ordinal → Follow (run.first_ordinal + run.count) runs → Follow low (if b then runs else run ∷ runs)
single_turn true low run runs le follow = follow_later (run.first_ordinal + run.count) low runs (omega arith) follow
single_turn false low run runs le follow = (le, follow)

singles_follow : (number ordinal last : ℕ) (legs : List (ℕ × SentLeg)) → IsRising number ordinal last legs → Follow (ordinal + 1) (singles legs)
singles_follow number ordinal last [] r = tt
singles_follow number ordinal last ((at, leg) ∷ legs) r =
    single_turn (is_doubt leg.state) (ordinal + 1) (single at leg.ordinal leg.state) (singles legs) (omega (arith, r.1)) (singles_follow at leg.ordinal last legs r.3)

pub runs_follow : (last : ℕ) (legs : List (ℕ × SentLeg)) (runs : List Run) → IsRising 0 0 last legs → runs ≡ joined (singles legs) → Follow 0 runs
runs_follow last legs runs r is = rw is (follow_joined 0 (singles legs) (follow_later 1 0 (singles legs) (omega arith) (singles_follow 0 0 last legs r)))

ends_from : (low : ℕ) (runs : List Run) (k : ℕ) (d : Run) → Follow low runs → k < length runs → low ≤ (get_or runs k d).first_ordinal + (get_or runs k d).count
ends_from low [] k d follow lt = absurd (omega arith)
ends_from low (run ∷ runs) zero d follow lt = omega (arith, follow.0)
ends_from low (run ∷ runs) (suc k) d follow lt = omega (arith, follow.0, ends_from (run.first_ordinal + run.count) runs k d follow.1 (omega arith))

pub ends_rise : (low : ℕ) (runs : List Run) → Follow low runs → IsNonDecreasingBy (λ (run : Run). run.first_ordinal + run.count) runs
ends_rise low [] follow i j d le lt = absurd (omega arith)
ends_rise low (run ∷ runs) follow zero zero d le lt = omega arith
ends_rise low (run ∷ runs) follow zero (suc j) d le lt = ends_from (run.first_ordinal + run.count) runs j d follow.1 (omega arith)
ends_rise low (run ∷ runs) follow (suc i) zero d le lt = absurd (omega arith)
ends_rise low (run ∷ runs) follow (suc i) (suc j) d le lt = ends_rise (run.first_ordinal + run.count) runs follow.1 i j d (omega arith) (omega arith)

-- the run of an ordinal is the first one that doesn't end below it
abbrev pub found_run : ℕ → Option Run → Option LegState
found_run ordinal None = None
found_run ordinal (Some run) = if nat_le run.first_ordinal ordinal then Some run.state else None

in_none : (ordinal low : ℕ) (runs : List Run) → ordinal < low → Follow low runs → state_among ordinal runs ≡ None
in_none ordinal low [] lt follow = refl
in_none ordinal low (run ∷ runs) lt follow =
    let out : has_ordinal ordinal run ≡ false = (let less : ordinal < run.first_ordinal = omega (arith, follow.0) in grind (arith, nat_tests, less)) in
    rw out (in_none ordinal (run.first_ordinal + run.count) runs (omega (arith, follow.0)) follow.1)

run_turn : (ended begun : Bool) (ordinal count : ℕ) (run : Run) (runs : List Run) → nat_le (run.first_ordinal + run.count) ordinal ≡ ended → nat_le run.first_ordinal ordinal ≡ begun
    → Follow (run.first_ordinal + run.count) runs → state_among ordinal runs ≡ found_run ordinal (slice_get runs count)
    → state_among ordinal (run ∷ runs) ≡ found_run ordinal (slice_get (run ∷ runs) (if ended then suc count else 0))
run_turn true begun ordinal count run runs is at follow e =
    let out : has_ordinal ordinal run ≡ false = grind (arith, nat_tests, is) in rw out e
run_turn false true ordinal count run runs is at follow e =
    let here : has_ordinal ordinal run ≡ true = grind (arith, nat_tests, is, at) in rw (here, at) refl
run_turn false false ordinal count run runs is at follow e =
    let out : has_ordinal ordinal run ≡ false = grind (arith, nat_tests, at) in
    rw (out, at) (in_none ordinal (run.first_ordinal + run.count) runs (grind (arith, nat_tests, is)) follow)

run-leading : (ordinal low : ℕ) (runs : List Run) → Follow low runs
    → state_among ordinal runs ≡ found_run ordinal (slice_get runs (leading (λ (run : Run). nat_le (run.first_ordinal + run.count) ordinal) runs))
run-leading ordinal low [] follow = refl
run-leading ordinal low (run ∷ runs) follow =
    run_turn (nat_le (run.first_ordinal + run.count) ordinal) (nat_le run.first_ordinal ordinal) ordinal _ run runs refl refl follow.1
    (run-leading ordinal (run.first_ordinal + run.count) runs follow.1)

pub state_among-found : (ordinal : ℕ) (runs : List Run) (place : ℕ) (found : Option Run) → Follow 0 runs
    → place ≡ leading (λ (run : Run). nat_le (run.first_ordinal + run.count) ordinal) runs → found ≡ slice_get runs place → state_among ordinal runs ≡ found_run ordinal found
state_among-found ordinal runs place found follow e f = rw (f, e) (run-leading ordinal 0 runs follow)

-- a leg in doubt by its ordinal
abbrev pub in_window : ℕ → List Sent → Bool
in_window ordinal [] = false
in_window ordinal (sent ∷ window) = if sent.ordinal == ordinal then true else in_window ordinal window

abbrev pub found_sent : ℕ → Option Sent → Bool
found_sent ordinal None = false
found_sent ordinal (Some sent) = sent.ordinal == ordinal

not_there : (ordinal : ℕ) (window : List Sent) → ((k : ℕ) (d : Sent) → k < length window → ordinal < (get_or window k d).ordinal) → in_window ordinal window ≡ false
not_there ordinal [] above = refl
not_there ordinal (sent ∷ window) above =
    let ne : (sent.ordinal == ordinal) ≡ false = (let lt = above 0 sent (omega arith) in grind (arith, nat_tests, lt)) in
    rw ne (not_there ordinal window (λ k d lt. above (suc k) d (omega arith)))

there_if : (b there : Bool) → there ≡ false → (if b then true else there) ≡ b
there_if true there e = refl
there_if false there e = e

sent_turn : (below : Bool) (ordinal count : ℕ) (sent : Sent) (window : List Sent) → nat_lt sent.ordinal ordinal ≡ below
    → ((k : ℕ) (d : Sent) → k < length window → sent.ordinal < (get_or window k d).ordinal)
    → in_window ordinal window ≡ found_sent ordinal (slice_get window count)
    → in_window ordinal (sent ∷ window) ≡ found_sent ordinal (slice_get (sent ∷ window) (if below then suc count else 0))
sent_turn true ordinal count sent window is above e =
    let ne : (sent.ordinal == ordinal) ≡ false = grind (arith, nat_tests, is) in rw ne e
sent_turn false ordinal count sent window is above e =
    let le : ordinal ≤ sent.ordinal = grind (arith, nat_tests, is) in
    there_if (sent.ordinal == ordinal) (in_window ordinal window) (not_there ordinal window (λ k d lt. omega (arith, le, above k d lt)))

-- ordinals of those in doubt rise from leg to leg
abbrev Climb : ℕ → List Sent → Type 0
Climb low [] = Unit {0}
Climb low (sent ∷ window) = (low < sent.ordinal) × Climb sent.ordinal window

climb_later : (low least : ℕ) (window : List Sent) → least ≤ low → Climb low window → Climb least window
climb_later low least [] le climb = tt
climb_later low least (sent ∷ window) le climb = (omega (arith, climb.0), climb.1)

climb_turn : (b : Bool) (low : ℕ) (sent : Sent) (window : List Sent) → low < sent.ordinal → Climb sent.ordinal window → Climb low (if b then sent ∷ window else window)
climb_turn true low sent window lt climb = (lt, climb)
climb_turn false low sent window lt climb = climb_later sent.ordinal low window (omega arith) climb

doubts_climb : (number ordinal last : ℕ) (legs : List (ℕ × SentLeg)) → IsRising number ordinal last legs → Climb ordinal (doubts legs)
doubts_climb number ordinal last [] r = tt
doubts_climb number ordinal last ((at, leg) ∷ legs) r =
    climb_turn (is_doubt leg.state) ordinal (record { number = at; ordinal = leg.ordinal; id = leg.id }) (doubts legs) r.1 (doubts_climb at leg.ordinal last legs r.3)

climb_above : (low : ℕ) (window : List Sent) (k : ℕ) (d : Sent) → Climb low window → k < length window → low < (get_or window k d).ordinal
climb_above low [] k d climb lt = absurd (omega arith)
climb_above low (sent ∷ window) zero d climb lt = climb.0
climb_above low (sent ∷ window) (suc k) d climb lt = omega (arith, climb.0, climb_above sent.ordinal window k d climb.1 (omega arith))

climb_rises : (low : ℕ) (window : List Sent) → Climb low window → IsNonDecreasingBy (λ (sent : Sent). sent.ordinal) window
climb_rises low [] climb i j d le lt = absurd (omega arith)
climb_rises low (sent ∷ window) climb zero zero d le lt = omega arith
climb_rises low (sent ∷ window) climb zero (suc j) d le lt = omega (arith, climb_above sent.ordinal window j d climb.1 (omega arith))
climb_rises low (sent ∷ window) climb (suc i) zero d le lt = absurd (omega arith)
climb_rises low (sent ∷ window) climb (suc i) (suc j) d le lt = climb_rises sent.ordinal window climb.1 i j d (omega arith) (omega arith)

pub ordinals_rise : (last : ℕ) (legs : List (ℕ × SentLeg)) → IsRising 0 0 last legs → IsNonDecreasingBy (λ (sent : Sent). sent.ordinal) (doubts legs)
ordinals_rise last legs r = climb_rises 0 (doubts legs) (doubts_climb 0 0 last legs r)

sent-leading : (ordinal low : ℕ) (window : List Sent) → Climb low window
    → in_window ordinal window ≡ found_sent ordinal (slice_get window (leading (λ (sent : Sent). nat_lt sent.ordinal ordinal) window))
sent-leading ordinal low [] climb = refl
sent-leading ordinal low (sent ∷ window) climb =
    sent_turn (nat_lt sent.ordinal ordinal) ordinal _ sent window refl (λ k d lt. climb_above sent.ordinal window k d climb.1 lt) (sent-leading ordinal sent.ordinal window climb.1)

-- the state is told by the two
abbrev told : Bool → Option LegState → Option LegState
told doubt settled = if doubt then Some Doubt else settled

told_turn : (doubt same : Bool) (at ordinal last : ℕ) (leg : SentLeg) (legs : List (ℕ × SentLeg)) → is_doubt leg.state ≡ doubt → (leg.ordinal == ordinal) ≡ same → IsRising at leg.ordinal last legs
    → state_in ordinal legs ≡ told (in_window ordinal (doubts legs)) (state_among ordinal (singles legs))
    → (if same then Some leg.state else state_in ordinal legs)
    ≡ told (in_window ordinal (if doubt then record { number = at; ordinal = leg.ordinal; id = leg.id } ∷ doubts legs else doubts legs))
    (state_among ordinal (if doubt then singles legs else single at leg.ordinal leg.state ∷ singles legs))
told_turn true true at ordinal last leg legs is here r e = let state = doubt_is leg.state is in rw (here, ← state) refl
told_turn true false at ordinal last leg legs is here r e = rw here e
told_turn false true at ordinal last leg legs is here r e =
    let le : ordinal ≤ leg.ordinal = grind (arith, nat_tests, here) in
    let ge : leg.ordinal ≤ ordinal = grind (arith, nat_tests, here) in
    let none = not_there ordinal (doubts legs) (λ k d lt. omega (arith, ge, le, climb_above leg.ordinal (doubts legs) k d (doubts_climb at leg.ordinal last legs r) lt)) in
    let one : has_ordinal ordinal (single at leg.ordinal leg.state) ≡ true = grind (arith, nat_tests, le, ge) in
    rw (none, one) refl
told_turn false false at ordinal last leg legs is here r e =
    let out : has_ordinal ordinal (single at leg.ordinal leg.state) ≡ false = grind (arith, nat_tests, here) in
    rw out e

state_told : (ordinal number low last : ℕ) (legs : List (ℕ × SentLeg)) → IsRising number low last legs → state_in ordinal legs ≡ told (in_window ordinal (doubts legs)) (state_among ordinal (singles legs))
state_told ordinal number low last [] r = refl
state_told ordinal number low last ((at, leg) ∷ legs) r =
    told_turn (is_doubt leg.state) (leg.ordinal == ordinal) at ordinal last leg legs refl refl r.3 (state_told ordinal at leg.ordinal last legs r.3)

module _ (ordinal last : ℕ) (legs : List (ℕ × SentLeg)) (window : List Sent) (runs : List Run) (place : ℕ) (found : Option Sent)
    (r : IsRising 0 0 last legs) (window_is : window ≡ doubts legs) (runs_are : runs ≡ joined (singles legs))
    (place_is : place ≡ leading (λ (sent : Sent). nat_lt sent.ordinal ordinal) window) (found_is : found ≡ slice_get window place) where
  found_there : in_window ordinal (doubts legs) ≡ found_sent ordinal found
  found_there = rw (found_is, place_is, window_is) (sent-leading ordinal 0 (doubts legs) (doubts_climb 0 0 last legs r))

  both_tell : state_of ordinal (entries last legs) ≡ told (found_sent ordinal found) (state_among ordinal runs)
  both_tell =
      ap (state_in ordinal) (sent_legs-entries last legs r) ∙ state_told ordinal 0 0 last legs r
      ∙ rw (found_there, runs_are, state_among-joined ordinal (singles legs)) refl

  pub state-doubt : found_sent ordinal found ≡ true → state_of ordinal (entries last legs) ≡ Some Doubt
  state-doubt is = both_tell ∙ ap (λ (b : Bool). told b (state_among ordinal runs)) is

  pub state-settled : found_sent ordinal found ≡ false → state_of ordinal (entries last legs) ≡ state_among ordinal runs
  state-settled is = both_tell ∙ ap (λ (b : Bool). told b (state_among ordinal runs)) is
