-- Where the legs stand is said by their numbered ids, the window and the runs.
use Rattle.std.proofs.Common.{◌≡◌, ◌<◌, ◌≤◌, ◌+◌, ◌-◌, ◌==◌, ℕ, Bool, true, false, List, [], ◌∷◌, ◌++◌, refl, sym, ap, ◌∙◌, if◌then◌else◌, arith}
use Rattle.std.proofs.lemmas.Bool.{eq-eqb}
use Rattle.std.proofs.lemmas.Bool.Decides.{nat_tests}
use Rattle.leg.specs.LegId.{LegIdParts}
use Rattle.leg.specs.declared.leg_state.LegState.{LegState}
use Rattle.leg.specs.declared.leg_state.LegState.TheVariants.{Queued, Doubt, Taken, Withdrawn}
use Rattle.resend.specs.declared.numbered_id.NumberedId.{NumberedId}
use Rattle.resend.specs.declared.run.Run.{Run}
use Rattle.resend.specs.declared.sent.Sent.{Sent}
use Rattle.resend.specs.Log.{SentLeg, is_doubt, settled_as}
use Rattle.resend.specs.Window.{doubts}
use Rattle.resend.specs.Runs.{single, singles, goes_on, joined_to, joined}
use Rattle.resend.specs.Kept.{has_number, ordinal_in, kept_leg, kept_legs, IsRising}
use Rattle.resend.proofs.Filled.{settled_legs}
use Rattle.resend.proofs.Joining.{merged, it_goes_on}
use Rattle.resend.proofs.Kept.{doubts-push}
use Rattle.resend.proofs.Looking.{numbered_ids}
use Rattle.resend.proofs.SettledRuns.{singles_doubt}

-- the ids stay as they are
id_if : (b : Bool) (leg other : SentLeg) (id : LegIdParts) → leg.id ≡ id → other.id ≡ id → (if b then leg else other).id ≡ id
id_if true leg other id is so = is
id_if false leg other id is so = so

kept_leg-id : (number : ℕ) (id : LegIdParts) (window : List Sent) (runs : List Run) → (kept_leg number id window runs).id ≡ id
kept_leg-id number id window [] = refl
kept_leg-id number id window (run ∷ runs) = id_if (has_number number run) _ _ id refl (kept_leg-id number id window runs)

pub ids-kept : (ids : List NumberedId) (window : List Sent) (runs : List Run) → ids ≡ numbered_ids (kept_legs ids window runs)
ids-kept [] window runs = refl
ids-kept (numbered ∷ ids) window runs =
    let rest = ids-kept ids window runs in
    let same = kept_leg-id numbered.number numbered.id window runs in
    rw same (ap (λ (more : List NumberedId). numbered ∷ more) rest)

-- runs that are made one say the same
module _ (number : ℕ) (id : LegIdParts) (window : List Sent) where
  merged_turn : (here first second : Bool) (run next : Run) (rest : SentLeg) → has_number number (merged run next) ≡ here → has_number number run ≡ first → has_number number next ≡ second
      → goes_on run next ≡ true
      → (if here then record { ordinal = run.first_ordinal + (number - run.first_number); id = id; state = run.state } else rest)
      ≡ (if first then record { ordinal = run.first_ordinal + (number - run.first_number); id = id; state = run.state }
      else (if second then record { ordinal = next.first_ordinal + (number - next.first_number); id = id; state = next.state } else rest))
  merged_turn true true second run next rest is one two on = refl
  merged_turn true false true run next rest is one two on =
      let it = it_goes_on run next on in
      let same : run.first_ordinal + (number - run.first_number) ≡ next.first_ordinal + (number - next.first_number) = grind (arith, nat_tests, it.numbers, it.ordinals, is, one, two) in
      rw (same, it.states) refl
  merged_turn true false false run next rest is one two on = absurd (let it = it_goes_on run next on in grind (arith, nat_tests, it.numbers, is, one, two))
  merged_turn false true second run next rest is one two on = absurd (let it = it_goes_on run next on in grind (arith, nat_tests, it.numbers, is, one))
  merged_turn false false true run next rest is one two on = absurd (let it = it_goes_on run next on in grind (arith, nat_tests, it.numbers, is, two))
  merged_turn false false false run next rest is one two on = refl

  joined_turn : (b : Bool) (run next : Run) (runs : List Run) → goes_on run next ≡ b
      → kept_leg number id window (if b then merged run next ∷ runs else run ∷ next ∷ runs) ≡ kept_leg number id window (run ∷ next ∷ runs)
  joined_turn true run next runs on = merged_turn (has_number number (merged run next)) (has_number number run) (has_number number next) run next (kept_leg number id window runs) refl refl refl on
  joined_turn false run next runs on = refl

  kept_leg-joined_to : (run : Run) (runs : List Run) → kept_leg number id window (joined_to run runs) ≡ kept_leg number id window (run ∷ runs)
  kept_leg-joined_to run [] = refl
  kept_leg-joined_to run (next ∷ runs) = joined_turn (goes_on run next) run next runs refl

  kept_leg-joined : (runs : List Run) → kept_leg number id window (joined runs) ≡ kept_leg number id window runs
  kept_leg-joined [] = refl
  kept_leg-joined (run ∷ runs) =
      kept_leg-joined_to run (joined runs)
      ∙ ap (λ (rest : SentLeg). if has_number number run then record { ordinal = run.first_ordinal + (number - run.first_number); id = id; state = run.state } else rest) (kept_leg-joined runs)

kept_legs-joined : (ids : List NumberedId) (window : List Sent) (runs : List Run) → kept_legs ids window (joined runs) ≡ kept_legs ids window runs
kept_legs-joined [] window runs = refl
kept_legs-joined (numbered ∷ ids) window runs =
    let leg = kept_leg-joined numbered.number numbered.id window runs in
    let rest = kept_legs-joined ids window runs in rw (leg, rest) refl

-- a leg says nothing of another number
other_sent : (number : ℕ) (id : LegIdParts) (sent : Sent) (window : List Sent) (runs : List Run) → (sent.number == number) ≡ false
    → kept_leg number id (sent ∷ window) runs ≡ kept_leg number id window runs
other_sent number id sent window [] ne = rw ne refl
other_sent number id sent window (run ∷ runs) ne =
    ap (λ (rest : SentLeg). if has_number number run then record { ordinal = run.first_ordinal + (number - run.first_number); id = id; state = run.state } else rest)
    (other_sent number id sent window runs ne)

other_turn : (b : Bool) (number : ℕ) (id : LegIdParts) (sent : Sent) (run : Run) (window : List Sent) (runs : List Run) → (sent.number == number) ≡ false → has_number number run ≡ false
    → kept_leg number id (if b then sent ∷ window else window) (if b then runs else run ∷ runs) ≡ kept_leg number id window runs
other_turn true number id sent run window runs ne out = other_sent number id sent window runs ne
other_turn false number id sent run window runs ne out = rw out refl

-- the first leg says of its own number what it is
absent_turn : (b : Bool) (number : ℕ) (id : LegIdParts) (window : List Sent) (run : Run) (runs : List Run) (leg : SentLeg) → has_number number run ≡ false
    → kept_leg number id window runs ≡ leg → kept_leg number id window (if b then runs else run ∷ runs) ≡ leg
absent_turn true number id window run runs leg out e = e
absent_turn false number id window run runs leg out e = rw out e

absent : (number low ordinal last : ℕ) (id : LegIdParts) (window : List Sent) (legs : List (ℕ × SentLeg)) → number ≤ low → IsRising low ordinal last legs
    → kept_leg number id window (singles legs) ≡ record { ordinal = ordinal_in number window; id = id; state = Doubt }
absent number low ordinal last id window [] le r = refl
absent number low ordinal last id window ((at, leg) ∷ legs) le r =
    let out : has_number number (single at leg.ordinal leg.state) ≡ false = (let lt : number < at = omega (arith, r.0) in grind (arith, nat_tests)) in
    absent_turn (is_doubt leg.state) number id window (single at leg.ordinal leg.state) (singles legs) _ out
    (absent number at leg.ordinal last id window legs (omega (arith, r.0)) r.3)

pub doubt_is : (state : LegState) → is_doubt state ≡ true → Doubt ≡ state
doubt_is Queued e = absurd cc
doubt_is Doubt e = refl
doubt_is Taken e = absurd cc
doubt_is Withdrawn e = absurd cc

own_turn : (b : Bool) (at last : ℕ) (leg : SentLeg) (legs : List (ℕ × SentLeg)) → is_doubt leg.state ≡ b → IsRising at leg.ordinal last legs
    → kept_leg at leg.id (if b then record { number = at; ordinal = leg.ordinal; id = leg.id } ∷ doubts legs else doubts legs)
    (if b then singles legs else single at leg.ordinal leg.state ∷ singles legs) ≡ leg
own_turn true at last leg legs is r =
    let here : (at == at) ≡ true = eq-eqb at at refl in
    let state = doubt_is leg.state is in
    let window : List Sent = record { number = at; ordinal = leg.ordinal; id = leg.id } ∷ doubts legs in
    absent at at leg.ordinal last leg.id window legs (omega arith) r ∙ rw (here, state) refl
own_turn false at last leg legs is r =
    let here : has_number at (single at leg.ordinal leg.state) ≡ true = grind (arith, nat_tests) in
    let same : leg.ordinal + (at - at) ≡ leg.ordinal = omega arith in
    rw (here, same) refl

-- the legs behind the first are said by what is behind it
behind : (first last ordinal low : ℕ) (leg : SentLeg) (front legs : List (ℕ × SentLeg)) → first ≤ low → IsRising low ordinal last legs
    → kept_legs (numbered_ids legs) (doubts ((first, leg) ∷ front)) (singles ((first, leg) ∷ front)) ≡ kept_legs (numbered_ids legs) (doubts front) (singles front)
behind first last ordinal low leg front [] le r = refl
behind first last ordinal low leg front ((at, next) ∷ legs) le r =
    let lt : first < at = omega (arith, r.0) in
    let ne : (first == at) ≡ false = grind (arith, nat_tests, lt) in
    let out : has_number at (single first leg.ordinal leg.state) ≡ false = grind (arith, nat_tests, lt) in
    let here = other_turn (is_doubt leg.state) at next.id (record { number = first; ordinal = leg.ordinal; id = leg.id }) (single first leg.ordinal leg.state) (doubts front) (singles front) ne out in
    let rest = behind first last next.ordinal at leg front legs (omega arith) r.3 in
    rw (here, rest) refl

singles_say : (number ordinal last : ℕ) (legs : List (ℕ × SentLeg)) → IsRising number ordinal last legs → kept_legs (numbered_ids legs) (doubts legs) (singles legs) ≡ legs
singles_say number ordinal last [] r = refl
singles_say number ordinal last ((at, leg) ∷ legs) r =
    let own = own_turn (is_doubt leg.state) at last leg legs refl r.3 in
    let rest = behind at last leg.ordinal at leg legs legs (omega arith) r.3 ∙ singles_say at leg.ordinal last legs r.3 in
    rw (own, rest) refl

-- so these three are enough
pub legs_said : (last : ℕ) (legs : List (ℕ × SentLeg)) (ids : List NumberedId) (window : List Sent) (runs : List Run) → IsRising 0 0 last legs
    → ids ≡ numbered_ids legs → window ≡ doubts legs → runs ≡ joined (singles legs) → kept_legs ids window runs ≡ legs
legs_said last legs ids window runs r i w j =
    rw (i, w, j) (kept_legs-joined (numbered_ids legs) (doubts legs) (singles legs) ∙ singles_say 0 0 last legs r)

-- they say the same legs of those that are settled: no number and no id changes
settled_id : (passes doubt : Bool) (state : LegState) (leg : SentLeg) → is_doubt leg.state ≡ doubt → (if passes then settled_as state leg else leg).id ≡ leg.id
settled_id true true state leg is = rw is refl
settled_id true false state leg is = rw is refl
settled_id false doubt state leg is = refl

ids_settled : (test : ℕ → Bool) (state : LegState) (legs : List (ℕ × SentLeg)) → numbered_ids legs ≡ numbered_ids (settled_legs test state legs)
ids_settled test state [] = refl
ids_settled test state ((number, leg) ∷ legs) =
    let same = settled_id (test number) (is_doubt leg.state) state leg refl in
    rw same (ap (λ (more : List NumberedId). record { number = number; id = leg.id } ∷ more) (ids_settled test state legs))

pub settled_said : (test : ℕ → Bool) (state : LegState) (last : ℕ) (ids : List NumberedId) (window left : List Sent) (runs new : List Run)
    → IsRising 0 0 last (settled_legs test state (kept_legs ids window runs)) → left ≡ doubts (settled_legs test state (kept_legs ids window runs))
    → new ≡ joined (singles (settled_legs test state (kept_legs ids window runs))) → kept_legs ids left new ≡ settled_legs test state (kept_legs ids window runs)
settled_said test state last ids window left runs new r w j =
    legs_said last (settled_legs test state (kept_legs ids window runs)) ids left new r (ids-kept ids window runs ∙ ids_settled test state (kept_legs ids window runs)) w j

-- and a leg more
ids_push : (legs : List (ℕ × SentLeg)) (number : ℕ) (leg : SentLeg) → numbered_ids legs ++ record { number = number; id = leg.id } ∷ [] ≡ numbered_ids (legs ++ (number, leg) ∷ [])
ids_push [] number leg = refl
ids_push ((at, first) ∷ legs) number leg = ap (λ (more : List NumberedId). record { number = at; id = first.id } ∷ more) (ids_push legs number leg)

pub pushed_said : (later number ordinal : ℕ) (id : LegIdParts) (ids : List NumberedId) (window : List Sent) (runs : List Run)
    → IsRising 0 0 later (kept_legs ids window runs ++ (number, record { ordinal = ordinal; id = id; state = Doubt }) ∷ [])
    → window ≡ doubts (kept_legs ids window runs) → runs ≡ joined (singles (kept_legs ids window runs))
    → kept_legs (ids ++ record { number = number; id = id } ∷ []) (window ++ record { number = number; ordinal = ordinal; id = id } ∷ []) runs
    ≡ kept_legs ids window runs ++ (number, record { ordinal = ordinal; id = id; state = Doubt }) ∷ []
pushed_said later number ordinal id ids window runs r w j =
    let leg : SentLeg = record { ordinal = ordinal; id = id; state = Doubt } in
    let legs = kept_legs ids window runs in
    legs_said later (legs ++ (number, leg) ∷ []) (ids ++ record { number = number; id = id } ∷ []) (window ++ record { number = number; ordinal = ordinal; id = id } ∷ []) runs r
    (ap (λ (all : List NumberedId). all ++ record { number = number; id = id } ∷ []) (ids-kept ids window runs) ∙ ids_push legs number leg)
    (doubts-push window legs number ordinal id w)
    (j ∙ ap joined (sym (singles_doubt legs number leg refl)))
