-- What is answered where there is no memory for a sweep's line.
use Rattle.std.proofs.Common.{◌≡◌, ◌⊎◌, inl, inr, ℕ, Bool, true, false, List, Option, Some, None, refl, ap, ◌∙◌}
use Rattle.leg.specs.declared.sweep.Routed.{Routed}
use Rattle.order_limits.specs.Limits.{LimitParts}
use Rattle.sweep_refs.specs.declared.submission.Submission.{Submission}
use Rattle.desk_answers.specs.declared.answer.Answer.{Answer}
use Rattle.desk_answers.specs.declared.answer.Answer.TheVariants.{Refused}
use Rattle.desk_answers.specs.declared.answer.Refusal.TheVariants.{OutOfMemory}
use Rattle.desk_floor.specs.Release as floor
use Rattle.desk_json.specs.declared.outcome.Outcome.{Outcome}
use Rattle.desk_serve.specs.Answered.{IsFloors, IsUnwritten, outcome_of}

-- under a reference that is free, out of memory is what the floor may answer
free_refused : (limits : Option LimitParts) (names : List (List ℕ)) (wants : Bool) (reference : Option (List ℕ))
    (legs : List Routed) → floor.IsFree reference
    → floor.IsAnsweredUnder limits names wants reference legs (Refused OutOfMemory) ⊎ (reference ≡ None)
free_refused limits names wants None legs free = inr refl
free_refused limits names true (Some reference) legs free =
    inl (free.0, free.0, record { distinct = free.1; judged = rw free.2 (inr refl); after_is = refl })
free_refused limits names false (Some reference) legs free =
    inl (free.0, free.0, record { distinct = free.1; judged = rw free.2 (inr refl); after_is = refl })

-- what the floor answers then is told as it answers it, or it is the refusal of a sweep without a reference
pub unwritten_told : (limits : Option LimitParts) (names : List (List ℕ)) (wants : Bool) (submission : Submission)
    (answer : Answer) (told : Outcome) → told ≡ outcome_of answer
    → floor.IsAnswered limits names wants submission answer ⊎ floor.IsUnwritten submission answer
    → IsFloors limits names wants submission told ⊎ IsUnwritten submission told
unwritten_told limits names wants submission answer told is (inl known) = inl (answer, known, is)
unwritten_told limits names wants submission answer told is (inr unwritten) =
    elim (free_refused limits names wants submission.reference submission.sweep.legs unwritten.0) [
      | inl judged ↦ inl (Refused OutOfMemory, judged, is ∙ ap outcome_of unwritten.1)
      | inr bare ↦ inr (bare, is ∙ ap outcome_of unwritten.1)
    ]
