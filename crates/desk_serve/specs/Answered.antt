-- What a sweep is answered that comes over HTTP.
use Rattle.std.specs.Prelude.{◌≡◌, ◌≢◌, ◌⊎◌, ℕ, Bool, List, Option, None}
use Rattle.order_limits.specs.Limits.{LimitParts}
use Rattle.sweep_refs.specs.declared.submission.Submission.{Submission}
use Rattle.desk_answers.specs.declared.answer.Answer.{Answer}
use Rattle.desk_answers.specs.declared.answer.Answer.TheVariants as answer
use Rattle.desk_answers.specs.declared.answer.Refusal.TheVariants.{OutOfMemory}
use Rattle.desk_floor.specs.Release as floor
use Rattle.desk_json.specs.declared.outcome.Outcome.{Outcome}
use Rattle.desk_json.specs.declared.outcome.Outcome.TheVariants as outcome

-- an answer, as it is told over HTTP. A sweep that was read is never answered as a bad line
abbrev pub outcome_of : Answer → Outcome
outcome_of (answer.Placed sweep shares) = outcome.Placed sweep shares
outcome_of (answer.Again sweep shares) = outcome.Again sweep shares
outcome_of (answer.Refused why) = outcome.Refused why
outcome_of answer.Closing = outcome.Closing
outcome_of (answer.BadLine number fault) = outcome.Refused OutOfMemory

-- a sweep is answered as the day's floor answers it: with what became of it at a desk that replays from its own
-- history, or as it was placed before under its reference, or with the limit that it is over
abbrev pub IsFloors : Option LimitParts → List (List ℕ) → Bool → Submission → Outcome → Type 0
IsFloors limits names wants submission told =
    (answer : Answer) × floor.IsAnswered limits names wants submission answer × (told ≡ outcome_of answer)

-- where there is no memory for the line of a sweep that has no reference, it is refused
abbrev pub IsUnwritten : Submission → Outcome → Type 0
IsUnwritten submission told = (submission.reference ≡ None) × (told ≡ outcome.Refused OutOfMemory)

-- unless the day is closing, a sweep is answered so
abbrev pub IsAnswered : Option LimitParts → List (List ℕ) → Bool → Submission → Outcome → Type 0
IsAnswered limits names wants submission told =
    told ≢ outcome.Closing → IsFloors limits names wants submission told ⊎ IsUnwritten submission told
