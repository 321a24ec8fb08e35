-- What a sweep is answered.
use Rattle.std.specs.Prelude.{◌≡◌, ◌≢◌, ◌⊎◌, ⊤, ℕ, Bool, true, false, List, [], ◌∷◌, ◌++◌, Option, Some, None, slice_get, option_and_then, option_map, Result, Ok, Err, IsSomeAnd, OnOk}
use Rattle.leg.specs.declared.sweep.Routed.{Routed}
use Rattle.share_ledger.specs.Entries.{sweep_shares}
use Rattle.exec_collector.specs.declared.placed_sweep.PlacedSweep.{PlacedSweep}
use Rattle.exec_collector.specs.Seats.{Seat}
use Rattle.order_limits.specs.declared.over.Excess.{Excess}
use Rattle.order_limits.specs.Limits.{LimitParts}
use Rattle.release_lock.specs.declared.declined.Declined.{Declined}
use Rattle.release_lock.specs.declared.declined.Declined.TheVariants.{Over, Fault}
use Rattle.release_lock.specs.Locked.{IsPlacedWithin, Replays, ReleasesWithin}
use Rattle.release_lock.specs.Seats.{placing}
use Rattle.sweep_refs.specs.Placed.{AreDistinct, Entry, placed_under}
use Rattle.sweep_refs.specs.declared.placement.Placement.{Placement}
use Rattle.sweep_refs.specs.declared.submission.Submission.{Submission}
use Rattle.sweep_release.specs.History.{KeptDesk}
use Rattle.sweep_release.specs.declared.receipt.Receipt.{Receipt}
use Rattle.sweep_release.specs.declared.release_fault.ReleaseFault.{ReleaseFault}
use Rattle.sweep_release.specs.declared.release_fault.ReleaseFault.TheVariants as fault
use Rattle.desk_answers.specs.declared.answer.Answer.{Answer}
use Rattle.desk_answers.specs.declared.answer.Answer.TheVariants.{Placed, Again, Refused, Closing}
use Rattle.desk_answers.specs.declared.answer.Refusal.{Refusal}
use Rattle.desk_answers.specs.declared.answer.Refusal.TheVariants as refusal

-- a refusal that names the venue that is to blame, which the desk has
abbrev pub naming : (List ℕ → Refusal) → Option (List ℕ) → Refusal
naming why (Some name) = why name
naming why None = refusal.UnknownVenue

-- why a sweep isn't placed, with the name of the venue that is to blame
abbrev pub refusal_of : List (List ℕ) → ReleaseFault → Refusal
refusal_of names fault.Empty = refusal.NoLegs
refusal_of names fault.TooManyLegs = refusal.TooManyLegs
refusal_of names (fault.UnknownVenue venue) = refusal.UnknownVenue
refusal_of names (fault.GateShut venue) = naming (λ name. refusal.GateDown name) (slice_get names venue)
refusal_of names (fault.BacklogFull venue) = naming (λ name. refusal.BacklogFull name) (slice_get names venue)
refusal_of names fault.SweepsSpent = refusal.SweepsSpent
refusal_of names fault.OutOfMemory = refusal.OutOfMemory
refusal_of names fault.WrongBook = refusal.WrongBook

-- that a sweep is over a limit, with the name of the venue that is to blame, if one is
abbrev pub excess_refusal : List (List ℕ) → Excess → Refusal
excess_refusal names excess = refusal.OverLimit (option_and_then (slice_get names) excess.venue) excess.over

-- why a sweep is declined
abbrev pub declined_refusal : List (List ℕ) → Declined → Refusal
declined_refusal names (Over excess) = excess_refusal names excess
declined_refusal names (Fault why) = refusal_of names why

-- the answer to a sweep that was released, or declined
abbrev pub answer_of : List (List ℕ) → Result Receipt Declined → Answer
answer_of names (Ok receipt) = Placed receipt.number receipt.shares
answer_of names (Err why) = Refused (declined_refusal names why)

-- a sweep of these legs is answered with what became of it at a desk that replays from its own history: it is judged by
-- the limits, if there are any, before anything is placed, and what is placed is within them
abbrev pub IsReleased : Option LimitParts → List (List ℕ) → List Routed → Answer → Type 0
IsReleased limits names legs answer =
    (before : KeptDesk) × (after : KeptDesk) × (done : Result Receipt Declined)
    × Replays before × Replays after × ReleasesWithin limits legs before done after
    × OnOk done (IsPlacedWithin limits legs before after) × (answer ≡ answer_of names done)

-- what a placed sweep is noted as
abbrev pub placement : ℕ → ℕ → List Routed → Placement
placement sweep shares legs = record { number = sweep; shares = shares; legs = legs }

-- what is answered under a reference that is known: the number and the shares that were placed under it, for the same
-- legs; for others a refusal
abbrev pub IsKnown : Placement → List Routed → Answer → Type 0
IsKnown known legs (Again sweep shares) = known ≡ placement sweep shares legs
IsKnown known legs (Refused refusal.OtherLegs) = known.legs ≢ legs
IsKnown known legs answer = ⊥

-- the answer under a reference that is known; none where it is free
abbrev pub AnswersKnown : Option Placement → List Routed → Option Answer → Type 0
AnswersKnown (Some known) legs answer = IsSomeAnd answer (IsKnown known legs)
AnswersKnown None legs answer = answer ≡ None

-- what is answered under a reference: as it is known, or what becomes of the sweep. Out of memory, nothing does
abbrev pub IsJudged : Option LimitParts → List (List ℕ) → Option Placement → List Routed → Answer → Type 0
IsJudged limits names (Some known) legs answer = IsKnown known legs answer
IsJudged limits names None legs answer =
    IsReleased limits names legs answer ⊎ (answer ≡ Refused refusal.OutOfMemory)

-- what is placed under references, once a sweep is answered: one entry more where it is placed
abbrev pub noted : List Entry → List ℕ → List Routed → Answer → List Entry
noted entries reference legs (Placed sweep shares) = entries ++ (reference, placement sweep shares legs) ∷ []
noted entries reference legs answer = entries

-- a sweep under a reference is answered so where these were placed before, and these are placed from then on
pub record AnswersOnce (limits : Option LimitParts) (names : List (List ℕ)) (before : List Entry) (reference : List ℕ)
    (legs : List Routed) (answer : Answer) (after : List Entry) : Type 0 where
  pub distinct : AreDistinct before
  pub judged : IsJudged limits names (placed_under before reference) legs answer
  pub after_is : after ≡ noted before reference legs answer

-- a sweep is answered so, at a desk that may want a reference of each
abbrev pub IsAnsweredUnder : Option LimitParts → List (List ℕ) → Bool → Option (List ℕ) → List Routed → Answer → Type 0
IsAnsweredUnder limits names true None legs answer = answer ≡ Refused refusal.NoReference
IsAnsweredUnder limits names false None legs answer = IsReleased limits names legs answer
IsAnsweredUnder limits names wants (Some reference) legs answer =
    (before : List Entry) × (after : List Entry) × AnswersOnce limits names before reference legs answer after

abbrev pub IsAnswered : Option LimitParts → List (List ℕ) → Bool → Submission → Answer → Type 0
IsAnswered limits names wants submission answer =
    IsAnsweredUnder limits names wants submission.reference submission.sweep.legs answer

-- nothing is placed under a reference, if there is one
abbrev pub IsFree : Option (List ℕ) → Type 0
IsFree None = ⊤
IsFree (Some reference) =
    (entries : List Entry) × AreDistinct entries × (placed_under entries reference ≡ None)

-- where there is no memory for its line, a sweep is refused that isn't placed under its reference
abbrev pub IsUnwritten : Submission → Answer → Type 0
IsUnwritten submission answer = IsFree submission.reference × (answer ≡ Refused refusal.OutOfMemory)

-- the number under which a sweep was placed under a reference, of entries of which no two have one reference
abbrev pub IsNumber : List ℕ → Option ℕ → Type 0
IsNumber reference number =
    (entries : List Entry) × AreDistinct entries
    × (number ≡ option_map (λ known. known.number) (placed_under entries reference))

-- what is told of a sweep: its answer; or, where it is shown that the day is closing, that
abbrev pub told : {Shown : Type 0} → Result Answer Shown → Answer
told (Ok answer) = answer
told (Err shown) = Closing

-- the shares that are placed with an answer to a sweep of these legs: all of them, or none
abbrev pub placed_shares : Answer → List Routed → ℕ
placed_shares (Placed sweep shares) legs = sweep_shares legs
placed_shares answer legs = 0

-- the sweeps that a caller placed, once a sweep of these legs is answered: it is one more, under the number that is
-- answered, where it is placed, and else they stay as they were
abbrev pub placed_after : List PlacedSweep → Answer → List Routed → List PlacedSweep
placed_after placed (Placed sweep shares) legs = placed ++ placing sweep legs ∷ []
placed_after placed answer legs = placed

-- the seat of the page's clients, with its one part
abbrev pub IsOnePart : Option Seat → Type 0
IsOnePart seat = IsSomeAnd seat (λ s. s.parts ≡ 1)

-- entries with one more, where nothing was placed under its reference
abbrev pub noted_if_free : Option Placement → List Entry → List Entry → List Entry
noted_if_free None more entries = more
noted_if_free (Some known) more entries = entries

-- what is placed under references, once a life before is gone on with: one entry more, where the reference is free
abbrev pub noted_again : List Entry → List ℕ → Placement → List Entry
noted_again entries reference placement =
    noted_if_free (placed_under entries reference) (entries ++ (reference, placement) ∷ []) entries
