-- What desk, sessions and book hand one another.
use Rattle.std.specs.Prelude.{◌≡◌, ℕ, zero, suc, List, [], ◌∷◌, ◌++◌, map, Option, Some, None, option_map, Result, Ok, Err}
use Rattle.std.specs.Global.{Vec}
use Rattle.leg.specs.LegId.{LegIdParts}
use Rattle.leg.specs.declared.placed_leg.PlacedLeg.{PlacedLeg}
use Rattle.fix_tags.specs.Stamp.{StampParts}
use Rattle.dialect.specs.declared.note.Note.{Note}
use Rattle.dialect.specs.Wording.{Wording}
use Rattle.session_core.specs.declared.phase.Phase.{Phase}
use Rattle.session_core.specs.declared.phase.Phase.TheVariants.{Up}
use Rattle.session_core.specs.declared.session_fault.SessionFault.{SessionFault}
use Rattle.session_core.specs.CallResult.{Gives}
use Rattle.session_core.specs.Calling.{send_leg}
use Rattle.session_core.specs.Receiving.{confirm}
use Rattle.session_core.specs.Session.{SessionParts}
use Rattle.share_ledger.specs.declared.applied.Applied.{Applied}
use Rattle.share_ledger.specs.Book.{BookParts, withdraw, answer_to, apply}
use Rattle.sweep_release.specs.Desk.{DeskParts, placed_legs, placed, drop_next, gate_up, gate_down}
use Rattle.embed.specs.Line.{IsFrameOf}

-- the book after it was to withdraw each of these legs
abbrev pub withdraw_each : List LegIdParts → BookParts → BookParts
withdraw_each [] book = book
withdraw_each (id ∷ ids) book = withdraw_each ids (withdraw book id).1

-- a note of a venue, if a step has one, with the book's answer to it; and the book and the session after that
abbrev pub answered : BookParts → ℕ → Option Note → Option (Note × Applied)
answered book venue note = option_map (λ n. (n, answer_to book venue n)) note

abbrev pub booked : ℕ → Option Note → BookParts → BookParts
booked venue None book = book
booked venue (Some note) book = (apply book venue note).1

abbrev pub confirmed : Option Note → SessionParts → SessionParts
confirmed None session = session
confirmed (Some note) session = confirm session

-- the legs that are placed at a venue, by their numbers, the next one first
abbrev pub placed_ids : DeskParts → ℕ → List LegIdParts
placed_ids desk venue = map (λ leg. leg.id) (placed_legs desk venue)

-- the next leg that the desk lets go, if there is one, is sent, and leaves the desk. Where the session refuses it, the
-- desk is as it was
abbrev pub Sends : Wording → StampParts → SessionParts → DeskParts → Option PlacedLeg × DeskParts
    → Result (Option (Vec ℕ)) SessionFault → SessionParts → DeskParts → Type 0
Sends w stamp session desk (None, left) (Ok None) now after = (now ≡ session) × (after ≡ desk)
Sends w stamp session desk (None, left) (Ok (Some frame)) now after = ⊥
Sends w stamp session desk (None, left) (Err fault) now after = ⊥
Sends w stamp session desk (Some placed, left) (Ok None) now after = ⊥
Sends w stamp session desk (Some placed, left) (Ok (Some frame)) now after =
    Gives (IsFrameOf w stamp) session (send_leg session placed.ordinal placed.leg) (Ok frame) now × (after ≡ left)
Sends w stamp session desk (Some placed, left) (Err fault) now after =
    Gives (IsFrameOf w stamp) session (send_leg session placed.ordinal placed.leg) (Err fault) now × (after ≡ desk)

-- desk and book, and the legs that were dropped so far
pub record Dropping : Type 0 where
  pub desk : DeskParts
  pub book : BookParts
  pub ids : List LegIdParts

-- one that the desk dropped is withdrawn in the book
abbrev pub after_drop : Dropping → Option PlacedLeg × DeskParts → Dropping
after_drop at (None, desk) = record at { desk = desk }
after_drop at (Some placed, desk) = record {
  desk = desk;
  book = (withdraw at.book placed.leg.id).1;
  ids = at.ids ++ placed.leg.id ∷ [];
}

abbrev pub drop_leg : ℕ → Dropping → Dropping
drop_leg venue at = after_drop at (drop_next at.desk venue)

-- so many legs of a venue, one after the other
abbrev pub drop_legs : ℕ → ℕ → Dropping → Dropping
drop_legs venue zero at = at
drop_legs venue (suc n) at = drop_leg venue (drop_legs venue n at)

-- a venue's gate is up while its session is. Else it is down, and each leg that is placed there is dropped
abbrev pub follow_in : Phase → ℕ → DeskParts → BookParts → Dropping
follow_in Up venue desk book = record { desk = (gate_up desk venue).1; book = book; ids = [] }
follow_in _ venue desk book =
    let down = gate_down desk venue in
    drop_legs venue (placed down venue) (record { desk = down; book = book; ids = [] })
