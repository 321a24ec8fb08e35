-- The world: a desk, a book, and for each venue a session, an exchange and the network between them.
use Rattle.std.specs.Prelude.{ℕ, zero, suc, Bool, true, false, List, [], ◌∷◌, length, map, Option, Some, None, slice_get, nat_le, if◌then◌else◌, codes}
use Rattle.std.specs.Option.{option_map_or}
use Rattle.fix_tags.specs.Config.{ConfigParts}
use Rattle.leg.specs.LegId.{LegIdParts}
use Rattle.leg.specs.declared.leg.Leg.{Leg}
use Rattle.leg.specs.declared.leg_state.LegState.{LegState}
use Rattle.leg.specs.declared.leg_state.LegState.TheVariants.{Queued, Doubt, Withdrawn}
use Rattle.leg.specs.declared.totals.Totals.{Totals}
use Rattle.dialect.specs.declared.note.Note.{Note}
use Rattle.dialect.specs.declared.report.Report.{Report}
use Rattle.dialect.specs.declared.message.Message.{Message}
use Rattle.session_core.specs.Session.{SessionParts, new_session, leg_state}
use Rattle.exchange_core.specs.declared.sent_record.SentRecord.{SentRecord}
use Rattle.exchange_core.specs.declared.sent_record.SentRecord.TheVariants.{Admin, Reported, Refused}
use Rattle.exchange_core.specs.Exchange.{ExchangeParts, new_exchange, accepted_by}
use Rattle.share_ledger.specs.Book.{BookParts, new_book}
use Rattle.share_ledger.specs.Book as book
use Rattle.sweep_release.specs.Released.{released}
use Rattle.sweep_release.specs.Desk.{DeskParts, new_desk, venue_at}

-- a message that was written, with the connection that it was written in
pub record Frame : Type 0 where
  pub connection : ℕ
  pub message : Message

-- a venue: the two ends, every message ever written to the exchange and from it, and the notes handed to the book
pub record VenueParts : Type 0 where
  pub session : SessionParts
  pub exchange : ExchangeParts
  pub to_exchange : List Frame
  pub from_exchange : List Frame
  pub given : List Note

pub record World : Type 0 where
  pub desk : DeskParts
  pub book : BookParts
  pub venues : List VenueParts

-- the session's end, and the exchange's, whose numbers go as far as may be
abbrev pub session_config : ℕ → Bool → ConfigParts
session_config max_number has_next =
    record { me = codes "A"; peer = codes "B"; heart = 30; max_number = max_number; has_next = has_next }

abbrev pub exchange_config : ConfigParts
exchange_config = record { me = codes "B"; peer = codes "A"; heart = 30; max_number = 999999999; has_next = false }

abbrev pub new_venue : ℕ → Bool → VenueParts
new_venue max_number has_next = record {
  session = new_session (session_config max_number has_next);
  exchange = new_exchange exchange_config;
  to_exchange = [];
  from_exchange = [];
  given = [];
}

-- the opening world: for each venue, whether it chose to be told the next expected number (789); and the number that no
-- message of a session has
abbrev pub opening : List Bool → ℕ → World
opening next max_number = record {
  desk = new_desk (length next);
  book = new_book (length next);
  venues = map (new_venue max_number) next;
}

-- What is asked of a world. Of a venue that isn't there the answer is the empty list or none.

abbrev pub venue_in : World → ℕ → Option VenueParts
venue_in w v = slice_get w.venues v

abbrev pub of_venue : {A : Type 0} → World → ℕ → A → (VenueParts → A) → A
of_venue w v default ask = option_map_or ask (venue_in w v) default

-- the orders that the exchange accepted, in order
abbrev pub accepted : World → ℕ → List Leg
accepted w v = of_venue w v [] (λ venue. accepted_by venue.exchange)

-- how many orders were accepted when the exchange took the session's Logout, if it did
abbrev pub closed_at : World → ℕ → Option ℕ
closed_at w v = of_venue w v None (λ venue. venue.exchange.closed_at)

-- the notes handed to the book, whatever it answered
abbrev pub given : World → ℕ → List Note
given w v = of_venue w v [] (λ venue. venue.given)

-- the reports that the exchange made, in order
abbrev pub reports_in : List SentRecord → List Report
reports_in [] = []
reports_in (Admin ∷ own) = reports_in own
reports_in (Refused number ∷ own) = reports_in own
reports_in (Reported report view ∷ own) = report ∷ reports_in own

abbrev pub made : World → ℕ → List Report
made w v = of_venue w v [] (λ venue. reports_in venue.exchange.own)

-- the legs released to a venue
abbrev pub released_to : World → ℕ → List Leg
released_to w v = released v w.desk.sweeps

-- the state of a leg that left the desk: withdrawn, unless it was sent
abbrev pub state_left : Option LegState → LegState
state_left (Some state) = state
state_left None = Withdrawn

-- how far the leg of an ordinal is: queued while it is placed. None where no such leg was released
abbrev pub state_of : World → ℕ → ℕ → Option LegState
state_of w v zero = None
state_of w v (suc n) =
    if nat_le (length (released_to w v)) n then None
    else (if nat_le (suc n) (venue_at w.desk v).left
    then Some (state_left (of_venue w v None (λ venue. leg_state venue.session (suc n))))
    else Some Queued)

-- the numbers of the legs, of which the first has this ordinal, whose state passes a test
abbrev pub ids_where : (Option LegState → Bool) → (ℕ → Option LegState) → ℕ → List Leg → List LegIdParts
ids_where test state ordinal [] = []
ids_where test state ordinal (leg ∷ legs) =
    let rest = ids_where test state (suc ordinal) legs in if test (state ordinal) then leg.id ∷ rest else rest

abbrev pub is_withdrawn_leg : Option LegState → Bool
is_withdrawn_leg (Some Withdrawn) = true
is_withdrawn_leg _ = false

abbrev pub is_leg_in_doubt : Option LegState → Bool
is_leg_in_doubt (Some Doubt) = true
is_leg_in_doubt _ = false

-- the legs of a venue that were withdrawn, and those in doubt, by ordinal
abbrev pub withdrawn_ids : World → ℕ → List LegIdParts
withdrawn_ids w v = ids_where is_withdrawn_leg (state_of w v) 1 (released_to w v)

abbrev pub doubtful_ids : World → ℕ → List LegIdParts
doubtful_ids w v = ids_where is_leg_in_doubt (state_of w v) 1 (released_to w v)

-- the parts of a sweep's shares
abbrev pub totals : World → ℕ → Option Totals
totals w number = book.totals w.book number
