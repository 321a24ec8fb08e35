-- What a simulated exchange puts behind the bytes that wait to be sent.
use Rattle.std.specs.Prelude.{◌≡◌, ℕ, ◌+◌, min, List, [], ◌∷◌, ◌++◌, length, Option, Some, None, option_to_list, Result, Ok, Err, slice_get}
use Rattle.std.specs.List.{concat}
use Rattle.fix_tags.specs.Price.{price_short}
use Rattle.fix_tags.specs.Stamp.{StampParts}
use Rattle.leg.specs.declared.leg.Leg.{Leg}
use Rattle.dialect.specs.Framed.{AreFramed}
use Rattle.dialect.specs.Wording.{Encoding}
use Rattle.dialect.specs.declared.message.Message.{Message}
use Rattle.dialect.specs.declared.outgoing.Outgoing.{Outgoing}
use Rattle.exchange_core.specs.declared.exchange_fault.ExchangeFault.{ExchangeFault}
use Rattle.exchange_core.specs.Acts as acts
use Rattle.exchange_core.specs.Exchange.{ExchangeParts, accepted_by, take}
use Rattle.exchange_core.specs.Frames.{ActResult, bytes_of}

-- the frame of an act, if there is one
abbrev pub frames_of : ActResult → List (List ℕ)
frames_of (Ok frame) = bytes_of (option_to_list frame)
frames_of (Err fault) = []

-- the messages of an act; one that is refused has none
abbrev pub messages_of : Result (List Outgoing) ExchangeFault → List Outgoing
messages_of (Ok written) = written
messages_of (Err fault) = []

-- frames of these messages, each written at this moment, stand behind the bytes that waited
pub record Sends (w : Encoding) (at : StampParts) (written : List Outgoing) (old new : List ℕ) : Type 0 where
  pub frames : List (List ℕ)
  pub framed : AreFramed w at written frames
  pub behind : new ≡ old ++ concat frames

-- the reports on an order that is dealt with: on the trade, and on the cancel of its rest
pub record Reports (w : Encoding) (place shares : ℕ) (px : List ℕ) (x : ExchangeParts) (old new : List ℕ) : Type 0 where
  pub between : List ℕ
  pub traded_at : StampParts
  pub traded : Sends w traded_at (messages_of (acts.trade x place shares px).0) old between
  pub cancelled_at : StampParts
  pub cancelled :
      Sends w cancelled_at (messages_of (acts.cancel_rest (acts.trade x place shares px).1 place).0) between new

-- those on an order of this leg, if there is one
abbrev pub ReportsOn : Encoding → ℕ → ℕ → Option Leg → ExchangeParts → List ℕ → List ℕ → Type 0
ReportsOn w fill place None x old new = new ≡ old
ReportsOn w fill place (Some leg) x old new =
    Reports w place (min fill leg.terms.shares) (price_short leg.terms.price) x old new

-- what is answered to a message, and then the reports on its order
pub record Answers (w : Encoding) (fill connection : ℕ) (x : ExchangeParts) (m : Message) (old new : List ℕ)
    : Type 0 where
  pub between : List ℕ
  pub answered_at : StampParts
  pub answered : Sends w answered_at (take x connection m).0 old between
  pub reported : ReportsOn w fill (length (accepted_by x) + 1)
      (slice_get (accepted_by (take x connection m).1) (length (accepted_by x)))
      (take x connection m).1 between new
