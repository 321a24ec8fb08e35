-- What a simulated exchange does with the orders that it accepts.
use Rattle.std.specs.Prelude.{ℕ, ◌+◌, min, List, length, Option, Some, None, Result, Ok, Err, slice_get}
use Rattle.fix_tags.specs.Price.{price_short}
use Rattle.fix_tags.specs.declared.envelope.Envelope.{Envelope}
use Rattle.fix_tags.specs.declared.tag_fault.TagFault.{TagFault}
use Rattle.leg.specs.declared.leg.Leg.{Leg}
use Rattle.dialect.specs.declared.message.Message.{Message}
use Rattle.dialect.specs.Message.{decoded}
use Rattle.dialect.specs.Wording.{Decoding}
use Rattle.exchange_core.specs.Acts as acts
use Rattle.exchange_core.specs.Exchange.{ExchangeParts, accepted_by, take}
use Rattle.exchange_core.specs.Frames.{ActResult}
use Rattle.exchange_core.specs.declared.exchange_fault.ExchangeFault.TheVariants.{OutOfMemory}

-- an act was done or refused, and no memory was wanted
abbrev pub IsKnown : ActResult → Type 0
IsKnown (Ok frame) = Unit {0}
IsKnown (Err OutOfMemory) = ⊥
IsKnown (Err refusal) = Unit {0}

-- so many shares of the order at a place are traded at this price, and the rest of it is cancelled
unfoldable pub dealt : ℕ → ℕ → List ℕ → ExchangeParts → ExchangeParts
dealt place shares px x = (acts.cancel_rest (acts.trade x place shares px).1 place).1

-- an order of this leg, if there is one, trades some of its shares, at most all, at its limit price
abbrev pub dealt_with : ℕ → ℕ → Option Leg → ExchangeParts → ExchangeParts
dealt_with fill place None x = x
dealt_with fill place (Some leg) x = dealt place (min fill leg.terms.shares) (price_short leg.terms.price) x

-- the order behind so many is dealt with, if it was accepted
abbrev pub dealt_behind : ℕ → ℕ → ExchangeParts → ExchangeParts
dealt_behind fill count x = dealt_with fill (count + 1) (slice_get (accepted_by x) count) x

-- a message is taken, and its order is dealt with
unfoldable pub takes : ℕ → ℕ → ExchangeParts → Message → ExchangeParts
takes fill connection x m = dealt_behind fill (length (accepted_by x)) (take x connection m).1

-- what a frame says is taken; one that says no message changes nothing
abbrev pub takes_frame : Decoding → ℕ → ℕ → ExchangeParts → Result Envelope TagFault → ExchangeParts
takes_frame readers fill connection x (Ok envelope) = takes fill connection x (decoded readers envelope)
takes_frame readers fill connection x (Err fault) = x
