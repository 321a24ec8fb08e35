-- Why a call of the session ended the connection, or was refused.
use Rattle.std.proofs.Common.{◌≡◌, ℕ, Some, None, Ok, Err, refl, ap}
use Rattle.std.specs.Prelude.{Option}
use Rattle.std.specs.Global.{Vec}
use Rattle.dialect.specs.Wording.{Encoding}
use Rattle.fix_tags.specs.Stamp.{StampParts}
use Rattle.session_core.specs.declared.session_fault.SessionFault.{SessionFault}
use Rattle.session_core.specs.declared.session_fault.SessionFault.TheVariants as fault
use Rattle.session_core.specs.declared.step.Step.{Step}
use Rattle.session_core.specs.Calling.{SessionAnswer}
use Rattle.session_core.specs.CallResult.{Gives, IsStep}
use Rattle.session_core.specs.Session.{SessionParts}
use Rattle.session_core.specs.Turn.{StepParts}
use Rattle.exchange_core.specs.declared.exchange_fault.ExchangeFault.{ExchangeFault}
use Rattle.exchange_core.specs.declared.exchange_fault.ExchangeFault.TheVariants as exchange
use Rattle.exchange_core.specs.Acts.{ActAnswer}
use Rattle.exchange_core.specs.Exchange.{ExchangeParts}
use Rattle.exchange_core.specs.Frames.{ActGives}
use Rattle.venue_replay.specs.Ending.{ending_of, refusal_of}

pub said_ending : (w : Encoding) (at : StampParts) (s now : SessionParts) (answer : SessionAnswer StepParts) (step : Step)
    → Gives (IsStep w at) s answer (Ok step) now
    → Ok step.ended ≡ ending_of answer
said_ending w at s now (Ok said, after) step gives = ap Ok gives.0.ended
said_ending w at s now (Err refused, after) step gives = absurd (let e = gives.0 in cc)

-- a call that is refused ends nothing
pub no_ending : (w : Encoding) (at : StampParts) (s now : SessionParts) (answer : SessionAnswer StepParts)
    (refused : SessionFault) → (refused ≡ fault.OutOfMemory → ⊥)
    → Gives (IsStep w at) s answer (Err refused) now
    → Err refused ≡ ending_of answer
no_ending w at s now (Ok said, after) refused other gives = absurd (other gives.0)
no_ending w at s now (Err fault, after) refused other gives = let e = gives.0 in cc

-- a call that gives something wasn't refused, and one that answers a refusal was, unless it wants memory
pub not_refused : {X Y : Type 0} (Is : X → Y → Type 0) (s now : SessionParts) (answer : SessionAnswer X) (given : Y)
    → Gives Is s answer (Ok given) now → None ≡ refusal_of answer
not_refused Is s now (Ok said, after) given gives = refl
not_refused Is s now (Err refused, after) given gives = absurd (let e = gives.0 in cc)

pub refused_so : {X Y : Type 0} (Is : X → Y → Type 0) (s now : SessionParts) (answer : SessionAnswer X)
    (refused : SessionFault) → (refused ≡ fault.OutOfMemory → ⊥) → Gives Is s answer (Err refused) now
    → Some refused ≡ refusal_of answer
refused_so Is s now (Ok said, after) refused other gives = absurd (other gives.0)
refused_so Is s now (Err fault, after) refused other gives = let e = gives.0 in cc

-- so of an act of the exchange
pub act_not_refused : (w : Encoding) (at : StampParts) (x now : ExchangeParts) (answer : ActAnswer) (frame : Option (Vec ℕ))
    → ActGives w at x answer (Ok frame) now → None ≡ refusal_of answer
act_not_refused w at x now (Ok said, after) frame gives = refl
act_not_refused w at x now (Err refused, after) frame gives = absurd (let e = gives.0 in cc)

pub act_refused_so : (w : Encoding) (at : StampParts) (x now : ExchangeParts) (answer : ActAnswer)
    (refused : ExchangeFault) → (refused ≡ exchange.OutOfMemory → ⊥) → ActGives w at x answer (Err refused) now
    → Some refused ≡ refusal_of answer
act_refused_so w at x now (Ok said, after) refused other gives = absurd (other gives.0)
act_refused_so w at x now (Err fault, after) refused other gives = let e = gives.0 in cc
