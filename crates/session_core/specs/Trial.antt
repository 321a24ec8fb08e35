-- A session over any list of calls, and whatever its exchange sends.
use Rattle.std.specs.Prelude.{◌≡◌, ◌<◌, ℕ, List, [], ◌∷◌, ◌++◌, map, option_to_list, Option, Some, None, Result, Ok, Err}
use Rattle.std.specs.List.{AllByRecursion}
use Rattle.std.specs.Global.{Vec}
use Rattle.fix_tags.specs.Stamp.{StampParts}
use Rattle.dialect.specs.declared.message.Message.{Message}
use Rattle.dialect.specs.Wording.{Decoding, Encoding}
use Rattle.dialect.specs.Message.{decoded}
use Rattle.session_core.specs.declared.phase.Phase.TheVariants.{Closed}
use Rattle.session_core.specs.declared.session_call.SessionCall.{SessionCall}
use Rattle.session_core.specs.declared.session_call.SessionCall.TheVariants as call
use Rattle.session_core.specs.declared.session_fault.SessionFault.{SessionFault}
use Rattle.session_core.specs.declared.session_fault.SessionFault.TheVariants.{OutOfMemory}
use Rattle.session_core.specs.declared.step.Step.{Step}
use Rattle.session_core.specs.Session.{SessionParts}
use Rattle.session_core.specs.Turn.{StepParts, no_step}
use Rattle.session_core.specs.Receiving.{receive, confirm}
use Rattle.session_core.specs.Calling.{SessionAnswer, answers, connect, send_leg, quiet, silent, close, malformed, broken, abandon}
use Rattle.session_core.specs.Onward.{IsOnward}
use Rattle.session_core.specs.Sound.{IsRead}
use Rattle.session_core.specs.CallResult.{IsStep}

-- the step that a call adds, if it adds one, and the state after it: a refused call adds none, and changes nothing
abbrev pub Addition : Type 0
Addition = Option StepParts × SessionParts

abbrev pub added : SessionAnswer StepParts → Addition
added (Ok step, after) = (Some step, after)
added (Err fault, after) = (None, after)

-- a step that writes one message
abbrev pub added_message : SessionAnswer Message → Addition
added_message (Ok message, after) = (Some (record no_step { written = message ∷ [] }), after)
added_message (Err fault, after) = (None, after)

abbrev pub called : Decoding → SessionParts → SessionCall → Addition
called read s call.Connect = added_message (connect s)
called read s (call.SendLeg ordinal leg) = added_message (send_leg s ordinal leg)
called read s (call.Receive envelope) = added (answers (receive s (decoded read envelope)))
called read s call.Confirm = (None, confirm s)
called read s call.Quiet = added (quiet s)
called read s call.Silent = added (silent s)
called read s call.Close = added (close s)
called read s call.Malformed = (None, (malformed s).1)
called read s call.Broken = (None, broken s)
called read s call.Abandon = (None, abandon s)

-- the state after these calls, and the steps that they add
abbrev pub after_calls : Decoding → SessionParts → List SessionCall → SessionParts
after_calls read s [] = s
after_calls read s (call ∷ calls) = after_calls read (called read s call).1 calls

abbrev pub steps_of : Decoding → SessionParts → List SessionCall → List StepParts
steps_of read s [] = []
steps_of read s (call ∷ calls) = option_to_list (called read s call).0 ++ steps_of read (called read s call).1 calls

-- what is received was read
abbrev pub IsReadCall : Decoding → SessionCall → Type 0
IsReadCall read (call.Receive envelope) = IsRead (decoded read envelope)
IsReadCall read _ = Unit {0}

abbrev pub AreRead : Decoding → List SessionCall → Type 0
AreRead read calls = AllByRecursion (IsReadCall read) calls

-- the steps that were said, with the frames of their messages
abbrev pub AreSteps : Encoding → StampParts → List StepParts → List Step → Type 0
AreSteps w stamp [] [] = Unit {0}
AreSteps w stamp [] (step ∷ steps) = ⊥
AreSteps w stamp (said ∷ more) [] = ⊥
AreSteps w stamp (said ∷ more) (step ∷ steps) = IsStep w stamp said step × AreSteps w stamp more steps

-- what a call of the code gives where it isn't refused; out of memory is none of the definition's refusals
abbrev pub unless_refused : {X : Type 0} → Result X SessionFault → Result (Option X) SessionFault
unless_refused (Ok given) = Ok (Some given)
unless_refused (Err OutOfMemory) = Err OutOfMemory
unless_refused (Err _) = Ok None

-- a step that has this frame, and tells nothing else
abbrev pub step_with : List ℕ → Step
step_with bytes = record { out = bytes ∷ []; note = None; withdrawn = []; ended = None }

-- the frame that a call gives, as a step
abbrev pub StepAdded : Result (Option (Vec ℕ)) SessionFault → Result (Option Step) SessionFault → Type 0
StepAdded (Ok (Some frame)) (Ok given) = given ≡ Some (step_with frame.items)
StepAdded (Ok (Some frame)) (Err fault) = fault ≡ OutOfMemory
StepAdded (Ok None) given = given ≡ Ok None
StepAdded (Err fault) given = given ≡ Err fault

-- what a call gives: out of memory is answered only where it was to add a step
abbrev pub Adds : Encoding → StampParts → Addition → Result (Option Step) SessionFault → SessionParts → Type 0
Adds w stamp (None, after) (Ok None) now = now ≡ after
Adds w stamp (None, after) (Ok (Some step)) now = ⊥
Adds w stamp (None, after) (Err fault) now = ⊥
Adds w stamp (Some said, after) (Ok None) now = ⊥
Adds w stamp (Some said, after) (Ok (Some step)) now = IsStep w stamp said step × (now ≡ after)
Adds w stamp (Some said, after) (Err fault) now = fault ≡ OutOfMemory

-- what a trial gives: the steps, and the session after the calls; out of memory only where some call adds a step
abbrev pub Tries : Encoding → StampParts → List StepParts → SessionParts → Result (SessionParts × Vec Step) SessionFault
    → Type 0
Tries w stamp said after (Ok given) = (given.0 ≡ after) × AreSteps w stamp said given.1.items
Tries w stamp [] after (Err fault) = ⊥
Tries w stamp (step ∷ said) after (Err fault) = fault ≡ OutOfMemory

-- the orders that are written, each as its number and its leg's ordinal
abbrev pub order_of : SessionCall → Option StepParts → List (ℕ × ℕ)
order_of (call.SendLeg ordinal leg) (Some step) = map (λ m. (m.number, ordinal)) step.written
order_of _ _ = []

abbrev pub orders_of : Decoding → SessionParts → List SessionCall → List (ℕ × ℕ)
orders_of read s [] = []
orders_of read s (call ∷ calls) = order_of call (called read s call).0 ++ orders_of read (called read s call).1 calls

-- numbers rise, and with them the ordinals
abbrev pub AreRising : List (ℕ × ℕ) → Type 0
AreRising (first ∷ next ∷ orders) = (first.0 < next.0) × (first.1 < next.1) × AreRising (next ∷ orders)
AreRising _ = Unit {0}

-- no message is written
abbrev pub WritesNothing : Option StepParts → Type 0
WritesNothing None = Unit {0}
WritesNothing (Some step) = step.written ≡ []

abbrev pub WriteNothing : List StepParts → Type 0
WriteNothing steps = AllByRecursion (λ step. step.written ≡ []) steps

-- whatever the exchange sends: the session goes onward from each point to each later one, so that a leg leaves doubt at
-- most once and for good; each order has a higher number and a higher ordinal than the one before it; and once the
-- session has ended for good it writes nothing
pub record KeepsRules (read : Decoding) (start : SessionParts) (calls : List SessionCall) : Type 0 where
  pub onward : (first later rest : List SessionCall) → calls ≡ first ++ later ++ rest
      → IsOnward (after_calls read start first) (after_calls read start (first ++ later))
  pub orders : AreRising (orders_of read start calls)
  pub closed : (first rest : List SessionCall) → calls ≡ first ++ rest → (after_calls read start first).phase ≡ Closed
      → WriteNothing (steps_of read (after_calls read start first) rest)
