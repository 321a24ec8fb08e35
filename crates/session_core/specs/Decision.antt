-- What a call is to do, as it was decided: the messages to write, and the state after them.
use Rattle.std.specs.Prelude.{◌≡◌, ℕ, Bool, true, false, List, [], ◌∷◌, ◌++◌, map, Option, Result, Ok, Err, if◌then◌else◌}
use Rattle.fix_tags.specs.Config.{ConfigParts}
use Rattle.leg.specs.LegId.{LegIdParts}
use Rattle.dialect.specs.Addressed.{message_of}
use Rattle.dialect.specs.declared.message.Message.{Message}
use Rattle.dialect.specs.declared.content.Content.{Content}
use Rattle.dialect.specs.declared.content.Content.TheVariants.{Session}
use Rattle.fix_tags.specs.declared.session_body.SessionBody.TheVariants.{TestRequest}
use Rattle.resend.specs.Log.{Entry, take_below, give_up_from, doubt_from}
use Rattle.resend.specs.Log.Entry.{Admin}
use Rattle.session_core.specs.declared.line.Line.{Line}
use Rattle.session_core.specs.declared.line.Says.{Says}
use Rattle.session_core.specs.declared.line.Says.TheVariants.{Fence, Body}
use Rattle.session_core.specs.declared.session_fault.SessionFault.{SessionFault}
use Rattle.session_core.specs.declared.decision.Decision.{Decision}
use Rattle.session_core.specs.declared.decision.Settling.{Settling}
use Rattle.session_core.specs.declared.decision.Settling.TheVariants.{Nothing, Passed, At}
use Rattle.session_core.specs.Session.{SessionParts}
use Rattle.session_core.specs.Turn.{StepParts, Turn, fence_id}
use Rattle.session_core.specs.Calling.{SessionAnswer}
use Rattle.session_core.specs.Receiving.{above}
use Rattle.session_core.specs.Kept.{viewed}

-- what a message says that is to be written under a number
abbrev pub content_in : ℕ → Says → Content
content_in number Fence = Session (TestRequest (fence_id number))
content_in number (Body body) = Session body

abbrev pub message_in : ConfigParts → Line → Message
message_in config line = message_of config line.number line.poss_dup (content_in line.number line.says)

-- the log with a number spent on each message that is written for the first time
abbrev pub logged : List Entry → List Line → List Entry
logged log [] = log
logged log (line ∷ lines) = logged (if line.poss_dup then log else log ++ Admin ∷ []) lines

-- the fences with those that are written
abbrev pub is_fence : Says → Bool
is_fence Fence = true
is_fence (Body body) = false

abbrev pub with_fences : List ℕ → List Line → List ℕ
with_fences fences [] = fences
with_fences fences (line ∷ lines) =
    with_fences (if is_fence line.says then fences ++ line.number ∷ [] else fences) lines

-- the legs in doubt once they are settled, the fences that are kept then, and the legs that are withdrawn
abbrev pub settled_log : Settling → List Entry → List Entry
settled_log Nothing log = log
settled_log (Passed fence) log = take_below fence log
settled_log (At number) log = give_up_from number (take_below number log)

abbrev pub fences_left : Settling → List ℕ → List ℕ
fences_left Nothing fences = fences
fences_left (Passed fence) fences = above fence fences
fences_left (At number) fences = fences

abbrev pub withdrawn_by : Settling → List Entry → List LegIdParts
withdrawn_by Nothing log = []
withdrawn_by (Passed fence) log = []
withdrawn_by (At number) log = doubt_from number log

-- the turn that was decided on in a session
abbrev pub decided : SessionParts → Decision → Turn
decided s decision = record {
  step = record {
    written = map (message_in s.config) decision.lines.items;
    note = decision.note;
    withdrawn = withdrawn_by decision.settling s.log;
    ended = decision.ended;
  };
  session =
      viewed s.config (logged (settled_log decision.settling s.log) decision.lines.items)
      (with_fences (fences_left decision.settling s.current.fences) decision.lines.items) s.connection
      decision.standing;
}

-- what was decided on is the answer of the definition, or its refusal
abbrev pub Decides : SessionParts → SessionAnswer StepParts → Result Decision SessionFault → Type 0
Decides s (Err fault, after) made = (made ≡ Err fault) × (after ≡ s)
Decides s (Ok step, after) (Ok decision) = decided s decision ≡ record { step = step; session = after }
Decides s (Ok step, after) (Err fault) = ⊥
