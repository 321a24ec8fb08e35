-- What a call gives, as frames that it writes.
use Rattle.std.proofs.Common.{◌≡◌, ℕ, List, [], ◌∷◌, ◌++◌, map, sym, ap, subst, ◌∙◌}
use Rattle.std.proofs.lemmas.List.{append-nil}
use Rattle.std.specs.Prelude.{Result, Ok, Err, IfOk, OnOk, option_to_list}
use Rattle.journal_words.specs.declared.fault.WordsFault.{WordsFault}
use Rattle.fix_tags.specs.Stamp.{StampParts}
use Rattle.dialect.specs.declared.message.Message.{Message}
use Rattle.dialect.specs.Framed.{AreFramed}
use Rattle.dialect.specs.Outgoing.{alone}
use Rattle.dialect.specs.Wording.{Wording}
use Rattle.session_core.specs.declared.session_call.SessionCall.{SessionCall}
use Rattle.session_core.specs.declared.session_fault.SessionFault.{SessionFault}
use Rattle.session_core.specs.declared.session_fault.SessionFault.TheVariants as fault
use Rattle.session_core.specs.declared.step.Step.{Step}
use Rattle.session_core.specs.Session.{SessionParts}
use Rattle.session_core.specs.Turn.{StepParts}
use Rattle.session_core.specs.Calling.{SessionAnswer}
use Rattle.session_core.specs.CallResult.{Gives, IsStep}
use Rattle.session_core.specs.Trial.{Addition, added, called}
use Rattle.journal_log.specs.Given.{frames_given}
use Rattle.journal_log.specs.Logged.{Writes, written_in}

-- what a call that gives a step writes
step_written : (w : Wording) (stamp : StampParts) (before now : SessionParts) (answer : SessionAnswer StepParts)
    (given : Result Step SessionFault) → Gives (IsStep w.encoding stamp) before answer given now
    → (given ≡ Err fault.OutOfMemory → ⊥)
    → AreFramed w.encoding stamp (map alone (written_in (option_to_list (added answer).0 ++ []))) (frames_given given)
step_written w stamp before now (Ok said, after) (Ok step) gives other =
    subst (λ (ms : List Message). AreFramed w.encoding stamp (map alone ms) step.out)
    (sym (append-nil said.written)) gives.0.out
step_written w stamp before now (Ok said, after) (Err why) gives other = absurd (other (ap Err gives.0))
step_written w stamp before now (Err why, after) given gives other =
    subst (λ (g : Result Step SessionFault). AreFramed w.encoding stamp [] (frames_given g))
    (sym gives.0) tt

step_after : (w : Wording) (stamp : StampParts) (before now : SessionParts) (answer : SessionAnswer StepParts)
    (given : Result Step SessionFault) → Gives (IsStep w.encoding stamp) before answer given now
    → (given ≡ Err fault.OutOfMemory → ⊥) → now ≡ (added answer).1
step_after w stamp before now (Ok said, after) (Ok step) gives other = gives.1
step_after w stamp before now (Ok said, after) (Err why) gives other = absurd (other (ap Err gives.0))
step_after w stamp before now (Err why, after) given gives other = gives.1

pub step_writes : (w : Wording) (stamp : StampParts) (before now : SessionParts) (made : SessionCall)
    (answer : SessionAnswer StepParts) (given : Result Step SessionFault) (frames : List (List ℕ))
    → called w.decoding before made ≡ added answer
    → Gives (IsStep w.encoding stamp) before answer given now → (given ≡ Err fault.OutOfMemory → ⊥)
    → frames ≡ frames_given given → Writes w stamp before (made ∷ []) frames now
step_writes w stamp before now made answer given frames is gives other same =
    subst (λ (fs : List (List ℕ)). Writes w stamp before (made ∷ []) fs now) (sym same)
    (record {
      written =
          subst (λ (a : Addition). AreFramed w.encoding stamp (map alone (written_in (option_to_list a.0 ++ []))) (frames_given given))
          (sym is) (step_written w stamp before now answer given gives other);
      session = step_after w stamp before now answer given gives other ∙ sym (ap (λ (a : Addition). a.1) is);
    })

-- what was made of it
pub call_writes : (w : Wording) (stamp : StampParts) (before now : SessionParts) (made : SessionCall)
    (answer : SessionAnswer StepParts) (given : Result Step SessionFault) (result : Result (List (List ℕ)) WordsFault)
    → called w.decoding before made ≡ added answer → Gives (IsStep w.encoding stamp) before answer given now
    → OnOk result (given ≡ Err fault.OutOfMemory → ⊥) → IfOk result (λ frames. frames ≡ frames_given given)
    → IfOk result (λ frames. Writes w stamp before (made ∷ []) frames now)
call_writes w stamp before now made answer given (Ok frames) is gives other same =
    step_writes w stamp before now made answer given frames is gives other same
call_writes w stamp before now made answer given (Err why) is gives other same = tt
