-- What was decided on is what the definition answers: so it keeps the session's promises, and can be written.
use Rattle.std.proofs.Common.{◌≡◌, Ok, Err, sym, ap, subst}
use Rattle.std.specs.Prelude.{IfOk, OnErr, Result}
use Rattle.dialect.specs.declared.message.Message.{Message}
use Rattle.session_core.specs.declared.session_fault.SessionFault.{SessionFault}
use Rattle.session_core.specs.declared.decision.Decision.{Decision}
use Rattle.session_core.specs.Session.{SessionParts}
use Rattle.session_core.specs.Turn.{StepParts, Turn}
use Rattle.session_core.specs.Receiving.{receive}
use Rattle.session_core.specs.Calling.{SessionAnswer, answers}
use Rattle.session_core.specs.Sound.{IsSound, IsRead, AreWritable}
use Rattle.session_core.specs.Decision.{decided, Decides}
use Rattle.session_core.specs.CallResult.{Gives, TakesMemory}
use Rattle.session_core.proofs.Kept.{kept-receive}

pub decides_answer : (s : SessionParts) (answer : SessionAnswer StepParts) (decision : Decision) → Decides s answer (Ok decision)
    → answers (decided s decision) ≡ answer
decides_answer s (Ok step, after) decision is = ap answers is
decides_answer s (Err fault, after) decision is = absurd (let e = is.0 in cc)

pub decided_refusal : {Y : Type 0} (Is : StepParts → Y → Type 0) (s : SessionParts) (answer : SessionAnswer StepParts)
    (fault : SessionFault) → Decides s answer (Err fault) → Gives Is s answer (Err fault) s
decided_refusal Is s (Ok step, after) fault is = absurd is
decided_refusal Is s (Err first, after) fault is =
    (let e = is.0 in let same : fault ≡ first = cc in ap (λ f. Err f) same, sym is.1)

pub decided_sound : (s : SessionParts) (answer : SessionAnswer StepParts) (decision : Decision) → Decides s answer (Ok decision)
    → IsSound answer.1 → IsSound (decided s decision).session
decided_sound s answer decision is sound =
    subst (λ (a : SessionAnswer StepParts). IsSound a.1) (sym (decides_answer s answer decision is)) sound

pub decided_writable : (s : SessionParts) (answer : SessionAnswer StepParts) (decision : Decision)
    → Decides s answer (Ok decision)
    → IfOk answer.0 (λ step. AreWritable step.written) → AreWritable (decided s decision).step.written
decided_writable s (Ok step, after) decision is written =
    subst (λ (turn : Turn). AreWritable turn.step.written) (sym is) written
decided_writable s (Err fault, after) decision is written = absurd (let e = is.0 in cc)

pub carried : {Y : Type 0} (Is : StepParts → Y → Type 0) (s now : SessionParts) (answer : SessionAnswer StepParts)
    (decision : Decision) (result : Result Y SessionFault) → Decides s answer (Ok decision)
    → Gives Is s (answers (decided s decision)) result now → Gives Is s answer result now
carried Is s now answer decision result is given =
    subst (λ (a : SessionAnswer StepParts). Gives Is s a result now) (decides_answer s answer decision is) given

-- memory is wanted only where something is written or withdrawn
pub decided_memory : {Y : Type 0} (s : SessionParts) (answer : SessionAnswer StepParts) (decision : Decision)
    (result : Result Y SessionFault) → Decides s answer (Ok decision)
    → OnErr result (TakesMemory (decided s decision).step) → OnErr result (IfOk answer.0 TakesMemory)
decided_memory s answer decision (Ok step) is takes = tt
decided_memory s (Ok step, after) decision (Err fault) is takes =
    subst (λ (turn : Turn). TakesMemory turn.step) is takes
decided_memory s (Err first, after) decision (Err fault) is takes = tt

-- a message received
pub received_sound : (s : SessionParts) (m : Message) (decision : Decision) → decided s decision ≡ receive s m → IsRead m
    → IsSound s
    → IsSound (decided s decision).session
received_sound s m decision is read sound =
    subst (λ (turn : Turn). IsSound turn.session) (sym is) (kept-receive s m sound read).sound

pub received_writable : (s : SessionParts) (m : Message) (decision : Decision) → decided s decision ≡ receive s m → IsRead m
    → IsSound s
    → AreWritable (decided s decision).step.written
received_writable s m decision is read sound =
    subst (λ (turn : Turn). AreWritable turn.step.written) (sym is) (kept-receive s m sound read).written
