use Rattle.std.proofs.Common.{inl, inr}
use Rattle.session_worker.proofs.auditing.audit.Goals as goal

pub returns-clause-audits : goal.returns-clause-audits
returns-clause-audits g c =
    elim c.audit_opened.ensures.audits [
      | inl audited ↦ inl audited.0
      | inr none ↦ inr none
    ]
