use Rattle.std.proofs.Common.{◌⊎◌, inl, inr}
use Rattle.desk_day.proofs.closing.audited.Goals as goal

pub returns-in-Ok-clause-audited : goal.returns-in-Ok-clause-audited
returns-in-Ok-clause-audited g c =
    elim c.in-Ok.ensures.audits [
      | inl day ↦ (day.0, (λ k. record { book = day.2 k; unbooked = day.3 k }))
      | inr none ↦ absurd cc
    ]
