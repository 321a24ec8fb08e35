use Rattle.std.proofs.Common.{◌≡◌}
use Rattle.std.proofs.lemmas.Result.{err_from_is_err_and}
use Rattle.session_core.specs.Calling.{close}
use Rattle.session_core.proofs.Decided.{decided_refusal, decided_sound, decided_writable, decided_memory, carried}
use Rattle.session_core.proofs.Promised.{close_sound, close_writable}
use Rattle.session_core.proofs.session.Session.close.Goals as goal

pub returns-in_err-decision-clause-gives : goal.returns-in_err-decision-clause-gives
returns-in_err-decision-clause-gives g c =
    let p = err_from_is_err_and c.from_residual.result c.from_residual.ensures.1 in
    let same : p.0 ≡ c.in_err-decision.field-0.0 = cc p.2 in
    rw (p.1, same) (decided_refusal _ c.args.self.now (close c.args.self.now) _ c.in_err-decision.ensures)

pub carry_out-requires-clause-sound : goal.carry_out-requires-clause-sound
carry_out-requires-clause-sound g c =
    λ sound. decided_sound c.args.self.now (close c.args.self.now) _ c.in_ok-decision.ensures (close_sound
    c.args.self.now sound)

pub carry_out-requires-clause-writable : goal.carry_out-requires-clause-writable
carry_out-requires-clause-writable g c =
    λ sound.
    decided_writable c.args.self.now (close c.args.self.now) _ c.in_ok-decision.ensures (close_writable c.args.self.now
    sound)

pub returns-clause-gives : goal.returns-clause-gives
returns-clause-gives g c = carried _ c.args.self.now _ (close c.args.self.now) _ _ c.in_ok-decision.ensures c.carry_out.ensures.gives

pub returns-clause-memory : goal.returns-clause-memory
returns-clause-memory g c =
    decided_memory c.args.self.now (close c.args.self.now) _ c.carry_out.result c.in_ok-decision.ensures c.carry_out.ensures.memory
