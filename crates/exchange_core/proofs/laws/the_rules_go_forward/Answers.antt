use Rattle.exchange_core.proofs.Forward.{moves_forward, moves_live}
use Rattle.exchange_core.proofs.laws.the_rules_go_forward.Goals as goal

pub returns-clause-taken : goal.returns-clause-taken
returns-clause-taken c = λ s t coming written step. moves_forward s.intake coming t.intake step.moves

pub returns-clause-own : goal.returns-clause-own
returns-clause-own c = λ s t coming written step. (step.own.0, step.own.2)

pub returns-clause-live : goal.returns-clause-live
returns-clause-live c = λ s t coming written step. moves_live s.intake coming t.intake step.moves
