use Rattle.std.proofs.Common.{sym, ap, subst, ◌∙◌}
use Rattle.release_lock.specs.Locked.{Replays}
use Rattle.release_lock.proofs.Siding.{same_sweeps}
use Rattle.release_lock.proofs.comparing.compare_sweeps.Goals as goal

pub returns-clause-same_sweeps : goal.returns-clause-same_sweeps
returns-clause-same_sweeps g c =
    same_sweeps _ _ (sym c.compare_sweeps.ensures.agreed.opens ∙ c.locked.invariant.1.releases)
    ∙ ap (λ d. d.desk.sweeps) c.locked.view_is

pub returns-clause-replays : goal.returns-clause-replays
returns-clause-replays g c = subst Replays c.locked.view_is c.locked.invariant.0.replays
