use Rattle.session_worker.proofs.Places.{kept_places}
use Rattle.desk_venues.proofs.NoMismatch.{no_mismatches}
use Rattle.desk_venues.proofs.workers.run_workers.Goals as goal

pub returns-clause-kept : goal.returns-clause-kept
returns-clause-kept g c =
    kept_places _ c.args.workers.items c.in_ok-ends.field-0.items c.in_ok-ends.ensures

pub returns-clause-ran : goal.returns-clause-ran
returns-clause-ran g c = c.in_ok-ends.ensures

pub returns-in_err-ends-clause-only : goal.returns-in_err-ends-clause-only
returns-in_err-ends-clause-only g c = no_mismatches c.from_residual.result _ c.from_residual.ensures.1
