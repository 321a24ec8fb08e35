-- Why workers can't be run is no mismatch of the audit.
use Rattle.std.proofs.Common.{◌≡◌, sym, subst}
use Rattle.std.specs.Prelude.{Result, Ok, Err, IfErr, IsErrAnd}
use Rattle.session_worker.specs.declared.run_fault.RunFault.{RunFault}
use Rattle.session_worker.specs.declared.run_fault.RunFault.TheVariants.{OutOfMemory, NoThread}
use Rattle.desk_venues.specs.Faults.{run_fault, IsNoMismatch}
use Rattle.desk_venues.specs.declared.day_fault.DayFault.{DayFault}

no_mismatch : (fault : RunFault) → IsNoMismatch (run_fault fault)
no_mismatch OutOfMemory = tt
no_mismatch NoThread = tt

-- what is refused for such a fault
pub no_mismatches : {A : Type 0} (result : Result A DayFault) (fault : RunFault)
    → IsErrAnd result (λ given. given ≡ run_fault fault) → IfErr result IsNoMismatch
no_mismatches (Ok done) fault e = absurd e
no_mismatches (Err given) fault e = subst IsNoMismatch (sym e) (no_mismatch fault)
