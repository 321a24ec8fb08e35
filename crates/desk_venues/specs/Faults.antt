-- The refusals of a day.
use Rattle.session_worker.specs.declared.run_fault.RunFault.{RunFault}
use Rattle.session_worker.specs.declared.run_fault.RunFault.TheVariants as run
use Rattle.desk_venues.specs.declared.day_fault.DayFault.{DayFault}
use Rattle.desk_venues.specs.declared.day_fault.DayFault.TheVariants.{NoJournal, NoLines, NoLogs, NoPage, NoSocket, NoThread, OutOfMemory}

-- why the workers can't be run
abbrev pub run_fault : RunFault → DayFault
run_fault run.OutOfMemory = OutOfMemory
run_fault run.NoThread = NoThread

-- a refusal that is no mismatch of the audit
abbrev pub IsNoMismatch : DayFault → Type 0
IsNoMismatch (NoLogs fault) = Unit {0}
IsNoMismatch (NoJournal refused) = Unit {0}
IsNoMismatch NoPage = Unit {0}
IsNoMismatch NoLines = Unit {0}
IsNoMismatch NoSocket = Unit {0}
IsNoMismatch NoThread = Unit {0}
IsNoMismatch OutOfMemory = Unit {0}
IsNoMismatch other = ⊥
