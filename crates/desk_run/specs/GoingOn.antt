-- What a day goes on with, as it is handed on.
use Rattle.std.specs.Prelude.{List, [], ◌∷◌}
use Rattle.day_restart.specs.declared.desk_past.Placed.{Placed}
use Rattle.desk_config.specs.declared.journal.Durable.{Durable}
use Rattle.desk_config.specs.declared.journal.Durable.TheVariants.{Process, Power}
use Rattle.desk_floor.specs.Release.{noted_again}
use Rattle.journal_folder.specs.declared.durable.Durable as files
use Rattle.journal_folder.specs.declared.durable.Durable.TheVariants as outlives
use Rattle.sweep_refs.specs.Placed.{Entry}

-- what the journals outlive, as their files know it
abbrev pub durable_of : Durable → files.Durable
durable_of Process = outlives.Process
durable_of Power = outlives.Power

-- the references, once these sweeps of lives before are noted behind others, one after the other
abbrev pub all_noted : List Entry → List Placed → List Entry
all_noted entries [] = entries
all_noted entries (p ∷ placed) = all_noted (noted_again entries p.reference p.placement) placed
