-- What the changes of a gate write.
use Rattle.std.specs.Prelude.{ℕ}
use Rattle.sweep_release.specs.declared.gate.Gate.{Gate}
use Rattle.sweep_release.specs.declared.gate.Gate.TheVariants.{Up, Down, Shut}

-- how many entries the next changes of a gate may write: one that is up is put down and then shut
abbrev pub gate_due : Gate → ℕ
gate_due Up = 2
gate_due Down = 1
gate_due Shut = 0
