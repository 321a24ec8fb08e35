-- A gate that was to go up, at a desk out of its lock: the sweeps are the same.
use Rattle.std.proofs.Common.{◌≡◌, ◌&&◌, ℕ, Bool, true, false, length, Result, Err, if◌then◌else◌}
use Rattle.std.specs.Prelude.{nat_lt}
use Rattle.leg.specs.Answering.{Answers}
use Rattle.sweep_release.specs.declared.gate_fault.GateFault.{GateFault}
use Rattle.sweep_release.specs.declared.gate_fault.GateFault.TheVariants.{NotDrained, OutOfMemory}
use Rattle.sweep_release.specs.Released.{released}
use Rattle.sweep_release.specs.Desk.{gate_of, gate_up}
use Rattle.sweep_release.specs.History.{KeptDesk, gate_up_entries, with_entries, without_room}
use Rattle.release_lock.specs.Locked.{OnlyTurns}
use Rattle.release_lock.specs.Queues.{Took, is_down}
use Rattle.release_lock.proofs.Turning.{turned_sweeps, turns_none, turns_up}
use Rattle.session_worker.specs.Taking.{Raises}

raised_by : (before after : KeptDesk) (venue : ℕ) (in_ring : Bool) (answer : Result (Unit {0}) GateFault)
    → Answers OutOfMemory (without_room before)
    (if in_ring then (Err NotDrained, without_room before)
    else with_entries (without_room before) (gate_up_entries before.desk venue) (gate_up before.desk venue))
    answer (without_room after) → OnlyTurns before after
raised_by before after venue true answer answers = turns_none before after answers.1
raised_by before after venue false answer answers = turns_up before after venue answer answers

pub raised_sweeps : (took : Took) (before : KeptDesk) (raised : Bool) (after : KeptDesk) → Raises took before raised after
    → after.desk.sweeps ≡ before.desk.sweeps
raised_sweeps took before raised after it =
    turned_sweeps before after (raised_by before after took.venue
    (is_down (gate_of before.desk took.venue) && nat_lt (length took.taken) (length (released took.venue before.desk.sweeps)))
    it.answer it.answers)
