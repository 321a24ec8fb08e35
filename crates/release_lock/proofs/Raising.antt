-- A gate is put up once every leg released to its venue was popped.
use Rattle.std.proofs.Common.{◌≡◌, ℕ, Bool, true, false, ◌&&◌, length, Err, Result, refl}
use Rattle.std.specs.Prelude.{nat_lt}
use Rattle.leg.specs.Answering.{Answers}
use Rattle.sweep_release.specs.declared.gate_fault.GateFault.{GateFault}
use Rattle.sweep_release.specs.declared.gate_fault.GateFault.TheVariants.{NotDrained, OutOfMemory}
use Rattle.sweep_release.specs.Released.{released}
use Rattle.sweep_release.specs.Desk.{gate_of, gate_up}
use Rattle.sweep_release.specs.History.{DeskWithHistory, with_entries, gate_up_entries}
use Rattle.release_lock.specs.Queues.{is_down, raise}

abbrev pub in_ring : DeskWithHistory → ℕ → ℕ → Bool
in_ring before venue popped =
    is_down (gate_of before.desk venue) && nat_lt popped (length (released venue before.desk.sweeps))

-- legs are placed or in the ring
pub not_drained : (before : DeskWithHistory) (venue popped : ℕ) → in_ring before venue popped ≡ true
    → Answers OutOfMemory before (raise before venue popped) (Err NotDrained) before
not_drained before venue popped e = rw e (refl, refl)

-- none is
pub as_gate_up : (before after : DeskWithHistory) (venue popped : ℕ) (answer : Result (Unit {0}) GateFault)
    → in_ring before venue popped ≡ false
    → Answers OutOfMemory before (with_entries before (gate_up_entries before.desk venue) (gate_up before.desk venue)) answer after
    → Answers OutOfMemory before (raise before venue popped) answer after
as_gate_up before after venue popped answer e answers = rw e answers
