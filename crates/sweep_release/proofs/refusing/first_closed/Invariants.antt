use Rattle.std.proofs.Common.{◌≡◌, drop}
use Rattle.std.specs.Prelude.{not}
use Rattle.sweep_release.specs.declared.release_fault.ReleaseFault.TheVariants.{GateShut}
use Rattle.sweep_release.specs.Desk.{refused_at, is_up, gate_of}
use Rattle.sweep_release.proofs.refusing.first_closed.Given as goal

abbrev pub invariant-loop-routed : goal.invariant-loop-routed
invariant-loop-routed l =
    refused_at GateShut (λ venue. not (is_up (gate_of l.desk.desk venue))) (drop l.routed-index l.legs)
    ≡ refused_at GateShut (λ venue. not (is_up (gate_of l.desk.desk venue))) l.legs
