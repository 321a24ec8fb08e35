use Rattle.std.proofs.Common.{◌≡◌, drop}
use Rattle.session_core.specs.Receiving.{fence_in}
use Rattle.session_core.proofs.fence.first_named.Given as goal

abbrev pub invariant-loop-fence : goal.invariant-loop-fence
invariant-loop-fence l = fence_in l.id (drop l.fence-index l.fences) ≡ fence_in l.id l.fences
