use Rattle.std.proofs.Common.{◌≡◌, ◌≤◌, ◌+◌, ◌-◌, length, take, vec_len}
use Rattle.std.specs.Prelude.{vec_capacity}
use Rattle.session_core.specs.Decision.{with_fences}
use Rattle.session_core.proofs.commit.keep.Given as goal

abbrev pub invariant-loop-line : goal.invariant-loop-line
invariant-loop-line l =
    (l.fences.items ≡ with_fences l.initial.fences.items (take l.line-index l.lines))
    × (vec_len l.fences + (length l.lines - l.line-index) ≤ vec_capacity l.fences)
