use Rattle.std.proofs.Common.{◌≡◌, ◌+◌, min, take, length}
use Rattle.std.specs.List.{flat_map}
use Rattle.fix_text.specs.Text.{field_text}
use Rattle.fix_text.proofs.refusal.length_with.Given as goal

abbrev pub invariant-loop-item : goal.invariant-loop-item
invariant-loop-item g l =
    l.total ≡ min 4097 (l.fn.before + length (flat_map (λ field. field_text (g.F.Lend.tagged field)) (take l.item-index l.fields)))
