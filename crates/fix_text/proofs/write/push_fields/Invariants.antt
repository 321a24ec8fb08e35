use Rattle.std.proofs.Common.{take}
use Rattle.std.specs.List.{flat_map}
use Rattle.fix_text.specs.Text.{field_text}
use Rattle.fix_text.specs.Frame.{Appends}
use Rattle.fix_text.proofs.write.push_fields.Given as goal

abbrev pub invariant-loop-field : goal.invariant-loop-field
invariant-loop-field g l =
    Appends l.fn.out l.out (flat_map (λ field. field_text (g.F.Lend.tagged field)) (take l.field-index l.fields))
