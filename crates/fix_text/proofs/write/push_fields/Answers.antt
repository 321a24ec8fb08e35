use Rattle.std.proofs.Common.{length, ap, arith}
use Rattle.std.proofs.lemmas.List.Folds.{length-flat_map-take}
use Rattle.fix_text.specs.Tagged.{Tagged}
use Rattle.fix_text.specs.Text.{field_text}
use Rattle.fix_text.proofs.write.push_fields.Goals as goal

pub push_field-requires : goal.push_field-requires
push_field-requires g c =
    let before = length-flat_map-take (λ field. field_text (g.F.Lend.tagged field)) c.args.fields.now c.loop-field.field-index c.field-item.result (omega arith) in
    let this = ap (λ field. length (field_text (g.F.Lend.tagged field))) c.field-item.is in
    let lent = ap (λ (field : Tagged). length (field_text field)) c.lend.ensures in
    omega (arith, c.requires, c.loop-field.invariant, before, this, lent)
