use Rattle.std.proofs.Common.{◌≡◌, ◌<◌, ◌≤◌, ◌∷◌, [], ◌++◌, length, ap, ◌∙◌, arith}
use Rattle.fix_text.specs.FrameFields.{fields_in}
use Rattle.dressed_link.proofs.Fields.{field_is, own_pushed}
use Rattle.dressed_link.proofs.dress.push_own.Goals as goal

pub loop-index-preserved : goal.loop-index-preserved
loop-index-preserved c =
    let fields = fields_in c.args.frame.now in
    let within = c.requires.within in
    let below : c.loop-index.index < length fields = omega (arith, within) in
    let past : c.args.from ≤ c.loop-index.index = omega arith in
    let field = field_is c.field-field.result _ _ c.tag.ensures c.value.ensures in
    own_pushed fields c.args.fields.now.items c.loop-index.fields.items _ c.args.from c.loop-index.index
    c.field-field.result past below c.field-field.ensures c.loop-index.invariant
    (c.in_ok-push_field.ensures.pushed ∙ ap (λ f. c.loop-index.fields.items ++ f ∷ []) field)
