use Rattle.std.proofs.Common.{◌<◌, ◌++◌, length, sym, ap, ◌∙◌, arith}
use Rattle.fix_text.specs.FrameFields.{fields_in}
use Rattle.fix_text.specs.Text.{field_text}
use Rattle.kept_link.proofs.Fields.{fields_more, fields_all}
use Rattle.kept_link.proofs.teller.fields_text.Goals as goal

pub loop-index-preserved : goal.loop-index-preserved
loop-index-preserved c =
    let fields = fields_in c.args.frame.now in
    let below : c.loop-index.index < length fields = omega arith in
    c.in_ok-append_field.ensures
    ∙ (ap (λ l. l ++ field_text c.field.result) c.loop-index.invariant
    ∙ sym (fields_more fields c.loop-index.index c.field.result below c.field.ensures))

pub returns : goal.returns
returns c = c.loop-index.invariant ∙ fields_all (fields_in c.args.frame.now) c.loop-index.index (omega arith)
