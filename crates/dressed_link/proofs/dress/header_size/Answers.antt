use Rattle.std.proofs.Common.{rules, ◌≡◌, ◌<◌, true, false, length, arith}
use Rattle.fix_text.specs.FrameFields.{fields_in}
use Rattle.fix_tags.specs.App.{is_header_tag}
use Rattle.dressed_link.proofs.Fields.{header_goes_on, header_ends}
use Rattle.dressed_link.proofs.dress.header_size.Goals as goal

pub loop-index-preserved : goal.loop-index-preserved
loop-index-preserved c =
    let fields = fields_in c.args.frame.now in
    let below : c.loop-index.index < length fields = omega arith in
    let header : is_header_tag c.field.result.tag ≡ true = search rules in
    header_goes_on fields c.loop-index.index c.field.result below c.field.ensures header c.loop-index.invariant

pub returns-then-not-is_header_tag-clause-value : goal.returns-then-not-is_header_tag-clause-value
returns-then-not-is_header_tag-clause-value c =
    let fields = fields_in c.args.frame.now in
    let below : c.loop-index.index < length fields = omega arith in
    let header : is_header_tag c.field.result.tag ≡ false = search rules in
    header_ends fields c.loop-index.index c.field.result below c.field.ensures header c.loop-index.invariant
