use Rattle.std.proofs.Common.{◌∙◌, length, decimal, ap, arith}
use Rattle.dialect.proofs.PlainIdLength.{sweep_is_short, place_is_short}
use Rattle.dialect.proofs.plain_id.plain_id_text.Goals as goal

pub unwrap-requires : goal.unwrap-requires
unwrap-requires c =
    let digits = ap length (c.as_bytes.ensures.value ∙ c.format.ensures.text ∙ ap decimal c.sweep.ensures.value) in
    c.try_extend_from_slice.ensures.variant.1 (omega (arith, digits, ap length c.new-text.ensures, c.push.ensures.len, sweep_is_short c.args.id.now c.sweep.ensures.in_range))

pub push-requires-2 : goal.push-requires-2
push-requires-2 c =
    let digits = ap length (c.as_bytes.ensures.value ∙ c.format.ensures.text ∙ ap decimal c.sweep.ensures.value) in
    let sized = rw c.unwrap.ensures at c.try_extend_from_slice.ensures.len in
    (omega arith, omega (arith, digits, sized, ap length c.new-text.ensures, c.push.ensures.len, sweep_is_short c.args.id.now c.sweep.ensures.in_range))

pub unwrap-requires-2 : goal.unwrap-requires-2
unwrap-requires-2 c =
    let first = ap length (c.as_bytes.ensures.value ∙ c.format.ensures.text ∙ ap decimal c.sweep.ensures.value) in
    let second = ap length (c.as_bytes-2.ensures.value ∙ c.format-2.ensures.text ∙ ap decimal c.place.ensures.value) in
    let sized = rw c.unwrap.ensures at c.try_extend_from_slice.ensures.len in
    c.try_extend_from_slice-2.ensures.variant.1 (omega (arith, first, second, sized, ap length c.new-text.ensures, c.push.ensures.len, c.push-2.ensures.len, sweep_is_short c.args.id.now c.sweep.ensures.in_range, place_is_short c.args.id.now c.sweep.ensures.in_range))
