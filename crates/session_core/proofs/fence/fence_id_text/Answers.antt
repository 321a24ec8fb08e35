use Rattle.std.proofs.Common.{◌≤◌, ◌∙◌, length, decimal, ap, arith}
use Rattle.std.proofs.lemmas.Fmt.{length-decimal-le}
use Rattle.session_core.proofs.fence.fence_id_text.Goals as goal

pub unwrap-requires : goal.unwrap-requires
unwrap-requires c =
    let digits = ap length (c.as_bytes.ensures.value ∙ c.format.ensures.text) in
    let short : length (decimal c.args.number) ≤ 20 = length-decimal-le 20 c.args.number (omega arith) (omega arith)
    (omega arith) in
    c.try_extend_from_slice.ensures.variant.1 (omega (
      arith,
      digits,
      short,
      ap length c.new-text.ensures,
      c.push.ensures.len,
    ))
