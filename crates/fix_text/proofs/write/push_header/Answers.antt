use Rattle.std.proofs.Common.{append_assoc, length-append, ap, ◌∙◌, arith, decimal, length, ◌∷◌, []}
use Rattle.fix_text.proofs.write.push_header.Goals as goal

pub returns : goal.returns
returns c =
    let digits = c.as_bytes.ensures.value ∙ c.format.ensures.text in (
      rw (c.push_reserved.ensures.items, c.push_text-2.ensures.0, c.push_text.ensures.0, digits) (simp append_assoc),
      omega (arith, c.push_reserved.ensures.len, c.push_text-2.ensures.1, c.push_text.ensures.1, ap length digits, length-append (decimal c.args.body) (1 ∷ [])),
      omega (arith, c.push_reserved.ensures.capacity, c.push_text-2.ensures.2, c.push_text.ensures.2),
    )
