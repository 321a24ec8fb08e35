use Rattle.std.proofs.Common.{append_assoc}
use Rattle.std.proofs.lemmas.Result.{on_ok_weaker}
use Rattle.desk_json.proofs.legs_written.write_terms.Goals as goal

pub returns : goal.returns
returns c =
    on_ok_weaker c.write.result
    (λ said. rw said (rw (
      c.symbol-symbol.ensures.value,
      c.side-side.ensures.value,
      c.shares-shares.ensures.value,
      c.price_text-price.ensures,
      c.price-2.ensures.value,
    ) (simp append_assoc)))
    c.write.ensures.bytes
