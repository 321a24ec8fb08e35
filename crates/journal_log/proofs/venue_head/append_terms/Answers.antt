use Rattle.std.proofs.Common.{append_assoc}
use Rattle.std.proofs.lemmas.Result.{on_ok_weaker}
use Rattle.journal_log.proofs.venue_head.append_terms.Goals as goal

pub returns : goal.returns
returns c =
    on_ok_weaker c.write.result
    (λ said. rw said (rw (
      c.words_text-dialect.ensures,
      c.heart-heart.ensures.value,
      c.yes_or_no-next.ensures,
      c.has_next.ensures.value,
    ) (simp append_assoc)))
    c.write.ensures.bytes
