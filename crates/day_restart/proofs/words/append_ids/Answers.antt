use Rattle.std.proofs.Common.{append_assoc}
use Rattle.std.proofs.lemmas.Result.{on_ok_weaker}
use Rattle.day_restart.proofs.words.append_ids.Goals as goal

pub returns : goal.returns
returns c =
    on_ok_weaker c.write.result
    (λ said. rw said (rw (
      c.shown-sender.ensures,
      c.as_bytes.ensures.value,
      c.shown-target.ensures,
      c.as_bytes-2.ensures.value,
    ) (simp append_assoc)))
    c.write.ensures.bytes
