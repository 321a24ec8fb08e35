use Rattle.std.proofs.Common.{refl}
use Rattle.std.proofs.lemmas.Result.{on_ok_weaker}
use Rattle.journal_log.proofs.venue_head.append_most.Goals as goal

pub returns : goal.returns
returns c =
    on_ok_weaker c.write.result
    (λ said. rw said (rw c.max_number-most.ensures.value refl))
    c.write.ensures.bytes
