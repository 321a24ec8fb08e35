use Rattle.std.proofs.Common.{append_assoc}
use Rattle.std.proofs.lemmas.Result.{on_ok_weaker}
use Rattle.desk_http.specs.Metrics.{wrong_tokens_text}
use Rattle.desk_http.proofs.metrics.write_wrong_tokens.Goals as goal

pub returns : goal.returns
unfolding wrong_tokens_text
returns c =
    on_ok_weaker c.write_sample.result
    (λ said. rw said (rw c.in_ok-write_head.ensures (simp append_assoc)))
    c.write_sample.ensures
