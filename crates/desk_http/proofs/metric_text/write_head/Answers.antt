use Rattle.std.proofs.Common.{append_assoc}
use Rattle.std.proofs.lemmas.Result.{on_ok_weaker}
use Rattle.desk_http.specs.MetricText.{metric_head}
use Rattle.desk_http.proofs.metric_text.write_head.Goals as goal

pub returns : goal.returns
unfolding metric_head
returns c = on_ok_weaker c.write.result (λ said. simp append_assoc said) c.write.ensures.bytes
