use Rattle.std.proofs.Common.{append_assoc}
use Rattle.desk_http.specs.MetricText.{seconds_text}
use Rattle.desk_http.proofs.metric_text.SecondsDisplay.fmt.Goals as goal

pub returns-clause-writes : goal.returns-clause-writes
unfolding seconds_text
returns-clause-writes g c = λ plain written. simp append_assoc (c.write.ensures.writes plain written)
