use Rattle.std.proofs.Common.{append_assoc}
use Rattle.std.proofs.lemmas.Result.{on_ok_weaker}
use Rattle.desk_http.specs.Metrics.{refusals_text}
use Rattle.desk_http.proofs.metrics.write_refusals.Goals as goal

pub returns : goal.returns
unfolding refusals_text
returns c =
    on_ok_weaker c.write_refused.result
    (λ said. rw said (rw (
      c.in_ok-write_refused_limits.ensures,
      c.in_ok-write_refused_desk.ensures,
      c.in_ok-write_refused_legs.ensures,
      c.in_ok-write_head.ensures,
    ) (simp append_assoc)))
    c.write_refused.ensures
