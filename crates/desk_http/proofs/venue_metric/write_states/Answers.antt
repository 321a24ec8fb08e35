use Rattle.std.proofs.Common.{append_assoc}
use Rattle.std.proofs.lemmas.Result.{on_ok_weaker}
use Rattle.desk_http.proofs.venue_metric.write_states.Goals as goal

pub returns : goal.returns
returns c =
    on_ok_weaker c.write_state-5.result
    (λ said. rw said (rw (
      c.in_ok-write_state-4.ensures,
      c.in_ok-write_state-3.ensures,
      c.in_ok-write_state-2.ensures,
      c.in_ok-write_state.ensures,
    ) (simp append_assoc)))
    c.write_state-5.ensures
