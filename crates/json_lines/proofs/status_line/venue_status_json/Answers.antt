use Rattle.std.proofs.Common.{append_assoc}
use Rattle.std.proofs.lemmas.Result.{IfOk-weaker}
use Rattle.json_lines.proofs.status_line.venue_status_json.Goals as goal

pub returns : goal.returns
returns c =
    IfOk-weaker c.format.result _ _ (λ text said. rw said (rw (c.in_ok-counts.ensures, c.in_ok-state.ensures) (simp append_assoc))) c.format.ensures.ok
