use Rattle.std.proofs.Common.{append_assoc}
use Rattle.std.proofs.lemmas.Result.{IfOk-weaker}
use Rattle.json_lines.specs.Lines.{counts_json}
use Rattle.json_lines.proofs.status_line.counts_json.Goals as goal

pub returns : goal.returns
unfolding counts_json
returns c = IfOk-weaker c.format.result _ _ (λ text said. rw said (simp append_assoc)) c.format.ensures.ok
