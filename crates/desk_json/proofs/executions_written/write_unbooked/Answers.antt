use Rattle.std.proofs.Common.{append_assoc}
use Rattle.std.proofs.lemmas.Result.{on_ok_weaker}
use Rattle.desk_json.specs.Executions.{unbooked_json}
use Rattle.desk_json.proofs.executions_written.write_unbooked.Goals as goal

pub returns : goal.returns
unfolding unbooked_json
returns c = on_ok_weaker c.write.result (λ said. simp append_assoc said) c.write.ensures.bytes
