use Rattle.std.proofs.Common.{sym, ◌∙◌}
use Rattle.dialect.proofs.ShortIds.{coded_id_of-short}
use Rattle.dialect.proofs.coded.read_id.Goals as goal

pub returns-in_err-sweep : goal.returns-in_err-sweep
returns-in_err-sweep c =
    c.from_residual.ensures ∙ sym (coded_id_of-short c.args.text.now c.in_err-sweep.ensures.cases)
