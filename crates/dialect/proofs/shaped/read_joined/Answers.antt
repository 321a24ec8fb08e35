use Rattle.std.proofs.Common.{sym, ◌∙◌}
use Rattle.dialect.proofs.ShortIds.{fixed_id_of-short}
use Rattle.dialect.proofs.shaped.read_joined.Goals as goal

pub returns-in_err-sweep : goal.returns-in_err-sweep
returns-in_err-sweep c =
    c.from_residual.ensures ∙ sym (fixed_id_of-short c.args.base c.args.width c.args.text.now c.in_err-sweep.ensures.cases)
