use Rattle.fix_text.proofs.Separators.{holds_soh-found}
use Rattle.std.proofs.Common.{◌∙◌}
use Rattle.fix_text.proofs.refusal.has_soh.Goals as goal

pub returns : goal.returns
returns c = c.is_some.ensures ∙ holds_soh-found c.args.value.now c.memchr.result c.memchr.ensures
