use Rattle.dressed_link.proofs.Keeping.{bare_fields, bare_frame}
use Rattle.dressed_link.proofs.laws.bare_dresses_change_nothing.Goals as goal

pub returns-clause-fields : goal.returns-clause-fields
returns-clause-fields c = bare_fields

pub returns-clause-frame : goal.returns-clause-frame
returns-clause-frame c = bare_frame
