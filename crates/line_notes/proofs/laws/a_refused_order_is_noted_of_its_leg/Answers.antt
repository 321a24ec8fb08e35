use Rattle.line_notes.proofs.Example.{refusal_noted}
use Rattle.line_notes.proofs.laws.a_refused_order_is_noted_of_its_leg.Goals as goal

pub returns : goal.returns
returns c = refusal_noted
