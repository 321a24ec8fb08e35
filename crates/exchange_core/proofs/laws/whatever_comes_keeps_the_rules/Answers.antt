use Rattle.exchange_core.proofs.Answers.{take_answers}
use Rattle.exchange_core.proofs.laws.whatever_comes_keeps_the_rules.Goals as goal

pub returns : goal.returns
returns c = take_answers
