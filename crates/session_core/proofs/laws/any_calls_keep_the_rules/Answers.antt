use Rattle.session_core.proofs.AnyCalls.{calls_sound, calls_keep_rules}
use Rattle.session_core.proofs.laws.any_calls_keep_the_rules.Goals as goal

pub returns-clause-rules : goal.returns-clause-rules
returns-clause-rules c = calls_keep_rules

pub returns-clause-promises : goal.returns-clause-promises
returns-clause-promises c = calls_sound
