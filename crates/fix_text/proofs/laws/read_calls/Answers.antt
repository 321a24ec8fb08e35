use Rattle.fix_text.proofs.Replays.{calls_first}
use Rattle.fix_text.proofs.laws.read_calls.Goals as goal

pub returns : goal.returns
returns c = calls_first
