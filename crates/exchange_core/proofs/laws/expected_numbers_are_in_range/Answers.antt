use Rattle.exchange_core.proofs.Sound.{take_in_range}
use Rattle.exchange_core.proofs.laws.expected_numbers_are_in_range.Goals as goal

pub returns : goal.returns
returns c = take_in_range
