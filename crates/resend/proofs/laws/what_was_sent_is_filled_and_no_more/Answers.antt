use Rattle.resend.proofs.Ranges.{fill_is_for}
use Rattle.resend.proofs.laws.what_was_sent_is_filled_and_no_more.Goals as goal

pub returns : goal.returns
returns c = fill_is_for
