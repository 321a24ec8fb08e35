use Rattle.share_ledger.proofs.Outcomes.{history_replays}
use Rattle.share_ledger.proofs.laws.the_history_leads_to_the_book.Goals as goal

pub returns : goal.returns
returns c = history_replays
