use Rattle.sweep_release.proofs.Calls.{replayed-history}
use Rattle.sweep_release.proofs.laws.the_history_leads_to_the_desk.Goals as goal

pub returns : goal.returns
returns c = replayed-history
