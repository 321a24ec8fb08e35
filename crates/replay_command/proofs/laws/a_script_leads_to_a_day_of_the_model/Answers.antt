use Rattle.replay_command.proofs.Reached.{leads_to_days}
use Rattle.replay_command.proofs.laws.a_script_leads_to_a_day_of_the_model.Goals as goal

pub returns : goal.returns
returns c = leads_to_days
