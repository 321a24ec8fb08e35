use Rattle.world_restart.proofs.DeedsDone.{deeds_give_the_lines}
use Rattle.world_restart.proofs.laws.the_deeds_give_the_lines.Goals as goal

pub returns : goal.returns
returns c = deeds_give_the_lines
