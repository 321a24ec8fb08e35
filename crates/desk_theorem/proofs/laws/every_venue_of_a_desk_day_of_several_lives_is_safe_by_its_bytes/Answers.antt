use Rattle.desk_theorem.proofs.DayOver.{the_desk_theorem_over_lives}
use Rattle.desk_theorem.proofs.laws.every_venue_of_a_desk_day_of_several_lives_is_safe_by_its_bytes.Goals as goal

pub returns : goal.returns
returns c = the_desk_theorem_over_lives
