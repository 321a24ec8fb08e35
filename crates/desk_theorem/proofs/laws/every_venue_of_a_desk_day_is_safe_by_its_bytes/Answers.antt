use Rattle.desk_theorem.proofs.DeskDay.{the_desk_theorem}
use Rattle.desk_theorem.proofs.laws.every_venue_of_a_desk_day_is_safe_by_its_bytes.Goals as goal

pub returns : goal.returns
returns c = the_desk_theorem
