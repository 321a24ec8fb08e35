use Rattle.sweep_release.proofs.AtVenue.{leaves-take, leaves-drop_next}
use Rattle.sweep_release.proofs.laws.the_first_leg_leaves.Goals as goal

pub returns-clause-take : goal.returns-clause-take
returns-clause-take c = leaves-take

pub returns-clause-drop_next : goal.returns-clause-drop_next
returns-clause-drop_next c = leaves-drop_next
