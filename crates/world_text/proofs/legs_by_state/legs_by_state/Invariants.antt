use Rattle.std.proofs.Common.{◌≡◌, ◌++◌, suc, drop}
use Rattle.schedule.specs.World.{released_to, state_of, ids_where, is_withdrawn_leg, is_leg_in_doubt, withdrawn_ids, doubtful_ids}
use Rattle.world_text.proofs.legs_by_state.legs_by_state.Given as goal

abbrev pub invariant-loop-at : goal.invariant-loop-at
invariant-loop-at g l = record {
  withdrawn : l.withdrawn.items
      ++ ids_where is_withdrawn_leg (state_of l.world l.venue) (suc l.at) (drop l.at (released_to l.world l.venue))
      ≡ withdrawn_ids l.world l.venue;
  in_doubt : l.in_doubt.items
      ++ ids_where is_leg_in_doubt (state_of l.world l.venue) (suc l.at) (drop l.at (released_to l.world l.venue))
      ≡ doubtful_ids l.world l.venue;
}
