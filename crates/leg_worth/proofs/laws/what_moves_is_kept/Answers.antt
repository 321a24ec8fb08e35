use Rattle.leg_worth.specs.Kept.{worth_at, fill_at}
use Rattle.leg_worth.proofs.Moving.{note_kept}
use Rattle.leg_worth.proofs.laws.what_moves_is_kept.Goals as goal

pub returns : goal.returns
returns c book worths venue note replays kept moved =
    note_kept book venue note (worth_at worths) (fill_at worths) replays kept moved
