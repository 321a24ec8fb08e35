use Rattle.sweep_release.specs.Place.{kept}
use Rattle.release_lock.proofs.Placing.{opens_placed}
use Rattle.release_lock.proofs.locked_desk.place_in.Goals as goal

pub returns-clause-opens : goal.returns-clause-opens
returns-clause-opens c =
    opens_placed (kept c.args.desk.now c.args.book.now) (kept c.place.new.desk c.place.new.book) c.args.sweep
    c.place.result c.place.ensures.answer
