use Rattle.std.proofs.Common.{◌≡◌, ◌∷◌, List, ℕ, ap, sym, ◌∙◌}
use Rattle.schedule.specs.Script.{leg_of_words, before, legs_of_words}
use Rattle.script.specs.Reading.{more_legs}
use Rattle.script.proofs.Legs.{legs_of_five}
use Rattle.script.proofs.release_leg.read_leg.Goals as goal

pub returns-clause-leg : goal.returns-clause-leg
returns-clause-leg c =
    rw (c.in_ok-symbol.ensures.first, c.in_ok-side.ensures.first, c.in_ok-shares.ensures.first, c.in_ok-price.ensures.first, c.leg_of_words.ensures)
    (legs_of_five c.args.venue.now c.in_ok-symbol.symbol.now c.in_ok-side.side.now c.in_ok-shares.shares.now c.in_ok-price.price.now c.next-4.new.self)
