use Rattle.leg_worth.proofs.Settling.{legs_same, trades_same}
use Rattle.leg_worth.proofs.worths.Worths.make_room.Goals as goal

pub returns-in_err-reserve-clause-legs : goal.returns-in_err-reserve-clause-legs
returns-in_err-reserve-clause-legs c = λ id.
    legs_same c.args.self.now.legs c.reserve.new.self c.reserve.ensures.entries id

pub returns-clause-legs : goal.returns-clause-legs
returns-clause-legs c = λ id. legs_same c.args.self.now.legs c.reserve.new.self c.reserve.ensures.entries id

pub returns-clause-trades : goal.returns-clause-trades
returns-clause-trades c = λ id exec.
    trades_same c.args.self.now.trades c.reserve-2.new.self c.reserve-2.ensures.entries id exec
