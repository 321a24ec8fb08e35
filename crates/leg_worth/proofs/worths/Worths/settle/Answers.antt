use Rattle.std.proofs.Common.{List, Option, sym, ◌∙◌, ap}
use Rattle.leg_worth.specs.declared.change.LegTrade.{LegTrade}
use Rattle.leg_worth.specs.declared.change.WorthChange.{WorthChange}
use Rattle.leg_worth.specs.Kept.{worth_at, fill_at, worth_after, fill_after, fill_with}
use Rattle.leg_worth.proofs.Settling.{legs_put, trades_put}
use Rattle.leg_worth.proofs.worths.Worths.settle.Goals as goal

pub returns-in-Some-trade-clause-legs : goal.returns-in-Some-trade-clause-legs
returns-in-Some-trade-clause-legs c = λ id.
    legs_put c.insert.result c.args.self.now.legs c.insert.new.self c.in-Some.change.leg c.key_of.result
    c.in-Some.change.now c.key_of.ensures (c.insert.ensures.succeeds c.requires.legs) c.insert.ensures.updates id
    ∙ sym (ap (λ (change : Option WorthChange). worth_after change (worth_at c.args.self.now) id) c.in-Some.is)

pub returns-in-Some-trade-clause-trades : goal.returns-in-Some-trade-clause-trades
returns-in-Some-trade-clause-trades c = λ id exec.
    trades_put c.insert-in-Some-trade.result c.args.self.now.trades c.insert-in-Some-trade.new.self
    c.in-Some.change.leg c.key_of-in-Some-trade.result c.in-Some-trade.trade.exec c.in-Some-trade.trade.fill
    c.key_of-in-Some-trade.ensures (c.insert-in-Some-trade.ensures.succeeds c.requires.trades)
    c.insert-in-Some-trade.ensures.updates id exec
    ∙ sym (ap (λ (change : Option WorthChange). fill_after change (fill_at c.args.self.now) id exec) c.in-Some.is
    ∙ ap (λ (trade : Option LegTrade). fill_with c.in-Some.change.leg trade (fill_at c.args.self.now) id exec)
    c.in-Some-trade.is)

pub returns-in_default-trade-clause-legs : goal.returns-in_default-trade-clause-legs
returns-in_default-trade-clause-legs c = λ id.
    legs_put c.insert.result c.args.self.now.legs c.insert.new.self c.in-Some.change.leg c.key_of.result
    c.in-Some.change.now c.key_of.ensures (c.insert.ensures.succeeds c.requires.legs) c.insert.ensures.updates id
    ∙ sym (ap (λ (change : Option WorthChange). worth_after change (worth_at c.args.self.now) id) c.in-Some.is)
