use Rattle.std.proofs.Common.{sym, ◌∙◌}
use Rattle.share_ledger.proofs.Applying.{moves_leg, moves_nothing}
use Rattle.share_ledger.proofs.book.Book.change_by.Goals as goal

pub returns-in-Ok : goal.returns-in-Ok
returns-in-Ok c =
    moves_leg c.self.inside.ledger c.self.inside.reports.items c.self.invariant c.args.venue c.args.report.now _
    c.self.view_is c.leg_of.result c.in_ok-was.was' c.leg_of.ensures c.in_ok-was.was _ c.is_withdrawn.ensures.value
    c.if-is_withdrawn.false _ (c.from.ensures ∙ c.number.ensures.value) c.index-reports.result.now
    c.index-reports.ensures c.in-Ok.now (sym c.moved.ensures ∙ c.in-Ok.is)

pub returns-in-Err : goal.returns-in-Err
returns-in-Err c =
    moves_nothing c.self.inside.ledger c.self.inside.reports.items c.self.invariant c.args.venue c.args.report.now _
    c.self.view_is c.leg_of.result c.in_ok-was.was' c.leg_of.ensures c.in_ok-was.was _ c.is_withdrawn.ensures.value
    c.if-is_withdrawn.false _ (c.from.ensures ∙ c.number.ensures.value) c.index-reports.result.now
    c.index-reports.ensures c.in-Err.answer (sym c.moved.ensures ∙ c.in-Err.is)
