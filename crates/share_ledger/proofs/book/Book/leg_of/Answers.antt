use Rattle.std.proofs.Common.{sym, ◌∙◌, subst}
use Rattle.share_ledger.specs.Kept.{IsNewOn}
use Rattle.share_ledger.proofs.Applying.{same_venue, is_new_on}
use Rattle.share_ledger.proofs.book.Book.leg_of.Goals as goal

pub returns : goal.returns
returns c =
    let old = c.self.inside in
    subst (IsNewOn c.in-Some.leg c.args.venue c.args.report.now) c.self.view_is
    (is_new_on old.ledger old.reports.items c.self.invariant c.args.venue c.args.report.now c.in-Some.leg c.from.result
    c.index-reports.result.now (sym c.leg.ensures.value ∙ c.in-Some.is) c.in-Some.ensures.in_range
    (same_venue c.in-Some.leg.venue c.args.venue (sym c.ne.ensures ∙ c.if-ne.false))
    (c.from.ensures ∙ c.number.ensures.value) c.index-reports.ensures (sym c.has.ensures ∙ c.if-has.false))
