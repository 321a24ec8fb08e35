use Rattle.std.proofs.Common.{ℕ, ◌+◌, ap, ◌∙◌, min, arith, if◌then◌else◌}
use Rattle.share_ledger.specs.Entries.{is_same_leg}
use Rattle.exec_collector.specs.Day.{disputed_at}
use Rattle.exec_collector.proofs.Disputing.{disputed_put, none_added, none_of}
use Rattle.exec_collector.proofs.disputed.Disputed.add.Goals as goal

pub returns-then-more-eq0 : goal.returns-then-more-eq0
returns-then-more-eq0 c = λ id.
    none_added (disputed_at c.args.self.now id) (if is_same_leg c.args.leg id then c.args.more else 0)
    (none_of (is_same_leg c.args.leg id) c.args.more c.if-more-eq0.true)

pub returns : goal.returns
returns c = λ id.
    disputed_put c.insert.result c.args.self.now.legs c.insert.new.self c.args.leg (c.sweep.result, c.place.result)
    c.args.more c.saturating_add-shares.result (λ i. (c.sweep.ensures.value i, c.place.ensures.value i))
    (c.insert.ensures.succeeds c.requires) c.insert.ensures.updates
    (c.saturating_add-shares.ensures
    ∙ ap (λ (n : ℕ). min (n + c.args.more) 18446744073709551615) c.shares.ensures)
    (λ e. omega (arith, c.if-more-eq0.false, e)) id
