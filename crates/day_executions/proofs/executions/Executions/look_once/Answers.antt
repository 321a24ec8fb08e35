use Rattle.std.proofs.Common.{ℕ, sym, subst, ◌∙◌}
use Rattle.day_executions.specs.Executions.{IsIndex}
use Rattle.day_executions.proofs.Indexing.{entry_there, index_entry, index_item}
use Rattle.day_executions.proofs.executions.Executions.look_once.Goals as goal

pub returns-then-is_next-clause-index : goal.returns-then-is_next-clause-index
returns-then-is_next-clause-index c = λ index.
    let looked = c.in_ok-look_beside.ensures.ok in
    let next = c.look_beside.new.self in
    let more = index_item c.args.self.now.entries c.args.self.now.items next.items _ next.places.items
    c.args.history.now c.args.unbooked.now index (sym c.is_next.ensures ∙ c.if-is_next.true) looked.0 looked.1 in
    subst (λ (n : ℕ). IsIndex n next.items next.places.items c.args.history.now c.args.unbooked.now)
    (sym c.in_ok-look_beside.ensures.entries) more

pub returns-clause-index : goal.returns-clause-index
returns-clause-index c = λ index.
    let there = c.in-Some.ensures.lookup in
    let looked = c.in_ok-look_at-in-Some.ensures.ok in
    let next = c.look_at.new.self in
    let more = index_entry c.args.self.now.entries c.args.self.now.items next.entries _ next.places.items
    c.args.history.now c.args.unbooked.now c.in-Some.entry.now index
    (entry_there c.args.history.now c.args.self.now.entries c.in-Some.entry.now there.3.0 there.1)
    (sym c.is_next.ensures ∙ c.if-is_next.false) looked.0 looked.1 in
    subst (λ (n : ℕ). IsIndex next.entries n next.places.items c.args.history.now c.args.unbooked.now)
    (sym c.in_ok-look_at-in-Some.ensures.items) more
