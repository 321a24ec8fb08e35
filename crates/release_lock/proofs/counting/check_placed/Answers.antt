use Rattle.std.proofs.Common.{rules, ◌≡◌, [], ap, sym, ◌∙◌, subst, arith, true≢false}
use Rattle.exec_collector.specs.Seats.{parts_of}
use Rattle.sweep_release.specs.History.{KeptDesk}
use Rattle.release_lock.specs.Seats.{AreAllPlaced}
use Rattle.release_lock.proofs.Shares.{takes_first, takes_next, all_in_hand}
use Rattle.release_lock.proofs.counting.check_placed.Goals as goal
use Rattle.release_lock.proofs.counting.check_placed.Goals.{in-Some+in_default-pop, in_default}

pub loop-seat-init : goal.loop-seat-init
loop-seat-init g c = takes_first c.pop.new.self.items c.in-Some.all c.args.seats.items c.in-Some.ensures.items

pub loop-seat-preserved : goal.loop-seat-preserved
loop-seat-preserved g c =
    takes_next c.pop-in-loop-seat.new.self.items c.in-Some-pop.seat c.loop-seat.seats.items c.in-Some-pop.ensures.items
    c.loop-seat.all c.join.new.self c.args.seats.items c.join.ensures.parts c.join.ensures.shares c.join.ensures.placed
    c.loop-seat.invariant

pub returns-then-shares-placed-clause-all_placed : goal.returns-then-shares-placed-clause-all_placed
returns-then-shares-placed-clause-all_placed g c = λ parts.
    elim c.match-pop.branch [
      | in-Some+in_default-pop w ↦
          (let none : w.loop-seat.seats.items ≡ [] = search rules in
          let whole = w.audit.ensures.whole in
          let thousand = w.all.invariant.0 in
          let desk = c.locked.inside.desk.desk in
          let there = all_in_hand desk w.loop-seat.seats.items w.loop-seat.all c.args.seats.items w.all.inside.slips.held
          c.locked.inside.book.given w.all.inside.share.amount c.locked.inside.total.total none w.loop-seat.invariant
          (ap (λ s. s.placed) w.all.view_is) c.locked.invariant.2.gives c.locked.invariant.0.counted w.all.invariant.4
          w.compare.ensures.held (λ all. whole (ap (λ s. s.parts) w.all.view_is ∙ all ∙ sym thousand)) parts in
          subst (λ (d : KeptDesk). AreAllPlaced c.args.seats.items d.desk.sweeps) c.locked.view_is there.0)
      | in_default w ↦
          (let none : c.args.seats.items ≡ [] = search rules in
          let zero = ap parts_of none in absurd (omega (arith, zero, parts)))
    ]

pub returns-clause-whole : goal.returns-clause-whole
returns-clause-whole g c = λ parts.
    elim c.match-pop.branch [
      | in-Some+in_default-pop w ↦
          (let none : w.loop-seat.seats.items ≡ [] = search rules in
          let whole = w.audit.ensures.whole in
          let thousand = w.all.invariant.0 in
          let desk = c.locked.inside.desk.desk in
          let there = all_in_hand desk w.loop-seat.seats.items w.loop-seat.all c.args.seats.items w.all.inside.slips.held
          c.locked.inside.book.given w.all.inside.share.amount c.locked.inside.total.total none w.loop-seat.invariant
          (ap (λ s. s.placed) w.all.view_is) c.locked.invariant.2.gives c.locked.invariant.0.counted w.all.invariant.4
          w.compare.ensures.held (λ all. whole (ap (λ s. s.parts) w.all.view_is ∙ all ∙ sym thousand)) parts in
          let seen = w.shares-is in
          let counts = w.all.invariant.3 in
          let shares = there.1 in
          let value = c.placed_shares-placed.ensures.value in
          let few = c.placed_shares-placed.ensures.few in
          absurd (c.if-shares-placed.false (omega (arith, seen, counts, shares, value, few))))
      | in_default w ↦
          (let none : c.args.seats.items ≡ [] = search rules in
          let zero = ap parts_of none in absurd (omega (arith, zero, parts)))
    ]

pub returns-clause-all_placed : goal.returns-clause-all_placed
returns-clause-all_placed g c = λ parts. absurd (true≢false (sym (returns-clause-whole g c parts)))
