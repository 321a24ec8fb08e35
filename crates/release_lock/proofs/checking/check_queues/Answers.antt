use Rattle.std.proofs.Common.{◌≡◌, ℕ, true≢false, sym, refl, ◌∙◌, rules, subst, arith}
use Rattle.exec_collector.proofs.Counts.{venue_is}
use Rattle.sweep_release.specs.History.{KeptDesk}
use Rattle.release_lock.specs.Queues.{TookFirst, IsFed}
use Rattle.release_lock.proofs.Past.{released_past}
use Rattle.release_lock.proofs.TakenLegs.{Checking, checking_begins, venue_ok, no_more, end_here, is_wrong, goes_past, past_all, feed_here, venue_within, goes_on, none_first}
use Rattle.release_lock.proofs.checking.check_queues.Goals as goal
use Rattle.release_lock.proofs.checking.check_queues.Goals.{in-Some-pop_front+in-Ok+else-not-took_first, in-None+else-not-took_none}

pub loop-end-init : goal.loop-end-init
loop-end-init g c =
    let ends : c.from-ends.result.items ≡ c.args.ends.items = search rules in
    let feeds : c.from-feeds.result.items ≡ c.locked.inside.feeds.items = search rules in
    subst (λ (d : KeptDesk). Checking g.L.Run.queues d.desk c.args.ends.items 0 c.from-ends.result.items c.from-feeds.result.items)
    c.locked.view_is
    (rw (ends, feeds) (checking_begins g.L.Run.queues c.locked.inside.desk.desk c.args.ends.items c.locked.inside.feeds.items
    c.locked.invariant.0.many c.locked.invariant.0.fed))

pub overflow_cast-place : goal.overflow_cast-place
overflow_cast-place g c =
    let so_far = rw (c.in-Some.ensures.items, c.in-Some-pop_front.ensures.items) at c.loop-end.invariant in
    let within = venue_within _ _ _ _ _ _ _ _ so_far in
    let few = c.locked.invariant.0.few in
    omega (arith, within, few)

pub unreachable-requires : goal.unreachable-requires
unreachable-requires g c =
    let so_far = rw (c.in-Some.ensures.items, c.in-Some-pop_front.ensures.items) at c.loop-end.invariant in
    let within = venue_within _ _ _ _ _ _ _ _ so_far in
    let few = c.locked.invariant.0.few in
    c.in_default-new.not-Ok c.loop-end.place
    (c.new.ensures ∙ venue_ok c.loop-end.place (omega (arith, within, few)))

pub took_first-requires-clause-there : goal.took_first-requires-clause-there
took_first-requires-clause-there g c =
    let so_far = rw (c.in-Some.ensures.items, c.in-Some-pop_front.ensures.items) at c.loop-end.invariant in
    let within = venue_within _ _ _ _ _ _ _ _ so_far in
    let venue = venue_is c.loop-end.place c.in-Ok.venue (sym c.new.ensures ∙ c.in-Ok.is) in
    let venues = c.locked.invariant.0.venues in
    omega (arith, within, venue, venues)

pub took_first-requires-clause-fed : goal.took_first-requires-clause-fed
took_first-requires-clause-fed g c =
    let so_far = rw (c.in-Some.ensures.items, c.in-Some-pop_front.ensures.items) at c.loop-end.invariant in
    let venue = venue_is c.loop-end.place c.in-Ok.venue (sym c.new.ensures ∙ c.in-Ok.is) in
    subst (λ (w : ℕ × KeptDesk). IsFed g.L.Run.queues w.1.desk w.0 c.in-Some-pop_front.feed)
    (λ i. (sym venue i, sym c.locked.view_is i)) (feed_here _ _ _ _ _ _ _ _ so_far)

pub returns-then-not-took_first-clause-exact : goal.returns-then-not-took_first-clause-exact
returns-then-not-took_first-clause-exact g c =
    let so_far = rw (c.in-Some.ensures.items, c.in-Some-pop_front.ensures.items) at c.loop-end.invariant in
    let venue = venue_is c.loop-end.place c.in-Ok.venue (sym c.new.ensures ∙ c.in-Ok.is) in
    is_wrong _ _ _ _ _ _ _ so_far
    (λ took. true≢false (sym (c.if-not-took_first.ensures.exact.1
    (subst (λ (w : ℕ × KeptDesk). TookFirst w.1.desk w.0 c.in-Some.end)
    (λ i. (sym venue i, sym c.locked.view_is i)) took))))

pub returns-then-not-took_first-clause-whole : goal.returns-then-not-took_first-clause-whole
returns-then-not-took_first-clause-whole g c = λ order.
    let so_far = rw (c.in-Some.ensures.items, c.in-Some-pop_front.ensures.items) at c.loop-end.invariant in
    let venue = venue_is c.loop-end.place c.in-Ok.venue (sym c.new.ensures ∙ c.in-Ok.is) in
    c.if-not-took_first.ensures.whole
    (order c.loop-end.place c.in-Some.end (end_here _ _ _ _ _ _ _ so_far) ∙ sym venue)

pub returns-then-not-took_none-clause-exact : goal.returns-then-not-took_none-clause-exact
returns-then-not-took_none-clause-exact g c =
    let so_far = rw c.in-Some.ensures.items at c.loop-end.invariant in
    let none = no_more c.loop-end.feeds.items (c.in-None.ensures.items ∙ c.in-None.ensures.rest) in
    let past = past_all _ _ _ _ _ _ _ so_far none in
    let venues = c.locked.invariant.0.venues in
    let inside = c.locked.inside.desk in
    let nothing = released_past inside c.loop-end.place c.locked.invariant.0.replays (omega (arith, past, venues)) in
    is_wrong _ _ _ _ _ _ _ so_far
    (λ took. true≢false (sym (c.if-not-took_none.ensures.exact.1
    ((none_first inside.desk c.loop-end.place c.in-Some.end nothing).1
    (subst (λ (d : KeptDesk). TookFirst d.desk c.loop-end.place c.in-Some.end) (sym c.locked.view_is) took)))))

pub returns-then-not-took_none-clause-whole : goal.returns-then-not-took_none-clause-whole
returns-then-not-took_none-clause-whole g c = λ order.
    let so_far = rw c.in-Some.ensures.items at c.loop-end.invariant in
    let none = no_more c.loop-end.feeds.items (c.in-None.ensures.items ∙ c.in-None.ensures.rest) in
    let past = past_all _ _ _ _ _ _ _ so_far none in
    let there = c.if-not-took_none.ensures.there in
    let same = order c.loop-end.place c.in-Some.end (end_here _ _ _ _ _ _ _ so_far) in
    absurd (omega (arith, past, there, same))

pub loop-end-preserved : goal.loop-end-preserved
loop-end-preserved g c =
    elim c.match-pop_front-2.branch [
      | in-Some-pop_front+in-Ok+else-not-took_first w ↦
          (let so_far = rw (c.in-Some.ensures.items, w.in-Some-pop_front.ensures.items) at c.loop-end.invariant in
          let venue = venue_is c.loop-end.place w.in-Ok.venue (sym w.new.ensures ∙ w.in-Ok.is) in
          goes_on _ _ _ _ _ _ _ _ so_far
          (subst (λ (x : ℕ × KeptDesk). TookFirst x.1.desk x.0 c.in-Some.end)
          (λ i. (venue i, c.locked.view_is i)) (w.if-not-took_first.ensures.exact.0 refl)))
      | in-None+else-not-took_none w ↦
          (let so_far = rw c.in-Some.ensures.items at c.loop-end.invariant in
          let none = no_more c.loop-end.feeds.items (w.in-None.ensures.items ∙ w.in-None.ensures.rest) in
          let past = past_all _ _ _ _ _ _ _ so_far none in
          let venues = c.locked.invariant.0.venues in
          let inside = c.locked.inside.desk in
          let nothing = released_past inside c.loop-end.place c.locked.invariant.0.replays (omega (arith, past, venues)) in
          let took = (none_first inside.desk c.loop-end.place c.in-Some.end nothing).0
          (w.if-not-took_none.ensures.exact.0 refl) in
          rw (← w.in-None.ensures.items)
          (goes_past _ _ _ _ _ _ _ so_far none
          (subst (λ (d : KeptDesk). TookFirst d.desk c.loop-end.place c.in-Some.end) c.locked.view_is took)))
    ]
