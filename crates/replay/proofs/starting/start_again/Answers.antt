use Rattle.std.proofs.Common.{rules, ◌≡◌, ◌≤◌, ◌<◌, ◌+◌, ℕ, length, List, Some, refl, sym, ap, subst, ◌∙◌, arith}
use Rattle.std.specs.Prelude.{slice_get}
use Rattle.std.proofs.lemmas.Result.{on_ok_weaker}
use Rattle.sweep_release.specs.Laws.{IsCounted}
use Rattle.sweep_release.specs.Desk.{DeskParts, gate_of, is_shut}
use Rattle.schedule.specs.World.{World}
use Rattle.replay.specs.Redoing.{JournalParts}
use Rattle.replay.specs.Starting.{started_parts}
use Rattle.replay.proofs.StartAll.{all_journals, counted_at, desk_at, desk_started_at, journals_started_at, make_desk, make_venue, read_at, unshut_at, world_started_at, world_went_on}
use Rattle.replay.proofs.Upto.{upto_length}
use Rattle.replay.proofs.starting.start_again.Goals as goal

pub start_at-requires : goal.start_at-requires
start_at-requires g c =
    let m = c.args.max_number in
    let w = c.args.world.now in
    let js = c.args.journals.now.items in
    let lines = c.args.lines.now in
    let d = c.args.desk.desk in
    let n = c.loop-number.number in
    let low = c.loop-number-test.true in
    let count = c.venues-number-end.ensures.value in
    let many : length c.loop-number.world.venues ≡ length w.venues =
    ap (λ (x : World). length x.venues) c.loop-number.invariant.world
    ∙ upto_length n (make_venue m w lines js d) 0 w.venues in
    let desks : length c.loop-number.desk.desk.venues ≡ length d.venues =
    ap (λ (x : DeskParts). length x.venues) c.loop-number.invariant.desk
    ∙ upto_length n (make_desk m w lines js d) 0 d.venues in
    let kept : length c.loop-number.journals.items ≡ length js =
    ap length c.loop-number.invariant.journals ∙ upto_length n (started_parts d.sweeps lines) 0 js in
    let at = c.venue_number.ensures in
    let few = c.requires.count in
    let venues = c.requires.venues in
    let has = read_at m w lines js d n c.loop-number.journals.items c.index_mut.result.now
    c.loop-number.invariant.journals (omega arith) c.index_mut.ensures.value in
    let same = c.loop-number.invariant.desk in
    record {
      least = c.requires.least;
      most = c.requires.most;
      there = omega arith;
      at_desk = omega arith;
      unshut = (λ i. is_shut (gate_of (same i) (at i)))
          ∙ unshut_at m w lines js d n c.requires.unshut (omega arith);
      counted = subst (λ (v : ℕ). IsCounted c.loop-number.desk.desk v) (sym at)
          (subst (λ (x : DeskParts). IsCounted x n) (sym same) (counted_at m w lines js d n c.requires.unshut));
      lost = subst (λ (k : ℕ). k ≤ length c.index_mut.result.now.deeds) (sym c.lost_of-lost.ensures)
          (c.requires.lost n c.index_mut.result.now has);
    }

pub loop-number-preserved : goal.loop-number-preserved
loop-number-preserved g c =
    let m = c.args.max_number in
    let w = c.args.world.now in
    let js = c.args.journals.now.items in
    let lines = c.args.lines.now in
    let d = c.args.desk.desk in
    let n = c.loop-number.number in
    let low = c.loop-number-test.true in
    let count = c.venues-number-end.ensures.value in
    let kept : length c.loop-number.journals.items ≡ length js =
    ap length c.loop-number.invariant.journals ∙ upto_length n (started_parts d.sweeps lines) 0 js in
    let few = c.requires.count in
    let venues = c.requires.venues in
    let j = c.index_mut.result.now in
    let has = read_at m w lines js d n c.loop-number.journals.items j
    c.loop-number.invariant.journals (omega arith) c.index_mut.ensures.value in
    record {
      world = world_started_at m w lines js d n c.venue_number.result c.lost_of-lost.result j c.loop-number.world
          c.start_at.new.world has c.loop-number.invariant.world c.venue_number.ensures c.lost_of-lost.ensures
          (omega arith) c.in_ok-start_at.ensures.world;
      desk = desk_started_at m w lines js d n c.venue_number.result c.lost_of-lost.result j c.loop-number.world
          c.loop-number.desk.desk c.start_at.new.desk.desk has c.loop-number.invariant.world
          c.loop-number.invariant.desk c.venue_number.ensures c.lost_of-lost.ensures (omega arith)
          c.in_ok-start_at.ensures.desk;
      journals = journals_started_at m w lines js d n c.venue_number.result c.lost_of-lost.result j
          c.start_at.new.journal c.loop-number.journals.items c.loop-number.desk.desk has
          c.loop-number.invariant.journals c.loop-number.invariant.desk c.venue_number.ensures
          c.lost_of-lost.ensures c.in_ok-start_at.ensures.journal;
    }

pub go_on_with-requires-clause-count : goal.go_on_with-requires-clause-count
go_on_with-requires-clause-count g c =
    let m = c.args.max_number in
    let w = c.args.world.now in
    let js = c.args.journals.now.items in
    let lines = c.args.lines.now in
    let d = c.args.desk.desk in
    let n = c.loop-number.number in
    ap (λ (x : DeskParts). length x.venues) c.loop-number.invariant.desk
    ∙ (upto_length n (make_desk m w lines js d) 0 d.venues
    ∙ (c.requires.venues
    ∙ (sym (upto_length n (make_venue m w lines js d) 0 w.venues)
    ∙ ap (λ (x : World). length x.venues) (sym c.loop-number.invariant.world))))

pub returns-clause-world : goal.returns-clause-world
returns-clause-world g c =
    let m = c.args.max_number in
    let w = c.args.world.now in
    let js = c.args.journals.now.items in
    let lines = c.args.lines.now in
    let d = c.args.desk.desk in
    let n = c.loop-number.number in
    let end = c.venues-number-end.ensures.value in
    let over = c.loop-number-test.false in
    world_went_on m w lines js d n c.loop-number.world c.go_on_with.new.self c.loop-number.desk.desk c.go_on_with.result
    c.loop-number.invariant.world c.loop-number.invariant.desk (omega (arith, end, over)) c.requires.venues
    c.go_on_with.ensures

pub returns-clause-journals : goal.returns-clause-journals
returns-clause-journals g c =
    let m = c.args.max_number in
    let w = c.args.world.now in
    let js = c.args.journals.now.items in
    let lines = c.args.lines.now in
    let d = c.args.desk.desk in
    let n = c.loop-number.number in
    let end = c.venues-number-end.ensures.value in
    let over = c.loop-number-test.false in
    on_ok_weaker c.go_on_with.result
    (λ _. c.loop-number.invariant.journals
    ∙ all_journals m w lines js d n (omega (arith, end, over)) c.requires.count)
    c.go_on_with.ensures
