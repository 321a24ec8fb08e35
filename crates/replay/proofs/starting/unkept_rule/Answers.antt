use Rattle.std.proofs.Common.{◌≡◌, ◌≤◌, ◌<◌, ◌+◌, ℕ, length, Some, None, true, false, Bool, sym, ap, subst, refl, ◌∙◌, arith}
use Rattle.std.specs.Prelude.{Option, IfSome, slice_get}
use Rattle.std.specs.Option.{is_none, is_some}
use Rattle.std.proofs.lemmas.Option.{slice_get_read}
use Rattle.schedule.specs.World.{World, VenueParts, venue_in}
use Rattle.world_restart.proofs.Places.{get_within}
use Rattle.replay.specs.declared.loss_fault.LossFault.{LossFault}
use Rattle.replay.specs.Starting.{StandsAt, all_keep, keeps_line}
use Rattle.replay.specs.Redoing.{frames_from, journal_by, journals_by}
use Rattle.replay.proofs.StoodAgain.{rule_broken, rule_kept, rules_end}
use Rattle.replay.proofs.starting.unkept_rule.Goals as goal

other_way : (fault : Option LossFault) (b : Bool) → b ≡ is_some fault → b ≡ true → is_none fault ≡ false
other_way None b is on = absurd cc
other_way (Some fault) b is on = refl

one_way : (fault : Option LossFault) (b : Bool) → b ≡ is_some fault → b ≡ false → is_none fault ≡ true
one_way None b is off = refl
one_way (Some fault) b is off = absurd cc

pub unkept_at-requires : goal.unkept_at-requires
unkept_at-requires g c =
    let m = c.args.max_number in
    let w = c.args.world.now in
    let js = c.args.journals.now in
    let n = c.loop-number.number in
    let j = c.index-journals-number.result in
    let still = c.loop-number.invariant.still in
    let at = c.venue_number-venue.ensures in
    let end = c.venues-number-end.ensures.value in
    let low = c.loop-number-test.true in
    let count = c.requires.count in
    let venues = ap (λ (x : World). length x.venues) still in
    let within : n < length w.venues = omega (arith, low, end) in
    let found = get_within w.venues n within in
    let has : slice_get js n ≡ Some j =
    slice_get_read js (length js) n j refl (omega (arith, within, count)) c.index-journals-number.is in
    let stands = subst (λ (o : Option VenueParts). IfSome o (StandsAt m w n j)) (sym found.1)
    (c.requires.stands n found.0 j found.1 has) in
    record {
      least = c.requires.least;
      most = c.requires.most;
      there = omega (arith, within, at, venues);
      stands = subst (λ (v : ℕ). IfSome (venue_in c.loop-number.world v) (StandsAt m c.loop-number.world v j)) (sym at)
          (subst (λ (x : World). IfSome (venue_in x n) (StandsAt m x n j)) (sym still) stands);
    }

pub returns-then-is_some-clause-rules : goal.returns-then-is_some-clause-rules
returns-then-is_some-clause-rules g c =
    let m = c.args.max_number in
    let w = c.args.world.now in
    let js = c.args.journals.now in
    let sweeps = c.args.desk.now.desk.sweeps in
    let lines = c.args.lines.now in
    let n = c.loop-number.number in
    let j = c.index-journals-number.result in
    let still = c.loop-number.invariant.still in
    let at = c.venue_number-venue.ensures in
    let lost = c.lost_of-lost.ensures in
    let end = c.venues-number-end.ensures.value in
    let low = c.loop-number-test.true in
    let count = c.requires.count in
    let has : slice_get js n ≡ Some j =
    slice_get_read js (length js) n j refl (omega (arith, low, end, count)) c.index-journals-number.is in
    let some = other_way c.in_ok-fault.fault c.is_some.result c.is_some.ensures c.if-is_some.true in
    some
    ∙ rule_broken m w js sweeps lines n j (all_keep w sweeps lines 0 (journals_by m w js)) has
    (sym some ∙ (c.in_ok-fault.ensures.rules
    ∙ (λ i. keeps_line (still i) (at i) sweeps (lost i) (journal_by m (frames_from (still i) (at i)) j))))
    c.loop-number.invariant.rules

pub loop-number-preserved : goal.loop-number-preserved
loop-number-preserved g c =
    let m = c.args.max_number in
    let w = c.args.world.now in
    let js = c.args.journals.now in
    let sweeps = c.args.desk.now.desk.sweeps in
    let lines = c.args.lines.now in
    let n = c.loop-number.number in
    let j = c.index-journals-number.result in
    let still = c.loop-number.invariant.still in
    let at = c.venue_number-venue.ensures in
    let lost = c.lost_of-lost.ensures in
    let end = c.venues-number-end.ensures.value in
    let low = c.loop-number-test.true in
    let count = c.requires.count in
    let has : slice_get js n ≡ Some j =
    slice_get_read js (length js) n j refl (omega (arith, low, end, count)) c.index-journals-number.is in
    let whole = one_way c.in_ok-fault.fault c.is_some.result c.is_some.ensures c.if-is_some.false in
    record {
      still = c.in_ok-fault.ensures.still ∙ still;
      rules = rule_kept m w js sweeps lines n j (all_keep w sweeps lines 0 (journals_by m w js)) has
          (sym whole ∙ (c.in_ok-fault.ensures.rules
          ∙ (λ i. keeps_line (still i) (at i) sweeps (lost i) (journal_by m (frames_from (still i) (at i)) j))))
          c.loop-number.invariant.rules;
    }

pub returns-clause-rules : goal.returns-clause-rules
returns-clause-rules g c =
    let m = c.args.max_number in
    let w = c.args.world.now in
    let js = c.args.journals.now in
    let sweeps = c.args.desk.now.desk.sweeps in
    let lines = c.args.lines.now in
    let end = c.venues-number-end.ensures.value in
    let over = c.loop-number-test.false in
    let count = c.requires.count in
    rules_end m w js sweeps lines c.loop-number.number (all_keep w sweeps lines 0 (journals_by m w js))
    (omega (arith, over, end, count)) c.loop-number.invariant.rules
