use Rattle.std.proofs.Common.{◌≡◌, ◌≤◌, ◌<◌, ◌-◌, List, length, take, sym, ap, subst, ◌∙◌, arith}
use Rattle.std.specs.Prelude.{Bool, Option, IfSome}
use Rattle.std.specs.Option.{is_none}
use Rattle.schedule.specs.World.{World, VenueParts, venue_in}
use Rattle.world_restart.proofs.Places.{get_within}
use Rattle.replay.specs.declared.deed.Deed.{Deed}
use Rattle.replay.specs.Redoing.{frames_from, new_standing, redo_all, standing_by, stood_at}
use Rattle.replay.specs.Starting.{StandsAt, deeds_kept}
use Rattle.replay.proofs.StoodAgain.{back_so, none_kept, tried_so}
use Rattle.replay.proofs.starting.unkept_at.Goals as goal

pub returns-then-deeds-lost-clause-rules : goal.returns-then-deeds-lost-clause-rules
returns-then-deeds-lost-clause-rules g c =
    let w = c.args.world.now in
    let at = get_within w.venues c.args.venue c.requires.there in
    let count = ap length c.deeds-deeds.ensures.value in
    let past = c.if-deeds-lost.true in
    none_kept c.args.max_number w c.args.venue at.0 c.args.journal.now at.1 c.args.lost c.args.desk.now.desk.sweeps
    (omega (arith, count, past))

pub returns-clause-still : goal.returns-clause-still
returns-clause-still g c =
    let m = c.args.max_number in
    let w = c.args.world.now in
    let v = c.args.venue in
    let j = c.args.journal.now in
    let at = get_within w.venues v c.requires.there in
    let mid = c.stand_again.new.self in
    let all = c.deeds-deeds.result.now in
    let deeds : List Deed = take (length all - c.args.lost) all in
    let is : mid ≡ stood_at w v (redo_all (frames_from w v) (new_standing m j.next) deeds) =
    c.in_ok-mark.ensures.world
    ∙ ap (λ (b : Bool). stood_at w v (redo_all (frames_from w v) (new_standing m b) deeds)) c.next.ensures in
    back_so m w v at.0 j at.1
    (subst (λ (o : Option VenueParts). IfSome o (StandsAt m w v j)) at.1 c.requires.stands) deeds all mid
    c.stand_again-2.new.self is c.deeds-deeds.ensures.value
    (c.in_ok-stand_again.ensures.world
    ∙ ap (λ (b : Bool). stood_at mid v (redo_all (frames_from mid v) (new_standing m b) all)) c.next-2.ensures)

pub returns-clause-rules : goal.returns-clause-rules
returns-clause-rules g c =
    let m = c.args.max_number in
    let w = c.args.world.now in
    let v = c.args.venue in
    let j = c.args.journal.now in
    let at = get_within w.venues v c.requires.there in
    let mid = c.stand_again.new.self in
    let all = c.deeds-deeds.result.now in
    let count = ap length c.deeds-deeds.ensures.value in
    let few = c.if-deeds-lost.false in
    let deeds : List Deed = take (length all - c.args.lost) all in
    let kept : deeds ≡ deeds_kept c.args.lost j =
    ap (λ (l : List Deed). take (length l - c.args.lost) l) c.deeds-deeds.ensures.value in
    let is : mid ≡ stood_at w v (redo_all (frames_from w v) (new_standing m j.next) deeds) =
    c.in_ok-mark.ensures.world
    ∙ ap (λ (b : Bool). stood_at w v (redo_all (frames_from w v) (new_standing m b) deeds)) c.next.ensures in
    let marks = subst (λ (b : Bool). IfSome (venue_in mid v) (λ x. standing_by c.in_ok-mark.mark x
    ≡ redo_all (frames_from w v) (new_standing m b) deeds)) c.next.ensures c.in_ok-mark.ensures.mark in
    tried_so m w v at.0 j at.1 c.in_ok-mark.mark c.args.lost c.reached.result c.deref.result.now
    c.args.desk.now.desk.sweeps mid deeds (is_none c.broken_rule-fault.result) (omega (arith, count, few)) kept is marks
    c.reached.ensures (c.deref.ensures.value ∙ c.in_ok-gone.ensures) c.broken_rule-fault.ensures
