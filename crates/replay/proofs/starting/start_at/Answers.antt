use Rattle.std.proofs.Common.{◌≡◌, ◌-◌, List, length, take, ap, subst, ◌∙◌}
use Rattle.std.specs.Prelude.{Bool, IfSome}
use Rattle.std.proofs.lemmas.Result.{on_ok_weaker}
use Rattle.sweep_release.specs.Released.{released}
use Rattle.sweep_release.specs.Desk as at_desk
use Rattle.schedule.specs.World.{World, VenueParts, venue_in}
use Rattle.world_restart.specs.Start.{gate_started}
use Rattle.world_restart.proofs.Places.{get_within}
use Rattle.replay.specs.declared.deed.Deed.{Deed}
use Rattle.replay.specs.Redoing.{frames_from, new_standing, redo_all, standing_by, stood_at}
use Rattle.replay.specs.Starting.{deeds_kept}
use Rattle.replay.proofs.StoodAgain.{shut_so, started_so}
use Rattle.replay.proofs.starting.start_at.Goals as goal

pub returns-clause-world : goal.returns-clause-world
returns-clause-world g c =
    let m = c.args.max_number in
    let w = c.args.world.now in
    let v = c.args.venue in
    let j = c.args.journal.now in
    let at = get_within w.venues v c.requires.there in
    let deeds : List Deed = take (length c.deeds.result.now - c.args.lost) c.deeds-2.result.now in
    let kept : deeds ≡ deeds_kept c.args.lost j =
    (λ i. take (length (c.deeds.ensures.value i) - c.args.lost) (c.deeds-2.ensures.value i)) in
    let is : c.stand_again.new.self ≡ stood_at w v (redo_all (frames_from w v) (new_standing m j.next) deeds) =
    c.in_ok-mark.ensures.world
    ∙ ap (λ (b : Bool). stood_at w v (redo_all (frames_from w v) (new_standing m b) deeds)) c.next-next.ensures in
    on_ok_weaker c.start.result
    (λ _. started_so m w v at.0 j at.1 c.args.lost deeds c.stand_again.new.self c.break_off.new.self kept is
    c.break_off.ensures)
    c.start.ensures

pub returns-clause-desk : goal.returns-clause-desk
returns-clause-desk g c =
    let m = c.args.max_number in
    let w = c.args.world.now in
    let v = c.args.venue in
    let j = c.args.journal.now in
    let d = c.args.desk.now.desk in
    let at = get_within w.venues v c.requires.there in
    let deeds : List Deed = take (length c.deeds.result.now - c.args.lost) c.deeds-2.result.now in
    let kept : deeds ≡ deeds_kept c.args.lost j =
    (λ i. take (length (c.deeds.ensures.value i) - c.args.lost) (c.deeds-2.ensures.value i)) in
    let is : c.stand_again.new.self ≡ stood_at w v (redo_all (frames_from w v) (new_standing m j.next) deeds) =
    c.in_ok-mark.ensures.world
    ∙ ap (λ (b : Bool). stood_at w v (redo_all (frames_from w v) (new_standing m b) deeds)) c.next-next.ensures in
    let marks = subst (λ (b : Bool). IfSome (venue_in c.stand_again.new.self v) (λ x. standing_by c.in_ok-mark.mark x
    ≡ redo_all (frames_from w v) (new_standing m b) deeds)) c.next-next.ensures c.in_ok-mark.ensures.mark in
    on_ok_weaker c.start.result
    (λ _. c.start_gate.ensures
    ∙ ap (λ (b : Bool). at_desk.with_venue v (record { gate = gate_started b; left = length (released v d.sweeps) }) d)
    (shut_so m w v at.0 j at.1 c.in_ok-mark.mark c.args.lost deeds c.stand_again.new.self kept is marks))
    c.start.ensures
