use Rattle.std.proofs.Common.{◌∙◌, ap, sym, length, Some, None, Vec}
use Rattle.std.proofs.lemmas.List.{append-nil}
use Rattle.desk_floor.specs.declared.legs.LegStanding.{LegStanding}
use Rattle.desk_floor.proofs.Places.{place_told, places_more}
use Rattle.desk_floor.proofs.legs.sweep_legs.Goals.{in-Some-2+in_ok-push, in_default-2}
use Rattle.desk_floor.proofs.legs.sweep_legs.Goals as goal

pub loop-place-preserved : goal.loop-place-preserved
loop-place-preserved g c =
    let venues = length c.args.floor.now.views.items in
    elim c.match-branch-2.branch [
      | in-Some-2+in_ok-push w ↦ places_more venues c.args.number c.loop-place.place c.loop-place.legs.items _
          (Some w.in-Some-2.leg) c.loop-place.auto.place c.loop-place.invariant
          (place_told venues _ _ c.in-Some.booked c.in-Some.paid _ _ c.new-id.ensures.value c.in-Some.ensures c.in_ok-leg.ensures
          w.in-Some-2.is)
          (ap (λ (legs : Vec LegStanding _). legs.items) w.legs-is ∙ w.in_ok-push.ensures.items)
      | in_default-2 w ↦ places_more venues c.args.number c.loop-place.place c.loop-place.legs.items _ None
          c.loop-place.auto.place c.loop-place.invariant
          (place_told venues _ _ c.in-Some.booked c.in-Some.paid _ _ c.new-id.ensures.value c.in-Some.ensures c.in_ok-leg.ensures
          w.in_default-2.is)
          (ap (λ (legs : Vec LegStanding _). legs.items) w.legs-is ∙ sym (append-nil c.loop-place.legs.items))
    ]
