use Rattle.std.proofs.Common.{◌≡◌, ◌<◌, ◌+◌, [], ◌∷◌, ◌++◌, length, take, get_or, set, refl, ap, sym, ◌∙◌, subst}
use Rattle.leg.specs.declared.leg.Leg.{Leg}
use Rattle.sweep_release.specs.declared.venue.Venue.{Venue}
use Rattle.sweep_release.specs.Kept.{IsEnqueued}
use Rattle.sweep_release.proofs.Enqueued.{enqueued_none, enqueued_more, room_for}
use Rattle.sweep_release.proofs.enqueue.enqueue.Goals as goal

pub loop-routed-init : goal.loop-routed-init
loop-routed-init c = record { place = refl; joined = enqueued_none c.args.number c.args.legs.now c.args.venues.now.items }

pub push_reserved-requires : goal.push_reserved-requires
push_reserved-requires c =
    let legs = c.args.legs.now in
    let i = c.loop-routed.routed-index in
    let routed = c.routed-item.result in
    let was = c.index_mut-at.result.now in
    let after = c.loop-routed.venues.items in
    let known : routed.venue < length c.args.venues.now.items = subst (λ r. r.venue < length c.args.venues.now.items) (sym c.routed-item.is) (c.requires.known i routed c.loop-routed-test.true) in
    let at = c.from.ensures ∙ c.number.ensures.value in
    let was_is : was ≡ get_or after routed.venue was = c.index_mut-at.ensures.value ∙ ap (λ n. get_or after n was) at in
    let room = room_for c.args.number legs c.args.venues.now.items after i routed was c.requires.room c.loop-routed.invariant.joined c.loop-routed-test.true c.routed-item.is known was_is in
    room

pub loop-routed-preserved : goal.loop-routed-preserved
loop-routed-preserved c =
    let legs = c.args.legs.now in
    let i = c.loop-routed.routed-index in
    let routed = c.routed-item.result in
    let was = c.index_mut-at.result.now in
    let after = c.loop-routed.venues.items in
    let known : routed.venue < length c.args.venues.now.items = subst (λ r. r.venue < length c.args.venues.now.items) (sym c.routed-item.is) (c.requires.known i routed c.loop-routed-test.true) in
    let at = c.from.ensures ∙ c.number.ensures.value in
    let was_is : was ≡ get_or after routed.venue was = c.index_mut-at.ensures.value ∙ ap (λ n. get_or after n was) at in
    let place = c.loop-routed.invariant.place in
    let terms : c.unwrap.result ≡ routed.terms = rw c.unwrap.ensures at c.clone.ensures.cases in
    let id = c.new.ensures.value ∙ ap (λ n. record { sweep = c.args.number; place = n + 1 }) place in
    let leg : (let l : Leg = record { id = c.new.result; terms = c.unwrap.result } in l) ≡ record { id = record { sweep = c.args.number; place = i + 1 }; terms = routed.terms } = λ k. record { id = id k; terms = terms k } in
    let now : Venue = record { gate = was.gate; left = was.left; released = c.push_reserved.new.self } in
    record {
      place = ap (λ n. n + 1) place;
      joined = subst (λ n. IsEnqueued c.args.number (take (i + 1) legs) c.args.venues.now.items (set after n now)) (sym at)
          (enqueued_more c.args.number legs c.args.venues.now.items after i routed was now c.requires.room c.loop-routed.invariant.joined c.loop-routed-test.true c.routed-item.is known was_is refl refl
          c.push_reserved.ensures.capacity
          (c.push_reserved.ensures.items ∙ ap (λ l. was.released.items ++ l ∷ []) leg));
    }
