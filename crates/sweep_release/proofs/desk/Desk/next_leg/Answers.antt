use Rattle.std.proofs.Common.{◌≡◌, drop, length, refl, ap, sym, ◌∙◌}
use Rattle.std.proofs.lemmas.Bool.{ltb-true, ltb-false}
use Rattle.std.proofs.lemmas.Option.{slice_get_read, slice_get_past}
use Rattle.sweep_release.proofs.Changing.{is_read, next_none, next_first}
use Rattle.sweep_release.proofs.desk.Desk.next_leg.Goals as goal

pub returns-in-Some : goal.returns-in-Some
returns-in-Some c =
    let before = c.index-at.result.now in
    let legs = c.deref.result.now in
    let read = is_read c.self.inside c.args.self.now c.args.venue c.from.result before c.self.view_is (c.from.ensures ∙ c.number.ensures.value) c.requires c.index-at.ensures c.self.invariant in
    let parts = (rw c.unwrap.ensures at c.clone.ensures.cases) in
    let copy : c.unwrap.result ≡ c.in-Some.leg.now = λ k. record { id = parts.0 k; terms = parts.1 k } in
    let lookup = c.in-Some.ensures.lookup in
    next_first c.args.self.now.desk c.args.venue before.left legs c.in-Some.leg.now c.unwrap.result
    (ap (λ v. v.left) read.seen_as) (read.placed ∙ ap (drop before.left) (sym c.deref.ensures.value))
    (slice_get_read legs (length legs) before.left c.in-Some.leg.now refl (ltb-true before.left (length legs) (sym lookup.0)) lookup.1)
    copy

pub returns-in-None : goal.returns-in-None
returns-in-None c =
    let before = c.index-at.result.now in
    let legs = c.deref.result.now in
    let read = is_read c.self.inside c.args.self.now c.args.venue c.from.result before c.self.view_is (c.from.ensures ∙ c.number.ensures.value) c.requires c.index-at.ensures c.self.invariant in
    let lookup = c.in-None.ensures.lookup in
    next_none c.args.self.now.desk c.args.venue before.left legs (read.placed ∙ ap (drop before.left) (sym c.deref.ensures.value))
    (slice_get_past legs before.left (ltb-false before.left (length legs) (sym lookup.0)))
