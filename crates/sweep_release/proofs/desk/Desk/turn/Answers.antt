use Rattle.std.proofs.Common.{[], ◌∷◌, refl, ap, ◌∙◌, arith}
use Rattle.sweep_release.specs.Gates.{gate_due}
use Rattle.sweep_release.specs.declared.venue.Venue.{Venue}
use Rattle.sweep_release.proofs.Changing.{is_read, kept-changed, seen_turned}
use Rattle.sweep_release.proofs.desk.Desk.turn.Goals as goal

pub push_reserved-requires : goal.push_reserved-requires
push_reserved-requires c =
    let read = is_read c.self.inside c.args.self.now c.args.venue c.from.result c.index_mut-at.result.now c.self.view_is (c.from.ensures ∙ c.number.ensures.value) c.requires.there c.index_mut-at.ensures.value c.self.invariant in
    let due = read.due in
    let room = c.self.invariant.spare in
    let gate = ap (λ v. gate_due v.gate) read.seen_as in
    omega (arith, due, room, gate, c.requires.fewer)

pub invariant_of-self : goal.invariant_of-self
invariant_of-self c =
    let desk = c.self.inside in
    let before = c.index_mut-at.result.now in
    let read = is_read desk c.args.self.now c.args.venue c.from.result before c.self.view_is (c.from.ensures ∙ c.number.ensures.value) c.requires.there c.index_mut-at.ensures.value c.self.invariant in
    let due = read.due in
    let room = c.self.invariant.spare in
    let gate = ap (λ v. gate_due v.gate) read.seen_as in
    let kept = read.kept in
    let now : Venue = record { gate = c.args.gate; left = before.left; released = before.released } in
    kept-changed desk _ c.from.result now before (c.args.entry ∷ []) c.self.invariant read.there c.requires.no_release refl c.push_reserved.ensures.items refl refl read.was
    (omega (arith, due, gate, c.requires.fewer, c.due.ensures, c.due-2.ensures))
    refl
    (omega (arith, due, room, gate, c.requires.fewer, c.due.ensures, c.due-2.ensures, c.push_reserved.ensures.len, c.push_reserved.ensures.capacity))
    (record { legs = kept.legs; left = kept.left; few = kept.few; counted = kept.counted; spare = kept.spare })

pub returns-clause-desk : goal.returns-clause-desk
returns-clause-desk c =
    let desk = c.self.inside in
    let before = c.index_mut-at.result.now in
    let read = is_read desk c.args.self.now c.args.venue c.from.result before c.self.view_is (c.from.ensures ∙ c.number.ensures.value) c.requires.there c.index_mut-at.ensures.value c.self.invariant in
    seen_turned desk c.args.self.now c.args.venue c.from.result before c.args.gate _ (c.args.entry ∷ []) c.self.view_is read c.requires.no_release c.push_reserved.ensures.items

pub returns-clause-room : goal.returns-clause-room
returns-clause-room c =
    let read = is_read c.self.inside c.args.self.now c.args.venue c.from.result c.index_mut-at.result.now c.self.view_is (c.from.ensures ∙ c.number.ensures.value) c.requires.there c.index_mut-at.ensures.value c.self.invariant in
    let due = read.due in
    let room = c.self.invariant.spare in
    let gate = ap (λ v. gate_due v.gate) read.seen_as in
    let before = ap (λ s. s.room) c.self.view_is in
    omega (arith, due, room, gate, before, c.requires.fewer, c.due.ensures, c.due-2.ensures, c.push_reserved.ensures.len, c.push_reserved.ensures.capacity)
