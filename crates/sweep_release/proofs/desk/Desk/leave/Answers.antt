use Rattle.std.proofs.Common.{◌+◌, [], ◌∷◌, refl, sym, ◌∙◌, arith}
use Rattle.sweep_release.specs.declared.venue.Venue.{Venue}
use Rattle.sweep_release.proofs.Changing.{is_read, kept-changed, seen_left, leaves_next, some_left}
use Rattle.sweep_release.proofs.desk.Desk.leave.Goals as goal

pub overflow_sub-self : goal.overflow_sub-self
overflow_sub-self c =
    let desk = c.self.inside in
    let before = c.index_mut-at.result.now in
    let read = is_read desk c.args.self.now c.args.venue c.from.result before c.self.view_is (c.from.ensures ∙ c.number.ensures.value) c.requires.there c.index_mut-at.ensures.value c.self.invariant in
    let some = some_left desk c.args.self.now c.args.venue c.from.result before c.in_ok-next.next read (sym c.in_ok-next.ensures) in
    let due = read.due in
    omega (arith, some, due)

pub push_reserved-requires : goal.push_reserved-requires
push_reserved-requires c =
    let desk = c.self.inside in
    let before = c.index_mut-at.result.now in
    let read = is_read desk c.args.self.now c.args.venue c.from.result before c.self.view_is (c.from.ensures ∙ c.number.ensures.value) c.requires.there c.index_mut-at.ensures.value c.self.invariant in
    let some = some_left desk c.args.self.now c.args.venue c.from.result before c.in_ok-next.next read (sym c.in_ok-next.ensures) in
    let due = read.due in
    let spare = c.self.invariant.spare in
    omega (arith, some, due, spare)

pub invariant_of-self : goal.invariant_of-self
invariant_of-self c =
    let desk = c.self.inside in
    let before = c.index_mut-at.result.now in
    let read = is_read desk c.args.self.now c.args.venue c.from.result before c.self.view_is (c.from.ensures ∙ c.number.ensures.value) c.requires.there c.index_mut-at.ensures.value c.self.invariant in
    let some = some_left desk c.args.self.now c.args.venue c.from.result before c.in_ok-next.next read (sym c.in_ok-next.ensures) in
    let due = read.due in
    let spare = c.self.invariant.spare in
    let kept = read.kept in
    let few = kept.few in
    let now : Venue = record { gate = before.gate; left = before.left + 1; released = before.released } in
    kept-changed desk _ c.from.result now before (c.args.entry ∷ []) c.self.invariant read.there c.requires.no_release refl c.push_reserved.ensures.items refl refl read.was
    (omega (arith, some, due))
    refl
    (omega (arith, some, due, spare, c.push_reserved.ensures.len, c.push_reserved.ensures.capacity))
    (record { legs = kept.legs; left = omega (arith, some); few = omega (arith, few); counted = kept.counted; spare = kept.spare })

pub returns-clause-desk : goal.returns-clause-desk
returns-clause-desk c =
    let desk = c.self.inside in
    let before = c.index_mut-at.result.now in
    let read = is_read desk c.args.self.now c.args.venue c.from.result before c.self.view_is (c.from.ensures ∙ c.number.ensures.value) c.requires.there c.index_mut-at.ensures.value c.self.invariant in
    seen_left desk c.args.self.now c.args.venue c.from.result before (record { gate = before.gate; left = before.left + 1; released = before.released }) _ (c.args.entry ∷ []) c.self.view_is read c.requires.no_release c.push_reserved.ensures.items refl refl
    ∙ sym (leaves_next c.args.self.now.desk c.args.venue c.in_ok-next.next (sym c.in_ok-next.ensures)).0
