use Rattle.std.proofs.Common.{rules, ◌≡◌, ◌≤◌, ◌<◌, ℕ, length, Some, sym, ◌∙◌, arith}
use Rattle.std.proofs.lemmas.Option.{same_Some}
use Rattle.std.proofs.lemmas.Result.{on_ok_weaker}
use Rattle.replay.proofs.DayHappens.{none_noted, event_noted}
use Rattle.replay.proofs.day.keep_event.Goals as goal

pub returns-in_default : goal.returns-in_default
returns-in_default g c =
    none_noted c.args.world.now c.args.event.now c.args.journals.now.items
    (λ v names. absurd (let none = c.in_default.ensures in cc))

pub returns-then-at-len : goal.returns-then-at-len
returns-then-at-len g c =
    let past = c.if-at-len.true in
    let at = c.from-at.ensures ∙ c.number.ensures.value in
    none_noted c.args.world.now c.args.event.now c.args.journals.now.items
    (λ v names.
    (let same : v ≡ c.in-Some.venue = same_Some _ _ (sym names ∙ sym c.in-Some.ensures) in
    omega (arith, past, at, same)))

pub returns : goal.returns
returns g c =
    let low = c.if-at-len.false in
    let at = c.from-at.ensures ∙ c.number.ensures.value in
    let count = c.requires in
    on_ok_weaker c.keep.result
    (λ kept. event_noted c.args.world.now c.args.event.now c.args.journals.now.items c.in-Some.venue c.from-at.result
    c.index_mut.result.now c.keep.new.self c.note_event-noted.result (sym c.in-Some.ensures) at (omega arith)
    (omega arith) c.index_mut.ensures.value c.note_event-noted.ensures kept)
    c.keep.ensures
