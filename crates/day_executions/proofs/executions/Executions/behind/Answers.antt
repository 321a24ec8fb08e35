use Rattle.std.proofs.Common.{ℕ, ◌+◌, ◌-◌, ◌<◌, List, length, get_or, refl, ap, ◌∙◌, arith}
use Rattle.std.specs.Prelude.{min}
use Rattle.day_executions.specs.declared.place.Place.{Place}
use Rattle.day_executions.specs.declared.place.Place.TheVariants as place
use Rattle.day_executions.proofs.Telling.{heard_more}
use Rattle.day_executions.proofs.Lending.{note_more, notes_end}
use Rattle.day_executions.proofs.executions.Executions.behind.Goals as goal

pub loop-at-preserved : goal.loop-at-preserved
loop-at-preserved c =
    let lent = c.as_slice-places.ensures.value in
    let len = ap (λ (l : List Place). length l) lent in
    let below = c.loop-at-test.true in
    let count = c.min-count.ensures in
    let left = c.saturating_sub.ensures in
    let d = place.Booked 0 in
    let within : c.args.after + c.loop-at.at < length c.args.self.now.places.items =
    omega (arith, len, below, count, left) in
    record {
      told = heard_more c.args.history.now c.args.unbooked.now c.loop-at.notes.items c.push_heard.new.notes.items
          (c.args.after + c.loop-at.at + 1) _ c.found.result c.loop-at.invariant.told c.in_ok-push_heard.ensures
          c.found.ensures;
      notes = λ are. note_more c.args.history.now c.args.unbooked.now c.args.self.now.places.items c.loop-at.notes.items
          c.push_heard.new.notes.items c.args.after c.loop-at.at (c.args.after + c.loop-at.at + 1) _ d
          c.found.result are within (ap (λ (l : List Place). get_or l (c.args.after + c.loop-at.at) d) lent) refl
          c.found.ensures (c.loop-at.invariant.notes are) c.in_ok-push_heard.ensures;
    }

pub returns-clause-notes : goal.returns-clause-notes
returns-clause-notes c = λ are.
    let ended = c.loop-at-test.false in
    let most = c.loop-at.auto.at-end in
    let lent = c.as_slice-places.ensures.value in
    let len = ap (λ (l : List Place). length l) lent in
    let left = ap (λ (n : ℕ). n - c.args.after) len in
    notes_end c.args.history.now c.args.unbooked.now c.args.self.now.places.items c.loop-at.notes.items c.args.after
    c.args.most c.min-count.result c.loop-at.at are
    (c.min-count.ensures ∙ ap (λ (n : ℕ). min c.args.most n) (c.saturating_sub.ensures ∙ left))
    (omega (arith, ended, most)) (c.loop-at.invariant.notes are)
