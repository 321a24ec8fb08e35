use Rattle.std.proofs.Common.{ℕ, ◌+◌, ◌<◌, ◌≤◌, List, length, get_or, refl, sym, ap, subst, ◌∙◌, arith}
use Rattle.std.specs.Prelude.{min}
use Rattle.std.specs.List.{All}
use Rattle.day_executions.specs.declared.place.Place.{Place}
use Rattle.day_executions.specs.declared.place.Place.TheVariants as place
use Rattle.day_executions.specs.declared.heard.HeardNote.{HeardNote}
use Rattle.day_executions.specs.Executions.{IsLeft}
use Rattle.day_executions.proofs.Telling.{left_more}
use Rattle.day_executions.proofs.Lending.{untaken_begins, untaken_end, untaken_more}
use Rattle.day_executions.proofs.executions.Executions.untaken_behind.Goals as goal

pub loop-before-init : goal.loop-before-init
loop-before-init c =
    let len = ap (λ (l : List Place). length l) c.as_slice-places.ensures.value in
    record {
      told = subst (λ (l : List HeardNote). All (IsLeft c.args.history.now c.args.unbooked.now) l)
          (sym c.new-notes.ensures.items) (λ k d below. absurd (omega (arith, below)));
      notes = λ are. untaken_begins c.args.history.now c.args.unbooked.now c.args.self.now.places.items
          c.new-notes.result.items c.args.after c.min-begin.result are c.new-notes.ensures.items (c.min-begin.ensures ∙ ap (λ (n : ℕ). min c.args.after n) len);
    }

pub loop-before-preserved : goal.loop-before-preserved
loop-before-preserved c =
    let lent = c.as_slice-places.ensures.value in
    let len = ap (λ (l : List Place). length l) lent in
    let below = c.loop-before-test.true in
    let d = place.Booked 0 in
    let within : c.loop-before.before < length c.args.self.now.places.items = omega (arith, len, below) in
    record {
      told = left_more c.args.history.now c.args.unbooked.now c.loop-before.notes.items c.push_heard.new.notes.items
          (c.loop-before.before + 1) _ c.untaken_at.result c.loop-before.invariant.told c.in_ok-push_heard.ensures
          c.untaken_at.ensures;
      notes = λ are. untaken_more c.args.history.now c.args.unbooked.now c.args.self.now.places.items
          c.loop-before.notes.items c.push_heard.new.notes.items c.args.after c.loop-before.before
          (c.loop-before.before + 1) _ d c.untaken_at.result are within
          (ap (λ (l : List Place). get_or l c.loop-before.before d) lent) refl c.untaken_at.ensures
          (c.loop-before.invariant.notes are) c.in_ok-push_heard.ensures;
    }

pub returns-clause-notes : goal.returns-clause-notes
returns-clause-notes c = λ are.
    let ended = c.loop-before-test.false in
    let len = ap (λ (l : List Place). length l) c.as_slice-places.ensures.value in
    let far : length c.args.self.now.places.items ≤ c.loop-before.before = omega (arith, ended, len) in
    untaken_end c.args.history.now c.args.unbooked.now c.args.self.now.places.items c.loop-before.notes.items
    c.args.after c.loop-before.before are far (c.loop-before.invariant.notes are)
