use Rattle.std.proofs.Common.{◌≡◌, ◌+◌, length, Some, None, sym, ap, subst, ◌∙◌}
use Rattle.std.specs.Prelude.{slice_get}
use Rattle.world_restart.specs.Start.{Day}
use Rattle.replay.specs.DaySeen.{lines_of}
use Rattle.replay.proofs.DayHappens.{lines_there, lines_nowhere}
use Rattle.replay.proofs.day.Day.lines.Goals as goal

pub returns-in-Some : goal.returns-in-Some
returns-in-Some g c =
    let d = c.self.inside in
    let v = c.args.venue in
    let all = c.deref.ensures.value in
    let at = c.from.ensures ∙ c.number.ensures.value in
    let there : slice_get d.journals.items v ≡ Some c.in-Some.journal.now =
    sym (c.in-Some.ensures ∙ (λ i. slice_get (all i) (at i))) in
    subst (λ (day : Day). length c.deeds.result.now + 1 ≡ lines_of day v) c.self.view_is
    (ap (λ l. length l + 1) c.deeds.ensures.value
    ∙ lines_there d.max_number d.world d.journals.items v c.in-Some.journal.now there)

pub returns-in-None : goal.returns-in-None
returns-in-None g c =
    let d = c.self.inside in
    let v = c.args.venue in
    let all = c.deref.ensures.value in
    let at = c.from.ensures ∙ c.number.ensures.value in
    let there : slice_get d.journals.items v ≡ None =
    sym (c.in-None.ensures ∙ (λ i. slice_get (all i) (at i))) in
    subst (λ (day : Day). 0 ≡ lines_of day v) c.self.view_is
    (lines_nowhere d.max_number d.world d.journals.items v there)
