use Rattle.std.proofs.Common.{ap, ◌∙◌}
use Rattle.desk_floor.specs.Release.{answer_of}
use Rattle.desk_floor.proofs.floor.Floor.release.Goals as goal

pub returns-clause-answer : goal.returns-clause-answer
returns-clause-answer g c =
    let placed = c.release_asked-done.ensures.placed in (
      placed.0,
      placed.1,
      c.release_asked-done.result,
      placed.2,
      placed.3,
      placed.4,
      placed.5,
      c.answer_of.ensures ∙ ap (λ names. answer_of names c.release_asked-done.result) c.as_slice-2.ensures.value,
    )
