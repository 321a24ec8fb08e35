use Rattle.std.proofs.Common.{rules, ◌∙◌}
use Rattle.desk_floor.proofs.Known.{known_told, shown_told, known_counts, known_places}
use Rattle.desk_floor.proofs.floor.Floor.hand_in.Goals as goal
use Rattle.desk_floor.proofs.floor.Floor.hand_in.Goals.{in-Some, in-None}

pub returns-clause-answer : goal.returns-clause-answer
returns-clause-answer g c =
    elim c.match-closing.branch [
      | in-Some w ↦
          rw (w.answered-is ∙ w.ok_or-answered.ensures.value)
          (known_told _ w.repeated.result _ w.repeated.ensures.answer)
      | in-None w ↦ search rules
    ]

pub returns-clause-closing : goal.returns-clause-closing
returns-clause-closing g c =
    elim c.match-closing.branch [
      | in-Some w ↦
          rw (w.answered-is ∙ w.ok_or-answered.ensures.value)
          (shown_told _ c.closing.result w.repeated.result _ c.closing.ensures w.in-Some.is)
      | in-None w ↦ search rules
    ]

pub returns-clause-parts : goal.returns-clause-parts
returns-clause-parts g c =
    elim c.match-closing.branch [ in-Some w ↦ search rules | in-None w ↦ search rules ]

pub returns-clause-counted : goal.returns-clause-counted
returns-clause-counted g c =
    elim c.match-closing.branch [
      | in-Some w ↦
          rw w.seat-is (rw (w.answered-is ∙ w.ok_or-answered.ensures.value)
          (known_counts w.repeated.result _ c.args.submission.sweep.legs c.args.seat.now.shares
          w.repeated.ensures.nothing))
      | in-None w ↦ search rules
    ]

pub returns-clause-placed : goal.returns-clause-placed
returns-clause-placed g c =
    elim c.match-closing.branch [
      | in-Some w ↦
          rw w.seat-is (rw (w.answered-is ∙ w.ok_or-answered.ensures.value)
          (known_places w.repeated.result _ c.args.submission.sweep.legs c.args.seat.now.placed
          w.repeated.ensures.none))
      | in-None w ↦ search rules
    ]
