use Rattle.std.proofs.Common.{Some, ap, ◌∙◌, inl}
use Rattle.desk_serve.specs.Answered.{outcome_of}
use Rattle.desk_serve.proofs.Answering.{unwritten_told}
use Rattle.desk_serve.proofs.day_view.DayViewDay.place.Goals as goal
use Rattle.desk_serve.proofs.day_view.DayViewDay.place.Goals.{in-Ok, in-Err}

pub returns : goal.returns
returns g c = λ apart.
    elim c.match-write_sweep.branch [
      | in-Ok w ↦
          let told = c.outcome_of.ensures ∙ ap outcome_of w.answer-is in
          let floors = w.hand_in_shared-answer.ensures (λ closing. apart (told ∙ ap outcome_of closing)) in
          inl (w.hand_in_shared-answer.result, floors, told)
      | in-Err w ↦
          let told = c.outcome_of.ensures ∙ ap outcome_of w.answer-is in
          unwritten_told (Some c.args.self.now.floor.now.limits) c.args.self.now.floor.now.names.items
          c.args.self.now.floor.now.manner.wants_refs c.args.submission w.answer_unwritten-answer.result
          c.outcome_of.result told w.answer_unwritten-answer.ensures
    ]
