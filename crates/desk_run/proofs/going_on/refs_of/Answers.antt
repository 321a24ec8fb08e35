use Rattle.std.proofs.Common.{rules, ◌≡◌, ◌∙◌, sym, ap}
use Rattle.desk_floor.specs.Release.{noted_again}
use Rattle.desk_run.proofs.Noted.{noted_more}
use Rattle.desk_run.proofs.going_on.refs_of.Goals as goal

pub loop-one-preserved : goal.loop-one-preserved
loop-one-preserved c =
    c.in_ok-note_again.ensures
    ∙ (ap (λ e. noted_again e c.in-Some.one.reference c.in-Some.one.placement) c.loop-one.invariant
    ∙ sym (noted_more _ c.loop-one.yielded c.in-Some.one))
