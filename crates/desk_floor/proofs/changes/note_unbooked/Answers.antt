use Rattle.std.proofs.Common.{◌++◌, ◌∙◌, ap}
use Rattle.std.specs.Prelude.{option_to_list}
use Rattle.desk_floor.specs.Changes.{sweep_said}
use Rattle.desk_floor.proofs.Changed.{found_more}
use Rattle.desk_floor.proofs.changes.note_unbooked.Goals as goal

pub loop-item-preserved : goal.loop-item-preserved
loop-item-preserved c =
    let now = c.loop-item.sweeps.items in
    found_more sweep_said c.loop-item.item-index _ c.item-item.result _ now _ c.loop-item-test.true c.item-item.is
    c.loop-item.invariant
    (c.in_ok-push_changed.ensures ∙ ap (λ said. now ++ option_to_list said) c.sweep_of.ensures)
