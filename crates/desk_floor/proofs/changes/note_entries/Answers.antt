use Rattle.std.proofs.Common.{◌++◌, ◌∙◌, ap, arith}
use Rattle.std.specs.Prelude.{option_to_list}
use Rattle.desk_floor.proofs.Changed.{changed_more, opened_more}
use Rattle.desk_floor.proofs.changes.note_entries.Goals as goal

pub loop-entry-preserved : goal.loop-entry-preserved
loop-entry-preserved c =
    let so_far = c.loop-entry.invariant in
    let at = c.loop-entry.entry-index in
    let entry = c.entry-item.result in
    let below = c.loop-entry-test.true in
    let is = c.entry-item.is in
    let most = c.opened_with-after.ensures.most in
    let before = so_far.most in
    record {
      changed = changed_more _ at c.loop-entry.after _ entry _ c.loop-entry.sweeps.items _ below is so_far.changed
          so_far.opened (c.in_ok-push_changed.ensures ∙ ap (λ changed. c.loop-entry.sweeps.items ++ option_to_list changed) c.changed_by.ensures);
      opened = opened_more _ at c.loop-entry.after _ _ entry below is so_far.opened c.opened_with-after.ensures.value;
      most = omega (arith, most, before);
    }
