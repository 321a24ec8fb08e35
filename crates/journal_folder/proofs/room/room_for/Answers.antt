use Rattle.std.proofs.Common.{◌+◌, ◌-◌, ◌^◌, ℕ, ap, ◌∙◌, min}
use Rattle.journal_folder.proofs.Rooms.{room_step}
use Rattle.journal_folder.proofs.room.room_for.Goals as goal

pub loop-line-preserved : goal.loop-line-preserved
loop-line-preserved c =
    c.saturating_add-bytes-in-loop-line.ensures
    ∙ ap (λ (n : ℕ). min (c.loop-line.bytes + n) (2 ^ 64 - 1)) (c.saturating_add.ensures
    ∙ ap (λ (n : ℕ). min (n + 10) (2 ^ 64 - 1)) (c.len.ensures ∙ c.line-item.result.ok.0))
    ∙ room_step c.args.head.now c.args.lines.now c.line-item.result c.loop-line.line-index c.loop-line.bytes (2 ^ 64 - 1)
    c.loop-line-test.true c.line-item.is c.loop-line.invariant
