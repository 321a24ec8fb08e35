use Rattle.std.proofs.Common.{◌≡◌, ◌-◌, ◌^◌, ◌∷◌, length, map, min, take}
use Rattle.journal_record.specs.Record.{lines_text}
use Rattle.journal_folder.proofs.room.room_for.Given as goal

abbrev pub invariant-loop-line : goal.invariant-loop-line
invariant-loop-line l =
    l.bytes ≡ min (length (lines_text 0 (l.head ∷ map (λ line. line.items) (take l.line-index l.lines)))) (2 ^ 64 - 1)
