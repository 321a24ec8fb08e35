-- What a line of QuickFIX's FileLog says, as `20261124-14:30:00.123456789 : 8=FIX.4.4..` without its end.
use Rattle.std.specs.Prelude.{◌≡◌, ℕ, ◌&&◌, List, [], ◌∷◌, length, take, drop, Option, Some, None, Result, Ok, Err, ok_or, nat_le, nat_lt, ◌==◌, if◌then◌else◌}
use Rattle.std.specs.Str.{bytes_eq}
use Rattle.fix_text.specs.Then.{◌>>=◌}
use Rattle.fix_tags.specs.Stamp.{StampParts, stamp_read}
use Rattle.message_log.specs.declared.direction.Direction.{Direction}
use Rattle.message_log.specs.declared.direction.Direction.TheVariants.{Sent, Received}
use Rattle.log_text.specs.declared.fault.LineFault.{LineFault}
use Rattle.log_text.specs.declared.fault.LineFault.TheVariants as fault
use Rattle.log_text.specs.declared.quickfix.QuickfixLine.{QuickfixLine}

-- when a message was logged, and its bytes
pub record QuickfixSaid : Type 0 where
  pub stamp : StampParts
  pub message : List ℕ

-- what stands behind the digits that a text begins with
abbrev pub past_digits : List ℕ → List ℕ
past_digits [] = []
past_digits (c ∷ cs) = if nat_le 48 c && nat_le c 57 then past_digits cs else c ∷ cs

-- what stands behind ` : `
abbrev pub past_mark : List ℕ → Option (List ℕ)
past_mark (a ∷ b ∷ c ∷ cs) = if (a == 32) && (b == 58) && (c == 32) then Some cs else None
past_mark other = None

-- the time, and the message behind what is below its milliseconds, or the first fault
abbrev pub quickfix_at_places : List ℕ → Result QuickfixSaid LineFault
quickfix_at_places line = do
  stamp ← ok_or (stamp_read (take 21 line)) fault.Time
  message ← ok_or (past_mark (past_digits (drop 21 line))) fault.Mark
  Ok (record { stamp = stamp; message = message })

-- what a line says
abbrev pub quickfix_said : List ℕ → Result QuickfixSaid LineFault
quickfix_said line = if nat_lt (length line) 24 then Err fault.Short else quickfix_at_places line

-- what a line says, or its first fault
abbrev pub ReadsQuickfix : Result QuickfixSaid LineFault → Result QuickfixLine LineFault → Type 0
ReadsQuickfix said (Ok line) = said ≡ Ok (record { stamp = line.stamp; message = line.message.now })
ReadsQuickfix said (Err why) = said ≡ Err why

-- which way a message between two ends went, as the desk of a name sees it
abbrev pub direction_between : List ℕ → List ℕ → List ℕ → Option Direction
direction_between sender target desk =
    if bytes_eq sender desk then Some Sent else (if bytes_eq target desk then Some Received else None)
