-- What a line of the log says, as `20261124-14:30:00.123 > 8=FIX.4.4|9=..|` without its end.
use Rattle.std.specs.Prelude.{◌≡◌, ℕ, Bool, true, List, [], ◌∷◌, length, take, drop, codes, Option, Some, None, Result, Ok, Err, ok_or, nat_lt, ◌==◌, if◌then◌else◌}
use Rattle.std.specs.Str.{bytes_eq}
use Rattle.fix_text.specs.Then.{◌>>=◌}
use Rattle.fix_tags.specs.Stamp.{StampParts, stamp_read}
use Rattle.message_log.specs.declared.direction.Direction.{Direction}
use Rattle.message_log.specs.declared.direction.Direction.TheVariants.{Sent, Received}
use Rattle.log_text.specs.declared.fault.LineFault.{LineFault}
use Rattle.log_text.specs.declared.fault.LineFault.TheVariants as fault
use Rattle.log_text.specs.declared.line.LogLine.{LogLine}
use Rattle.log_text.specs.Message.{message_said}

-- when a message was logged, which way it went, and its bytes
pub record LineSaid : Type 0 where
  pub stamp : StampParts
  pub direction : Direction
  pub message : List ℕ

-- a line without a message: it is blank, or begins with `#`
abbrev pub is_passed_over : List ℕ → Bool
is_passed_over [] = true
is_passed_over (c ∷ cs) = c == 35

-- the direction of a mark with its spaces
abbrev pub direction_said : List ℕ → Option Direction
direction_said mark =
    if bytes_eq mark (codes " > ") then Some Sent
    else (if bytes_eq mark (codes " < ") then Some Received else None)

-- what stands at its places in a line that is long enough: the time, the direction and the message, or the first fault
abbrev pub said_at_places : List ℕ → Result LineSaid LineFault
said_at_places line = do
  stamp ← ok_or (stamp_read (take 21 line)) fault.Time
  direction ← ok_or (direction_said (take 3 (drop 21 line))) fault.Direction
  message ← message_said (drop 24 line)
  Ok (record { stamp = stamp; direction = direction; message = message })

-- what a line says
abbrev pub line_said : List ℕ → Result LineSaid LineFault
line_said line = if nat_lt (length line) 24 then Err fault.Short else said_at_places line

-- what a line says, or its first fault; or out of memory
abbrev pub ReadsLine : Result LineSaid LineFault → Result LogLine LineFault → List ℕ → Type 0
ReadsLine said (Ok line) message =
    said ≡ Ok (record { stamp = line.stamp; direction = line.direction; message = message })
ReadsLine said (Err fault.OutOfMemory) message = Unit {0}
ReadsLine said (Err why) message = said ≡ Err why
