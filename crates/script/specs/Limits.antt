-- The limits of a script.
use Rattle.std.specs.Prelude.{◌≡◌, ◌≤◌, length}
use Rattle.schedule.specs.Script.{ScriptParts}

-- there are 1 to 16 venues, each with its dialect, and the number that no message has is 16 to 999,999,999
pub record IsWithinLimits (script : ScriptParts) : Type 0 where
  pub low : 1 ≤ length script.next
  pub high : length script.next ≤ 16
  pub each : length script.dialects ≡ length script.next
  pub least : 16 ≤ script.max_number
  pub most : script.max_number ≤ 999999999
