-- How many bytes a reader waits for, once it has looked at the beginning of a frame.
use Rattle.std.specs.Prelude.{ℕ, ◌+◌, ◌-◌, ◌<◌, max, List, ◌++◌, length, Option, Some, None, Result, Ok, Err}
use Rattle.fix_text.specs.Then.{◌>>=◌}
use Rattle.fix_text.specs.Tagged.{Tagged}
use Rattle.fix_text.specs.Grammar.{opening, IsBeginning}
use Rattle.fix_text.specs.Reading.{literal_at, length_at}
use Rattle.fix_text.specs.declared.parse.NoFrame.{NoFrame}

-- how many bytes of its body are still to come, once its BodyLength (9) is there
unfoldable pub body_missing : List ℕ → Result ℕ NoFrame
body_missing bytes = do
  digits ← literal_at opening bytes
  size ← length_at 6 0 digits
  Ok (size.0 - length size.1)

-- so many bytes, with those that are missing, and one at least
abbrev pub with_missing : ℕ → Result ℕ NoFrame → ℕ
with_missing count (Ok missing) = count + max missing 1
with_missing count (Err stop) = count + 1

-- the least length at which the beginning of a frame may turn out to be a whole one, or none: its body is there
abbrev pub least_length : List ℕ → ℕ
least_length bytes = with_missing (length bytes) (body_missing bytes)

-- how many bytes a reader waits for behind the frame that it found, or at the beginning of one
abbrev pub waits_after : Option (List Tagged) → List ℕ → ℕ
waits_after (Some fields) rest = 0
waits_after None rest = least_length rest

-- whatever comes behind these bytes, up to that length they are only the beginning of a frame
abbrev pub WaitsFor : ℕ → List ℕ → Type 0
WaitsFor count bytes = (more : List ℕ) → length (bytes ++ more) < count → IsBeginning (bytes ++ more)
