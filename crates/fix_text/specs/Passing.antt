-- How far a stream was passed, by a place in the bytes that are kept of it.
use Rattle.std.specs.Prelude.{ℕ, ◌+◌, ◌-◌, ◌*◌, ◌≤◌, List, length, drop, slice_range}
use Rattle.std.specs.Prelude.{Option, Some, None, option_map, IfSome}
use Rattle.fix_text.specs.Reading.{Stream, NextFrame}
use Rattle.fix_text.specs.Placing.{fields_at, AreWithin}
use Rattle.fix_text.specs.declared.cursor.Body.{Body}
use Rattle.fix_text.specs.declared.cursor.Scan.{Scan}
use Rattle.fix_text.specs.declared.cursor.Cursor.{Cursor}
use Rattle.fix_text.specs.declared.place.Place.{Place}

-- the stream that is left
abbrev pub left_of : List ℕ → Cursor → Stream
left_of bytes passed = record { rest = drop passed.end bytes; skipped = passed.skipped; garbled = passed.garbled }

-- the bytes of a body
abbrev pub body_in : List ℕ → Body → List ℕ
body_in bytes body = slice_range bytes body.start body.end

-- the fields at the places of a body, if there is one, and the stream that is left
abbrev pub found_in : List ℕ → List Place → Option Body → Cursor → NextFrame
found_in bytes places body passed =
    record { frame = option_map (λ body. fields_at (body_in bytes body) places) body; stream = left_of bytes passed }

-- the body lies within the bytes, and the places within the body
pub record IsBody (bytes : List ℕ) (body : Body) (places : List Place) : Type 0 where
  pub ordered : body.start ≤ body.end
  pub within : body.end ≤ length bytes
  pub each : AreWithin (body_in bytes body) places

-- what was found lies within the bytes, and no more than 4,103 bytes lie from the start of a frame's body to its end
pub record LiesWithin (bytes : List ℕ) (found : Scan) : Type 0 where
  pub end : found.cursor.end ≤ length bytes
  pub ordered : IfSome found.body (λ body. body.start ≤ body.end)
  pub body : IfSome found.body (λ body. body.end ≤ found.cursor.end)
  pub near : IfSome found.body (λ body. found.cursor.end ≤ body.start + 4103)

-- where that begins which is still of use: the body that was found, or what isn't passed
abbrev pub useful_from : Option Body → ℕ → ℕ
useful_from (Some body) end = body.start
useful_from None end = end

-- a body in bytes that begin so many later
abbrev pub body_after : ℕ → Option Body → Option Body
body_after count (Some body) = Some (record { start = body.start - count; end = body.end - count })
body_after count None = None

-- the most bytes that a reader keeps while so many aren't passed: twice as many, with the frame that is lent, and 8,192
abbrev pub most_kept : ℕ → ℕ
most_kept left = 2 * (left + 4103) + 8192
