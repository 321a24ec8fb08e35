-- What the reading decides of a place, in the words of the grammar.
use Rattle.std.specs.Prelude.{◌≡◌, ℕ, zero, suc, List, [], ◌++◌, Option, Some, None, Result, Ok, Err}
use Rattle.fix_text.specs.declared.parse.NoFrame.{NoFrame}
use Rattle.fix_text.specs.declared.parse.NoFrame.TheVariants.{Short, Differs}
use Rattle.fix_text.specs.Tagged.{Tagged}
use Rattle.fix_text.specs.Grammar.{IsFrame, BeginsWithFrame, IsBeginning, Pass, Given, Takes, Passes, given_of, garbled_of, skipped_of}
use Rattle.fix_text.specs.Reading.{RawFrameParts, Stream, NextFrame, one_more}

-- a frame stands there, the beginning of one, or neither; never two of them
abbrev pub Decides : List ℕ → Result RawFrameParts NoFrame → Type 0
Decides bytes (Ok whole) = (frame : List ℕ) × IsFrame frame × (bytes ≡ frame ++ whole.rest) × (IsBeginning bytes → ⊥)
Decides bytes (Err Short) = IsBeginning bytes × (BeginsWithFrame bytes → ⊥)
Decides bytes (Err Differs) = (BeginsWithFrame bytes → ⊥) × (IsBeginning bytes → ⊥)

-- a count that rose by one so many times, and stopped at its greatest value
abbrev pub counted : ℕ → ℕ → ℕ
counted n zero = n
counted n (suc more) = counted (one_more n) more

-- where the passing ends: behind a valid frame of these fields, or at the beginning of a frame
abbrev pub Ends : Option (List Tagged) → List ℕ → List ℕ → Type 0
Ends (Some fields) bytes rest = (text : List ℕ) × Takes (Given text fields) bytes rest
Ends None bytes rest = (bytes ≡ rest) × IsBeginning bytes

-- the next valid frame of a stream: what stands before it is no valid frame, and is passed and counted; with no such
-- frame the stream is passed up to the beginning of one
pub record IsNext (old : Stream) (new : NextFrame) : Type 0 where
  pub before : List Pass
  pub middle : List ℕ
  pub passes : Passes before old.rest middle
  pub no_valid : given_of before ≡ []
  pub ends : Ends new.frame middle new.stream.rest
  pub skipped : new.stream.skipped ≡ counted old.skipped (skipped_of before)
  pub garbled : new.stream.garbled ≡ counted old.garbled (garbled_of before)
