-- A reader under calls, by what each of them gave.
use Rattle.std.specs.Prelude.{◌≡◌, ℕ, List, [], ◌∷◌, ◌++◌, Some, None}
use Rattle.fix_text.specs.Tagged.{Tagged}
use Rattle.fix_text.specs.Grammar.{Pass, Passes, given_of, garbled_of, skipped_of}
use Rattle.fix_text.specs.Reading.{Stream, fed}
use Rattle.fix_text.specs.Deciding.{counted, IsNext}

-- what a call gave: bytes were fed, or refused; or a frame of these fields, or that more bytes are needed, or a refusal
pub data Called : Type 0 where
  Fed : List ℕ → Called
  FeedRefused : List ℕ → Called
  Gave : List Tagged → Called
  Waits : Called
  NextRefused : Called

-- so such a call leads from one stream to the next: a refused one changes nothing
abbrev pub Leads : Called → Stream → Stream → Type 0
Leads (Fed bytes) old new = new ≡ fed old bytes
Leads (FeedRefused bytes) old new = new ≡ old
Leads (Gave fields) old new = IsNext old (record { frame = Some fields; stream = new })
Leads Waits old new = IsNext old (record { frame = None; stream = new })
Leads NextRefused old new = new ≡ old

-- so calls do, one after the other
abbrev pub CallsLead : List Called → Stream → Stream → Type 0
CallsLead [] old new = old ≡ new
CallsLead (call ∷ calls) old new = (middle : Stream) × Leads call old middle × CallsLead calls middle new

-- the stream of a new reader
abbrev pub new_stream : Stream
new_stream = record { rest = []; skipped = 0; garbled = 0 }

-- all bytes that the calls fed, in order
abbrev pub bytes_fed : List Called → List ℕ
bytes_fed [] = []
bytes_fed (Fed bytes ∷ calls) = bytes ++ bytes_fed calls
bytes_fed (FeedRefused bytes ∷ calls) = bytes_fed calls
bytes_fed (Gave fields ∷ calls) = bytes_fed calls
bytes_fed (Waits ∷ calls) = bytes_fed calls
bytes_fed (NextRefused ∷ calls) = bytes_fed calls

-- the frames that the calls gave, each as its fields, in order
abbrev pub frames_given : List Called → List (List Tagged)
frames_given [] = []
frames_given (Fed bytes ∷ calls) = frames_given calls
frames_given (FeedRefused bytes ∷ calls) = frames_given calls
frames_given (Gave fields ∷ calls) = fields ∷ frames_given calls
frames_given (Waits ∷ calls) = frames_given calls
frames_given (NextRefused ∷ calls) = frames_given calls

-- the frames are the first valid ones of the bytes, in order, and the counts are of what stands between them
pub record AreFirst (bytes : List ℕ) (frames : List (List Tagged)) (stream : Stream) : Type 0 where
  pub passes : List Pass
  pub passed : Passes passes bytes stream.rest
  pub given : given_of passes ≡ frames
  pub skipped : stream.skipped ≡ counted 0 (skipped_of passes)
  pub garbled : stream.garbled ≡ counted 0 (garbled_of passes)
