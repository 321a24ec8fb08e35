-- The lines of the desk's journal: what was placed, and what a person did.
use Rattle.std.specs.Prelude.{ℕ, List, [], ◌∷◌, ◌++◌, length, take, drop, codes, decimal, Option, Some, None, Result, Ok, Err, nat_lt, ◌==◌, if◌then◌else◌}
use Rattle.std.specs.Str.{bytes_eq}
use Rattle.fix_tags.specs.Number.{number_of}
use Rattle.fix_tags.specs.Stamp.{StampParts, stamp_text, stamp_read}
use Rattle.dialect.specs.Split.{parts_round}
use Rattle.journal_words.specs.declared.desk_deed.DeskDeed.{DeskDeed}
use Rattle.journal_words.specs.declared.desk_deed.DeskDeed.TheVariants as deed
use Rattle.journal_words.specs.declared.fault.WordsFault.{WordsFault}
use Rattle.journal_words.specs.declared.fault.WordsFault.TheVariants as fault

-- a sweep was placed under this number, for which its caller wrote this line; a leg in doubt was settled, by this
-- line; a venue of this name was paused or resumed; all were halted; the day ended
pub data DeskSaid : Type 0 where
  Places : (number : ℕ) → (line : List ℕ) → DeskSaid
  Settles : (line : List ℕ) → DeskSaid
  Pauses : (venue : List ℕ) → DeskSaid
  Resumes : (venue : List ℕ) → DeskSaid
  Halts : DeskSaid
  Ends : DeskSaid

abbrev pub desk_words : DeskSaid → List ℕ
desk_words (Places number line) = codes "place " ++ decimal number ++ codes " " ++ line
desk_words (Settles line) = codes "settle " ++ line
desk_words (Pauses venue) = codes "pause " ++ venue
desk_words (Resumes venue) = codes "resume " ++ venue
desk_words Halts = codes "halt"
desk_words Ends = codes "end"

-- a line, as `20261124-14:30:00.123 place 12 sweep NYSE IBM buy 100 10.25`, without its end
abbrev pub desk_text : StampParts → DeskSaid → List ℕ
desk_text stamp said = stamp_text stamp ++ codes " " ++ desk_words said

-- what a line says

abbrev pub alone_said : List ℕ → Result DeskSaid WordsFault
alone_said word =
    if bytes_eq word (codes "halt") then Ok Halts
    else (if bytes_eq word (codes "end") then Ok Ends else Err fault.Word)

abbrev pub numbered_line : List ℕ → Option ℕ → Result DeskSaid WordsFault
numbered_line line None = Err fault.Word
numbered_line line (Some number) = Ok (Places number line)

abbrev pub placed_said : Option (List ℕ × List ℕ) → Result DeskSaid WordsFault
placed_said None = Err fault.Word
placed_said (Some parts) = numbered_line parts.1 (number_of parts.0)

abbrev pub with_rest : List ℕ → List ℕ → Result DeskSaid WordsFault
with_rest word rest =
    if bytes_eq word (codes "place") then placed_said (parts_round 32 rest)
    else (if bytes_eq word (codes "settle") then Ok (Settles rest)
    else (if bytes_eq word (codes "pause") then Ok (Pauses rest)
    else (if bytes_eq word (codes "resume") then Ok (Resumes rest) else Err fault.Word)))

abbrev pub desk_parts_said : List ℕ → Option (List ℕ × List ℕ) → Result DeskSaid WordsFault
desk_parts_said words None = alone_said words
desk_parts_said words (Some parts) = with_rest parts.0 parts.1

abbrev pub desk_behind_space : List ℕ → Result DeskSaid WordsFault
desk_behind_space [] = Err fault.Word
desk_behind_space (c ∷ words) =
    if c == 32 then desk_parts_said words (parts_round 32 words) else Err fault.Word

abbrev pub desk_at : Option StampParts → Result DeskSaid WordsFault → Result (StampParts × DeskSaid) WordsFault
desk_at None said = Err fault.Time
desk_at (Some stamp) (Ok said) = Ok (stamp, said)
desk_at (Some stamp) (Err why) = Err why

unfoldable pub desk_said : List ℕ → Result (StampParts × DeskSaid) WordsFault
desk_said line =
    if nat_lt (length line) 21 then Err fault.Time
    else desk_at (stamp_read (take 21 line)) (desk_behind_space (drop 21 line))

-- a deed of the code
abbrev pub desk_deed_in : DeskDeed → DeskSaid
desk_deed_in (deed.Place number line) = Places number line.now
desk_deed_in (deed.Settle line) = Settles line.now
desk_deed_in (deed.Pause venue) = Pauses venue.now
desk_deed_in (deed.Resume venue) = Resumes venue.now
desk_deed_in deed.Halt = Halts
desk_deed_in deed.End = Ends
