-- What is spelled reads back, and is a line that a journal takes.
use Rattle.std.specs.Prelude.{◌≡◌, ℕ, ◌<◌, ◌≤◌, ◌^◌, true, slice_index, Ok}
use Rattle.fix_tags.specs.Stamp.{StampParts, IsStamp}
use Rattle.journal_record.specs.Record.{is_line}
use Rattle.leg.specs.Leg.{IsLeg}
use Rattle.leg.specs.declared.placed_leg.PlacedLeg.{PlacedLeg}
use Rattle.journal_words.specs.Deed.{DeedSaid, Timed}
use Rattle.journal_words.specs.Deed.DeedSaid.{Acts, OfLeg, Hears}
use Rattle.journal_words.specs.Words.{deed_line}
use Rattle.journal_words.specs.Reading.{timed_said}
use Rattle.journal_words.specs.Desk.{DeskSaid, desk_text, desk_said}
use Rattle.journal_words.specs.Desk.DeskSaid.{Places, Settles, Pauses, Resumes}

-- a leg whose parts are in range, and whose ordinal can be read
pub record IsPlaced (placed : PlacedLeg) : Type 0 where
  pub ordinal : placed.ordinal ≤ 999999999999
  pub leg : IsLeg placed.leg

-- a deed that can be read: its leg is in range, and its message's fields are bytes
abbrev pub IsReadable : DeedSaid → Type 0
IsReadable (Acts act) = Unit {0}
IsReadable (OfLeg act placed) = IsPlaced placed
IsReadable (Hears fields) = (k : ℕ) → slice_index fields k < 256

abbrev pub DeedsReadBack : Type 0
DeedsReadBack = (t : Timed) → IsStamp t.stamp → IsReadable t.deed → timed_said (deed_line t) ≡ Ok t

abbrev pub IsReadableDesk : DeskSaid → Type 0
IsReadableDesk (Places number line) = number ≤ 999999999999
IsReadableDesk _ = Unit {0}

abbrev pub DeskReadsBack : Type 0
DeskReadsBack =
    (stamp : StampParts) (said : DeskSaid) → IsStamp stamp → IsReadableDesk said
    → desk_said (desk_text stamp said) ≡ Ok (stamp, said)

-- a deed whose leg, if it has one, is in range
abbrev pub IsSpelled : DeedSaid → Type 0
IsSpelled (OfLeg act placed) = IsPlaced placed
IsSpelled _ = Unit {0}

-- the line of a deed has neither a NUL nor an end of line
abbrev pub DeedsAreLines : Type 0
DeedsAreLines = (t : Timed) → IsSpelled t.deed → is_line (deed_line t) ≡ true

-- what was done at the desk, where each text in it has neither
abbrev pub SaysLines : DeskSaid → Type 0
SaysLines (Places number line) = (number < 2 ^ 64) × (is_line line ≡ true)
SaysLines (Settles line) = is_line line ≡ true
SaysLines (Pauses venue) = is_line venue ≡ true
SaysLines (Resumes venue) = is_line venue ≡ true
SaysLines _ = Unit {0}

abbrev pub DeskDeedsAreLines : Type 0
DeskDeedsAreLines = (stamp : StampParts) (said : DeskSaid) → SaysLines said → is_line (desk_text stamp said) ≡ true
