-- What a line of a venue's journal says.
use Rattle.std.specs.Prelude.{◌≡◌, ℕ, List, [], ◌∷◌, ◌++◌, length, take, drop, codes, Option, Some, None, Result, Ok, Err, ok_or, nat_lt, ◌==◌, if◌then◌else◌}
use Rattle.std.specs.Str.{bytes_eq}
use Rattle.fix_tags.specs.Number.{number_of}
use Rattle.fix_tags.specs.Stamp.{StampParts, stamp_read}
use Rattle.fix_text.specs.Then.{◌>>=◌}
use Rattle.leg.specs.Terms.{TermsParts}
use Rattle.leg.specs.declared.placed_leg.PlacedLeg.{PlacedLeg}
use Rattle.leg.specs.declared.sweep.Routed.{Routed}
use Rattle.dialect.specs.Plain.{plain_id_of}
use Rattle.dialect.specs.Split.{parts_round}
use Rattle.message_log.specs.declared.direction.Direction.{Direction}
use Rattle.message_log.specs.declared.direction.Direction.TheVariants as way
use Rattle.log_text.specs.Line.{LineSaid, line_said}
use Rattle.log_text.specs.declared.fault.LineFault.{LineFault}
use Rattle.log_text.specs.declared.fault.LineFault.TheVariants as log
use Rattle.sweep_text.specs.declared.command.Command.{Command}
use Rattle.sweep_text.specs.declared.command.Command.TheVariants.{Sweep}
use Rattle.sweep_text.specs.declared.line_fault.LineFault.{LineFault as SweepFault}
use Rattle.sweep_text.specs.Line.{line_says}
use Rattle.journal_words.specs.declared.act.Act.{Act}
use Rattle.journal_words.specs.declared.act.Act.TheVariants.{Connected, Confirmed, Quieted, Silenced, Closed, Broke, Abandoned}
use Rattle.journal_words.specs.declared.leg_act.LegAct.{LegAct}
use Rattle.journal_words.specs.declared.leg_act.LegAct.TheVariants.{Sent, Dropped, Failed}
use Rattle.journal_words.specs.declared.deed.Deed.{Deed}
use Rattle.journal_words.specs.declared.deed.Deed.TheVariants as deed
use Rattle.journal_words.specs.declared.deed.DeedLine.{DeedLine}
use Rattle.journal_words.specs.declared.fault.WordsFault.{WordsFault}
use Rattle.journal_words.specs.declared.fault.WordsFault.TheVariants as fault
use Rattle.journal_words.specs.Deed.{DeedSaid, Timed, timed}
use Rattle.journal_words.specs.Deed.DeedSaid.{Acts, OfLeg, Hears}

abbrev pub act_of : List ℕ → Option Act
act_of word =
    if bytes_eq word (codes "connect") then Some Connected
    else (if bytes_eq word (codes "confirm") then Some Confirmed
    else (if bytes_eq word (codes "quiet") then Some Quieted
    else (if bytes_eq word (codes "silent") then Some Silenced
    else (if bytes_eq word (codes "close") then Some Closed
    else (if bytes_eq word (codes "broken") then Some Broke
    else (if bytes_eq word (codes "abandon") then Some Abandoned else None))))))

abbrev pub leg_act_of : List ℕ → Option LegAct
leg_act_of word =
    if bytes_eq word (codes "send") then Some Sent
    else (if bytes_eq word (codes "drop") then Some Dropped
    else (if bytes_eq word (codes "fail") then Some Failed else None))

-- the terms of a sweep of one leg
abbrev pub only_terms : List Routed → Option TermsParts
only_terms (leg ∷ []) = Some leg.terms
only_terms _ = None

abbrev pub terms_asked : Result Command SweepFault → Option TermsParts
terms_asked (Ok (Sweep asked)) = only_terms asked.sweep.legs
terms_asked _ = None

-- terms are read as those of a sweep at some venue
abbrev pub terms_in : List ℕ → Result TermsParts WordsFault
terms_in words = ok_or (terms_asked (line_says (codes "V" ∷ []) (codes "sweep V " ++ words))) fault.Leg

-- a leg, as `3 S1L1 IBM buy 100 10.25`
unfoldable pub leg_of : List ℕ → Result PlacedLeg WordsFault
leg_of words = do
  first ← ok_or (parts_round 32 words) fault.Leg
  ordinal ← ok_or (number_of first.0) fault.Leg
  next ← ok_or (parts_round 32 first.1) fault.Leg
  id ← ok_or (plain_id_of next.0) fault.Leg
  terms ← terms_in next.1
  Ok (record { ordinal = ordinal; leg = record { id = id; terms = terms } })

abbrev pub act_said : Option Act → Result DeedSaid WordsFault
act_said None = Err fault.Word
act_said (Some act) = Ok (Acts act)

abbrev pub of_leg : LegAct → Result PlacedLeg WordsFault → Result DeedSaid WordsFault
of_leg act (Ok placed) = Ok (OfLeg act placed)
of_leg act (Err why) = Err why

abbrev pub leg_said : Option LegAct → List ℕ → Result DeedSaid WordsFault
leg_said None words = Err fault.Word
leg_said (Some act) words = of_leg act (leg_of words)

-- a word alone is that of a call, and one with others behind it that of a leg
abbrev pub said_of_parts : List ℕ → Option (List ℕ × List ℕ) → Result DeedSaid WordsFault
said_of_parts words None = act_said (act_of words)
said_of_parts words (Some parts) = leg_said (leg_act_of parts.0) parts.1

abbrev pub words_said : List ℕ → Result DeedSaid WordsFault
words_said words = said_of_parts words (parts_round 32 words)

-- what is behind a space
abbrev pub words_behind : List ℕ → Option (List ℕ)
words_behind [] = None
words_behind (c ∷ words) = if c == 32 then Some words else None

abbrev pub if_words : Option (List ℕ) → Result DeedSaid WordsFault
if_words None = Err fault.Word
if_words (Some words) = words_said words

abbrev pub behind_space : List ℕ → Result DeedSaid WordsFault
behind_space rest = if_words (words_behind rest)

abbrev pub at_time : StampParts → Result DeedSaid WordsFault → Result Timed WordsFault
at_time stamp (Ok deed) = Ok (timed stamp deed)
at_time stamp (Err why) = Err why

abbrev pub said_at : Option StampParts → List ℕ → Result Timed WordsFault
said_at None rest = Err fault.Time
said_at (Some stamp) rest = at_time stamp (behind_space rest)

-- a line that is no message's
unfoldable pub other_said : List ℕ → Result Timed WordsFault
other_said line =
    if nat_lt (length line) 22 then Err fault.Time else said_at (stamp_read (take 21 line)) (drop 21 line)

abbrev pub if_received : Direction → Timed → Result Timed WordsFault
if_received way.Received t = Ok t
if_received way.Sent t = Err fault.Word

-- a line that a log could have is that of a message which was received
abbrev pub logged_said : Result LineSaid LineFault → List ℕ → Result Timed WordsFault
logged_said (Ok said) line = if_received said.direction (timed said.stamp (Hears said.message))
logged_said (Err log.Direction) line = other_said line
logged_said (Err log.Short) line = Err fault.Time
logged_said (Err log.Time) line = Err fault.Time
logged_said (Err why) line = Err fault.Message

abbrev pub timed_said : List ℕ → Result Timed WordsFault
timed_said line = logged_said (line_said line) line

-- what is said, or its fault; or memory ran out
abbrev pub Reads : {X : Type 0} → Result X WordsFault → Result X WordsFault → Type 0
Reads said (Ok x) = said ≡ Ok x
Reads said (Err fault.OutOfMemory) = Unit {0}
Reads said (Err why) = said ≡ Err why

-- a deed of the code, where a message's fields are these
abbrev pub deed_in : Deed → List ℕ → DeedSaid
deed_in (deed.Act act) fields = Acts act
deed_in (deed.Leg act placed) fields = OfLeg act placed
deed_in deed.Heard fields = Hears fields

abbrev pub ReadsDeed : Result DeedSaid WordsFault → Result Deed WordsFault → List ℕ → Type 0
ReadsDeed said (Ok deed) fields = said ≡ Ok (deed_in deed fields)
ReadsDeed said (Err fault.OutOfMemory) fields = Unit {0}
ReadsDeed said (Err why) fields = said ≡ Err why

abbrev pub ReadsTimed : Result Timed WordsFault → Result DeedLine WordsFault → List ℕ → Type 0
ReadsTimed said (Ok line) fields = said ≡ Ok (timed line.stamp (deed_in line.deed fields))
ReadsTimed said (Err fault.OutOfMemory) fields = Unit {0}
ReadsTimed said (Err why) fields = said ≡ Err why
