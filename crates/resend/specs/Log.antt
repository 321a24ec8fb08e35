-- The numbers sent: what each was spent on, and what a resend request is answered with (FIX 4.4 Volume 2, "Resend
-- Request").
use Rattle.std.specs.Prelude.{ℕ, suc, ◌+◌, min, Bool, true, false, ◌&&◌, ◌==◌, nat_lt, nat_le, if◌then◌else◌}
use Rattle.std.specs.Prelude.{List, [], ◌∷◌, ◌++◌, length, Option, Some, None, Result, Ok, Err}
use Rattle.fix_tags.specs.Range.{range_end, is_range}
use Rattle.leg.specs.LegId.{LegIdParts}
use Rattle.leg.specs.Numbered.{numbered}
use Rattle.leg.specs.declared.leg_state.LegState.{LegState}
use Rattle.leg.specs.declared.leg_state.LegState.TheVariants.{Doubt, Taken, Withdrawn}
use Rattle.resend.specs.declared.log_fault.LogFault.{LogFault}
use Rattle.resend.specs.declared.log_fault.LogFault.TheVariants.{NumbersSpent}

-- a leg that was sent: which of the legs released to the venue it is, from 1, and how far it is settled
pub record SentLeg : Type 0 where
  pub ordinal : ℕ
  pub id : LegIdParts
  pub state : LegState

-- what a number was spent on
pub data Entry : Type 0 where
  Admin : Entry
  Sent : (leg : SentLeg) → Entry

-- A log is the list of what was sent, in the order of the numbers, which begin at 1.

-- the last number sent, 0 at first, and the one after it
abbrev pub last_number : List Entry → ℕ
last_number log = length log

abbrev pub next_to_send : List Entry → ℕ
next_to_send log = length log + 1

-- whether a number is left, below the one that no message may have
abbrev pub has_number : ℕ → List Entry → Bool
has_number max_number log = nat_lt (next_to_send log) max_number

-- a number is spent, and answered with the log after it; where none is left the log stays as it was
abbrev pub spend : ℕ → Entry → List Entry → Result ℕ LogFault × List Entry
spend max_number entry log =
    if has_number max_number log then (Ok (next_to_send log), log ++ entry ∷ []) else (Err NumbersSpent, log)

-- the leg that a number was spent on
abbrev pub leg_of : Option Entry → Option LegIdParts
leg_of (Some (Sent leg)) = Some leg.id
leg_of _ = None

abbrev pub leg_at : ℕ → List Entry → Option LegIdParts
leg_at number log = leg_of (numbered number log)

-- the legs sent, in the order of their numbers, each with its number, the first entry having this one
abbrev pub sent_from : ℕ → List Entry → List (ℕ × SentLeg)
sent_from number [] = []
sent_from number (Admin ∷ log) = sent_from (suc number) log
sent_from number (Sent leg ∷ log) = (number, leg) ∷ sent_from (suc number) log

abbrev pub sent_legs : List Entry → List (ℕ × SentLeg)
sent_legs log = sent_from 1 log

-- the state of the leg of an ordinal, if it was sent
abbrev pub state_in : ℕ → List (ℕ × SentLeg) → Option LegState
state_in ordinal [] = None
state_in ordinal ((number, leg) ∷ legs) = if leg.ordinal == ordinal then Some leg.state else state_in ordinal legs

abbrev pub state_of : ℕ → List Entry → Option LegState
state_of ordinal log = state_in ordinal (sent_legs log)

-- the ordinal of the last leg sent, 0 at first
abbrev pub last_ordinal_after : ℕ → List Entry → ℕ
last_ordinal_after ordinal [] = ordinal
last_ordinal_after ordinal (Admin ∷ log) = last_ordinal_after ordinal log
last_ordinal_after ordinal (Sent leg ∷ log) = last_ordinal_after leg.ordinal log

abbrev pub last_ordinal : List Entry → ℕ
last_ordinal log = last_ordinal_after 0 log

abbrev pub is_doubt : LegState → Bool
is_doubt Doubt = true
is_doubt _ = false

-- the legs in doubt under a number or above it, in the order of their numbers
abbrev pub doubt_in : ℕ → List (ℕ × SentLeg) → List LegIdParts
doubt_in least [] = []
doubt_in least ((number, leg) ∷ legs) =
    if is_doubt leg.state && nat_le least number then leg.id ∷ doubt_in least legs else doubt_in least legs

abbrev pub doubt_from : ℕ → List Entry → List LegIdParts
doubt_from least log = doubt_in least (sent_legs log)

-- whether some leg is in doubt
abbrev pub is_nonempty : List LegIdParts → Bool
is_nonempty [] = false
is_nonempty (id ∷ ids) = true

abbrev pub in_doubt : List Entry → Bool
in_doubt log = is_nonempty (doubt_from 0 log)

-- a leg in doubt is settled; one that is settled stays as it is
abbrev pub settled_as : LegState → SentLeg → SentLeg
settled_as state leg = if is_doubt leg.state then record leg { state = state } else leg

abbrev pub entry_settled : LegState → Entry → Entry
entry_settled state Admin = Admin
entry_settled state (Sent leg) = Sent (settled_as state leg)

-- the entries whose numbers pass a test, the first of them having this number, are settled
abbrev pub settled_where : (ℕ → Bool) → LegState → ℕ → List Entry → List Entry
settled_where test state number [] = []
settled_where test state number (entry ∷ log) =
    (if test number then entry_settled state entry else entry) ∷ settled_where test state (suc number) log

-- the legs in doubt below a number are taken: their venue has them
abbrev pub take_below : ℕ → List Entry → List Entry
take_below least log = settled_where (λ number. nat_lt number least) Taken 1 log

-- the legs in doubt under a number or above it are withdrawn: their venue never takes them
abbrev pub give_up_from : ℕ → List Entry → List Entry
give_up_from least log = settled_where (λ number. nat_le least number) Withdrawn 1 log

-- a gap fill: its number is the first that it stands for, and new_number is the next that is sent after it
pub record GapFillParts : Type 0 where
  pub first : ℕ
  pub new_number : ℕ

-- the last number that is filled: that of the range that is asked for, and no further than top
abbrev pub fill_end : ℕ → ℕ → ℕ → ℕ
fill_end sent last top = min top (range_end sent last)

-- what the request for a range is answered with, cut at top, if the range is one and begins no higher
abbrev pub fill_for : ℕ → ℕ → ℕ → List Entry → Option GapFillParts
fill_for begin last top log =
    if is_range (last_number log) begin last && nat_le begin top
    then Some (record { first = begin; new_number = fill_end (last_number log) last top + 1 })
    else None
