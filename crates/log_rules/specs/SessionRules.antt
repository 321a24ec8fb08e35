-- The rules of the session (FIX 4.4 Volume 2).
use Rattle.std.specs.Prelude.{ℕ, ◌+◌, ◌-◌, Bool, true, false, ◌&&◌, ◌||◌, not, Option, Some, None, nat_le, nat_lt, ◌==◌, if◌then◌else◌}
use Rattle.message_log.specs.declared.direction.Direction.{Direction}
use Rattle.message_log.specs.declared.direction.Direction.TheVariants.{Sent, Received}
use Rattle.log_rules.specs.declared.entry.Entry.{Entry}
use Rattle.log_rules.specs.declared.moment.Moment.{Moment}
use Rattle.log_rules.specs.declared.says.Says.{Says}
use Rattle.log_rules.specs.declared.says.Says.TheVariants.{Logon, GapFill, Logout}
use Rattle.log_rules.specs.declared.standing.Phase.{Phase}
use Rattle.log_rules.specs.declared.standing.Phase.TheVariants.{LoggedOn}
use Rattle.log_rules.specs.declared.standing.Standing.{Standing}
use Rattle.log_rules.specs.declared.verdict.Verdict.{Verdict}
use Rattle.log_rules.specs.declared.verdict.Verdict.TheVariants.{Unasked}
use Rattle.log_rules.specs.Standing.{is_late, was_reached}
use Rattle.log_rules.specs.Verdict.{held_if}

-- a number is the one after the last
abbrev pub follows : ℕ → ℕ → Bool
follows last number = number == last + 1

abbrev pub follows_if : Option ℕ → ℕ → Verdict
follows_if None number = Unasked
follows_if (Some last) number = held_if (follows last number)

-- a Logon begins a connection: its number is above the last, which a message may have had that couldn't be written
abbrev pub begins_if : Option ℕ → ℕ → Verdict
begins_if None number = Unasked
begins_if (Some last) number = held_if (nat_lt last number)

abbrev pub sent_new : Option ℕ → Says → ℕ → Verdict
sent_new last (Logon heart reset next) number = if reset then Unasked else begins_if last number
sent_new last says number = follows_if last number

abbrev pub sent_number : Option ℕ → Direction → Bool → Says → ℕ → Verdict
sent_number last Received poss_dup says number = Unasked
sent_number last Sent true says number = Unasked
sent_number last Sent false says number = sent_new last says number

-- Sequence Numbers: a new message has the number after the last one, and a Logon one above it
abbrev pub sent_numbers : Option ℕ → Entry → Verdict
sent_numbers last e = sent_number last e.direction e.poss_dup e.says e.number

-- before the connection is up, the exchange asked for this number or one below it
abbrev pub is_asked : Standing → Option ℕ → ℕ → Bool
is_asked s None number = false
is_asked s (Some asked) number = not s.is_up && nat_le asked number

-- a gap fill is at settled numbers alone: below the last fence that was answered, or from where the exchange asks
-- before the connection is up
abbrev pub is_safe_fill : Standing → ℕ → ℕ → Bool
is_safe_fill s number new_number = nat_le (new_number - 1) s.settled || is_asked s s.asked number

abbrev pub gap_fill : Standing → Direction → Says → Bool → ℕ → Verdict
gap_fill s Sent (GapFill new_number) poss_dup number =
    held_if (poss_dup && nat_lt number new_number && was_reached s.last (new_number - 1)
    && is_safe_fill s number new_number)
gap_fill s direction says poss_dup number = Unasked

-- Sequence Reset (Gap Fill): it stands under an old number, with 43=Y, for settled numbers alone
abbrev pub gap_fills : Standing → Entry → Verdict
gap_fills s e = gap_fill s e.direction e.says e.poss_dup e.number

abbrev pub is_logged_on : Phase → Bool
is_logged_on LoggedOn = true
is_logged_on _ = false

-- Logon: nothing else but a Logout is sent before it is answered
abbrev pub logon_first : Phase → Direction → Says → Verdict
logon_first phase Received says = Unasked
logon_first phase Sent (Logon heart reset next) = Unasked
logon_first phase Sent Logout = Unasked
logon_first phase Sent says = held_if (is_logged_on phase)

abbrev pub in_time : Standing → Direction → Says → Moment → Verdict
in_time s Sent (Logon heart reset next) moment = Unasked
in_time s direction says moment = held_if (not (is_late s moment))

-- Heartbeat: while both are logged on the session isn't silent for longer than the interval
abbrev pub heartbeats : Standing → Entry → Verdict
heartbeats s e =
    if not (is_logged_on s.phase) || s.is_logged_out then Unasked else in_time s e.direction e.says e.moment
