-- The rules of the exchange that need no order (FIX 4.4 Volume 2).
use Rattle.std.specs.Prelude.{ℕ, ◌+◌, Bool, true, false, ◌&&◌, ◌||◌, not, Option, Some, None, nat_le, nat_lt, ◌==◌, if◌then◌else◌}
use Rattle.message_log.specs.declared.direction.Direction.{Direction}
use Rattle.message_log.specs.declared.direction.Direction.TheVariants.{Sent, Received}
use Rattle.log_rules.specs.declared.entry.Entry.{Entry}
use Rattle.log_rules.specs.declared.says.Says.{Says}
use Rattle.log_rules.specs.declared.says.Says.TheVariants.{Logon, Answer, ResendRequest, GapFill, Reset, Logout}
use Rattle.log_rules.specs.declared.standing.Phase.{Phase}
use Rattle.log_rules.specs.declared.standing.Phase.TheVariants.{LoggingOn}
use Rattle.log_rules.specs.declared.standing.Request.{Request}
use Rattle.log_rules.specs.declared.standing.Standing.{Standing}
use Rattle.log_rules.specs.declared.verdict.Verdict.{Verdict}
use Rattle.log_rules.specs.declared.verdict.Verdict.TheVariants.{Unasked, Held, Broken}
use Rattle.log_rules.specs.SessionRules.{is_logged_on}
use Rattle.log_rules.specs.Standing.{begins_anew, was_reached}
use Rattle.log_rules.specs.Verdict.{held_if}

abbrev pub is_logging_on : Phase → Bool
is_logging_on LoggingOn = true
is_logging_on _ = false

-- Logon: the first message of a connection is one that answers the session's, and no other comes. It resets the numbers
-- (141=Y) only where the session's does
abbrev pub logon_answered : Standing → Direction → Says → Verdict
logon_answered s Sent says = Unasked
logon_answered s Received Logout = Unasked
logon_answered s Received (Logon heart reset next) = held_if (is_logging_on s.phase && (not reset || s.resets))
logon_answered s Received says = held_if (is_logged_on s.phase)

abbrev pub new_behind : Bool → Direction → Says → Bool → Verdict
new_behind is_out Sent says poss_dup = Unasked
new_behind is_out Received (Logon heart reset next) poss_dup = Unasked
new_behind is_out Received (GapFill new_number) poss_dup = Unasked
new_behind is_out Received says true = Unasked
new_behind is_out Received says false = held_if (not is_out)

-- Logout: behind it the exchange sends nothing new in the connection, but what is asked for again
abbrev pub logout_last : Standing → Entry → Verdict
logout_last s e = new_behind s.is_peer_out e.direction e.says e.poss_dup

-- whether a message has to have a new number: it doesn't say that it was sent before, and is no gap fill and no reset
abbrev pub is_new : Says → ℕ → Bool → Bool
is_new (Logon heart reset next) number poss_dup = not (begins_anew reset number) && not poss_dup
is_new (GapFill new_number) number poss_dup = false
is_new (Reset new_number) number poss_dup = false
is_new says number poss_dup = not poss_dup

abbrev pub rises : Standing → Direction → Says → Bool → ℕ → Verdict
rises s Sent says poss_dup number = Unasked
rises s Received says poss_dup number = if is_new says number poss_dup then held_if (nat_lt s.seen number) else Unasked

-- Sequence Numbers: a new message of the exchange has a number above each that came
abbrev pub numbers_rise : Standing → Entry → Verdict
numbers_rise s e = rises s e.direction e.says e.poss_dup e.number

-- a resend request is for a range of numbers: to its last one, or to the end
abbrev pub is_range : ℕ → ℕ → Bool
is_range begin last = nat_lt 0 begin && (last == 0 || nat_le begin last)

-- a number was sent, or is the one after the last
abbrev pub is_next_upto : Option ℕ → ℕ → Bool
is_next_upto None number = false
is_next_upto (Some last) number = nat_le number (last + 1)

abbrev pub asks_rightly : Standing → Direction → Says → Verdict
asks_rightly s Received (ResendRequest begin last) =
    held_if (is_range begin last && nat_lt s.passed begin && was_reached s.last begin)
asks_rightly s Received (Logon heart reset (Some next)) =
    if s.says_next then held_if (nat_lt s.passed next && is_next_upto s.last next) else Unasked
asks_rightly s direction says = Unasked

-- Resend Request, and what a Logon says is expected next (789): it begins with a number that was sent, and that the
-- exchange isn't known to have passed
abbrev pub resend_asked : Standing → Entry → Verdict
resend_asked s e = if nat_le e.number s.seen then Unasked else asks_rightly s e.direction e.says

-- nothing below this number is asked for again
abbrev pub nothing_is_awaited : Option ℕ → ℕ → Bool
nothing_is_awaited None number = true
nothing_is_awaited (Some begin) number = nat_lt number begin

abbrev pub answers_rightly : Standing → Direction → Says → Verdict
answers_rightly s Received (Answer fence) =
    if nat_lt s.logon fence then held_if (was_reached s.last fence && nothing_is_awaited s.awaited fence) else Unasked
answers_rightly s direction says = Unasked

-- Test Request: a fence is answered once it was sent, and nothing below it is asked for again
abbrev pub fence_answered : Standing → Entry → Verdict
fence_answered s e = if nat_le e.number s.seen then Unasked else answers_rightly s e.direction e.says

abbrev pub unanswered_at : Option Request → Direction → Says → ℕ → Verdict
unanswered_at None direction says number = Unasked
unanswered_at (Some request) Sent says number = Unasked
unanswered_at (Some request) Received Logout number = if nat_le number request.begin then Held else Broken
unanswered_at (Some request) Received says number = if nat_le number request.begin then Held else Unasked

-- Resend Request: the exchange answers the session's, and doesn't log out before it did
abbrev pub resend_answered : Standing → Entry → Verdict
resend_answered s e = unanswered_at s.request e.direction e.says e.number
