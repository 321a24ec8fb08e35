-- How the two ends stand, as far as the messages show it.
use Rattle.std.specs.Prelude.{ℕ, ◌+◌, ◌-◌, ◌*◌, Bool, true, false, ◌&&◌, ◌||◌, Option, Some, None, is_some, unwrap_or, min, max, nat_le, nat_lt, ◌==◌, if◌then◌else◌}
use Rattle.message_log.specs.declared.direction.Direction.{Direction}
use Rattle.message_log.specs.declared.direction.Direction.TheVariants.{Sent, Received}
use Rattle.log_rules.specs.declared.entry.Entry.{Entry}
use Rattle.log_rules.specs.declared.moment.Moment.{Moment}
use Rattle.log_rules.specs.declared.says.Says.{Says}
use Rattle.log_rules.specs.declared.says.Says.TheVariants.{Logon, Answer, ResendRequest, GapFill, Reset, Logout, Report}
use Rattle.log_rules.specs.declared.standing.Phase.{Phase}
use Rattle.log_rules.specs.declared.standing.Phase.TheVariants.{Down, LoggingOn, LoggedOn}
use Rattle.log_rules.specs.declared.standing.Request.{Request}
use Rattle.log_rules.specs.declared.standing.Standing.{Standing}
use Rattle.log_rules.specs.Moment.{elapsed}

-- before any message
abbrev pub new_standing : Standing
new_standing = record {
  phase = Down;
  is_up = false;
  is_logged_out = false;
  is_peer_out = false;
  heart = 0;
  wrote_at = None;
  logon = 0;
  last = None;
  settled = 0;
  passed = 0;
  asked = None;
  awaited = None;
  says_next = false;
  resets = false;
  counted = None;
  seen = 0;
  request = None;
}

-- whether a number is at most the last one
abbrev pub was_reached : Option ℕ → ℕ → Bool
was_reached None number = false
was_reached (Some last) number = nat_le number last

-- whether the answer to a fence settles what is below it: it was sent in the present connection
abbrev pub settles : Standing → ℕ → Bool
settles s fence = nat_lt s.logon fence && was_reached s.last fence

-- whether a number is the one after the last that is counted
abbrev pub is_due : Option ℕ → ℕ → Bool
is_due None number = true
is_due (Some counted) number = number == counted + 1

-- how many milliseconds the session may be silent: the interval, a fifth of it for the way, and a second
abbrev pub allowed : ℕ → ℕ
allowed heart = 1200 * min heart 86400 + 1000

-- whether it was silent for longer
abbrev pub is_late_since : ℕ → Option Moment → Moment → Bool
is_late_since heart None moment = false
is_late_since heart (Some wrote_at) moment = nat_lt 0 heart && nat_lt (allowed heart) (elapsed wrote_at moment)

abbrev pub is_late : Standing → Moment → Bool
is_late s moment = is_late_since s.heart s.wrote_at moment

-- how far they are with a connection
abbrev pub phase_after : Phase → Direction → Says → Phase
phase_after phase Sent (Logon heart reset next) = LoggingOn
phase_after phase Received (Logon heart reset next) = LoggedOn
phase_after phase direction says = phase

-- whether a fence of the connection was answered
abbrev pub is_up_after : Standing → Direction → Says → Bool
is_up_after s Sent (Logon heart reset next) = false
is_up_after s Received (Answer fence) = s.is_up || settles s fence
is_up_after s direction says = s.is_up

-- whether the session logged out in the connection
abbrev pub is_logged_out_after : Bool → Direction → Says → Bool
is_logged_out_after is_logged_out Sent (Logon heart reset next) = false
is_logged_out_after is_logged_out Sent Logout = true
is_logged_out_after is_logged_out direction says = is_logged_out

-- whether the exchange logged out in the connection
abbrev pub is_peer_out_after : Bool → Direction → Says → Bool
is_peer_out_after is_peer_out Sent (Logon heart reset next) = false
is_peer_out_after is_peer_out Received Logout = true
is_peer_out_after is_peer_out direction says = is_peer_out

-- the heartbeat interval
abbrev pub heart_after : ℕ → Direction → Says → ℕ
heart_after heart Sent (Logon seconds reset next) = seconds
heart_after heart direction says = heart

-- when the session wrote last, or was found to be late
abbrev pub wrote_at_after : Standing → Direction → Moment → Option Moment
wrote_at_after s Sent moment = Some moment
wrote_at_after s Received moment = if is_late s moment then Some moment else s.wrote_at

-- the number of the session's Logon
abbrev pub logon_of : ℕ → Direction → Says → ℕ → ℕ
logon_of logon Sent (Logon heart reset next) number = number
logon_of logon direction says number = logon

abbrev pub logon_after : ℕ → Entry → ℕ
logon_after logon e = logon_of logon e.direction e.says e.number

-- the last number of the session once a new message was sent
abbrev pub last_new : Option ℕ → Direction → Says → ℕ → Option ℕ
last_new last Received says number = last
last_new last Sent (Reset new_number) number = Some (new_number - 1)
last_new last Sent says number = Some number

-- its last number; a message that may have been sent before has an old one
abbrev pub last_after : Option ℕ → Entry → Option ℕ
last_after last e = if e.poss_dup then last else last_new last e.direction e.says e.number

-- the number of the last fence that was answered
abbrev pub settled_after : Standing → Direction → Says → ℕ
settled_after s Sent (Logon heart reset next) = if reset then 0 else s.settled
settled_after s Received (Answer fence) = if settles s fence then max s.settled fence else s.settled
settled_after s direction says = s.settled

-- what the exchange is known to have passed: a fence that it answered, what is below the number that it asks for, and
-- an order that it reports on
abbrev pub passed_after : Standing → Option ℕ → Direction → Says → ℕ
passed_after s order Sent (Logon heart reset next) = if reset then 0 else s.passed
passed_after s order Received (Answer fence) = if settles s fence then max s.passed fence else s.passed
passed_after s order Received (ResendRequest begin last) =
    if was_reached s.last begin then max s.passed (begin - 1) else s.passed
passed_after s order Received (Report report) = max s.passed (unwrap_or order 0)
passed_after s order direction says = s.passed

-- from which number the exchange asked before the connection was up
abbrev pub asked_after : Standing → Direction → Says → Option ℕ
asked_after s Sent (Logon heart reset next) = None
asked_after s Received (Logon heart reset next) = if s.says_next then next else s.asked
asked_after s Received (ResendRequest begin last) = if s.is_up then s.asked else Some begin
asked_after s direction says = s.asked

-- what is asked for above a number
abbrev pub awaited_above : Option ℕ → ℕ → Option ℕ
awaited_above None number = None
awaited_above (Some begin) number = if nat_lt begin number then Some begin else None

abbrev pub awaited_by : Option ℕ → Direction → Says → Bool → ℕ → Option ℕ
awaited_by awaited Sent (Logon heart reset next) poss_dup number = None
awaited_by awaited Received (ResendRequest begin last) poss_dup number = Some begin
awaited_by awaited Sent says true number = awaited_above awaited number
awaited_by awaited direction says poss_dup number = awaited

-- from which number it asked and got no message again yet
abbrev pub awaited_after : Option ℕ → Entry → Option ℕ
awaited_after awaited e = awaited_by awaited e.direction e.says e.poss_dup e.number

-- whether the session's Logon says which number it expects next
abbrev pub says_next_after : Bool → Direction → Says → Bool
says_next_after says_next Sent (Logon heart reset next) = is_some next
says_next_after says_next direction says = says_next

-- whether it resets the numbers (141=Y)
abbrev pub resets_after : Bool → Direction → Says → Bool
resets_after resets Sent (Logon heart reset next) = reset
resets_after resets direction says = resets

-- a Logon of the exchange begins its numbers anew with number 1
abbrev pub begins_anew : Bool → ℕ → Bool
begins_anew reset number = reset && number == 1

abbrev pub counted_if : Option ℕ → ℕ → Option ℕ
counted_if counted number = if is_due counted number then Some number else counted

-- a gap fill at the number that is due, or below it, leads on to the number before its new one, and never back
abbrev pub counted_filled : Option ℕ → ℕ → ℕ → Option ℕ
counted_filled None number new_number = Some (new_number - 1)
counted_filled (Some counted) number new_number =
    if nat_le number (counted + 1) then Some (max counted (new_number - 1)) else Some counted

abbrev pub counted_by : Option ℕ → Direction → Says → ℕ → Option ℕ
counted_by counted Sent says number = counted
counted_by counted Received (Logon heart reset next) number =
    if begins_anew reset number then Some 1 else counted_if counted number
counted_by counted Received (Reset new_number) number = Some (new_number - 1)
counted_by counted Received (GapFill new_number) number = counted_filled counted number new_number
counted_by counted Received says number = counted_if counted number

-- the last number of the exchange that is counted
abbrev pub counted_after : Option ℕ → Entry → Option ℕ
counted_after counted e = counted_by counted e.direction e.says e.number

abbrev pub seen_by : ℕ → Direction → Says → ℕ → ℕ
seen_by seen Sent says number = seen
seen_by seen Received (Logon heart reset next) number = if begins_anew reset number then 1 else max seen number
seen_by seen Received says number = max seen number

-- the greatest number of the exchange that came
abbrev pub seen_after : ℕ → Entry → ℕ
seen_after seen e = seen_by seen e.direction e.says e.number

-- a resend request of the session that isn't answered yet: a gap fill over its own number takes it back, and a message
-- of the exchange under a number that it asks for, or one below, answers it
abbrev pub unless_filled : Option Request → ℕ → ℕ → Option Request
unless_filled None number new_number = None
unless_filled (Some request) number new_number =
    if nat_le number request.number && nat_lt request.number new_number then None else Some request

abbrev pub unless_answered : Option Request → ℕ → Option Request
unless_answered None number = None
unless_answered (Some request) number = if nat_le number request.begin then None else Some request

abbrev pub request_by : Option Request → Direction → Says → Bool → ℕ → Option Request
request_by request Sent (Logon heart reset next) poss_dup number = None
request_by request Sent (ResendRequest begin last) false number = Some (record { number = number; begin = begin })
request_by request Sent (GapFill new_number) poss_dup number = unless_filled request number new_number
request_by request Received says poss_dup number = unless_answered request number
request_by request direction says poss_dup number = request

-- the last resend request of the connection that isn't answered yet
abbrev pub request_after : Option Request → Entry → Option Request
request_after request e = request_by request e.direction e.says e.poss_dup e.number

-- how they stand after a message; a report is on the order of this number
abbrev pub after : Standing → Option ℕ → Entry → Standing
after s order e = record {
  phase = phase_after s.phase e.direction e.says;
  is_up = is_up_after s e.direction e.says;
  is_logged_out = is_logged_out_after s.is_logged_out e.direction e.says;
  is_peer_out = is_peer_out_after s.is_peer_out e.direction e.says;
  heart = heart_after s.heart e.direction e.says;
  wrote_at = wrote_at_after s e.direction e.moment;
  logon = logon_after s.logon e;
  last = last_after s.last e;
  settled = settled_after s e.direction e.says;
  passed = passed_after s order e.direction e.says;
  asked = asked_after s e.direction e.says;
  awaited = awaited_after s.awaited e;
  says_next = says_next_after s.says_next e.direction e.says;
  resets = resets_after s.resets e.direction e.says;
  counted = counted_after s.counted e;
  seen = seen_after s.seen e;
  request = request_after s.request e;
}
