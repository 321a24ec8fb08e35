-- When a worker does something by itself.
use Rattle.std.specs.Prelude.{ℕ, Bool, true, false, ◌+◌, ◌*◌, ◌-◌, ◌≤◌, min, nat_lt, nat_le, List, [], ◌∷◌, Option, Some, None, if◌then◌else◌}
use Rattle.std.specs.Option.{option_map}
use Rattle.resend.specs.declared.sent.Sent.{Sent}
use Rattle.session_core.specs.declared.phase.Phase.{Phase}
use Rattle.session_core.specs.declared.phase.Phase.TheVariants as phase
use Rattle.session_worker.specs.declared.pace.Pace.{Pace}
use Rattle.session_worker.specs.declared.pace.Pace.TheVariants.{Turns, Time}

-- a pace by turns, and not by the clock
abbrev pub is_by_turns : Pace → Bool
is_by_turns (Turns quiet silent) = true
is_by_turns Time = false

-- for how long nothing is written, in turns or in milliseconds, until a Heartbeat is due; the interval is in seconds
abbrev pub quiet_of : Pace → ℕ → ℕ
quiet_of (Turns quiet silent) interval = quiet
quiet_of Time interval = interval * 1000

-- for how long nothing is received until the exchange is asked, and again until the connection ends
abbrev pub silent_of : Pace → ℕ → ℕ
silent_of (Turns quiet silent) interval = silent
silent_of Time interval = interval * 1200

-- since when nothing is received, once the session was told where that is so for as long
abbrev pub received_after : ℕ → ℕ → ℕ → ℕ
received_after silent moment received = if nat_le silent (moment - received) then moment else received

-- the first pause before a dial, in milliseconds
abbrev pub pause_of : Pace → ℕ
pause_of (Turns quiet silent) = 0
pause_of Time = 250

-- the least pause after the exchange logged out first
abbrev pub parted_pause_of : Pace → ℕ
parted_pause_of (Turns quiet silent) = 0
parted_pause_of Time = 5000

-- a moment that lies a pause behind another, less a quarter of it at most; or it is the clock's last one
abbrev pub IsPaused : ℕ → ℕ → ℕ → Type 0
IsPaused now pause due = (due ≤ now + pause) × (min (now * 4 + pause * 3) 73786976294838206460 ≤ due * 4)

-- for how many milliseconds a fence is put off while messages come: for a leg in doubt a second, and ten where the
-- answer to the last fence, which had this number, is still to come; none is written where none would settle anything
abbrev pub fence_wait : Phase → List Sent → ℕ → Option ℕ
fence_wait phase.Up [] number = None
fence_wait phase.Up (first ∷ doubts) number = Some (if nat_lt first.number number then 10000 else 1000)
fence_wait phase.Settling doubts number = Some 10000
fence_wait phase.Closing doubts number = Some 10000
fence_wait _ doubts number = None

-- how many of them are left at a moment; none where none will be due, and none by turns or before a message was heard
abbrev pub fence_left : Bool → Option ℕ → ℕ → ℕ → Option ℕ
fence_left may_ask wait since moment = if may_ask then option_map (λ millis. millis - (moment - since)) wait else None
