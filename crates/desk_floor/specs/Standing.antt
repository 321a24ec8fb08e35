-- How a venue stands: by what its worker told of its session, whether its gate is shut, and the dial that failed last.
use Rattle.std.specs.Prelude.{ℕ, Bool, true, false, ◌||◌, ◌==◌, nat_lt, nat_le, List, Option, Some, None, codes, if◌then◌else◌}
use Rattle.leg.specs.Split.{SplitParts}
use Rattle.leg.specs.declared.leg_state.LegState.{LegState}
use Rattle.leg.specs.declared.leg_state.LegState.TheVariants.{Queued, Doubt, Taken, Withdrawn}
use Rattle.session_core.specs.declared.ended.Ended.{Ended}
use Rattle.session_core.specs.declared.ended.Ended.TheVariants.{PeerLogout, FirstNotLogon}
use Rattle.link.specs.declared.dial_error.DialError.{DialError}
use Rattle.link.specs.declared.dial_error.DialError.TheVariants.{Refused, TimedOut, HostUnreachable, NetworkUnreachable, NoSuchHost, Other}
use Rattle.venue_board.specs.declared.loss.Loss.{Loss}
use Rattle.venue_board.specs.declared.loss.Loss.TheVariants as loss
use Rattle.venue_board.specs.declared.progress.Progress.{Progress}
use Rattle.venue_board.specs.declared.progress.Progress.TheVariants as progress
use Rattle.desk_news.specs.declared.cause.Cause.{Cause}
use Rattle.desk_news.specs.declared.cause.Cause.TheVariants as of
use Rattle.desk_news.specs.declared.cause.Cause.TheVariants.{Said, Lost}
use Rattle.desk_news.specs.declared.venue_state.VenueState.{VenueState}
use Rattle.desk_news.specs.declared.venue_state.VenueState.TheVariants as state
use Rattle.desk_words.specs.Printable.{shown}
use Rattle.desk_floor.specs.declared.standing.Held.{Held}
use Rattle.desk_floor.specs.declared.standing.Held.TheVariants.{Paused, Halted}
use Rattle.desk_floor.specs.declared.standing.Standing.{Standing}
use Rattle.desk_floor.specs.declared.standing.Standing.TheVariants as stands
use Rattle.desk_floor.specs.declared.standing.Standing.TheVariants.{Dialled, Up, Down, Unreachable, Closed, Closing}

-- whether the exchange logged out, which ends its session for the day
abbrev pub is_logout : Loss → Bool
is_logout (loss.Ended PeerLogout) = true
is_logout other = false

-- why the last dial failed; one of which nothing is known failed otherwise than for a reason that has a name
abbrev pub error_or_other : Option DialError → DialError
error_or_other (Some error) = error
error_or_other None = Other

-- how a venue stands whose session is up, and that a person holds or doesn't
abbrev pub up_or_held : Option Held → Standing
up_or_held (Some held) = stands.Held held
up_or_held None = Up

-- how a venue stands whose worker told this, whose gate is shut or not, whose last dial failed so, and that a person
-- holds or doesn't
abbrev pub standing_of : Progress → Bool → Option DialError → Option Held → Standing
standing_of (progress.Down why) is_shut error held = if is_shut || is_logout why then Closed why else Down why
standing_of progress.Dialled is_shut error held = if is_shut then Closing else Dialled
standing_of progress.Up is_shut error held = if is_shut then Closing else up_or_held held
standing_of progress.Unreachable is_shut error held =
    if is_shut then Closing else Unreachable (error_or_other error)

-- whether a connection may have ended with the venue's Logout: as it logged out, or in the place of its Logon
abbrev pub ends_by_logout : Ended → Bool
ends_by_logout PeerLogout = true
ends_by_logout FirstNotLogon = true
ends_by_logout other = false

-- why a session ended its connection, with what the venue said as it logged out, if it did
abbrev pub ending_of : Ended → Option (List ℕ) → Cause
ending_of ended (Some text) = if ends_by_logout ended then Said ended text else of.Ended ended
ending_of ended None = of.Ended ended

-- why a connection ended, as a desk is told
abbrev pub cause_of : Loss → Option (List ℕ) → Cause
cause_of (loss.Ended ended) said = ending_of ended said
cause_of loss.PeerClosed said = Lost (shown 200 (codes "it closed the connection"))
cause_of loss.ReadFailed said = Lost (shown 200 (codes "read failed"))
cause_of loss.WriteFailed said = Lost (shown 200 (codes "write failed"))
cause_of loss.OutOfMemory said = Lost (shown 200 (codes "out of memory"))
cause_of loss.NumbersSpent said = Lost (shown 200 (codes "no number is left for a logon"))
cause_of loss.Parted said = ending_of PeerLogout said

-- why a dial failed, as a desk is told
abbrev pub dial_text : DialError → List ℕ
dial_text Refused = shown 200 (codes "connection refused")
dial_text TimedOut = shown 200 (codes "timed out")
dial_text HostUnreachable = shown 200 (codes "host unreachable")
dial_text NetworkUnreachable = shown 200 (codes "network unreachable")
dial_text NoSuchHost = shown 200 (codes "no such host")
dial_text Other = shown 200 (codes "dial failed")

-- what a desk is told of it, where the pause before the next dial lasts so many seconds, and the venue said this as it
-- logged out, if it did
abbrev pub state_of : Standing → ℕ → Option (List ℕ) → VenueState
state_of Dialled seconds said = state.Dialled
state_of Up seconds said = state.Up
state_of (stands.Held Paused) seconds said = state.Down (Lost (shown 200 (codes "paused")))
state_of (stands.Held Halted) seconds said = state.Down (Lost (shown 200 (codes "halted")))
state_of (Down why) seconds said = state.Down (cause_of why said)
state_of (Unreachable error) seconds said = state.Unreachable (dial_text error) seconds
state_of (Closed why) seconds said = state.Closed (cause_of why said)
state_of Closing seconds said = state.Closed (Lost (shown 200 (codes "the day is closing")))

-- how far a leg has come: the book has these parts of it, it is this one of its venue's legs, so many of which were
-- taken, and none up to the settled one is in doubt
abbrev pub leg_state_of : SplitParts → ℕ → ℕ → ℕ → LegState
leg_state_of parts ordinal taken settled =
    if nat_lt 0 parts.withdrawn then Withdrawn
    else if nat_lt taken ordinal then Queued
    else if nat_le ordinal settled || parts.still_open == 0 then Taken
    else Doubt
