-- The venues, in JSON.
use Rattle.std.specs.Prelude.{ℕ, ◌-◌, List, [], ◌++◌, codes, decimal, Option, Some, None}
use Rattle.json.specs.Print.{quoted}
use Rattle.session_core.specs.declared.ended.Ended.{Ended}
use Rattle.session_core.specs.declared.ended.Ended.TheVariants.{FirstNotLogon, TooLow, WrongComp, ResetRefused, ResendInDoubt, BadResend, PeerLogout, LogonAgain, BadGapFill, Silent, Malformed, LogoutDone, BadNextExpected, PeerForgot}
use Rattle.desk_news.specs.declared.cause.Cause.{Cause}
use Rattle.desk_news.specs.declared.cause.Cause.TheVariants as cause
use Rattle.desk_news.specs.declared.venue_state.VenueState.{VenueState}
use Rattle.desk_news.specs.declared.venue_state.VenueState.TheVariants.{Dialled, Up, Down, Unreachable, Closed}
use Rattle.desk_json.specs.declared.standing.VenueRow.{VenueRow}
use Rattle.desk_json.specs.Executions.{unbooked_json}
use Rattle.desk_json.specs.Parted.{parted}

-- why a session ended its connection; "it" is the exchange
abbrev pub ending_words : Ended → List ℕ
ending_words FirstNotLogon = codes "its first message was no logon"
ending_words TooLow = codes "it used a number again"
ending_words WrongComp = codes "it named a wrong comp id"
ending_words ResetRefused = codes "it began its numbers anew"
ending_words ResendInDoubt = codes "it asked for legs in doubt again"
ending_words BadResend = codes "it asked for numbers that were not sent"
ending_words PeerLogout = codes "it logged out"
ending_words LogonAgain = codes "it logged on again"
ending_words BadGapFill = codes "it filled a gap backwards"
ending_words Silent = codes "it was silent"
ending_words Malformed = codes "it sent a malformed message"
ending_words LogoutDone = codes "it answered our logout"
ending_words BadNextExpected = codes "it expects a number that was not sent"
ending_words PeerForgot = codes "it forgot numbers that it had taken"

-- its code
abbrev pub ending_code : Ended → List ℕ
ending_code FirstNotLogon = codes "E01"
ending_code TooLow = codes "E02"
ending_code WrongComp = codes "E03"
ending_code ResetRefused = codes "E04"
ending_code ResendInDoubt = codes "E05"
ending_code BadResend = codes "E06"
ending_code PeerLogout = codes "E07"
ending_code LogonAgain = codes "E08"
ending_code BadGapFill = codes "E09"
ending_code Silent = codes "E10"
ending_code Malformed = codes "E11"
ending_code LogoutDone = codes "E12"
ending_code BadNextExpected = codes "E13"
ending_code PeerForgot = codes "E14"

-- why a session ended its connection, as it stands in an object behind the state
abbrev pub ended_json : Ended → List ℕ
ended_json ended =
    codes ",\"text\":\"" ++ ending_words ended ++ codes "\",\"code\":\"" ++ ending_code ended ++ codes "\""

-- why a connection was lost, or a dial failed
abbrev pub lost_json : List ℕ → List ℕ
lost_json why = codes ",\"text\":" ++ quoted why

-- why a dial failed, and in how many seconds the next one is
abbrev pub failed_dial_json : List ℕ → ℕ → List ℕ
failed_dial_json why seconds = lost_json why ++ codes ",\"next_s\":" ++ decimal seconds

-- that a venue is unreachable
abbrev pub unreachable_json : List ℕ → ℕ → List ℕ
unreachable_json why seconds = codes "\"unreachable\"" ++ failed_dial_json why seconds

-- why a connection ended
abbrev pub cause_json : Cause → List ℕ
cause_json (cause.Ended ended) = ended_json ended
cause_json (cause.Said ended text) = ended_json ended ++ codes ",\"said\":" ++ quoted text
cause_json (cause.Lost why) = lost_json why

-- a venue's state with its cause, as `"down","text":"it was silent","code":"E10"`
abbrev pub state_json : VenueState → List ℕ
state_json Dialled = codes "\"dialled\""
state_json Up = codes "\"up\""
state_json (Down cause) = codes "\"down\"" ++ cause_json cause
state_json (Unreachable why seconds) = unreachable_json why seconds
state_json (Closed cause) = codes "\"closed\"" ++ cause_json cause

-- how many milliseconds ago the last message came, with the end of the object
abbrev pub heard_json : Option ℕ → List ℕ
heard_json None = codes "null}"
heard_json (Some ms) = decimal ms ++ codes "}"

-- how many of its settled legs the exchange took: those that weren't withdrawn
abbrev pub accepted : VenueRow → ℕ
accepted venue = venue.settled - venue.withdrawn

-- the counts of a venue's legs, and of the lines that its log lost
unfoldable pub leg_counts_json : VenueRow → List ℕ
leg_counts_json venue =
    codes ",\"unsent\":" ++ decimal venue.status.unsent ++ codes ",\"doubt\":" ++ decimal venue.status.doubt
    ++ codes ",\"settled\":" ++ decimal venue.settled ++ codes ",\"accepted\":" ++ decimal (accepted venue)
    ++ codes ",\"withdrawn\":" ++ decimal venue.withdrawn
    ++ codes ",\"contradicted\":" ++ decimal venue.status.contradicted
    ++ codes ",\"lost\":" ++ decimal venue.status.lost

-- the counts of what went both ways, with the key of what stands behind them
unfoldable pub traffic_json : VenueRow → List ℕ
traffic_json venue =
    codes ",\"connections\":" ++ decimal venue.connections ++ codes ",\"refused_dials\":"
    ++ decimal venue.refused_dials ++ codes ",\"sent\":" ++ decimal venue.messages_sent
    ++ codes ",\"received\":" ++ decimal venue.messages_received
    ++ codes ",\"bytes_sent\":" ++ decimal venue.bytes_sent
    ++ codes ",\"bytes_received\":" ++ decimal venue.bytes_received ++ codes ",\"heard_ms_ago\":"

-- the counts of a venue, with the key of what stands behind them
unfoldable pub counts_json : VenueRow → List ℕ
counts_json venue =
    leg_counts_json venue ++ codes ",\"unbooked\":" ++ unbooked_json venue.unbooked ++ traffic_json venue

-- as `{"venue":"ARCA","state":"down","text":"it was silent","code":"E10","unsent":0,..,"heard_ms_ago":64000}`
abbrev pub venue_json : VenueRow → List ℕ
venue_json venue =
    codes "{\"venue\":\"" ++ venue.status.venue ++ codes "\",\"state\":" ++ state_json venue.status.state
    ++ counts_json venue ++ heard_json venue.heard_ms_ago

-- as `{"venues":[..]}`
abbrev pub venues_json : List VenueRow → List ℕ
venues_json venues = codes "{\"venues\":[" ++ parted venue_json [] venues ++ codes "]}"
