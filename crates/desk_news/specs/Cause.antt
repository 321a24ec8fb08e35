-- Why a connection ended, in words.
use Rattle.std.specs.Prelude.{ℕ, List, ◌++◌, codes}
use Rattle.session_core.specs.declared.ended.Ended.{Ended}
use Rattle.session_core.specs.declared.ended.Ended.TheVariants.{FirstNotLogon, TooLow, WrongComp, ResetRefused, ResendInDoubt, BadResend, PeerLogout, LogonAgain, BadGapFill, Silent, Malformed, LogoutDone, BadNextExpected, PeerForgot}
use Rattle.desk_news.specs.declared.cause.Cause.{Cause}
use Rattle.desk_news.specs.declared.cause.Cause.TheVariants as cause

-- why a session ended its connection; "it" is the exchange
abbrev pub ending_text : Ended → List ℕ
ending_text FirstNotLogon = codes "its first message was no logon (E01)"
ending_text TooLow = codes "it used a number again (E02)"
ending_text WrongComp = codes "it named a wrong comp id (E03)"
ending_text ResetRefused = codes "it began its numbers anew (E04)"
ending_text ResendInDoubt = codes "it asked for legs in doubt again (E05)"
ending_text BadResend = codes "it asked for numbers that were not sent (E06)"
ending_text PeerLogout = codes "it logged out (E07)"
ending_text LogonAgain = codes "it logged on again (E08)"
ending_text BadGapFill = codes "it filled a gap backwards (E09)"
ending_text Silent = codes "it was silent (E10)"
ending_text Malformed = codes "it sent a malformed message (E11)"
ending_text LogoutDone = codes "it answered our logout (E12)"
ending_text BadNextExpected = codes "it expects a number that was not sent (E13)"
ending_text PeerForgot = codes "it forgot numbers that it had taken (E14)"

-- why a connection ended, as `it was silent (E10)`, `it logged out (E07): back at noon` or `connection reset`
abbrev pub cause_text : Cause → List ℕ
cause_text (cause.Ended ended) = ending_text ended
cause_text (cause.Said ended text) = ending_text ended ++ codes ": " ++ text
cause_text (cause.Lost why) = why
