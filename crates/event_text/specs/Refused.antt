-- Why a call was refused, with its code, and why a session ended its connection.
use Rattle.std.specs.Prelude.{ℕ, List, ◌++◌, codes, decimal}
use Rattle.exchange_core.specs.declared.exchange_fault.ExchangeFault.{ExchangeFault}
use Rattle.exchange_core.specs.declared.exchange_fault.ExchangeFault.TheVariants as exchange
use Rattle.session_core.specs.declared.ended.Ended.{Ended}
use Rattle.session_core.specs.declared.ended.Ended.TheVariants.{FirstNotLogon, TooLow, WrongComp, ResetRefused, ResendInDoubt, BadResend, PeerLogout, LogonAgain, BadGapFill, Silent, Malformed, LogoutDone, BadNextExpected, PeerForgot}
use Rattle.session_core.specs.declared.session_fault.SessionFault.{SessionFault}
use Rattle.session_core.specs.declared.session_fault.SessionFault.TheVariants as session
use Rattle.sweep_release.specs.declared.gate_fault.GateFault.{GateFault}
use Rattle.sweep_release.specs.declared.gate_fault.GateFault.TheVariants as gate
use Rattle.sweep_release.specs.declared.release_fault.ReleaseFault.{ReleaseFault}
use Rattle.sweep_release.specs.declared.release_fault.ReleaseFault.TheVariants as release
use Rattle.replay.specs.declared.refusal.Refusal.{Refusal}
use Rattle.replay.specs.declared.refusal.Refusal.TheVariants.{Release, Gate, Session, Exchange}

abbrev pub release_text : ReleaseFault → List ℕ
release_text release.Empty = codes "R01 empty"
release_text release.TooManyLegs = codes "R02 too many legs"
release_text (release.UnknownVenue venue) = codes "R03 unknown venue " ++ decimal venue
release_text (release.GateShut venue) = codes "R04 gate shut " ++ decimal venue
release_text (release.BacklogFull venue) = codes "R05 backlog full " ++ decimal venue
release_text release.SweepsSpent = codes "R06 sweeps spent"
release_text release.OutOfMemory = codes "R07 out of memory"
release_text release.WrongBook = codes "R08 wrong book"

abbrev pub gate_text : GateFault → List ℕ
gate_text gate.NotDrained = codes "G01 not drained"
gate_text gate.Closed = codes "G02 closed"
gate_text gate.OutOfMemory = codes "G03 out of memory"

abbrev pub session_text : SessionFault → List ℕ
session_text session.NotDown = codes "S01 not down"
session_text session.Closed = codes "S02 closed"
session_text session.NumbersSpent = codes "S03 numbers spent"
session_text session.OutOfMemory = codes "S04 out of memory"
session_text session.NotUp = codes "S05 not up"
session_text session.OrdinalNotGreater = codes "S06 ordinal not greater"
session_text session.NotConnected = codes "S07 not connected"

abbrev pub exchange_text : ExchangeFault → List ℕ
exchange_text exchange.NoSuchOrder = codes "X01 no such order"
exchange_text exchange.TooManyShares = codes "X02 too many shares"
exchange_text exchange.Done = codes "X03 done"
exchange_text exchange.OutOfMemory = codes "X04 out of memory"
exchange_text exchange.NumbersSpent = codes "X05 numbers spent"
exchange_text exchange.NoSuchTrade = codes "X06 no such trade"
exchange_text exchange.NotCancelled = codes "X07 not cancelled"

-- as `refused: R04 gate shut 0`
abbrev pub refusal_text : Refusal → List ℕ
refusal_text (Release fault) = codes "refused: " ++ release_text fault
refusal_text (Gate fault) = codes "refused: " ++ gate_text fault
refusal_text (Session fault) = codes "refused: " ++ session_text fault
refusal_text (Exchange fault) = codes "refused: " ++ exchange_text fault

abbrev pub ended_text : Ended → List ℕ
ended_text FirstNotLogon = codes "E01 first message is no logon"
ended_text TooLow = codes "E02 number too low"
ended_text WrongComp = codes "E03 wrong comp id"
ended_text ResetRefused = codes "E04 reset refused"
ended_text ResendInDoubt = codes "E05 resend in doubt"
ended_text BadResend = codes "E06 bad resend request"
ended_text PeerLogout = codes "E07 peer logged out"
ended_text LogonAgain = codes "E08 logon again"
ended_text BadGapFill = codes "E09 bad gap fill"
ended_text Silent = codes "E10 silent"
ended_text Malformed = codes "E11 malformed"
ended_text LogoutDone = codes "E12 logout done"
ended_text BadNextExpected = codes "E13 bad next expected number"
ended_text PeerForgot = codes "E14 peer forgot what it took"
