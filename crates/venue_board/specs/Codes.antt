-- The codes under which a board keeps how far a session is.
use Rattle.std.specs.Prelude.{List, [], ◌∷◌}
use Rattle.session_core.specs.declared.ended.Ended.TheVariants.{FirstNotLogon, TooLow, WrongComp, ResetRefused, ResendInDoubt, BadResend, PeerLogout, LogonAgain, BadGapFill, Silent, Malformed, LogoutDone, BadNextExpected, PeerForgot}
use Rattle.venue_board.specs.declared.loss.Loss.TheVariants.{Ended, PeerClosed, ReadFailed, WriteFailed, OutOfMemory, NumbersSpent, Parted}
use Rattle.venue_board.specs.declared.progress.Progress.{Progress}
use Rattle.venue_board.specs.declared.progress.Progress.TheVariants.{Dialled, Up, Unreachable, Down}

-- how far a session may be, each at the place of its code
abbrev pub progresses : List Progress
progresses =
    Dialled ∷ Up ∷ Unreachable
    ∷ Down PeerClosed ∷ Down ReadFailed ∷ Down WriteFailed ∷ Down OutOfMemory ∷ Down NumbersSpent
    ∷ Down (Ended FirstNotLogon) ∷ Down (Ended TooLow) ∷ Down (Ended WrongComp) ∷ Down (Ended ResetRefused)
    ∷ Down (Ended ResendInDoubt) ∷ Down (Ended BadResend) ∷ Down (Ended PeerLogout) ∷ Down (Ended LogonAgain)
    ∷ Down (Ended BadGapFill) ∷ Down (Ended Silent) ∷ Down (Ended Malformed) ∷ Down (Ended LogoutDone)
    ∷ Down (Ended BadNextExpected) ∷ Down (Ended PeerForgot) ∷ Down Parted ∷ []
