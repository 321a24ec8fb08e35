-- A session takes no number again that its exchange had passed. Whoever keeps the rules tells it none.
use Rattle.std.specs.Prelude.{◌≡◌, ◌≤◌, false, List, Some}
use Rattle.std.specs.List.{All, Contains}
use Rattle.fix_tags.specs.Config.{ConfigParts}
use Rattle.dialect.specs.declared.message.Message.{Message}
use Rattle.session_core.specs.declared.ended.Ended.TheVariants.{PeerForgot}
use Rattle.session_core.specs.Onward.{forgets}
use Rattle.session_core.specs.Receiving.{receive}
use Rattle.exchange_core.specs.Keeping.{carried}
use Rattle.venue_line.specs.Line.{Line, new_line, AreSteps}
use Rattle.line_restart.specs.Lives.{Life, AreLives, all_moments}

-- a message tells no number that was passed, and its connection doesn't end so
pub record IsUnguarded (w : Line) (m : Message) : Type 0 where
  pub forgets_none : forgets w.session m.content ≡ false
  pub ends_none : (receive w.session m).step.ended ≡ Some PeerForgot → ⊥

-- whatever the exchange wrote in the present connection, and may come now
abbrev pub MeetsNoGuard : Line → Type 0
MeetsNoGuard w = (m : Message) → Contains w.from_exchange (carried w.session.connection m) → IsUnguarded w m

-- whatever an exchange does that keeps the rules, and whatever is delivered, lost, repeated or broken
abbrev pub TheGuardCostsNothing : Type 0
TheGuardCostsNothing = (config : ConfigParts) (lines : List Line) → config.max_number ≤ 999999999
    → AreSteps (new_line config) lines → All MeetsNoGuard lines

-- and whenever the dispatcher is killed, and however often
abbrev pub TheGuardOverRestarts : Type 0
TheGuardOverRestarts = (config : ConfigParts) (first : Life) (lives : List Life) → config.max_number ≤ 999999999
    → first.start ≡ new_line config → AreLives first lives → All MeetsNoGuard (all_moments first lives)
