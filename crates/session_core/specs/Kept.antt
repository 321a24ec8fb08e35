-- A session as its parts are kept.
use Rattle.std.specs.Prelude.{◌≡◌, ◌<◌, ℕ, List}
use Rattle.fix_tags.specs.Config.{ConfigParts}
use Rattle.resend.specs.Log.{Entry}
use Rattle.session_core.specs.declared.session_state.SessionState.{SessionState}
use Rattle.session_core.specs.Session.{SessionParts, next_out}
use Rattle.session_core.specs.Sound.{IsSound}

-- the state of which these are the parts
abbrev pub viewed : ConfigParts → List Entry → List ℕ → ℕ → SessionState → SessionParts
viewed config log fences connection at = record {
  config = config;
  phase = at.phase;
  log = log;
  settled = at.settled;
  connection = connection;
  current = record {
    logon_number = at.logon_number;
    fences = fences;
    closing_fence = at.closing_fence;
    requested = at.requested;
    pending = at.pending;
    silent = at.silent;
  };
  expected = at.expected;
  close_asked = at.close_asked;
}

-- the promises stand, the log ends before the number that no message may have, and each connection spent a number
pub record IsKept (max_number : ℕ) (s : SessionParts) : Type 0 where
  pub sound : IsSound s
  pub limit : max_number ≡ s.config.max_number
  pub counted : s.connection < next_out s

-- the session with another standing
abbrev pub standing_at : SessionParts → SessionState → SessionParts
standing_at s at = viewed s.config s.log s.current.fences s.connection at
