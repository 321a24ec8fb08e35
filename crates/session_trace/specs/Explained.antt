-- A whole log that is explained.
use Rattle.std.specs.Prelude.{List}
use Rattle.fix_tags.specs.Config.{ConfigParts}
use Rattle.dialect.specs.Wording.{Wording}
use Rattle.session_core.specs.declared.session_call.SessionCall.{SessionCall}
use Rattle.session_trace.specs.declared.shown.Shown.{Shown}
use Rattle.session_trace.specs.Shows.{TraceParts, Shows}
use Rattle.session_trace.specs.Written.{IsWritten}

-- the log is that of a new session of this configuration which made these calls. Where it ends, frames may be due that
-- it doesn't show, and others may be unheard
pub record IsExplained (w : Wording) (config : ConfigParts) (log : List Shown) : Type 0 where
  pub calls : List SessionCall
  pub at : TraceParts
  pub shows : Shows w config log calls at
  pub written : IsWritten w config log calls at

-- the log is that of some session
pub record IsOfSession (w : Wording) (log : List Shown) : Type 0 where
  pub config : ConfigParts
  pub explained : IsExplained w config log
