-- What becomes of a venue by what its two ends do.
use Rattle.std.specs.Prelude.{ℕ, Bool, List, [], ◌∷◌, map, Ok, Err}
use Rattle.std.specs.Global.{Vec}
use Rattle.dialect.specs.FreeText.{IsFreeText}
use Rattle.dialect.specs.declared.message.Message.{Message}
use Rattle.session_core.specs.Session.{SessionParts, new_session}
use Rattle.session_core.specs.Turn.{StepParts}
use Rattle.session_core.specs.Calling.{SessionAnswer, quiet, silent, close}
use Rattle.exchange_core.specs.Acts.{ActAnswer}
use Rattle.exchange_core.specs.Exchange.{live_connection}
use Rattle.venue_replay.specs.declared.frame.Frame.{Frame}
use Rattle.venue_replay.specs.declared.step_call.StepCall.{StepCall}
use Rattle.venue_replay.specs.declared.step_call.StepCall.TheVariants.{Quiet, Silent, Close}
use Rattle.schedule.specs.declared.act.Act.{Act}
use Rattle.schedule.specs.declared.act.Act.TheVariants as act
use Rattle.schedule.specs.World.{VenueParts, session_config}
use Rattle.schedule.specs.Happening.{session_wrote, exchange_did}

-- the frames of what was written into a connection
abbrev pub written_in : ℕ → List (Vec ℕ) → List Frame
written_in connection written = map (λ bytes. record { connection = connection; bytes = bytes }) written

-- the dispatcher's side is that of a new venue: the exchange and the frames that it wrote are as they were
abbrev pub begun_again : ℕ → Bool → VenueParts → VenueParts
begun_again max_number next venue = record venue {
  session = new_session (session_config max_number next);
  to_exchange = [];
  given = [];
}

-- a call of the session that writes one message
abbrev pub sent : VenueParts → SessionAnswer Message → VenueParts
sent venue (Ok message, session) = session_wrote session (message ∷ []) venue
sent venue (Err fault, session) = record venue { session = session }

-- what a session gives that is called so, and the session after it
abbrev pub answer_of : StepCall → SessionParts → SessionAnswer StepParts
answer_of Quiet s = quiet s
answer_of Silent s = silent s
answer_of Close s = close s

-- a call of the session that gives a step
abbrev pub called : VenueParts → SessionAnswer StepParts → VenueParts
called venue (Ok step, session) = session_wrote session step.written venue
called venue (Err fault, session) = record venue { session = session }

-- what the exchange does by itself
abbrev pub acted : VenueParts → ActAnswer → VenueParts
acted venue (Ok written, exchange) = exchange_did (live_connection venue.exchange) written exchange venue
acted venue (Err fault, exchange) = record venue { exchange = exchange }

-- the price of a trade is one that a venue may pick
abbrev pub IsActInRange : Act → Type 0
IsActInRange (act.Trade order shares px) = IsFreeText 20 px
IsActInRange a = Unit {0}
