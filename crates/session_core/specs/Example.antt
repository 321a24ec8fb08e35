-- A session between A and B, as the worked cases have it.
use Rattle.std.specs.Prelude.{ℕ, true, false, List, [], ◌∷◌, map, codes, Option, Some, None, Ok, Err}
use Rattle.fix_tags.specs.Config.{ConfigParts}
use Rattle.leg.specs.declared.side.Side.TheVariants.{Buy}
use Rattle.leg.specs.declared.leg.Leg.{Leg}
use Rattle.dialect.specs.declared.report.Report.{Report}
use Rattle.dialect.specs.declared.report.ReportKind.TheVariants.{New}
use Rattle.dialect.specs.declared.content.Content.{Content}
use Rattle.dialect.specs.declared.message.Message.{Message}
use Rattle.dialect.specs.declared.content.Content.TheVariants.{Session}
use Rattle.fix_tags.specs.declared.session_body.SessionBody.TheVariants.{Logon, Heartbeat}
use Rattle.session_core.specs.declared.ended.Ended.{Ended}
use Rattle.session_core.specs.Session.{SessionParts, new_session}
use Rattle.session_core.specs.Turn.{StepParts, Turn}
use Rattle.session_core.specs.Receiving.{receive}
use Rattle.session_core.specs.Calling.{SessionAnswer, connect, send_leg, close, broken}

abbrev pub config : ConfigParts
config = record { me = codes "A"; peer = codes "B"; heart = 30; max_number = 1000; has_next = false }

-- the same, where the venue chose to be told the next expected number (789)
abbrev pub told_config : ConfigParts
told_config = record config { has_next = true }

-- the same, where two messages alone may be sent
abbrev pub few_config : ConfigParts
few_config = record config { max_number = 3 }

-- a message from B to A
abbrev pub from_b : ℕ → Content → Message
from_b number content =
    record { from = codes "B"; to = codes "A"; number = number; poss_dup = false; content = content }

abbrev pub again : Message → Message
again m = record m { poss_dup = true }

abbrev pub connected : SessionParts → SessionParts
connected s = (connect s).1

abbrev pub heard : SessionParts → List Message → SessionParts
heard s [] = s
heard s (m ∷ ms) = heard (receive s m).session ms

-- logged on, with its fence not yet answered
abbrev pub settling : SessionParts
settling = heard (connected (new_session config)) (from_b 1 (Session (Logon 30 false None)) ∷ [])

-- logged on, with the fence of number 2 answered: the settled number is 2, and 3 is expected
abbrev pub up_of : ConfigParts → SessionParts
up_of of =
    heard (connected (new_session of))
    (from_b 1 (Session (Logon 30 false None))
    ∷ from_b 2 (Session (Heartbeat (Some (codes "F2")))) ∷ [])

abbrev pub up : SessionParts
up = up_of config

-- a buy of 100 BRK.B at 10.25 dollars, as leg 1 of sweep 1
abbrev pub leg : Leg
leg = record {
  id = record { sweep = 1; place = 1 };
  terms =
      record { symbol = record { root = codes "BRK"; suffix = codes "B" }; side = Buy; shares = 100; price = 102500 };
}

abbrev pub sent : SessionParts → ℕ → SessionParts
sent s ordinal = (send_leg s ordinal leg).1

-- a leg was sent, its connection broke, and the next one is settling; or it logs on, where the venue chose to be told
-- the next expected number (789). The settled number is 2, and the leg in doubt has number 3
abbrev pub settling_again : SessionParts
settling_again = heard (connected (broken (sent up 1))) (from_b 3 (Session (Logon 30 false None)) ∷ [])

abbrev pub logging_on_again : SessionParts
logging_on_again = connected (broken (sent (up_of told_config) 1))

-- a report that the leg's order was taken
abbrev pub report : Report
report = record { id = leg.id; exec = codes "E1"; kind = New }

-- a close was asked, and its fence written; and then answered
abbrev pub closing : SessionParts
closing = (close up).1

abbrev pub logged_out : SessionParts
logged_out = heard closing (from_b 3 (Session (Heartbeat (Some (codes "F3")))) ∷ [])

-- the numbers and contents of what was written
abbrev pub told : Message → ℕ × Content
told m = (m.number, m.content)

abbrev pub written_of : Turn → List (ℕ × Content)
written_of turn = map told turn.step.written

abbrev pub written_by : SessionAnswer StepParts → List (ℕ × Content)
written_by (Ok step, after) = map told step.written
written_by (Err fault, after) = []

abbrev pub ended_by : Turn → Option Ended
ended_by turn = turn.step.ended

abbrev pub ended_in : SessionAnswer StepParts → Option Ended
ended_in (Ok step, after) = step.ended
ended_in (Err fault, after) = None
