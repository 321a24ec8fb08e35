-- The exchange as the rules see it.
use Rattle.std.specs.Prelude.{◌≡◌, suc, ◌∷◌, ◌⊎◌, ℕ, ◌≤◌, List, [], ◌++◌, length, map, Option, Some, None, Ok, Err}
use Rattle.leg.specs.Growing.{Grew}
use Rattle.dialect.specs.declared.content.Content.{Content}
use Rattle.dialect.specs.declared.content.Content.TheVariants.{Session, ExecutionReport}
use Rattle.fix_tags.specs.declared.session_body.SessionBody.TheVariants.{Reject, GapFill, Logout}
use Rattle.dialect.specs.declared.message.Message.{Message}
use Rattle.dialect.specs.declared.outgoing.Outgoing.{Outgoing}
use Rattle.exchange_core.specs.Acceptance.{Carried, Intake, RuleState, LiveIsLast, May}
use Rattle.exchange_core.specs.declared.sent_record.SentRecord.{SentRecord}
use Rattle.exchange_core.specs.declared.sent_record.SentRecord.TheVariants.{Admin, Reported, Refused}
use Rattle.exchange_core.specs.SentRecord.{next_own_number, exec_id}
use Rattle.exchange_core.specs.Exchange.{ExchangeParts, Answer, accepted_by, live_connection}
use Rattle.exchange_core.specs.Acts.{ActAnswer}

-- the report or the refusal that an own number carries, if it carries one
abbrev pub kept : SentRecord → Option Content
kept Admin = None
kept (Reported report view) = Some (ExecutionReport (Ok report))
kept (Refused number) = Some (Session (Reject number))

-- what it has taken
abbrev pub intake_of : ExchangeParts → Intake
intake_of x = record {
  expected = x.expected;
  live = live_connection x;
  last = x.last;
  accepted = accepted_by x;
  closed_at = x.closed_at;
}

-- it answers and refuses at once, so nothing is left to be answered or refused later; and it never logs out unasked
abbrev pub rule_state : ExchangeParts → RuleState
rule_state x = record {
  intake = intake_of x;
  tests = [];
  refusable = [];
  others = [];
  own = map kept x.own;
  unasked = [];
}

-- a message in its connection
abbrev pub carried : ℕ → Message → Carried
carried connection m = record { connection = connection; number = m.number; content = m.content }

abbrev pub written_in : ℕ → Outgoing → Carried
written_in connection out = carried connection out.message

-- what it writes goes into one connection, and nowhere if there is none
abbrev pub into : Option ℕ → List Outgoing → List Carried
into None written = []
into (Some connection) written = map (written_in connection) written

-- the live connection is the last one
abbrev pub IsLastLive : ExchangeParts → Type 0
IsLastLive x = LiveIsLast (intake_of x)

-- the second is after the first: numbers don't fall, and what was accepted and what own numbers were used for stays,
-- with more behind it, of own numbers at most two in a step
pub record IsExchangeLater (x y : ExchangeParts) : Type 0 where
  pub config : y.config ≡ x.config
  pub expected : x.expected ≤ y.expected
  pub last : x.last ≤ y.last
  pub accepted : Grew (accepted_by x) (accepted_by y)
  pub own : (more : List SentRecord) × (y.own ≡ x.own ++ more) × (length more ≤ 2)

-- every own number used is below the one that no message may have
abbrev pub OwnNumbersFit : ExchangeParts → Type 0
OwnNumbersFit x = next_own_number x.own ≤ x.config.max_number

-- the mark of the close is as it was, or was set by a Logout: the connection ended, and it is the count of the orders
pub record IsClosedBy (content : Content) (y : ExchangeParts) : Type 0 where
  pub logout : content ≡ (Session Logout)
  pub ended : y.live ≡ None
  pub mark : y.closed_at ≡ Some (length y.orders)

abbrev pub IsMarked : ExchangeParts → Content → ExchangeParts → Type 0
IsMarked x content y = (y.closed_at ≡ x.closed_at) ⊎ IsClosedBy content y

-- what is done with a message: the rules allow it, the exchange goes on from where it was, its live connection stays
-- the last one and its numbers below the limit, and only a Logout sets the mark of the close
pub record IsAnswer (x : ExchangeParts) (connection : ℕ) (m : Message) (a : Answer) : Type 0 where
  pub allowed : May (rule_state x) (Some (carried connection m)) (rule_state a.1) (into (Some connection) a.0)
  pub after : IsExchangeLater x a.1
  pub live : IsLastLive a.1
  pub numbered : OwnNumbersFit x → OwnNumbersFit a.1
  pub marked : IsMarked x m.content a.1

-- an act that was not refused: the rules allow it, it changes nothing of what was taken, and it uses a number only
-- where one is left
pub record IsDone (x : ExchangeParts) (a : Answer) : Type 0 where
  pub allowed : May (rule_state x) None (rule_state a.1) (into (live_connection x) a.0)
  pub after : IsExchangeLater x a.1
  pub taken : intake_of a.1 ≡ intake_of x
  pub live : IsLastLive a.1
  pub numbered : OwnNumbersFit x → OwnNumbersFit a.1

-- an act: one that is refused changes nothing
abbrev pub IsAct : ExchangeParts → ActAnswer → Type 0
IsAct x (Ok written, y) = IsDone x (written, y)
IsAct x (Err fault, y) = y ≡ x

-- the expected number is one that a message may name
pub record IsExpectable (x : ExchangeParts) : Type 0 where
  pub from : 1 ≤ x.expected
  pub to : x.expected ≤ 999_999_999

-- the new number of a gap fill is in the range that is read
abbrev pub IsFillInRange : Content → Type 0
IsFillInRange (Session (GapFill new_number)) = new_number ≤ 999_999_999
IsFillInRange content = Unit {0}

-- the numbers of a message are in the ranges that are read
pub record IsInRange (m : Message) : Type 0 where
  pub number : m.number ≤ 999_999_998
  pub fill : IsFillInRange m.content

-- each report has the ExecID of its place among the reports, of which there were so many before
abbrev pub AreCounted : ℕ → List SentRecord → Type 0
AreCounted count [] = Unit {0}
AreCounted count (Reported report view ∷ own) = (report.exec ≡ exec_id (suc count)) × AreCounted (suc count) own
AreCounted count (entry ∷ own) = AreCounted count own
