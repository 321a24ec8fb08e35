-- What a decision about a message comes to.
use Rattle.std.specs.Prelude.{ℕ, suc, false, List, [], ◌∷◌, ◌++◌, Option, Some, None}
use Rattle.dialect.specs.Addressed.{message_of}
use Rattle.dialect.specs.Outgoing.{alone}
use Rattle.dialect.specs.declared.content.Content.{Content}
use Rattle.dialect.specs.declared.content.Content.TheVariants.{Session}
use Rattle.fix_tags.specs.declared.session_body.SessionBody.TheVariants.{ResendRequest, Reject}
use Rattle.dialect.specs.declared.outgoing.Outgoing.{Outgoing}
use Rattle.exchange_core.specs.declared.turn.Says.{Says}
use Rattle.exchange_core.specs.declared.turn.Says.TheVariants as says
use Rattle.exchange_core.specs.declared.turn.Turn.{Turn}
use Rattle.exchange_core.specs.declared.turn.Action.{Action}
use Rattle.exchange_core.specs.declared.turn.Action.TheVariants as action
use Rattle.exchange_core.specs.declared.turn.Used.{Used}
use Rattle.exchange_core.specs.declared.turn.Used.TheVariants as used
use Rattle.exchange_core.specs.declared.turn.Asked.{Asked}
use Rattle.exchange_core.specs.declared.turn.Decision.{Decision}
use Rattle.exchange_core.specs.declared.sent_record.SentRecord.{SentRecord}
use Rattle.exchange_core.specs.SentRecord.{next_own_number, resent_answer}
use Rattle.exchange_core.specs.declared.sent_record.SentRecord.TheVariants.{Admin, Refused}
use Rattle.exchange_core.specs.Exchange.{ExchangeParts, Answer, next_message, order_taken}

-- what an own number is used for, by what is said under it
abbrev pub used_for : Content → SentRecord
used_for (Session (Reject number)) = Refused number
used_for content = Admin

-- what is written, under the next own numbers
abbrev pub turn_written : ExchangeParts → ℕ → Says → List Outgoing
turn_written x expected says.Nothing = []
turn_written x expected (says.One content) = next_message x content ∷ []
turn_written x expected (says.OneAndRequest content) =
    next_message x content
    ∷ alone (message_of x.config (suc (next_own_number x.own)) false (Session (ResendRequest expected 0)))
    ∷ []

-- the own numbers afterwards
abbrev pub turn_own : List SentRecord → Says → List SentRecord
turn_own own says.Nothing = own
turn_own own (says.One content) = own ++ used_for content ∷ []
turn_own own (says.OneAndRequest content) = own ++ Admin ∷ Admin ∷ []

abbrev pub turn_answer : ExchangeParts → Turn → Answer
turn_answer x turn = (
  turn_written x turn.expected turn.says,
  record x {
    expected = turn.expected;
    live = turn.live;
    last = turn.last;
    closed_at = turn.closed_at;
    own = turn_own x.own turn.says;
  },
)

abbrev pub action_answer : ExchangeParts → Action → Answer
action_answer x action.Nothing = ([], x)
action_answer x (action.Accept leg) = order_taken x leg
action_answer x (action.Turn turn) = turn_answer x turn

abbrev pub asked_answer : ExchangeParts → Option Asked → List Outgoing
asked_answer x None = []
asked_answer x (Some asked) = resent_answer x.config x.own asked.begin asked.last

abbrev pub decided : ExchangeParts → Decision → Answer
decided x decision =
    let next : Answer = action_answer x decision.action in (asked_answer x decision.asked ++ next.0, next.1)

-- the own numbers with those that are used
abbrev pub used_own : List SentRecord → Used → List SentRecord
used_own own used.Nothing = own
used_own own (used.One entry) = own ++ entry ∷ []
used_own own used.Two = own ++ Admin ∷ Admin ∷ []
