-- An exchange: what it does with each message it gets (FIX 4.4 Volume 2).
use Rattle.std.specs.Prelude.{ℕ, suc, max, Bool, true, false, ◌&&◌, List, [], ◌∷◌, ◌++◌, length, map, Option, Some, None, Ok, Err, ◌==◌, nat_lt, nat_le, if◌then◌else◌}
use Rattle.std.specs.Option.{option_map, option_map_or}
use Rattle.fix_tags.specs.Config.{ConfigParts}
use Rattle.leg.specs.declared.leg.Leg.{Leg}
use Rattle.dialect.specs.declared.report.Report.{Report}
use Rattle.dialect.specs.declared.report.ReportKind.{ReportKind}
use Rattle.dialect.specs.declared.report.ReportKind.TheVariants.{New}
use Rattle.dialect.specs.Addressed.{message_of, is_for}
use Rattle.dialect.specs.declared.content.Content.{Content}
use Rattle.dialect.specs.declared.content.Content.TheVariants.{Session, Order}
use Rattle.fix_tags.specs.declared.session_body.SessionBody.TheVariants.{Logon, Heartbeat, TestRequest, ResendRequest, Reject, GapFill, Logout}
use Rattle.dialect.specs.declared.message.Message.{Message}
use Rattle.dialect.specs.declared.outgoing.Outgoing.{Outgoing}
use Rattle.dialect.specs.Outgoing.{alone}
use Rattle.exchange_core.specs.Order.{OrderParts, new_order, view_of}
use Rattle.exchange_core.specs.declared.sent_record.SentRecord.{SentRecord}
use Rattle.exchange_core.specs.declared.sent_record.SentRecord.TheVariants.{Admin, Reported, Refused}
use Rattle.exchange_core.specs.SentRecord.{next_own_number, has_numbers, next_exec, exec_id, execution_report, resent_answer}
use Rattle.exchange_core.specs.declared.live_connection.LiveConnection.{LiveConnection}

pub record ExchangeParts : Type 0 where
  pub config : ConfigParts
  -- the number expected next
  pub expected : ℕ
  -- what belongs to the live connection, if there is one, and the last connection that was live, 0 at first
  pub live : Option LiveConnection
  pub last : ℕ
  -- the orders accepted, in order
  pub orders : List OrderParts
  -- how many they were when a Logout was taken, if one was
  pub closed_at : Option ℕ
  -- what the own numbers were used for
  pub own : List SentRecord

-- before anything came
abbrev pub new_exchange : ConfigParts → ExchangeParts
new_exchange config =
    record { config = config; expected = 1; live = None; last = 0; orders = []; closed_at = None; own = [] }

-- the connection that is live, into which an exchange writes what it does by itself
abbrev pub live_connection : ExchangeParts → Option ℕ
live_connection x = option_map (λ (live : LiveConnection). live.connection) x.live

-- the legs of the orders that it accepted, in order
abbrev pub accepted_by : ExchangeParts → List Leg
accepted_by x = map (λ order. order.leg) x.orders

-- what is written, and the exchange afterwards
abbrev pub Answer : Type 0
Answer = List Outgoing × ExchangeParts

-- the next report on an order, with the next ExecID
abbrev pub next_report : ExchangeParts → OrderParts → ReportKind → Report
next_report x order kind = record { id = order.leg.id; exec = exec_id (next_exec x.own); kind = kind }

-- the next report on the order at a place as a message under the next own number
abbrev pub next_execution_report : ExchangeParts → ℕ → OrderParts → ReportKind → Outgoing
next_execution_report x place order kind =
    execution_report x.config (next_own_number x.own) false (next_report x order kind) (view_of place order)

-- any other message under the next own number
abbrev pub next_message : ExchangeParts → Content → Outgoing
next_message x content = alone (message_of x.config (next_own_number x.own) false content)

-- the request for everything from the expected number on
abbrev pub request : ExchangeParts → Content
request x = Session (ResendRequest x.expected 0)

-- a Logon with the expected number is passed, one above it is not
abbrev pub passed_by : ExchangeParts → ℕ → ℕ
passed_by x number = if number == x.expected then suc x.expected else x.expected

-- the connection of a Logon is live, and begins anew
abbrev pub with_connection : ExchangeParts → ℕ → ℕ → ExchangeParts
with_connection x connection number =
    let live : LiveConnection = record { connection = connection; asked = None } in
    record x { expected = passed_by x number; live = Some live; last = connection }

-- the missing messages were asked for in this connection
abbrev pub having_asked : ℕ → ℕ → Option LiveConnection
having_asked connection number = Some (record { connection = connection; asked = Some number })

-- a Logon is answered by a Logon with the interval it asked for ("Logon": the interval is echoed)
abbrev pub with_logon : ExchangeParts → ℕ → Option ℕ → Answer
with_logon x heart next =
    (next_message x (Session (Logon heart false next)) ∷ [], record x { own = x.own ++ Admin ∷ [] })

-- and then asks for what is missing, under the number after it
abbrev pub with_logon_and_request : ExchangeParts → ℕ → ℕ → Answer
with_logon_and_request x connection heart = (
  next_message x (Session (Logon heart false None))
      ∷ alone (message_of x.config (suc (next_own_number x.own)) false (request x)) ∷ [],
  record x { own = x.own ++ Admin ∷ Admin ∷ []; live = having_asked connection x.expected },
)

-- the answer to a Logon: one that says which number its sender expects next (789) is told which one is expected here,
-- and nothing is asked for; another one above the expected number is asked for what is missing
abbrev pub logon_answer : ExchangeParts → ℕ → Bool → ℕ → Option ℕ → Answer
logon_answer x connection is_due heart (Some next) = with_logon x heart (Some x.expected)
logon_answer x connection true heart None = with_logon x heart None
logon_answer x connection false heart None = with_logon_and_request x connection heart

-- a Logon is taken
abbrev pub logon_taken : ExchangeParts → ℕ → ℕ → ℕ → Option ℕ → Answer
logon_taken x connection number heart next =
    logon_answer (with_connection x connection number) connection (number == x.expected) heart next

-- the message of the expected number is taken, and the next is expected
abbrev pub expecting_next : ExchangeParts → ExchangeParts
expecting_next x = record x { expected = suc x.expected }

-- an order is accepted, and reported as new
abbrev pub order_taken : ExchangeParts → Leg → Answer
order_taken x leg =
    let order : OrderParts = new_order leg in
    let place : ℕ = suc (length x.orders) in
    let entry : SentRecord = Reported (next_report x order New) (view_of place order) in (
      next_execution_report x place order New ∷ [],
      record (expecting_next x) { orders = x.orders ++ order ∷ []; own = x.own ++ entry ∷ [] },
    )

-- an order that can't be read is refused by its number
abbrev pub order_refused : ExchangeParts → Answer
order_refused x = (
  next_message x (Session (Reject x.expected)) ∷ [],
  record (expecting_next x) { own = x.own ++ Refused x.expected ∷ [] },
)

-- a Logout is answered by a Logout, and ends the connection
abbrev pub logout_taken : ExchangeParts → Answer
logout_taken x = (
  next_message x (Session Logout) ∷ [],
  record (expecting_next x) { live = None; closed_at = Some (length x.orders); own = x.own ++ Admin ∷ [] },
)

-- a TestRequest is answered by a Heartbeat with its id
abbrev pub test_taken : ExchangeParts → List ℕ → Answer
test_taken x id =
    (next_message x (Session (Heartbeat (Some id))) ∷ [], record (expecting_next x) { own = x.own ++ Admin ∷ [] })

-- the message of the expected number
abbrev pub due_taken : ExchangeParts → Content → Answer
due_taken x (Order (Ok leg)) = order_taken x leg
due_taken x (Order (Err fault)) = order_refused x
due_taken x (Session (GapFill new_number)) = ([], record x { expected = max x.expected new_number })
due_taken x (Session Logout) = logout_taken x
due_taken x (Session (TestRequest id)) = test_taken x id
due_taken x content = ([], expecting_next x)

-- whether the missing messages were asked for from a number on
abbrev pub has_asked : LiveConnection → ℕ → Bool
has_asked live number = option_map_or (λ asked. asked == number) live.asked false

-- the missing messages are asked for
abbrev pub asks : ExchangeParts → LiveConnection → Answer
asks x live = (
  next_message x (request x) ∷ [],
  record x { own = x.own ++ Admin ∷ []; live = having_asked live.connection x.expected },
)

-- a number above the expected one: what is missing is asked for, once in a connection for an expected number
abbrev pub ahead : ExchangeParts → LiveConnection → Answer
ahead x live = if has_asked live x.expected then ([], x) else asks x live

-- a message by its number; one below the expected number is not looked at
abbrev pub by_number : ExchangeParts → LiveConnection → ℕ → Content → Answer
by_number x live number content =
    if number == x.expected then due_taken x content else (if nat_lt x.expected number then ahead x live else ([], x))

-- what a request is answered with, whatever its own number is
abbrev pub resends : ExchangeParts → Content → List Outgoing
resends x (Session (ResendRequest begin last)) = resent_answer x.config x.own begin last
resends x content = []

-- a message of the live connection: the answer to a request comes before anything else
abbrev pub received : ExchangeParts → LiveConnection → ℕ → Content → Answer
received x live number content =
    let next : Answer = by_number x live number content in (resends x content ++ next.0, next.1)

-- a message that is no Logon is heard in the live connection alone
abbrev pub heard : ExchangeParts → Option LiveConnection → ℕ → ℕ → Content → Answer
heard x None connection number content = ([], x)
heard x (Some live) connection number content =
    if live.connection == connection then received x live number content else ([], x)

-- what comes: a Logon counts in a newer connection alone, everything else in the live one alone
abbrev pub comes : ExchangeParts → ℕ → ℕ → Content → Answer
comes x connection number (Session (Logon heart reset next)) =
    if nat_lt x.last connection && nat_le x.expected number
    then logon_taken x connection number heart next
    else ([], x)
comes x connection number content = heard x x.live connection number content

-- a message comes in a connection; with fewer than two own numbers left nothing is taken
abbrev pub take : ExchangeParts → ℕ → Message → Answer
take x connection m =
    if is_for x.config m && has_numbers 2 x.config x.own then comes x connection m.number m.content else ([], x)

-- the live connection ends
abbrev pub drop_connection : ExchangeParts → ExchangeParts
drop_connection x = record x { live = None }
