-- The orders of a log, each with what became of its shares, in the order in which they were first sent.
use Rattle.std.specs.Prelude.{ℕ, zero, suc, Bool, false, List, [], ◌∷◌, ◌++◌, length, Option, Some, None, option_map, slice_get, if◌then◌else◌}
use Rattle.std.specs.Option.{option_or}
use Rattle.message_log.specs.declared.direction.Direction.{Direction}
use Rattle.message_log.specs.declared.direction.Direction.TheVariants.{Sent, Received}
use Rattle.log_rules.specs.declared.entry.Entry.{Entry}
use Rattle.log_rules.specs.declared.order_said.OrderSaid.{OrderSaid}
use Rattle.log_rules.specs.declared.report_said.ReportSaid.{ReportSaid}
use Rattle.log_rules.specs.declared.says.Says.{Says}
use Rattle.log_rules.specs.declared.says.Says.TheVariants.{Logon, Refused, Order, Report}
use Rattle.log_rules.specs.Checker.{CheckerParts, heard, heard_unread, new_checker}
use Rattle.log_rules.specs.Ledger.{LedgerParts, newest_order, newest_under}
use Rattle.log_rules.specs.Order.{OrderParts}
use Rattle.log_rules.specs.Standing.{is_due}
use Rattle.log_legs.specs.Close.{close_after, is_over}
use Rattle.log_legs.specs.declared.close.Close.{Close}
use Rattle.log_legs.specs.declared.close.Close.TheVariants.{Open}
use Rattle.log_legs.specs.KeptLeg.{LegParts, new_leg, reported, sent_again}
use Rattle.log_legs.specs.Parts.{move_of}
use Rattle.log_legs.specs.declared.share_move.Move.TheVariants.{Ends}
use Rattle.log_legs.specs.declared.leg_heard.LegHeard.{LegHeard}
use Rattle.log_legs.specs.declared.leg_heard.LegHeard.TheVariants.{Nothing, Reset, First, Again, Moves}
use Rattle.log_legs.specs.declared.leg_list.LegList.{LegList}

-- the order at a place is changed
abbrev pub leg_changed : (LegParts → LegParts) → ℕ → List LegParts → List LegParts
leg_changed change place [] = []
leg_changed change zero (leg ∷ legs) = change leg ∷ legs
leg_changed change (suc place) (leg ∷ legs) = leg ∷ leg_changed change place legs

-- the orders, and how many of them were sent before the last Logon that reset the numbers
pub record LegsParts : Type 0 where
  pub legs : List LegParts
  pub begun : ℕ

abbrev pub legs_parts : LegList → LegsParts
legs_parts l = record { legs = l.items.items; begun = l.begun }

abbrev pub no_legs : LegsParts
no_legs = record { legs = []; begun = 0 }

abbrev pub order_heard : Option ℕ → OrderSaid → LegHeard
order_heard None said = First (new_leg said)
order_heard (Some place) said = Again place

abbrev pub is_withdrawn_in : Option OrderParts → Bool
is_withdrawn_in None = false
is_withdrawn_in (Some o) = o.is_withdrawn

-- whether the order at a place was asked for again in doubt
abbrev pub is_withdrawn_at : List OrderParts → ℕ → Bool
is_withdrawn_at orders place = is_withdrawn_in (slice_get orders place)

abbrev pub report_heard : LedgerParts → Option ℕ → ℕ → ReportSaid → LegHeard
report_heard l None number said = Nothing
report_heard l (Some place) number said =
    Moves place (is_withdrawn_at l.orders place) (move_of l.reports place number said)

abbrev pub refusal_heard : LedgerParts → Option ℕ → LegHeard
refusal_heard l None = Nothing
refusal_heard l (Some place) = Moves place (is_withdrawn_at l.orders place) Ends

-- what a message does to the orders: one is sent, or again; a report on it or its refusal is counted; or the numbers
-- are reset
abbrev pub heard_with : CheckerParts → Direction → Says → ℕ → LegHeard
heard_with c Sent (Logon heart reset next) number = if reset then Reset else Nothing
heard_with c Sent (Order said) number = order_heard (newest_order c.ledger.orders said.id) said
heard_with c Received (Report said) number =
    if is_due c.standing.counted number
    then report_heard c.ledger (newest_order c.ledger.orders said.id) number said
    else Nothing
heard_with c Received (Refused order) number =
    if is_due c.standing.counted number then refusal_heard c.ledger (newest_under c.ledger.orders order) else Nothing
heard_with c direction says number = Nothing

abbrev pub leg_heard : CheckerParts → Entry → LegHeard
leg_heard c e = heard_with c e.direction e.says e.number

-- the orders behind it
abbrev pub applied : LegHeard → LegsParts → LegsParts
applied Nothing l = l
applied Reset l = record l { begun = length l.legs }
applied (First leg) l = record l { legs = l.legs ++ leg ∷ [] }
applied (Again place) l = record l { legs = leg_changed sent_again place l.legs }
applied (Moves place is_withdrawn change) l =
    record l { legs = leg_changed (reported is_withdrawn change) place l.legs }

-- what is known of a log: what its rules ask, its orders where they are asked for, how far the session's end is, and
-- the place of the first order that was sent once the session had logged out
pub record WatchParts : Type 0 where
  pub checker : CheckerParts
  pub legs : Option LegsParts
  pub close : Close
  pub late : Option ℕ

-- before any message
abbrev pub new_watch : Option LegsParts → WatchParts
new_watch legs = record { checker = new_checker; legs = legs; close = Open; late = None }

-- the place of an order that is sent for the first time once the session logged out
abbrev pub late_order : Bool → Option ℕ → ℕ → Option ℕ
late_order is_over None place = if is_over then Some place else None
late_order is_over (Some sent) place = None

abbrev pub late_by : WatchParts → Direction → Says → Option ℕ
late_by w Sent (Order said) =
    late_order (is_over w.close) (newest_order w.checker.ledger.orders said.id) (length w.checker.ledger.orders)
late_by w direction says = None

-- what is known behind a message, but for the session's end
abbrev pub judged : WatchParts → Entry → WatchParts
judged w e = record w {
  checker = heard w.checker e;
  legs = option_map (applied (leg_heard w.checker e)) w.legs;
}

-- what is known behind a message
abbrev pub watched : WatchParts → Entry → WatchParts
watched w e = record (judged w e) {
  close = close_after w.close e.direction e.says;
  late = option_or w.late (late_by w e.direction e.says);
}

-- what is known behind a message that can't be read
abbrev pub watched_unread : Direction → List ℕ → WatchParts → WatchParts
watched_unread direction bytes w = record w { checker = heard_unread direction bytes w.checker }
