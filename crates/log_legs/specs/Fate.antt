-- What a log says of an order.
use Rattle.std.specs.Prelude.{ℕ, Bool, true, false, ◌&&◌, ◌||◌, not, List, codes, Option, Some, None, slice_get, nat_le, nat_lt, if◌then◌else◌}
use Rattle.log_rules.specs.declared.standing.Standing.{Standing}
use Rattle.log_rules.specs.Order.{OrderParts}
use Rattle.log_legs.specs.KeptLeg.{LegParts, is_gone}
use Rattle.log_legs.specs.Legs.{LegsParts, WatchParts}
use Rattle.log_legs.specs.Parts.{parts_sum, totals_of}
use Rattle.log_legs.specs.declared.fate.Fate.{Fate}
use Rattle.log_legs.specs.declared.fate.Fate.TheVariants.{Taken, Withdrawn, Doubt}
use Rattle.log_legs.specs.declared.leg_said.LegSaid.{LegSaid}

-- the exchange took it: a report on it is counted, or its number was passed and it wasn't asked for again in doubt. A
-- number from before a Logon that reset the numbers says nothing
abbrev pub is_taken : Standing → Bool → OrderParts → LegParts → Bool
is_taken s is_old o leg = leg.is_reported || (not is_old && not o.is_withdrawn && nat_le o.number s.passed)

-- what became of it
abbrev pub fate_of : Standing → Bool → OrderParts → LegParts → Fate
fate_of s is_old o leg =
    if is_gone o.is_withdrawn leg then Withdrawn else (if is_taken s is_old o leg then Taken else Doubt)

abbrev pub is_withdrawn : Fate → Bool
is_withdrawn Withdrawn = true
is_withdrawn fate = false

-- an order, with what became of it
abbrev pub said_with : Fate → OrderParts → LegParts → LegSaid
said_with fate o leg = record {
  id = o.id;
  fate = fate;
  number = o.number;
  sent = leg.sent;
  symbol = leg.symbol;
  side = leg.side;
  shares = parts_sum leg.parts;
  price = leg.price;
  totals = totals_of (is_withdrawn fate) leg.parts;
}

abbrev pub said_of : Standing → Bool → Option OrderParts → Option LegParts → Option LegSaid
said_of s is_old (Some o) (Some leg) = Some (said_with (fate_of s is_old o leg) o leg)
said_of s is_old o leg = None

abbrev pub said_in : Standing → List OrderParts → Option LegsParts → ℕ → Option LegSaid
said_in s orders None place = None
said_in s orders (Some l) place = said_of s (nat_lt place l.begun) (slice_get orders place) (slice_get l.legs place)

-- the order at a place, where the orders are kept
abbrev pub leg_said : WatchParts → ℕ → Option LegSaid
leg_said w place = said_in w.checker.standing w.checker.ledger.orders w.legs place

-- the fate in a word
abbrev pub fate_text : Fate → List ℕ
fate_text Taken = codes "taken"
fate_text Withdrawn = codes "withdrawn"
fate_text Doubt = codes "doubt"
