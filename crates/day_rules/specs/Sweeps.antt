-- What became of the shares of the sweeps that were placed, by the logs of all venues.
use Rattle.std.specs.Prelude.{ℕ, ◌+◌, Bool, true, false, ◌&&◌, List, [], ◌∷◌, Option, Some, None, option_map, slice_get, nat_le, ◌==◌, if◌then◌else◌}
use Rattle.std.specs.Option.{option_or}
use Rattle.dialect.specs.Coded.{coded}
use Rattle.dialect.specs.Plain.{plain}
use Rattle.dialect.specs.Split4.{split4}
use Rattle.leg.specs.LegId.{LegIdParts}
use Rattle.leg.specs.declared.sweep.Routed.{Routed}
use Rattle.leg.specs.declared.totals.Totals.{Totals}
use Rattle.log_rules.specs.Ledger.{newest_order}
use Rattle.log_rules.specs.Order.{OrderParts}
use Rattle.log_legs.specs.Close.{is_over}
use Rattle.log_legs.specs.Fate.{leg_said}
use Rattle.log_legs.specs.Legs.{WatchParts}
use Rattle.log_legs.specs.Sweeps.{no_totals, with_shares}
use Rattle.log_legs.specs.declared.leg_said.LegSaid.{LegSaid}
use Rattle.log_legs.specs.declared.sweep_sums.SweepTotals.{SweepTotals}
use Rattle.log_legs.specs.declared.close.Close.{Close}
use Rattle.log_legs.specs.declared.close.Close.TheVariants.{Closed}
use Rattle.day_rules.specs.VenueDay.{VenueParts}

-- the order of a leg, by its place in the log, in any spelling of its id
abbrev pub order_place : List OrderParts → LegIdParts → Option ℕ
order_place orders id =
    option_or (newest_order orders (plain.id_text id))
    (option_or (newest_order orders (split4.id_text id)) (newest_order orders (coded.id_text id)))

-- whether both sides logged out
abbrev pub is_ended : Close → Bool
is_ended Closed = true
is_ended other = false

-- a leg that was never sent is withdrawn once the session of its venue logged out, and open before
abbrev pub unsent : Bool → ℕ → Totals
unsent over shares = record {
  filled = 0;
  busted = 0;
  cancelled = 0;
  withdrawn = if over then shares else 0;
  still_open = if over then 0 else shares;
}

abbrev pub said_totals : Bool → ℕ → Option LegSaid → Totals
said_totals over shares None = unsent over shares
said_totals over shares (Some said) = said.totals

abbrev pub totals_at : WatchParts → ℕ → Option ℕ → Totals
totals_at w shares None = unsent (is_over w.close) shares
totals_at w shares (Some place) = said_totals (is_over w.close) shares (leg_said w place)

-- what became of a leg's shares, by its venue's log; of a venue without one, nothing is known
abbrev pub leg_totals : Option VenueParts → LegIdParts → ℕ → Totals
leg_totals None id shares = unsent false shares
leg_totals (Some v) id shares = totals_at v.watch shares (order_place v.watch.checker.ledger.orders id)

-- the number of a leg, if there is one
abbrev pub id_at : ℕ → ℕ → Option LegIdParts
id_at sweep place =
    if nat_le sweep 999_999_999_999 && nat_le place 32 then Some (record { sweep = sweep; place = place }) else None

abbrev pub totals_of_id : Option VenueParts → Option LegIdParts → ℕ → Totals
totals_of_id v None shares = unsent false shares
totals_of_id v (Some id) shares = leg_totals v id shares

-- the sums of a sweep with one more leg, which stands at this place in it
abbrev pub with_leg : List VenueParts → ℕ → ℕ → Routed → SweepTotals → SweepTotals
with_leg venues sweep place leg sums =
    with_shares leg.terms.shares
    (totals_of_id (slice_get venues leg.venue) (id_at sweep place) leg.terms.shares) sums

-- the sums of a sweep's legs, of which the first has this place
abbrev pub legs_totals : List VenueParts → ℕ → ℕ → List Routed → SweepTotals → SweepTotals
legs_totals venues sweep place [] sums = sums
legs_totals venues sweep place (leg ∷ legs) sums =
    legs_totals venues sweep (place + 1) legs (with_leg venues sweep place leg sums)

-- what became of the sweep of a number, with these legs
abbrev pub sweep_totals : List VenueParts → ℕ → List Routed → SweepTotals
sweep_totals venues sweep legs = legs_totals venues sweep 1 legs no_totals

-- what became of the sweep at a place among those that were placed, of which the first has number 1
abbrev pub sweep_sums : List VenueParts → List (List Routed) → ℕ → Option SweepTotals
sweep_sums venues sweeps place = option_map (sweep_totals venues (place + 1)) (slice_get sweeps place)

-- Shares: the five parts of a sweep add up to its legs
abbrev pub adds_up : SweepTotals → Bool
adds_up sums =
    sums.shares == sums.totals.filled + sums.totals.busted + sums.totals.cancelled + sums.totals.withdrawn
    + sums.totals.still_open

-- whether they do of the sweep at a place
abbrev pub are_even : Option SweepTotals → Bool
are_even None = true
are_even (Some sums) = adds_up sums

abbrev pub is_even_at : List VenueParts → List (List Routed) → ℕ → Bool
is_even_at venues sweeps place = are_even (sweep_sums venues sweeps place)
