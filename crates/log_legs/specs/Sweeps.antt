-- The sums of a log's sweeps.
use Rattle.std.specs.Prelude.{ℕ, ◌+◌, ◌-◌, ◌^◌, min, List, [], ◌∷◌, Option, Some, None, unwrap_or}
use Rattle.std.specs.Option.{option_or}
use Rattle.std.specs.BTreeMap.{insert_entry, is_at}
use Rattle.std.specs.Map.{lookup}
use Rattle.std.specs.Ordering.{nat_cmp}
use Rattle.leg.specs.LegId.{LegIdParts}
use Rattle.leg.specs.declared.totals.Totals.{Totals}
use Rattle.dialect.specs.Coded.{coded}
use Rattle.dialect.specs.Plain.{plain}
use Rattle.dialect.specs.Split4.{split4}
use Rattle.log_legs.specs.declared.leg_said.LegSaid.{LegSaid}
use Rattle.log_legs.specs.declared.sweep_sums.SweepTotals.{SweepTotals}

-- the leg that a ClOrdID (11) names, in any spelling
abbrev pub leg_id_in : List ℕ → Option LegIdParts
leg_id_in text = option_or (plain.id_of text) (option_or (split4.id_of text) (coded.id_of text))

-- a sum that stops at the greatest number of 64 bits
abbrev pub added : ℕ → ℕ → ℕ
added a b = min (a + b) (2 ^ 64 - 1)

abbrev pub totals_added : Totals → Totals → Totals
totals_added a b = record {
  filled = added a.filled b.filled;
  busted = added a.busted b.busted;
  cancelled = added a.cancelled b.cancelled;
  withdrawn = added a.withdrawn b.withdrawn;
  still_open = added a.still_open b.still_open;
}

abbrev pub no_totals : SweepTotals
no_totals = record {
  shares = 0;
  totals = record { filled = 0; busted = 0; cancelled = 0; withdrawn = 0; still_open = 0 };
}

-- with one more leg of the sweep, of so many shares, of which this became
abbrev pub with_shares : ℕ → Totals → SweepTotals → SweepTotals
with_shares shares totals sums = record {
  shares = added sums.shares shares;
  totals = totals_added sums.totals totals;
}

abbrev pub sums_with : LegSaid → List (ℕ × SweepTotals) → Option LegIdParts → List (ℕ × SweepTotals)
sums_with leg sums None = sums
sums_with leg sums (Some id) =
    insert_entry nat_cmp sums id.sweep
    (with_shares leg.shares leg.totals (unwrap_or (lookup (is_at (nat_cmp id.sweep)) sums) no_totals))

-- the sums of sweeps by their numbers, with one more order: that of its leg's sweep, if it is one of a sweep
abbrev pub sums_after : LegSaid → List (ℕ × SweepTotals) → List (ℕ × SweepTotals)
sums_after leg sums = sums_with leg sums (leg_id_in leg.id)
