-- The sums of a world: a line a venue with how many legs it has of each kind, and a line with what became of all
-- shares.
use Rattle.std.specs.Prelude.{ℕ, suc, ◌+◌, ◌-◌, ◌^◌, min, List, [], ◌∷◌, ◌++◌, length, codes, decimal, Option, Some, None}
use Rattle.leg.specs.declared.sweep.Routed.{Routed}
use Rattle.leg.specs.declared.totals.Totals.{Totals}
use Rattle.exchange_core.specs.Exchange.{accepted_by}
use Rattle.share_ledger.specs.Entries.{sweep_shares}
use Rattle.schedule.specs.World.{World, VenueParts, withdrawn_ids, doubtful_ids, totals}
use Rattle.schedule.specs.Printed.{phase_text, closed_text, parts_text}
use Rattle.world_text.specs.declared.sums.Sums.{Sums}

abbrev pub venue_sums : World → ℕ → VenueParts → List ℕ
venue_sums w v venue =
    codes "venue " ++ decimal v
    ++ codes " accepted " ++ decimal (length (accepted_by venue.exchange))
    ++ codes " withdrawn " ++ decimal (length (withdrawn_ids w v))
    ++ codes " doubt " ++ decimal (length (doubtful_ids w v))
    ++ codes " phase " ++ phase_text venue.session.phase
    ++ codes " closed " ++ closed_text venue.exchange.closed_at
    ++ 10 ∷ []

-- the lines of the venues, of which the first has this number
abbrev pub venues_sums : World → ℕ → List VenueParts → List ℕ
venues_sums w v [] = []
venues_sums w v (venue ∷ venues) = venue_sums w v venue ++ venues_sums w (suc v) venues

-- a sum that stops at the greatest number of 64 bits
abbrev pub added : ℕ → ℕ → ℕ
added a b = min (a + b) (2 ^ 64 - 1)

abbrev pub parts_added : Totals → Totals → Totals
parts_added a b = record {
  filled = added a.filled b.filled;
  busted = added a.busted b.busted;
  cancelled = added a.cancelled b.cancelled;
  withdrawn = added a.withdrawn b.withdrawn;
  still_open = added a.still_open b.still_open;
}

-- one more sweep, of so many shares, whose parts are these, if they are known
abbrev pub with_sweep : Sums → ℕ → Option Totals → Sums
with_sweep sums shares None = record sums { sweeps = added sums.sweeps 1; shares = added sums.shares shares }
with_sweep sums shares (Some parts) = record {
  sweeps = added sums.sweeps 1;
  shares = added sums.shares shares;
  parts = parts_added sums.parts parts;
}

abbrev pub no_sums : Sums
no_sums = record {
  sweeps = 0;
  shares = 0;
  parts = record { filled = 0; busted = 0; cancelled = 0; withdrawn = 0; still_open = 0 };
}

-- these sweeps behind those of the sums, the first of this number
abbrev pub sums_after : World → ℕ → Sums → List (List Routed) → Sums
sums_after w number sums [] = sums
sums_after w number sums (legs ∷ sweeps) =
    sums_after w (suc number) (with_sweep sums (sweep_shares legs) (totals w number)) sweeps

abbrev pub sums_of : World → Sums
sums_of w = sums_after w 1 no_sums w.desk.sweeps

abbrev pub sums_line : Sums → List ℕ
sums_line sums =
    codes "sweeps " ++ decimal sums.sweeps ++ codes " legs " ++ decimal sums.shares ++ parts_text sums.parts ++ 10 ∷ []

abbrev pub summed : World → List ℕ
summed w = venues_sums w 0 w.venues ++ sums_line (sums_of w)
