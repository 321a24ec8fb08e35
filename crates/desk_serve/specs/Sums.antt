-- What became of the shares of all sweeps: the sums of what was counted of each.
use Rattle.std.specs.Prelude.{◌≡◌, ◌⊎◌, ℕ, suc, ◌+◌, ◌-◌, ◌<◌, min, List, [], ◌∷◌, sum_by, Some}
use Rattle.leg.specs.declared.totals.Totals.{Totals}
use Rattle.desk_news.specs.declared.sweep_parts.SweepParts.{SweepParts}
use Rattle.day_sweeps.specs.Sweeps.{IsBooked, sum_of}

-- of no shares
abbrev pub nothing : Totals
nothing = record { filled = 0; busted = 0; cancelled = 0; withdrawn = 0; still_open = 0 }

-- what was counted of the sweep of a number: nothing yet, or its parts as a book that replays had them
abbrev pub IsCounted : ℕ → Totals → Type 0
IsCounted number parts =
    (parts ≡ nothing) ⊎ ((sweep : SweepParts) × IsBooked number (Some sweep) × (parts ≡ sweep.totals))

-- and of each of these, the first of them having this number
abbrev pub AreCounted : ℕ → List Totals → Type 0
AreCounted number [] = Unit {0}
AreCounted number (parts ∷ rest) = IsCounted number parts × AreCounted (suc number) rest

-- the sums, part by part
abbrev pub sums_of : List Totals → Totals
sums_of counted =
    record {
      filled = sum_by (λ parts. parts.filled) counted;
      busted = sum_by (λ parts. parts.busted) counted;
      cancelled = sum_by (λ parts. parts.cancelled) counted;
      withdrawn = sum_by (λ parts. parts.withdrawn) counted;
      still_open = sum_by (λ parts. parts.still_open) counted;
    }

-- what was counted at some moment was too much for 64 bits
pub record HasPassed : Type 0 where
  pub counted : List Totals
  pub booked : AreCounted 1 counted
  pub many : 18446744073709551615 < sum_of (sums_of counted)

-- the sums of what was counted of each sweep, from the first one on, unless they were once too much for 64 bits
pub record IsSum (counted : List Totals) (sums : Totals) : Type 0 where
  pub booked : AreCounted 1 counted
  pub is : (sums ≡ sums_of counted) ⊎ HasPassed

-- parts are such sums; of how many sweeps isn't said
abbrev pub AreParts : Totals → Type 0
AreParts parts = (counted : List Totals) × IsSum counted parts

-- a sum in which what was counted before is counted anew
abbrev pub recounted : ℕ → ℕ → ℕ → ℕ
recounted sum before now = min (sum - before + now) 18446744073709551615

-- and so each part of the sums
abbrev pub all_recounted : Totals → Totals → Totals → Totals
all_recounted sums before now =
    record {
      filled = recounted sums.filled before.filled now.filled;
      busted = recounted sums.busted before.busted now.busted;
      cancelled = recounted sums.cancelled before.cancelled now.cancelled;
      withdrawn = recounted sums.withdrawn before.withdrawn now.withdrawn;
      still_open = recounted sums.still_open before.still_open now.still_open;
    }
