-- The sweeps that were opened in a book, as they stand on its side and on the desk's.
use Rattle.std.specs.Prelude.{◌≡◌, ℕ, List, map}
use Rattle.leg.specs.declared.sweep.Routed.{Routed}
use Rattle.leg.specs.declared.sweep.Sweep.{Sweep}
use Rattle.share_ledger.specs.Book.{BookParts}
use Rattle.share_ledger.specs.Entries.{opened}

abbrev pub sweeps_of : List (List Routed) → List Sweep
sweeps_of all = map (λ legs. record { legs = legs }) all

-- this is a side of the list of this name, and on it stand the sweeps that were opened in the book
pub record IsSide (list : ℕ) (book : BookParts) (name : ℕ) (items : List Sweep) : Type 0 where
  pub named : name ≡ list
  pub opens : items ≡ sweeps_of (opened book.entries)
