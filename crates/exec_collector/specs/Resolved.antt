-- What a book has resolved in all, and how its calls change that.
use Rattle.std.specs.Prelude.{◌≡◌, ℕ, zero, suc, ◌+◌, ◌≤◌, List, map, Some}
use Rattle.leg.specs.LegId.{LegIdParts}
use Rattle.leg.specs.declared.sweep.Routed.{Routed}
use Rattle.leg.specs.declared.sweep.Sweep.{Sweep}
use Rattle.dialect.specs.declared.note.Note.{Note}
use Rattle.share_ledger.specs.declared.applied.Applied.{Applied}
use Rattle.share_ledger.specs.declared.applied.Applied.TheVariants as applied
use Rattle.share_ledger.specs.declared.book_entry.BookEntry.TheVariants.{Opened}
use Rattle.share_ledger.specs.Entries.{order_of}
use Rattle.share_ledger.specs.Shares.{Move, Trades, Busts, Ends, Tells, move_of}
use Rattle.share_ledger.specs.Book.{BookParts, new_book, replay, venue_resolved}

-- a sum over the numbers below one
abbrev pub sum_below : (ℕ → ℕ) → ℕ → ℕ
sum_below f zero = 0
sum_below f (suc n) = sum_below f n + f n

-- the shares that are filled, busted, cancelled or withdrawn, over all venues of a book
abbrev pub resolved : BookParts → ℕ
resolved book = sum_below (venue_resolved book) book.venues

-- a book that its own history leads to
abbrev pub Replays : BookParts → Type 0
Replays book = replay (new_book book.venues) book.entries ≡ book

-- a book after sweeps were opened in it, each under the next number, and nothing else was asked of it
pub record OnlyOpens (before after : BookParts) : Type 0 where
  pub sweeps : List Sweep
  pub opens : after ≡ replay before (map (λ sweep. Opened sweep) sweeps)

-- how many shares are counted once a note has moved: a trade adds its own, a bust and a first report add none, and the
-- end of an order takes none away
abbrev pub Gains : Move → ℕ → ℕ → Type 0
Gains (Trades trade) before after = after ≡ before + trade.shares
Gains (Busts exec) before after = after ≡ before
Gains Ends before after = before ≤ after
Gains Tells before after = after ≡ before

-- how many are counted once a note was answered: only one that moved adds any
abbrev pub GainsBy : Note → Applied → ℕ → ℕ → Type 0
GainsBy note applied.Moved before after = Gains (move_of note) before after
GainsBy note applied.Duplicate before after = after ≡ before
GainsBy note applied.Overfill before after = after ≡ before
GainsBy note applied.Stray before after = after ≡ before

-- how many are counted once a leg was withdrawn: all its shares more, its order being in a book that replays
pub record GainsLeg (id : LegIdParts) (before after : ℕ) : Type 0 where
  pub book : BookParts
  pub replays : Replays book
  pub order : Routed
  pub found : order_of id book.entries ≡ Some order
  pub gained : after ≡ before + order.terms.shares
