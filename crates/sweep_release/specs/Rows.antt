-- Examples: a desk of two venues, the first with its gate up.
use Rattle.std.specs.Prelude.{ℕ, zero, suc, List, [], ◌∷◌, length, replicate, Option, Some, None, Result, Ok, Err}
use Rattle.leg.specs.declared.sweep.Routed.{Routed}
use Rattle.share_ledger.specs.Entries.{opened}
use Rattle.share_ledger.specs.Book.{BookParts, new_book, open_sweep}
use Rattle.share_ledger.specs.Rows.{order}
use Rattle.sweep_release.specs.declared.receipt.Receipt.{Receipt}
use Rattle.sweep_release.specs.declared.release_fault.ReleaseFault.{ReleaseFault}
use Rattle.sweep_release.specs.Desk.{DeskParts, new_desk, release, gate_up, drop_next}
use Rattle.sweep_release.specs.Place.{DeskAndBook}

-- two venues, gate 0 up and gate 1 down
abbrev pub two_venues : DeskParts
two_venues = (gate_up (new_desk 2) 0).1

-- so many orders for venue 0
abbrev pub orders : ℕ → List Routed
orders n = replicate n (order 0 10)

-- the greatest sweep, to venue 0
abbrev pub greatest : List Routed
greatest = replicate 32 (order 0 1000000)

-- the same desk, with so many shares released to venue 1 before, as one sweep
abbrev pub after_shares : ℕ → DeskParts
after_shares shares = record two_venues { sweeps = (order 1 shares ∷ []) ∷ [] }

-- the desk after a sweep of 32 legs to venue 0 was released so many times
abbrev pub after_sweeps : ℕ → DeskParts → DeskParts
after_sweeps zero desk = desk
after_sweeps (suc n) desk = after_sweeps n (release desk (orders 32)).1

-- venue 0 with all the legs that may be placed there
abbrev pub full : DeskParts
full = after_sweeps 8 two_venues

-- the desk after so many legs of venue 0 were dropped
abbrev pub after_drops : ℕ → DeskParts → DeskParts
after_drops zero desk = desk
after_drops (suc n) desk = after_drops n (drop_next desk 0).1

-- a sweep of one leg to venue 0 that was released, so that it is the desk's first
abbrev pub one_released : DeskParts
one_released = (release two_venues (orders 1)).1

-- a book of two venues with the same first sweep
abbrev pub one_opened : BookParts
one_opened = (open_sweep (new_book 2) 1 (orders 1)).1

-- the number of the sweep, and how many sweeps are in the desk and in the book after it
abbrev pub placed_numbers : Result Receipt ReleaseFault × DeskAndBook → Option (ℕ × ℕ × ℕ)
placed_numbers (Ok receipt, after) = Some (receipt.number, length after.desk.sweeps, length (opened after.book.entries))
placed_numbers (Err fault, after) = None

-- a desk whose first sweep was released, with a book that hasn't got it, and with its own
abbrev pub with_wrong_book : DeskAndBook
with_wrong_book = record { desk = one_released; book = new_book 2 }

abbrev pub with_own_book : DeskAndBook
with_own_book = record { desk = one_released; book = one_opened }
