-- What the laws of the desk say.
use Rattle.std.specs.Prelude.{◌≡◌, ◌≢◌, ℕ, ◌+◌, ◌≤◌, List, ◌∷◌, length, Some}
use Rattle.leg.specs.Numbered.{numbered}
use Rattle.leg.specs.declared.placed_leg.PlacedLeg.{PlacedLeg}
use Rattle.leg.specs.declared.sweep.Routed.{Routed}
use Rattle.leg.specs.Growing.{Grew}
use Rattle.share_ledger.specs.declared.book_entry.BookEntry.TheVariants.{Opened}
use Rattle.share_ledger.specs.Entries.{sweep_shares}
use Rattle.share_ledger.specs.Book.{written, next_sweep}
use Rattle.sweep_release.specs.declared.receipt.Receipt.{Receipt}
use Rattle.sweep_release.specs.Released.{released}
use Rattle.sweep_release.specs.Desk.{DeskParts, venue_at, placed, placed_legs, next_number, with_sweep}
use Rattle.sweep_release.specs.Place.{DeskAndBook}

-- the sweeps are as they were, and so is each other venue
pub record ChangesOnly (venue : ℕ) (before after : DeskParts) : Type 0 where
  pub sweeps : after.sweeps ≡ before.sweeps
  pub others : (other : ℕ) → other ≢ venue → venue_at after other ≡ venue_at before other

-- the legs released to a venue before are the first of those released to it after
abbrev pub OnlyAppends : ℕ → DeskParts → DeskParts → Type 0
OnlyAppends venue before after = Grew (released venue before.sweeps) (released venue after.sweeps)

-- each leg released to a venue is placed or left, and at most 256 are placed
pub record IsCounted (desk : DeskParts) (venue : ℕ) : Type 0 where
  pub all : (venue_at desk venue).left + placed desk venue ≡ length (released venue desk.sweeps)
  pub few : placed desk venue ≤ 256

-- a leg that left was the first of those placed, the others are still placed, and its ordinal is its place among the
-- released legs, from 1
pub record LeavesFirst (venue : ℕ) (before after : DeskParts) (placed_leg : PlacedLeg) : Type 0 where
  pub first : placed_legs before venue ≡ placed_leg.leg ∷ placed_legs after venue
  pub ordinal : numbered placed_leg.ordinal (released venue before.sweeps) ≡ Some placed_leg.leg

-- desk and book took this sweep, under the receipt's number, and nothing else
pub record IsPlaced (before : DeskAndBook) (legs : List Routed) (after : DeskAndBook) (receipt : Receipt) : Type 0 where
  pub in_desk : after.desk ≡ with_sweep legs before.desk
  pub in_book : after.book ≡ written (Opened (record { legs = legs })) before.book
  pub desk_number : receipt.number ≡ next_number before.desk
  pub book_number : receipt.number ≡ next_sweep before.book
  pub shares : receipt.shares ≡ sweep_shares legs
