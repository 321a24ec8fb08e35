-- The sides name no thread's key, so they may go to another thread.
use Rattle.std.proofs.Common.{ℕ, List}
use base.Stored.{Gv}
use base.Shift.{Keyless}
use Rattle.agreed_list.specs.Sides.{book_owns, seat_owns}

module _ {T : Type 0} (c : T → Gv) (name : ℕ) (items : List T) where
  pub book_keyless : Keyless (book_owns c name items)
  unfolding book_owns
  book_keyless = tt

  pub seat_keyless : Keyless (seat_owns c name items)
  unfolding seat_owns
  seat_keyless = tt
