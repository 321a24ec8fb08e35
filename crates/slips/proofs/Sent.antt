-- A book and its slips name no thread's key, so they may go to another thread.
use Rattle.std.proofs.Common.{ℕ, zero, suc, List, [], ◌∷◌}
use base.Stored.{Gv}
use base.Shift.{Keyless}
use Rattle.slips.specs.Slips.{chain, half, all_out, each_slip, book_owns, slips_own}

module _ {T : Type 0} (c : T → Gv) where
  chain_keyless : (xs : List (T × ℕ)) (γ : ℕ) → Keyless (chain c xs γ)
  chain_keyless [] γ = (tt, tt)
  chain_keyless (x ∷ xs) γ = λ d. (tt, (tt, (tt, chain_keyless xs d.1)))

  half_keyless : (i : ℕ) (x : T × ℕ) (γ : ℕ) → Keyless (half c i x γ)
  half_keyless zero x γ = λ d. (tt, tt)
  half_keyless (suc i) x γ = λ d. (tt, half_keyless i x d.1)

  each_keyless : (name : ℕ) (xs : List T) → Keyless (each_slip c name xs)
  each_keyless name [] = tt
  each_keyless name (x ∷ xs) = ((λ i. half_keyless i (x, 0) name), each_keyless name xs)

  pub book_keyless : (name : ℕ) (xs : List T) → Keyless (book_owns c name xs)
  unfolding book_owns
  book_keyless name xs = chain_keyless (all_out xs) name

  pub slips_keyless : (name : ℕ) (xs : List T) → Keyless (slips_own c name xs)
  unfolding slips_own
  slips_keyless name xs = each_keyless name xs
