-- The parts of a leg's shares, when one more note is booked on it.
use Rattle.std.proofs.Common.{◌≡◌, ℕ, ◌+◌, ◌-◌, ◌≤◌, ◌⊎◌, inl, inr, Bool, not, List, [], ◌∷◌, ◌++◌, refl, ap, arith}
use Rattle.std.specs.Prelude.{sum_by}
use Rattle.std.proofs.lemmas.List.{append-nil}
use Rattle.std.proofs.lemmas.List.Filters.{sum_by-filter_both}
use Rattle.std.proofs.lemmas.List.Sums.{sum_by-cons, sum_by_push}
use Rattle.leg.specs.Split.{leg_shares}
use Rattle.share_ledger.specs.Shares.{Traded, Move, Trades, Busts, Ends, Tells, trades, is_busted, filled_shares, busted_shares, cancelled_shares, withdrawn_shares, parts_of}

-- the shares of all trades
abbrev pub traded : List Move → ℕ
traded moves = sum_by (λ trade. trade.shares) (trades moves)

-- each trade is busted or not
pub filled_and_busted : (moves : List Move) → filled_shares moves + busted_shares moves ≡ traded moves
filled_and_busted moves =
    let both = sum_by-filter_both (is_busted moves) (λ trade. not (is_busted moves trade)) (λ trade. refl)
    (λ trade. trade.shares) (trades moves) in
    omega (arith, both)

pub trades-append : (xs ys : List Move) → trades (xs ++ ys) ≡ trades xs ++ trades ys
trades-append [] ys = refl
trades-append (Trades trade ∷ xs) ys = ap (λ ts. trade ∷ ts) (trades-append xs ys)
trades-append (Busts exec ∷ xs) ys = trades-append xs ys
trades-append (Ends ∷ xs) ys = trades-append xs ys
trades-append (Tells ∷ xs) ys = trades-append xs ys

-- a trade adds its shares, and nothing else adds any
pub traded-trade : (moves : List Move) (trade : Traded)
    → traded (moves ++ Trades trade ∷ []) ≡ traded moves + trade.shares
traded-trade moves trade = rw (trades-append moves (Trades trade ∷ []))
    (sum_by_push (λ t. t.shares) (trades moves) trade)

pub traded-bust : (moves : List Move) (exec : List ℕ) → traded (moves ++ Busts exec ∷ []) ≡ traded moves
traded-bust moves exec = rw (trades-append moves (Busts exec ∷ []), append-nil) refl

pub traded-end : (moves : List Move) → traded (moves ++ Ends ∷ []) ≡ traded moves
traded-end moves = rw (trades-append moves (Ends ∷ []), append-nil) refl

pub traded-told : (moves : List Move) → traded (moves ++ Tells ∷ []) ≡ traded moves
traded-told moves = rw (trades-append moves (Tells ∷ []), append-nil) refl

-- what the first end cancels is settled by what comes before it
pub cancelled-trade : (shares : ℕ) (moves : List Move) (trade : Traded)
    → cancelled_shares shares (moves ++ Trades trade ∷ []) ≡ cancelled_shares shares moves
cancelled-trade shares [] trade = refl
cancelled-trade shares (Trades first ∷ moves) trade = cancelled-trade (shares - first.shares) moves trade
cancelled-trade shares (Busts exec ∷ moves) trade = cancelled-trade shares moves trade
cancelled-trade shares (Ends ∷ moves) trade = refl
cancelled-trade shares (Tells ∷ moves) trade = cancelled-trade shares moves trade

pub cancelled-bust : (shares : ℕ) (moves : List Move) (exec : List ℕ)
    → cancelled_shares shares (moves ++ Busts exec ∷ []) ≡ cancelled_shares shares moves
cancelled-bust shares [] exec = refl
cancelled-bust shares (Trades first ∷ moves) exec = cancelled-bust (shares - first.shares) moves exec
cancelled-bust shares (Busts other ∷ moves) exec = cancelled-bust shares moves exec
cancelled-bust shares (Ends ∷ moves) exec = refl
cancelled-bust shares (Tells ∷ moves) exec = cancelled-bust shares moves exec

pub cancelled-told : (shares : ℕ) (moves : List Move)
    → cancelled_shares shares (moves ++ Tells ∷ []) ≡ cancelled_shares shares moves
cancelled-told shares [] = refl
cancelled-told shares (Trades first ∷ moves) = cancelled-told (shares - first.shares) moves
cancelled-told shares (Busts other ∷ moves) = cancelled-told shares moves
cancelled-told shares (Ends ∷ moves) = refl
cancelled-told shares (Tells ∷ moves) = cancelled-told shares moves

-- an end cancels what no trade took, unless an earlier one did, and then nothing is open
pub cancelled-end : (shares : ℕ) (moves : List Move)
    → (cancelled_shares shares (moves ++ Ends ∷ []) ≡ shares - traded moves) ⊎
    ((cancelled_shares shares (moves ++ Ends ∷ []) ≡ cancelled_shares shares moves)
    × (shares ≤ cancelled_shares shares moves + traded moves))
cancelled-end shares [] = inl (omega arith)
cancelled-end shares (Trades first ∷ moves) =
    let all = sum_by-cons (λ t. t.shares) first (trades moves) in
    elim (cancelled-end (shares - first.shares) moves) [
      | inl rest ↦ inl (omega (arith, rest, all))
      | inr same ↦ (let closed = same.1 in inr (same.0, omega (arith, closed, all)))
    ]
cancelled-end shares (Busts other ∷ moves) = cancelled-end shares moves
cancelled-end shares (Ends ∷ moves) = inr (refl, omega arith)
cancelled-end shares (Tells ∷ moves) = cancelled-end shares moves

-- what was traded, cancelled or withdrawn is at most the leg's shares
pub record IsWithin (shares : ℕ) (is_withdrawn : Bool) (moves : List Move) : Type 0 where
  pub within : traded moves + cancelled_shares shares moves + withdrawn_shares shares is_withdrawn ≤ shares

-- so the five parts add up
pub leg_shares-parts_of : (shares : ℕ) (is_withdrawn : Bool) (moves : List Move) → IsWithin shares is_withdrawn moves
    → leg_shares (parts_of shares is_withdrawn moves) ≡ shares
leg_shares-parts_of shares is_withdrawn moves h = let within = h.within in omega
    (arith, within, filled_and_busted moves)
