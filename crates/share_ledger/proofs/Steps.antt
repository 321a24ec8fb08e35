-- A move that is let in does to the five parts what the calls of a split do.
use Rattle.std.proofs.Common.{◌≡◌, ℕ, ◌+◌, ◌≤◌, inl, inr, Bool, true, false, not, ◌||◌, List, [], ◌∷◌, ◌++◌, Ok, Err, refl, ap, sym, ◌∙◌, subst, arith, if◌then◌else◌}
use Rattle.std.specs.Prelude.{filter, sum_by, bytes_eq, nat_le}
use Rattle.std.specs.List.{list_any, AllByRecursion}
use Rattle.std.proofs.lemmas.Bool.{cases_Bool, and_parts, not-true, leb-true, le-leb}
use Rattle.std.proofs.lemmas.List.{append-nil}
use Rattle.std.proofs.lemmas.List.Elements.{filter-append}
use Rattle.std.proofs.lemmas.List.Folds.{list_any-append}
use Rattle.std.proofs.lemmas.List.Sums.{sum_by-cons}
use Rattle.std.proofs.lemmas.Slice.Eq.{bytes_eq-Decides}
use Rattle.leg.specs.declared.fault.LegFault.TheVariants.{Overfill, NotFilled}
use Rattle.leg.specs.Split.{SplitParts, SplitAnswer}
use Rattle.share_ledger.specs.declared.applied.Applied.TheVariants as applied
use Rattle.share_ledger.specs.Shares.{Traded, Move, Trades, Busts, Ends, Tells, trades, busted_ids, has_id, is_busted, filled_shares, busted_shares, cancelled_shares, parts_of}
use Rattle.share_ledger.specs.Book.{move_answer, can_bust}
use Rattle.share_ledger.specs.Steps.{traded_under, split_step}
use Rattle.share_ledger.proofs.OneMore.{or_false}
use Rattle.share_ledger.proofs.Sound.{let_in_trade, let_in_bust}
use Rattle.share_ledger.proofs.ShareSums.{IsWithin, traded, filled_and_busted, trades-append, traded-trade, traded-bust, cancelled-trade, cancelled-bust, cancelled-told, cancelled-end}

-- the reports of the leg's trades, and those that a bust names, were booked
pub record IsNamed (booked : List ℕ → Bool) (moves : List Move) : Type 0 where
  pub all_trades : AllByRecursion (λ trade. booked trade.exec ≡ true) (trades moves)
  pub all_busts : AllByRecursion (λ exec. booked exec ≡ true) (busted_ids moves)

pub busted_ids-append : (xs ys : List Move) → busted_ids (xs ++ ys) ≡ busted_ids xs ++ busted_ids ys
busted_ids-append [] ys = refl
busted_ids-append (Trades trade ∷ xs) ys = busted_ids-append xs ys
busted_ids-append (Busts exec ∷ xs) ys = ap (λ ids. exec ∷ ids) (busted_ids-append xs ys)
busted_ids-append (Ends ∷ xs) ys = busted_ids-append xs ys
busted_ids-append (Tells ∷ xs) ys = busted_ids-append xs ys

-- an id that wasn't booked is none of those that were
pub new_id : (booked : List ℕ → Bool) (exec : List ℕ) (ids : List (List ℕ)) → booked exec ≡ false
    → AllByRecursion (λ id. booked id ≡ true) ids → has_id exec ids ≡ false
new_id booked exec [] free all = refl
new_id booked exec (id ∷ ids) free all =
    let differs : bytes_eq exec id ≡ false =
    elim (cases_Bool (bytes_eq exec id)) [
      | inl same ↦ (let path = (bytes_eq-Decides exec id).0 same in let here : booked exec ≡ true = subst
          (λ x. booked x ≡ true) (sym path) all.0 in cc)
      | inr other ↦ other
    ] in
    rw differs (new_id booked exec ids free all.1)

pub same_split : (a b : SplitParts) → a.filled ≡ b.filled → a.busted ≡ b.busted → a.cancelled ≡ b.cancelled
    → a.withdrawn ≡ b.withdrawn → a.still_open ≡ b.still_open → a ≡ b
same_split a b f u c w o = λ i. record
    { filled = f i; busted = u i; cancelled = c i; withdrawn = w i; still_open = o i }

-- a trade under a new id isn't busted
busted-trade : (moves : List Move) (trade : Traded) → is_busted moves trade ≡ false
    → busted_shares (moves ++ Trades trade ∷ []) ≡ busted_shares moves
busted-trade moves trade open_trade =
    let ids : busted_ids (moves ++ Trades trade ∷ []) ≡ busted_ids moves = busted_ids-append moves (Trades trade ∷ [])
    ∙ append-nil (busted_ids moves) in
    ap (λ l. sum_by (λ t. t.shares) (filter (λ t. has_id t.exec l) (trades (moves ++ Trades trade ∷ [])))) ids
    ∙ (ap (λ l. sum_by (λ t. t.shares) (filter (is_busted moves) l)) (trades-append moves (Trades trade ∷ []))
    ∙ (ap (λ l. sum_by (λ t. t.shares) l) (filter-append (is_busted moves) (trades moves) (trade ∷ []))
    ∙ (ap (λ b. sum_by (λ t. t.shares) (filter (is_busted moves) (trades moves) ++ (if b then trade ∷ [] else [])))
    open_trade
    ∙ ap (λ l. sum_by (λ t. t.shares) l) (append-nil (filter (is_busted moves) (trades moves))))))

-- what one of two tests picks, where no element passes both
either_picks : (both one other : Traded → Bool) (ts : List Traded) → ((t : Traded) → both t ≡ (one t || other t))
    → ((t : Traded) → other t ≡ true → one t ≡ false)
    → sum_by (λ t. t.shares) (filter both ts) ≡ sum_by (λ t. t.shares) (filter one ts) + sum_by (λ t. t.shares)
    (filter other ts)
either_picks both one other [] is apart = refl
either_picks both one other (t ∷ ts) is apart =
    let rest = either_picks both one other ts is apart in
    let in_both = sum_by-cons (λ x. x.shares) t (filter both ts) in
    let in_one = sum_by-cons (λ x. x.shares) t (filter one ts) in
    let in_other = sum_by-cons (λ x. x.shares) t (filter other ts) in
    elim (cases_Bool (other t)) [
      | inl o ↦
          (let n = apart t o in
          let b : both t ≡ true = is t ∙ (ap (λ x. one t || x) o ∙ ap (λ x. x || true) n) in
          rw (b, n, o) (omega (arith, rest, in_both, in_other)))
      | inr o ↦
          elim (cases_Bool (one t)) [
            | inl n ↦
                (let b : both t ≡ true = is t ∙ ap (λ x. x || other t) n in
                rw (b, n, o) (omega (arith, rest, in_both, in_one)))
            | inr n ↦
                (let b : both t ≡ false = is t ∙ (ap (λ x. x || other t) n ∙ o) in
                rw (b, n, o) (omega (arith, rest)))
          ]
    ]

bytes_eq-sym : (xs ys : List ℕ) → bytes_eq xs ys ≡ true → bytes_eq ys xs ≡ true
bytes_eq-sym xs ys e = (bytes_eq-Decides ys xs).1 (sym ((bytes_eq-Decides xs ys).0 e))

pub bytes_eq-flip : (xs ys : List ℕ) → bytes_eq xs ys ≡ bytes_eq ys xs
bytes_eq-flip xs ys =
    elim (cases_Bool (bytes_eq xs ys)) [
      | inl e ↦ e ∙ sym (bytes_eq-sym xs ys e)
      | inr e ↦ elim (cases_Bool (bytes_eq ys xs)) [ inl f ↦ (let g = bytes_eq-sym ys xs f in cc) | inr f ↦ e ∙ sym f ]
    ]

-- a bust moves the shares that were traded under its id
busted-bust : (moves : List Move) (exec : List ℕ) → has_id exec (busted_ids moves) ≡ false
    → busted_shares (moves ++ Busts exec ∷ []) ≡ busted_shares moves + traded_under exec moves
busted-bust moves exec first =
    let ids : busted_ids (moves ++ Busts exec ∷ []) ≡ busted_ids moves ++ exec ∷ [] = busted_ids-append moves
    (Busts exec ∷ []) in
    let same : trades (moves ++ Busts exec ∷ []) ≡ trades moves = trades-append moves (Busts exec ∷ [])
    ∙ append-nil (trades moves) in
    ap (λ l. sum_by (λ t. t.shares) (filter (λ t. has_id t.exec l) (trades (moves ++ Busts exec ∷ [])))) ids
    ∙ (ap (λ l. sum_by (λ t. t.shares) (filter (λ t. has_id t.exec (busted_ids moves ++ exec ∷ [])) l)) same
    ∙ either_picks (λ t. has_id t.exec (busted_ids moves ++ exec ∷ [])) (is_busted moves) (λ t. bytes_eq exec t.exec)
    (trades moves)
    (λ t. list_any-append (bytes_eq t.exec) (busted_ids moves) (exec ∷ [])
    ∙ ap (λ b. is_busted moves t || b) (or_false (bytes_eq t.exec exec) ∙ bytes_eq-flip t.exec exec))
    (λ t e. subst (λ x. has_id x (busted_ids moves) ≡ false) ((bytes_eq-Decides exec t.exec).0 e) first))

-- an end and a first report bust nothing
busted-same : (moves : List Move) (move : Move) → trades (move ∷ []) ≡ [] → busted_ids (move ∷ []) ≡ []
    → busted_shares (moves ++ move ∷ []) ≡ busted_shares moves
busted-same moves move no_trade no_bust =
    let same : trades (moves ++ move ∷ []) ≡ trades moves = trades-append moves (move ∷ [])
    ∙ (ap (λ l. trades moves ++ l) no_trade ∙ append-nil (trades moves)) in
    let ids : busted_ids (moves ++ move ∷ []) ≡ busted_ids moves = busted_ids-append moves (move ∷ [])
    ∙ (ap (λ l. busted_ids moves ++ l) no_bust ∙ append-nil (busted_ids moves)) in
    ap (λ l. sum_by (λ t. t.shares) (filter (λ t. has_id t.exec l) (trades (moves ++ move ∷ [])))) ids
    ∙ ap (λ l. sum_by (λ t. t.shares) (filter (is_busted moves) l)) same

traded-same : (moves : List Move) (move : Move) → trades (move ∷ []) ≡ [] → traded (moves ++ move ∷ []) ≡ traded moves
traded-same moves move no_trade =
    ap (λ l. sum_by (λ t. t.shares) l)
    (trades-append moves (move ∷ []) ∙ (ap (λ l. trades moves ++ l) no_trade ∙ append-nil (trades moves)))

done : (n m : ℕ) (a b c : SplitParts) → n ≤ m → a ≡ c
    → (let r : SplitAnswer = if nat_le n m then (Ok tt, a) else (Err Overfill, b) in r ≡ (Ok tt, c))
done n m a b c low same = rw (le-leb n m low) (ap (λ s. (Ok tt, s)) same)

undone : (n m : ℕ) (a b c : SplitParts) → n ≤ m → a ≡ c
    → (let r : SplitAnswer = if nat_le n m then (Ok tt, a) else (Err NotFilled, b) in r ≡ (Ok tt, c))
undone n m a b c low same = rw (le-leb n m low) (ap (λ s. (Ok tt, s)) same)

-- a move that is let in, under an id that wasn't booked if it is a trade
pub step_is : (shares : ℕ) (moves : List Move) (move : Move) → IsWithin shares false moves
    → ((trade : Traded) → move ≡ Trades trade → is_busted moves trade ≡ false)
    → move_answer (parts_of shares false moves).still_open moves move ≡ applied.Moved
    → split_step moves move (parts_of shares false moves) ≡ (Ok tt, parts_of shares false (moves ++ move ∷ []))
step_is shares moves (Trades trade) h unbusted e =
    let within = h.within in
    let low = leb-true trade.shares (parts_of shares false moves).still_open
    (let_in_trade (nat_le trade.shares (parts_of shares false moves).still_open) e) in
    let after = moves ++ Trades trade ∷ [] in
    let bust = busted-trade moves trade (unbusted trade refl) in
    let both = filled_and_busted moves in
    let both_after = filled_and_busted after in
    let more = traded-trade moves trade in
    let kept = cancelled-trade shares moves trade in
    done trade.shares (parts_of shares false moves).still_open _ _ (parts_of shares false after) low
    (same_split _ (parts_of shares false after) (omega (arith, bust, both, both_after, more)) (sym bust) (sym kept) refl
    (omega (arith, within, both, both_after, more, kept)))
step_is shares moves (Busts exec) h unbusted e =
    let within = h.within in
    let parts = and_parts (list_any (λ trade. bytes_eq exec trade.exec) (trades moves))
    (not (has_id exec (busted_ids moves))) (let_in_bust (can_bust exec moves) e) in
    let after = moves ++ Busts exec ∷ [] in
    let bust = busted-bust moves exec (not-true (has_id exec (busted_ids moves)) parts.1) in
    let both = filled_and_busted moves in
    let both_after = filled_and_busted after in
    let same = traded-bust moves exec in
    let kept = cancelled-bust shares moves exec in
    undone (traded_under exec moves) (filled_shares moves) _ _ (parts_of shares false after)
    (omega (arith, bust, both, both_after, same))
    (same_split _ (parts_of shares false after) (omega (arith, bust, both, both_after, same)) (sym bust) (sym kept) refl
    (omega (arith, within, both, both_after, same, kept)))
step_is shares moves Ends h unbusted e =
    let within = h.within in
    let after = moves ++ Ends ∷ [] in
    let bust = busted-same moves Ends refl refl in
    let both = filled_and_busted moves in
    let both_after = filled_and_busted after in
    let same = traded-same moves Ends refl in
    let ended : cancelled_shares shares after ≡ cancelled_shares shares moves +
    (parts_of shares false moves).still_open =
    elim (cancelled-end shares moves) [
      | inl rest ↦ omega (arith, rest, within, both)
      | inr closed ↦ (let kept = closed.0 in let none = closed.1 in omega (arith, kept, none, within, both))
    ] in
    ap (λ s. (Ok tt, s))
    (same_split _ (parts_of shares false after) (omega (arith, bust, both, both_after, same)) (sym bust)
    (sym ended) refl
    (omega (arith, within, both, both_after, same, ended)))
step_is shares moves Tells h unbusted e =
    let within = h.within in
    let after = moves ++ Tells ∷ [] in
    let bust = busted-same moves Tells refl refl in
    let both = filled_and_busted moves in
    let both_after = filled_and_busted after in
    let same = traded-same moves Tells refl in
    let kept = cancelled-told shares moves in
    ap (λ s. (Ok tt, s))
    (same_split (parts_of shares false moves) (parts_of shares false after)
    (omega (arith, bust, both, both_after, same)) (sym bust) (sym kept) refl
    (omega (arith, within, both, both_after, same, kept)))
