-- The trades on a leg that can be busted, when one more note is booked.
use Rattle.std.proofs.Common.{◌≡◌, ℕ, inl, inr, Bool, true, false, not, ◌&&◌, ◌||◌, List, [], ◌∷◌, ◌++◌, Option, Some, None, refl, ap, sym, ◌∙◌, subst, arith, if◌then◌else◌}
use Rattle.std.specs.Prelude.{filter, sum_by, bytes_eq}
use Rattle.std.specs.List.{list_any}
use Rattle.std.proofs.lemmas.Bool.{cases_Bool}
use Rattle.std.proofs.lemmas.List.{append-nil}
use Rattle.std.proofs.lemmas.List.Elements.{filter-append}
use Rattle.std.proofs.lemmas.List.Folds.{list_any-append}
use Rattle.std.proofs.lemmas.List.Sums.{sum_by-append, sum_by-cons}
use Rattle.std.proofs.lemmas.Slice.Eq.{bytes_eq-Decides}
use Rattle.share_ledger.specs.Shares.{Traded, Move, Trades, Busts, trades, busted_ids, has_id}
use Rattle.share_ledger.specs.Steps.{traded_under}
use Rattle.share_ledger.specs.Kept.{standing}
use Rattle.share_ledger.proofs.OneMore.{or_false, or_true}
use Rattle.share_ledger.proofs.ShareSums.{trades-append}
use Rattle.share_ledger.proofs.Steps.{IsNamed, busted_ids-append, new_id, bytes_eq-flip}
use Rattle.share_ledger.proofs.Told.{any_booked}

-- what is there by its trades and its busted ids
abbrev standing_by : List ℕ → List Traded → List (List ℕ) → Option ℕ
standing_by exec ts ids =
    if list_any (λ trade. bytes_eq exec trade.exec) ts && not (has_id exec ids)
    then Some (sum_by (λ trade. trade.shares) (filter (λ trade. bytes_eq exec trade.exec) ts))
    else None

-- an end and a first report change none
pub standing-same : (exec : List ℕ) (moves : List Move) (move : Move) → trades (move ∷ []) ≡ []
    → busted_ids (move ∷ []) ≡ [] → standing exec (moves ++ move ∷ []) ≡ standing exec moves
standing-same exec moves move no_trade no_bust =
    let same : trades (moves ++ move ∷ []) ≡ trades moves = trades-append moves (move ∷ [])
    ∙ (ap (λ l. trades moves ++ l) no_trade ∙ append-nil (trades moves)) in
    let ids : busted_ids (moves ++ move ∷ []) ≡ busted_ids moves = busted_ids-append moves (move ∷ [])
    ∙ (ap (λ l. busted_ids moves ++ l) no_bust ∙ append-nil (busted_ids moves)) in
    λ n. standing_by exec (same n) (ids n)

-- none under an id that wasn't booked
pub standing-new : (booked : List ℕ → Bool) (exec : List ℕ) (moves : List Move) → booked exec ≡ false
    → IsNamed booked moves → standing exec moves ≡ None
standing-new booked exec moves free named =
    elim (cases_Bool (list_any (λ trade. bytes_eq exec trade.exec) (trades moves))) [
      | inl there ↦ (let here = any_booked booked exec (trades moves) named.all_trades there in cc)
      | inr none ↦ rw none refl
    ]

none_under : (exec : List ℕ) (ts : List Traded) → list_any (λ trade. bytes_eq exec trade.exec) ts ≡ false
    → sum_by (λ trade. trade.shares) (filter (λ trade. bytes_eq exec trade.exec) ts) ≡ 0
none_under exec [] none = refl
none_under exec (t ∷ ts) none =
    elim (cases_Bool (bytes_eq exec t.exec)) [
      | inl here ↦ (let some = sym (ap (λ b. b || list_any (λ trade. bytes_eq exec trade.exec) ts) here) ∙ none in cc)
      | inr other ↦ rw other
          (none_under exec ts (sym (ap (λ b. b || list_any (λ trade. bytes_eq exec trade.exec) ts) other) ∙ none))
    ]

-- a trade under a new id
pub standing-trade : (booked : List ℕ → Bool) (exec : List ℕ) (moves : List Move) (trade : Traded)
    → booked trade.exec ≡ false → IsNamed booked moves
    → standing exec (moves ++ Trades trade ∷ []) ≡
    (if bytes_eq trade.exec exec then Some trade.shares else standing exec moves)
standing-trade booked exec moves trade free named =
    let ts : trades (moves ++ Trades trade ∷ []) ≡ trades moves ++ trade ∷ [] = trades-append moves
    (Trades trade ∷ []) in
    let ids : busted_ids (moves ++ Trades trade ∷ []) ≡ busted_ids moves = busted_ids-append moves (Trades trade ∷ [])
    ∙ append-nil (busted_ids moves) in
    let flip = bytes_eq-flip exec trade.exec in
    let any = list_any-append (λ t. bytes_eq exec t.exec) (trades moves) (trade ∷ []) in
    let picks = filter-append (λ t. bytes_eq exec t.exec) (trades moves) (trade ∷ []) in
    (λ n. standing_by exec (ts n) (ids n))
    ∙ elim (cases_Bool (bytes_eq trade.exec exec)) [
      | inl this ↦
          (let path : trade.exec ≡ exec = (bytes_eq-Decides trade.exec exec).0 this in
          let here : bytes_eq exec trade.exec ≡ true = flip ∙ this in
          let unbooked : booked exec ≡ false = subst (λ x. booked x ≡ false) path free in
          let unbusted = new_id booked exec (busted_ids moves) unbooked named.all_busts in
          let none : list_any (λ t. bytes_eq exec t.exec) (trades moves) ≡ false =
          elim (cases_Bool (list_any (λ t. bytes_eq exec t.exec) (trades moves))) [
            | inl there ↦ (let booked_there = any_booked booked exec (trades moves) named.all_trades there in cc)
            | inr gone ↦ gone
          ] in
          let whole : list_any (λ t. bytes_eq exec t.exec) (trades moves ++ trade ∷ []) ≡ true = any
          ∙ (λ n. none n || (here n || false)) in
          let zero = none_under exec (trades moves) none in
          let alone : filter (λ t. bytes_eq exec t.exec) (trade ∷ []) ≡ trade ∷ [] = rw here refl in
          let one = ap (λ l. sum_by (λ t. t.shares) l) alone in
          let only = sum_by-cons (λ t. t.shares) trade [] in
          let sum : sum_by (λ t. t.shares)
          (filter (λ t. bytes_eq exec t.exec) (trades moves ++ trade ∷ [])) ≡ trade.shares =
          (let both = ap (λ l. sum_by (λ t. t.shares) l) picks in
          let parts = sum_by-append (λ t. t.shares) (filter (λ t. bytes_eq exec t.exec) (trades moves))
          (filter (λ t. bytes_eq exec t.exec) (trade ∷ [])) in
          omega (arith, both, parts, zero, one, only)) in
          (λ n. if whole n && not (unbusted n) then Some (sum n) else None)
          ∙ sym (ap (λ b. if b then Some trade.shares else standing exec moves) this))
      | inr other ↦
          (let there : bytes_eq exec trade.exec ≡ false = flip ∙ other in
          let same_any : list_any (λ t. bytes_eq exec t.exec) (trades moves ++ trade ∷ []) ≡ list_any
          (λ t. bytes_eq exec t.exec) (trades moves) =
          any ∙ ((λ n. list_any (λ t. bytes_eq exec t.exec) (trades moves) || (there n || false))
          ∙ or_false (list_any (λ t. bytes_eq exec t.exec) (trades moves))) in
          let nothing : filter (λ t. bytes_eq exec t.exec) (trade ∷ []) ≡ [] = rw there refl in
          let same_sum = ap (λ l. sum_by (λ t. t.shares) l)
          (picks ∙ (ap (λ l. filter (λ t. bytes_eq exec t.exec) (trades moves) ++ l) nothing
          ∙ append-nil (filter (λ t. bytes_eq exec t.exec) (trades moves)))) in
          (λ n. if same_any n && not (has_id exec (busted_ids moves)) then Some (same_sum n) else None)
          ∙ sym (ap (λ b. if b then Some trade.shares else standing exec moves) other))
    ]

no_more : (b c : Bool) (x : Option ℕ) → c ≡ true → (if b && not c then x else None) ≡ None
no_more true c x e = rw e refl
no_more false c x e = refl

-- a bust takes its trade away
pub standing-bust : (exec : List ℕ) (moves : List Move) (busted : List ℕ)
    → standing exec (moves ++ Busts busted ∷ []) ≡ (if bytes_eq busted exec then None else standing exec moves)
standing-bust exec moves busted =
    let ts : trades (moves ++ Busts busted ∷ []) ≡ trades moves = trades-append moves (Busts busted ∷ [])
    ∙ append-nil (trades moves) in
    let ids : busted_ids (moves ++ Busts busted ∷ []) ≡ busted_ids moves ++ busted ∷ [] = busted_ids-append moves
    (Busts busted ∷ []) in
    let flip = bytes_eq-flip exec busted in
    let any = list_any-append (bytes_eq exec) (busted_ids moves) (busted ∷ []) in
    (λ n. standing_by exec (ts n) (ids n))
    ∙ elim (cases_Bool (bytes_eq busted exec)) [
      | inl this ↦
          (let here : bytes_eq exec busted ≡ true = flip ∙ this in
          let gone : has_id exec (busted_ids moves ++ busted ∷ []) ≡ true = any
          ∙ ((λ n. has_id exec (busted_ids moves) || (here n || false)) ∙ or_true (has_id exec (busted_ids moves)))
          in
          no_more (list_any (λ t. bytes_eq exec t.exec) (trades moves)) (has_id exec (busted_ids moves ++ busted ∷ []))
          (Some (traded_under exec moves)) gone
          ∙ sym (ap (λ b. if b then None else standing exec moves) this))
      | inr other ↦
          (let there : bytes_eq exec busted ≡ false = flip ∙ other in
          let same : has_id exec (busted_ids moves ++ busted ∷ []) ≡ has_id exec (busted_ids moves) = any
          ∙ ((λ n. has_id exec (busted_ids moves) || (there n || false))
          ∙ or_false (has_id exec (busted_ids moves))) in
          (λ n. if list_any (λ t. bytes_eq exec t.exec) (trades moves) && not (same n) then Some
          (traded_under exec moves) else None)
          ∙ sym (ap (λ b. if b then None else standing exec moves) other))
    ]
