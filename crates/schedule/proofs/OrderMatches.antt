-- What our exchange reported of an order says what the order is: its trades, which of them are busted, and what is
-- cancelled. So the next report on it is one that the share rule has room for.
use Rattle.std.proofs.Common.{◌≡◌, ◌≤◌, ◌<◌, ◌+◌, ◌-◌, ◌||◌, ℕ, zero, suc, Bool, true, false, List, [], ◌∷◌, ◌++◌, map, decimal, Some, refl, sym, ap, subst, ◌∙◌, inl, inr, sum_by, if◌then◌else◌, arith}
use Rattle.std.specs.Prelude.{slice_get, slice_set, bytes_eq, nat_le}
use Rattle.std.specs.List.{list_any, AllByRecursion}
use Rattle.std.proofs.Math.Bool.{or-false}
use Rattle.std.proofs.lemmas.Bool.{cases_Bool, or_left, or_right, and_from, not_from_false, le-leb}
use Rattle.std.proofs.lemmas.Fmt.{decimal_injective}
use Rattle.std.proofs.lemmas.List.{append-nil, map-append}
use Rattle.std.proofs.lemmas.List.Folds.{list_any-append}
use Rattle.std.proofs.lemmas.List.Sums.{sum_by-cons}
use Rattle.std.proofs.lemmas.Option.{same_Some}
use Rattle.std.proofs.lemmas.Slice.Eq.{bytes_eq-Decides}
use Rattle.leg.specs.Numbered.{numbered}
use Rattle.dialect.specs.declared.report.ReportKind.{ReportKind}
use Rattle.exchange_core.specs.declared.ending.Ending.{Ending}
use Rattle.exchange_core.specs.Order.{OrderParts, TradeParts, ended_by}
use Rattle.exchange_core.specs.SentRecord.{exec_id}
use Rattle.exchange_core.specs.Shares.{live_shares, busted_shares, SharesAddUp}
use Rattle.exchange_core.proofs.Entries.{all_more}
use Rattle.exchange_core.proofs.ActsReport.{AnyPx, IsChange, by_trade, by_end, by_bust, after_trade, after_bust}
use Rattle.exchange_core.proofs.SharesLaws.{change_adds}
use Rattle.share_ledger.specs.declared.applied.Applied.TheVariants as applied
use Rattle.share_ledger.specs.Shares.{Traded, Move, Trades, Busts, Ends, trades, busted_ids, has_id, cancelled_shares, move_of_kind, parts_of}
use Rattle.share_ledger.specs.Book.{move_answer, can_bust}
use Rattle.share_ledger.proofs.ShareSums.{traded, filled_and_busted, trades-append, cancelled-trade, cancelled-bust, cancelled-end}
use Rattle.share_ledger.proofs.Steps.{busted_ids-append}

-- reports that were counted apart have ids that differ
same_exec : (a b : ℕ) → a ≤ 999999999 → b ≤ 999999999 → exec_id a ≡ exec_id b → a ≡ b
same_exec a b small few same =
    let digits : decimal a ≡ decimal b = cc in decimal_injective a b (omega arith) (omega arith) digits

pub other_exec : (a b : ℕ) → a ≤ 999999999 → b ≤ 999999999 → (a ≡ b → ⊥)
    → bytes_eq (exec_id a) (exec_id b) ≡ false
other_exec a b small few differs =
    elim (cases_Bool (bytes_eq (exec_id a) (exec_id b))) [
      | inl same ↦ absurd (differs (same_exec a b small few ((bytes_eq-Decides (exec_id a) (exec_id b)).0 same)))
      | inr other ↦ other
    ]

same_bytes : (xs : List ℕ) → bytes_eq xs xs ≡ true
same_bytes xs = (bytes_eq-Decides xs xs).1 refl

-- trades whose reports' counts rise, from above one count up to another
abbrev pub RiseTo : ℕ → ℕ → List TradeParts → Type 0
RiseTo low top [] = low ≤ top
RiseTo low top (trade ∷ trades) = (low < trade.exec) × RiseTo trade.exec top trades

rise_within : (low top : ℕ) (ts : List TradeParts) → RiseTo low top ts → low ≤ top
rise_within low top [] is = is
rise_within low top (t ∷ ts) is = let h = rise_within t.exec top ts is.1 in let l = is.0 in omega arith

rise_more : (low top : ℕ) (ts : List TradeParts) → RiseTo low top ts → RiseTo low (suc top) ts
rise_more low top [] is = let h : low ≤ top = is in omega arith
rise_more low top (t ∷ ts) is = (is.0, rise_more t.exec top ts is.1)

rise_push : (low top : ℕ) (ts : List TradeParts) (t : TradeParts) → t.exec ≡ suc top → RiseTo low top ts
    → RiseTo low (suc top) (ts ++ t ∷ [])
rise_push low top [] t at is = (let h : low ≤ top = is in omega arith, omega arith)
rise_push low top (x ∷ ts) t at is = (is.0, rise_push x.exec top ts t at is.1)

rise_set : (low top k : ℕ) (ts : List TradeParts) (old new : TradeParts) → slice_get ts k ≡ Some old
    → new.exec ≡ old.exec → RiseTo low top ts → RiseTo low top (slice_set ts k new)
rise_set low top k [] old new there same is = absurd cc
rise_set low top zero (x ∷ ts) old new there same is =
    let at : new.exec ≡ x.exec = same ∙ ap (λ (t : TradeParts). t.exec) (sym (same_Some x old there)) in
    (let l = is.0 in omega arith, subst (λ e. RiseTo e top ts) (sym at) is.1)
rise_set low top (suc k) (x ∷ ts) old new there same is =
    (is.0, rise_set x.exec top k ts old new there same is.1)

exec_within : (low top k : ℕ) (ts : List TradeParts) (t : TradeParts) → slice_get ts k ≡ Some t → RiseTo low top ts
    → (low < t.exec) × (t.exec ≤ top)
exec_within low top k [] t there is = absurd cc
exec_within low top zero (x ∷ ts) t there is =
    let at : x.exec ≡ t.exec = ap (λ (y : TradeParts). y.exec) (same_Some x t there) in
    let l = is.0 in
    let h = rise_within x.exec top ts is.1 in
    (omega arith, omega arith)
exec_within low top (suc k) (x ∷ ts) t there is =
    let rest = exec_within x.exec top k ts t there is.1 in
    let l = is.0 in
    let h = rest.0 in
    (omega arith, rest.1)

-- trades that are busted exactly where a bust names them
abbrev pub AreFlagged : List (List ℕ) → List TradeParts → Type 0
AreFlagged ids [] = Unit {0}
AreFlagged ids (trade ∷ trades) = (has_id (exec_id trade.exec) ids ≡ trade.is_busted) × AreFlagged ids trades

flags_push : (ids : List (List ℕ)) (ts : List TradeParts) (t : TradeParts) → AreFlagged ids ts
    → has_id (exec_id t.exec) ids ≡ t.is_busted → AreFlagged ids (ts ++ t ∷ [])
flags_push ids [] t flags is = (is, tt)
flags_push ids (x ∷ ts) t flags is = (flags.0, flags_push ids ts t flags.1 is)

flag_at : (ids : List (List ℕ)) (k : ℕ) (ts : List TradeParts) (t : TradeParts) → slice_get ts k ≡ Some t
    → AreFlagged ids ts → has_id (exec_id t.exec) ids ≡ t.is_busted
flag_at ids k [] t there flags = absurd cc
flag_at ids zero (x ∷ ts) t there flags =
    subst (λ (y : TradeParts). has_id (exec_id y.exec) ids ≡ y.is_busted) (same_Some x t there) flags.0
flag_at ids (suc k) (x ∷ ts) t there flags = flag_at ids k ts t there flags.1

id_more : (ids : List (List ℕ)) (a n : ℕ) → a ≤ 999999999 → n ≤ 999999999 → (a ≡ n → ⊥)
    → has_id (exec_id a) (ids ++ exec_id n ∷ []) ≡ has_id (exec_id a) ids
id_more ids a n small few differs =
    list_any-append (bytes_eq (exec_id a)) ids (exec_id n ∷ [])
    ∙ (ap (λ b. has_id (exec_id a) ids || (b || false)) (other_exec a n small few differs)
    ∙ or-false (has_id (exec_id a) ids))

id_last : (ids : List (List ℕ)) (a : ℕ) → has_id (exec_id a) (ids ++ exec_id a ∷ []) ≡ true
id_last ids a =
    list_any-append (bytes_eq (exec_id a)) ids (exec_id a ∷ [])
    ∙ (ap (λ b. has_id (exec_id a) ids || (b || false)) (same_bytes (exec_id a))
    ∙ or_right (has_id (exec_id a) ids) true refl)

-- one more bust flags its own trade alone
flags_other : (ids : List (List ℕ)) (n low top : ℕ) (ts : List TradeParts) → top ≤ 999999999 → RiseTo low top ts
    → n ≤ low → AreFlagged ids ts → AreFlagged (ids ++ exec_id n ∷ []) ts
flags_other ids n low top [] small is below flags = tt
flags_other ids n low top (t ∷ ts) small is below flags =
    let h = rise_within t.exec top ts is.1 in
    let l = is.0 in (
      id_more ids t.exec n (omega arith) (omega arith) (λ e. omega arith) ∙ flags.0,
      flags_other ids n t.exec top ts small is.1 (omega arith) flags.1,
    )

flags_bust : (ids : List (List ℕ)) (low top k : ℕ) (ts : List TradeParts) (t undone : TradeParts) → top ≤ 999999999
    → slice_get ts k ≡ Some t → undone.exec ≡ t.exec → undone.is_busted ≡ true → RiseTo low top ts
    → AreFlagged ids ts → AreFlagged (ids ++ exec_id t.exec ∷ []) (slice_set ts k undone)
flags_bust ids low top k [] t undone small there same busted is flags = absurd cc
flags_bust ids low top zero (x ∷ ts) t undone small there same busted is flags =
    let at : x.exec ≡ t.exec = ap (λ (y : TradeParts). y.exec) (same_Some x t there) in (
      ap (λ e. has_id (exec_id e) (ids ++ exec_id t.exec ∷ [])) same ∙ (id_last ids t.exec ∙ sym busted),
      flags_other ids t.exec x.exec top ts small is.1 (omega arith) flags.1,
    )
flags_bust ids low top (suc k) (x ∷ ts) t undone small there same busted is flags =
    let w = exec_within x.exec top k ts t there is.1 in
    let l = w.0 in
    let h = w.1 in (
      id_more ids x.exec t.exec (omega arith) (omega arith) (λ e. omega arith) ∙ flags.0,
      flags_bust ids x.exec top k ts t undone small there same busted is.1 flags.1,
    )

-- the id of a report that was counted by then
abbrev pub IsOld : ℕ → List ℕ → Type 0
IsOld top id = (count : ℕ) × (id ≡ exec_id count) × (count ≤ top)

old_more : (top : ℕ) (ids : List (List ℕ)) → AllByRecursion (IsOld top) ids → AllByRecursion (IsOld (suc top)) ids
old_more top [] all = tt
old_more top (id ∷ ids) all =
    let h = all.0.2 in ((all.0.0, all.0.1, omega arith), old_more top ids all.1)

pub new_exec : (top : ℕ) (ids : List (List ℕ)) → suc top ≤ 999999999 → AllByRecursion (IsOld top) ids
    → has_id (exec_id (suc top)) ids ≡ false
new_exec top [] small all = refl
new_exec top (id ∷ ids) small all =
    let h = all.0.2 in
    let other : bytes_eq (exec_id (suc top)) id ≡ false =
    ap (bytes_eq (exec_id (suc top))) all.0.1
    ∙ other_exec (suc top) all.0.0 small (omega arith) (λ e. omega arith) in
    rw other (new_exec top ids small all.1)

-- a trade as its report says it
abbrev pub traded_as : TradeParts → Traded
traded_as trade = record { exec = exec_id trade.exec; shares = trade.shares }

same_traded : (k : ℕ) (ts : List TradeParts) (old new : TradeParts) → slice_get ts k ≡ Some old
    → traded_as new ≡ traded_as old → map traded_as (slice_set ts k new) ≡ map traded_as ts
same_traded k [] old new there same = absurd cc
same_traded zero (x ∷ ts) old new there same =
    ap (λ t. t ∷ map traded_as ts) (same ∙ ap traded_as (sym (same_Some x old there)))
same_traded (suc k) (x ∷ ts) old new there same = ap (λ l. traded_as x ∷ l) (same_traded k ts old new there same)

any_traded : (k : ℕ) (ts : List TradeParts) (t : TradeParts) → slice_get ts k ≡ Some t
    → list_any (λ (x : Traded). bytes_eq (exec_id t.exec) x.exec) (map traded_as ts) ≡ true
any_traded k [] t there = absurd cc
any_traded zero (x ∷ ts) t there =
    let at : bytes_eq (exec_id t.exec) (exec_id x.exec) ≡ true =
    ap (λ (y : TradeParts). bytes_eq (exec_id t.exec) (exec_id y.exec)) (same_Some x t there)
    ∙ same_bytes (exec_id t.exec) in
    or_left (bytes_eq (exec_id t.exec) (exec_id x.exec)) _ at
any_traded (suc k) (x ∷ ts) t there =
    or_right (bytes_eq (exec_id t.exec) (exec_id x.exec)) _ (any_traded k ts t there)

-- the shares of all trades are those filled and those busted
by_flag : (b : Bool) (shares : ℕ) → shares ≡ (if b then 0 else shares) + (if b then shares else 0)
by_flag true shares = omega arith
by_flag false shares = omega arith

total_is : (ts : List TradeParts)
    → sum_by (λ (t : Traded). t.shares) (map traded_as ts) ≡ sum_by live_shares ts + sum_by busted_shares ts
total_is [] = refl
total_is (t ∷ ts) =
    let rest = total_is ts in
    let all = sum_by-cons (λ (x : Traded). x.shares) (traded_as t) (map traded_as ts) in
    let live = sum_by-cons live_shares t ts in
    let busted = sum_by-cons busted_shares t ts in
    let one : t.shares ≡ live_shares t + busted_shares t = by_flag t.is_busted t.shares in
    omega (arith, rest, all, live, busted, one)

-- the moves that were reported of an order, so many reports having been made
pub record Matches (top : ℕ) (moves : List Move) (order : OrderParts) : Type 0 where
  pub traded : trades moves ≡ map traded_as order.trades
  pub rise : RiseTo 0 top order.trades
  pub flags : AreFlagged (busted_ids moves) order.trades
  pub old : AllByRecursion (IsOld top) (busted_ids moves)
  pub cancelled : cancelled_shares order.leg.terms.shares moves ≡ order.split.cancelled
  pub withdrawn : order.split.withdrawn ≡ 0
  pub adds : SharesAddUp order

module _ (top : ℕ) (moves : List Move) (order : OrderParts) (m : Matches top moves order) where
  -- a report on another order
  pub matches_more : Matches (suc top) moves order
  matches_more = record {
    traded = m.traded;
    rise = rise_more 0 top order.trades m.rise;
    flags = m.flags;
    old = old_more top (busted_ids moves) m.old;
    cancelled = m.cancelled;
    withdrawn = m.withdrawn;
    adds = m.adds;
  }

  total : traded moves ≡ order.split.filled + order.split.busted
  total =
      let filled = m.adds.filled in
      let busted = m.adds.busted in
      let all = total_is order.trades in
      ap (λ l. sum_by (λ (t : Traded). t.shares) l) m.traded ∙ omega (arith, all, filled, busted)

  -- what the share rule has as open is open at the exchange
  open_is : (parts_of order.leg.terms.shares false moves).still_open ≡ order.split.still_open
  open_is =
      let both = filled_and_busted moves in
      let parts = m.adds.parts in
      let cancelled = m.cancelled in
      let none = m.withdrawn in
      let all = total in
      omega (arith, both, parts, cancelled, none, all)

  -- what a trade, an end and a bust make of them
  after_trade_matches : (shares : ℕ) → suc top ≤ 999999999 → SharesAddUp (after_trade order shares (suc top))
      → Matches (suc top) (moves ++ Trades (record { exec = exec_id (suc top); shares = shares }) ∷ [])
      (after_trade order shares (suc top))
  after_trade_matches shares small adds =
      let trade : TradeParts = record { shares = shares; exec = suc top; is_busted = false } in
      let move : Move = Trades (traded_as trade) in
      let ids : busted_ids (moves ++ move ∷ []) ≡ busted_ids moves =
      busted_ids-append moves (move ∷ []) ∙ append-nil (busted_ids moves) in
      record {
        traded = trades-append moves (move ∷ [])
            ∙ (ap (λ l. l ++ traded_as trade ∷ []) m.traded ∙ sym (map-append traded_as order.trades (trade ∷ [])));
        rise = rise_push 0 top order.trades trade refl m.rise;
        flags = subst (λ l. AreFlagged l (order.trades ++ trade ∷ [])) (sym ids)
            (flags_push (busted_ids moves) order.trades trade m.flags (new_exec top (busted_ids moves) small m.old));
        old = subst (AllByRecursion (IsOld (suc top))) (sym ids) (old_more top (busted_ids moves) m.old);
        cancelled = cancelled-trade order.leg.terms.shares moves (traded_as trade) ∙ m.cancelled;
        withdrawn = m.withdrawn;
        adds = adds;
      }

  after_end_matches : (ending : Ending) → SharesAddUp (ended_by ending order)
      → Matches (suc top) (moves ++ Ends ∷ []) (ended_by ending order)
  after_end_matches ending adds =
      let ids : busted_ids (moves ++ Ends ∷ []) ≡ busted_ids moves =
      busted_ids-append moves (Ends ∷ []) ∙ append-nil (busted_ids moves) in
      let parts = m.adds.parts in
      let none = m.withdrawn in
      let before = m.cancelled in
      let all = total in
      record {
        traded = trades-append moves (Ends ∷ []) ∙ (append-nil (trades moves) ∙ m.traded);
        rise = rise_more 0 top order.trades m.rise;
        flags = subst (λ l. AreFlagged l order.trades) (sym ids) m.flags;
        old = subst (AllByRecursion (IsOld (suc top))) (sym ids) (old_more top (busted_ids moves) m.old);
        cancelled = elim (cancelled-end order.leg.terms.shares moves) [
          | inl rest ↦ omega (arith, rest, parts, none, before, all)
          | inr closed ↦
              (let same = closed.0 in let most = closed.1 in omega (arith, same, most, parts, none, before, all))
        ];
        withdrawn = m.withdrawn;
        adds = adds;
      }

  after_bust_matches : (which : ℕ) (trade : TradeParts) → numbered which order.trades ≡ Some trade
      → suc top ≤ 999999999 → SharesAddUp (after_bust order which trade)
      → Matches (suc top) (moves ++ Busts (exec_id trade.exec) ∷ []) (after_bust order which trade)
  after_bust_matches zero trade there small adds = absurd cc
  after_bust_matches (suc k) trade there small adds =
      let undone : TradeParts = record trade { is_busted = true } in
      let move : Move = Busts (exec_id trade.exec) in
      let ids : busted_ids (moves ++ move ∷ []) ≡ busted_ids moves ++ exec_id trade.exec ∷ [] =
      busted_ids-append moves (move ∷ []) in
      let within = (exec_within 0 top k order.trades trade there m.rise).1 in
      record {
        traded = trades-append moves (move ∷ []) ∙ (append-nil (trades moves)
            ∙ (m.traded ∙ sym (same_traded k order.trades trade undone there refl)));
        rise = rise_more 0 top (slice_set order.trades k undone)
            (rise_set 0 top k order.trades trade undone there refl m.rise);
        flags = subst (λ l. AreFlagged l (slice_set order.trades k undone)) (sym ids)
            (flags_bust (busted_ids moves) 0 top k order.trades trade undone
            (omega arith) there refl refl m.rise m.flags);
        old = subst (AllByRecursion (IsOld (suc top))) (sym ids)
            (all_more (IsOld (suc top)) (busted_ids moves) (exec_id trade.exec)
            (old_more top (busted_ids moves) m.old) (trade.exec, refl, omega arith));
        cancelled = cancelled-bust order.leg.terms.shares moves (exec_id trade.exec) ∙ m.cancelled;
        withdrawn = m.withdrawn;
        adds = adds;
      }

  -- the share rule has room for each of them
  trade_fits : (shares : ℕ) → shares ≤ order.split.still_open
      → move_answer (parts_of order.leg.terms.shares false moves).still_open moves
      (Trades (record { exec = exec_id (suc top); shares = shares })) ≡ applied.Moved
  trade_fits shares within =
      let same = open_is in
      let fits : nat_le shares (parts_of order.leg.terms.shares false moves).still_open ≡ true =
      le-leb shares (parts_of order.leg.terms.shares false moves).still_open (omega (arith, within, same)) in
      rw fits refl

  bust_fits : (which : ℕ) (trade : TradeParts) → numbered which order.trades ≡ Some trade → trade.is_busted ≡ false
      → move_answer (parts_of order.leg.terms.shares false moves).still_open moves (Busts (exec_id trade.exec))
      ≡ applied.Moved
  bust_fits zero trade there live = absurd cc
  bust_fits (suc k) trade there live =
      let exec = exec_id trade.exec in
      let named : list_any (λ (x : Traded). bytes_eq exec x.exec) (trades moves) ≡ true =
      ap (list_any (λ (x : Traded). bytes_eq exec x.exec)) m.traded ∙ any_traded k order.trades trade there in
      let free : has_id exec (busted_ids moves) ≡ false =
      flag_at (busted_ids moves) k order.trades trade there m.flags ∙ live in
      let can : can_bust exec moves ≡ true = and_from _ _ named (not_from_false _ free) in
      rw can refl

  -- so it is with every change of the order
  pub change_matches : (new : OrderParts) (kind : ReportKind) → suc top ≤ 999999999
      → IsChange AnyPx (suc top) order new kind
      → Matches (suc top) (moves ++ move_of_kind (exec_id (suc top)) kind ∷ []) new
  change_matches new kind small (by_trade shares px is low within after says) =
      let adds = change_adds AnyPx (suc top) order new kind (by_trade shares px is low within after says) m.adds in
      subst (λ k. Matches (suc top) (moves ++ move_of_kind (exec_id (suc top)) k ∷ []) new) (sym says)
      (subst (Matches (suc top) (moves ++ Trades (record { exec = exec_id (suc top); shares = shares }) ∷ []))
      (sym after) (after_trade_matches shares small (subst SharesAddUp after adds)))
  change_matches new kind small (by_end ending after says) =
      let adds = change_adds AnyPx (suc top) order new kind (by_end ending after says) m.adds in
      let ended = subst (Matches (suc top) (moves ++ Ends ∷ [])) (sym after)
      (after_end_matches ending (subst SharesAddUp after adds)) in
      elim says [
        | inl cancel ↦
            subst (λ k. Matches (suc top) (moves ++ move_of_kind (exec_id (suc top)) k ∷ []) new) (sym cancel) ended
        | inr reject ↦
            subst (λ k. Matches (suc top) (moves ++ move_of_kind (exec_id (suc top)) k ∷ []) new) (sym reject) ended
      ]
  change_matches new kind small (by_bust which trade there live within after says) =
      let adds = change_adds AnyPx (suc top) order new kind (by_bust which trade there live within after says) m.adds in
      subst (λ k. Matches (suc top) (moves ++ move_of_kind (exec_id (suc top)) k ∷ []) new) (sym says)
      (subst (Matches (suc top) (moves ++ Busts (exec_id trade.exec) ∷ [])) (sym after)
      (after_bust_matches which trade there small (subst SharesAddUp after adds)))

  pub change_fits : (new : OrderParts) (kind : ReportKind) → IsChange AnyPx (suc top) order new kind
      → move_answer (parts_of order.leg.terms.shares false moves).still_open moves
      (move_of_kind (exec_id (suc top)) kind) ≡ applied.Moved
  change_fits new kind (by_trade shares px is low within after says) =
      subst (λ k. move_answer (parts_of order.leg.terms.shares false moves).still_open moves
      (move_of_kind (exec_id (suc top)) k) ≡ applied.Moved) (sym says) (trade_fits shares within)
  change_fits new kind (by_end ending after says) =
      elim says [
        | inl cancel ↦
            subst (λ k. move_answer (parts_of order.leg.terms.shares false moves).still_open moves
            (move_of_kind (exec_id (suc top)) k) ≡ applied.Moved) (sym cancel) refl
        | inr reject ↦
            subst (λ k. move_answer (parts_of order.leg.terms.shares false moves).still_open moves
            (move_of_kind (exec_id (suc top)) k) ≡ applied.Moved) (sym reject) refl
      ]
  change_fits new kind (by_bust which trade there live within after says) =
      subst (λ k. move_answer (parts_of order.leg.terms.shares false moves).still_open moves
      (move_of_kind (exec_id (suc top)) k) ≡ applied.Moved) (sym says) (bust_fits which trade there live)
