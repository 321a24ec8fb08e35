-- What notes tell as the moves of the book, and what their trades come to at most.
use Rattle.std.proofs.Common.{◌≡◌, ℕ, ◌+◌, ◌*◌, ◌≤◌, inl, inr, Bool, true, false, not, List, [], ◌∷◌, ◌++◌, map, Option, Some, None, refl, ap, sym, subst, ◌∙◌, arith, if◌then◌else◌}
use Rattle.std.specs.Prelude.{filter, sum_by, bytes_eq, unwrap_or, is_some, option_map}
use Rattle.std.specs.List.{list_any, AllByRecursion}
use Rattle.std.proofs.lemmas.Bool.{cases_Bool}
use Rattle.std.proofs.lemmas.List.Sums.{sum_by-cons}
use Rattle.std.proofs.lemmas.Nat.{mul-le}
use Rattle.std.proofs.lemmas.Slice.Eq.{bytes_eq-Decides}
use Rattle.leg.specs.LegId.{LegIdParts}
use Rattle.leg.specs.Split.{IsSplit}
use Rattle.leg.specs.declared.sweep.Routed.{Routed}
use Rattle.dialect.specs.Fill.{FillParts}
use Rattle.dialect.specs.declared.note.Note.{Note}
use Rattle.dialect.specs.declared.note.Note.TheVariants as note
use Rattle.dialect.specs.declared.report.ReportKind.{ReportKind}
use Rattle.dialect.specs.declared.report.ReportKind.TheVariants.{New, Trade, Canceled, Rejected, Expired, Bust}
use Rattle.exact_price.specs.Exact.{exact_of}
use Rattle.exact_price.proofs.Within.{exact_within}
use Rattle.share_ledger.specs.declared.booked_leg.BookedLeg.{BookedLeg}
use Rattle.share_ledger.specs.Book.{BookParts, booked_leg, leg_in, moves_on}
use Rattle.share_ledger.specs.Entries.{notes_on, order_of}
use Rattle.share_ledger.specs.Shares.{Traded, Move, move_of, move_of_kind, trades, busted_ids, has_id, filled_shares}
use Rattle.share_ledger.proofs.Steps.{bytes_eq-flip}
use Rattle.leg_worth.specs.declared.change.LegTrade.{LegTrade}
use Rattle.leg_worth.specs.declared.worth.Worth.{Worth}
use Rattle.leg_worth.specs.Worth.{leg_worth, traded_by, busted_by, trades_in, busts_in, standing_in, sum_of, paid, unpriced}

-- a trade as the book's moves have it
abbrev pub as_traded : LegTrade → Traded
as_traded trade = record { exec = trade.exec; shares = trade.fill.shares }

-- one note's move in front of others
busts_first : (exec : List ℕ) (kind : ReportKind) (moves : List Move) (ids : List (List ℕ)) → busted_ids moves ≡ ids
    → busted_ids (move_of_kind exec kind ∷ moves) ≡ busted_by kind ++ ids
busts_first exec New moves ids is = is
busts_first exec (Trade fill) moves ids is = is
busts_first exec Canceled moves ids is = is
busts_first exec Rejected moves ids is = is
busts_first exec Expired moves ids is = is
busts_first exec (Bust cancelled_id) moves ids is = ap (λ (l : List (List ℕ)). cancelled_id ∷ l) is

trades_first : (exec : List ℕ) (kind : ReportKind) (moves : List Move) (ts : List LegTrade)
    → trades moves ≡ map as_traded ts → trades (move_of_kind exec kind ∷ moves) ≡ map as_traded (traded_by exec kind ++ ts)
trades_first exec New moves ts is = is
trades_first exec (Trade fill) moves ts is = ap (λ (l : List Traded). record
    { exec = exec; shares = fill.shares } ∷ l) is
trades_first exec Canceled moves ts is = is
trades_first exec Rejected moves ts is = is
trades_first exec Expired moves ts is = is
trades_first exec (Bust cancelled_id) moves ts is = is

pub moves_busts : (notes : List Note) → busted_ids (map move_of notes) ≡ busts_in notes
moves_busts [] = refl
moves_busts (note.Report report ∷ notes) =
    busts_first report.exec report.kind (map move_of notes) (busts_in notes) (moves_busts notes)
moves_busts (note.Refused id ∷ notes) = moves_busts notes
moves_busts (note.Unread fault ∷ notes) = moves_busts notes

pub moves_trades : (notes : List Note) → trades (map move_of notes) ≡ map as_traded (trades_in notes)
moves_trades [] = refl
moves_trades (note.Report report ∷ notes) =
    trades_first report.exec report.kind (map move_of notes) (trades_in notes) (moves_trades notes)
moves_trades (note.Refused id ∷ notes) = moves_trades notes
moves_trades (note.Unread fault ∷ notes) = moves_trades notes

-- ---- under an id

-- none under an id that wasn't booked
pub none_under : (booked : List ℕ → Bool) (exec : List ℕ) (ts : List LegTrade) → booked exec ≡ false
    → AllByRecursion (λ trade. booked trade.exec ≡ true) (map as_traded ts)
    → filter (λ (t : LegTrade). bytes_eq t.exec exec) ts ≡ []
none_under booked exec [] free all = refl
none_under booked exec (t ∷ ts) free all =
    elim (cases_Bool (bytes_eq t.exec exec)) [
      | inl same ↦
          (let path = (bytes_eq-Decides t.exec exec).0 same in
          let here : booked exec ≡ true = subst (λ x. booked x ≡ true) path all.0 in absurd cc)
      | inr other ↦ rw other (none_under booked exec ts free all.1)
    ]

-- where there is none, no trade of the book's moves is there
pub none_there : (exec : List ℕ) (ts : List LegTrade) → filter (λ (t : LegTrade). bytes_eq t.exec exec) ts ≡ []
    → list_any (λ (trade : Traded). bytes_eq exec trade.exec) (map as_traded ts) ≡ false
none_there exec [] none = refl
none_there exec (t ∷ ts) none =
    elim (cases_Bool (bytes_eq t.exec exec)) [
      | inl same ↦
          (let first = sym (ap (λ b. let l : List LegTrade = if b then t ∷ filter (λ x. bytes_eq x.exec exec) ts
          else filter (λ x. bytes_eq x.exec exec) ts in l) same) ∙ none in absurd cc)
      | inr other ↦
          (let left = sym (ap (λ b. let l : List LegTrade = if b then t ∷ filter (λ x. bytes_eq x.exec exec) ts
          else filter (λ x. bytes_eq x.exec exec) ts in l) other) ∙ none in
          let flipped : bytes_eq exec t.exec ≡ false = bytes_eq-flip exec t.exec ∙ other in
          rw flipped (none_there exec ts left))
    ]

-- ---- at most

filled_by : (ids : List (List ℕ)) (ts : List LegTrade)
    → sum_by (λ (trade : Traded). trade.shares) (filter (λ trade. not (has_id trade.exec ids)) (map as_traded ts))
    ≡ sum_by (λ (t : LegTrade). t.fill.shares) (filter (λ t. not (has_id t.exec ids)) ts)
filled_by ids [] = refl
filled_by ids (t ∷ ts) =
    let rest = filled_by ids ts in
    let one = sum_by-cons (λ (trade : Traded). trade.shares) (as_traded t)
    (filter (λ trade. not (has_id trade.exec ids)) (map as_traded ts)) in
    let same = sum_by-cons (λ (x : LegTrade). x.fill.shares) t (filter (λ x. not (has_id x.exec ids)) ts) in
    elim (cases_Bool (has_id t.exec ids)) [
      | inl gone ↦ rw gone rest
      | inr stands ↦ rw stands (omega (arith, rest, one, same))
    ]

-- the shares of the standing trades are those that the book has as filled
pub filled_is : (notes : List Note) → filled_shares (map move_of notes) ≡ sum_of (λ fill. fill.shares) notes
filled_is notes =
    (λ i. sum_by (λ (trade : Traded). trade.shares)
    (filter (λ trade. not (has_id trade.exec (moves_busts notes i))) (moves_trades notes i)))
    ∙ filled_by (busts_in notes) (trades_in notes)

paid_within : (fill : FillParts) → paid fill ≤ 1_000_000_000_000_000_000 * fill.shares
paid_within fill =
    let most = mul-le fill.shares (unwrap_or (exact_of fill.px) 0) fill.shares 1_000_000_000_000_000_000 (omega arith)
    (exact_within fill.px) in
    omega (arith, most)

unpriced_within : (fill : FillParts) → unpriced fill ≤ fill.shares
unpriced_within fill = elim (cases_Bool (is_some (exact_of fill.px))) [
  | inl priced ↦ rw priced (omega arith)
  | inr not_priced ↦ rw not_priced (omega arith)
]

sum_within : (f g : FillParts → ℕ) (ts : List LegTrade) → ((fill : FillParts) → f fill ≤ 1_000_000_000_000_000_000 * g fill)
    → sum_by (λ (t : LegTrade). f t.fill) ts ≤ 1_000_000_000_000_000_000 * sum_by (λ (t : LegTrade). g t.fill) ts
sum_within f g [] within = omega arith
sum_within f g (t ∷ ts) within =
    omega (
      arith,
      within t.fill,
      sum_within f g ts within,
      sum_by-cons (λ (x : LegTrade). f x.fill) t ts,
      sum_by-cons (λ (x : LegTrade). g x.fill) t ts,
    )

sum_below : (f g : FillParts → ℕ) (ts : List LegTrade) → ((fill : FillParts) → f fill ≤ g fill)
    → sum_by (λ (t : LegTrade). f t.fill) ts ≤ sum_by (λ (t : LegTrade). g t.fill) ts
sum_below f g [] within = omega arith
sum_below f g (t ∷ ts) within =
    omega (
      arith,
      within t.fill,
      sum_below f g ts within,
      sum_by-cons (λ (x : LegTrade). f x.fill) t ts,
      sum_by-cons (λ (x : LegTrade). g x.fill) t ts,
    )

-- what was paid for so many shares, and how many of them have no price
pub value_within : (notes : List Note) → sum_of paid notes ≤ 1_000_000_000_000_000_000 * filled_shares (map move_of notes)
value_within notes =
    omega (arith, filled_is notes, sum_within paid (λ fill. fill.shares) (standing_in notes) paid_within)

pub unpriced_few : (notes : List Note) → sum_of unpriced notes ≤ filled_shares (map move_of notes)
unpriced_few notes =
    omega (arith, filled_is notes, sum_below unpriced (λ fill. fill.shares) (standing_in notes) unpriced_within)

-- ---- of a leg that the book has

filled_of : (book : BookParts) (id : LegIdParts) (leg : BookedLeg) (order : Option Routed)
    → option_map (booked_leg book id) order ≡ Some leg → leg.parts.filled ≡ filled_shares (moves_on id book)
filled_of book id leg None is = absurd cc
filled_of book id leg (Some routed) is =
    let same : booked_leg book id routed ≡ leg = cc in sym (ap (λ (l : BookedLeg). l.parts.filled) same)

-- at most 10^24 was paid for its shares, of which it has at most 1,000,000
pub kept_few : (book : BookParts) (id : LegIdParts) (worth : Worth) (leg : BookedLeg) → worth ≡ leg_worth book id
    → leg_in book id ≡ Some leg → IsSplit leg.parts
    → (worth.value ≤ 1_000_000_000_000_000_000_000_000) × (worth.unpriced ≤ 1_000_000)
kept_few book id worth leg is there split =
    let filled = filled_of book id leg (order_of id book.entries) there in
    let few = split.shares.high in
    let value = value_within (notes_on id book.entries) in
    let no_price = unpriced_few (notes_on id book.entries) in
    let value_is = ap (λ (w : Worth). w.value) is in
    let unpriced_is = ap (λ (w : Worth). w.unpriced) is in
    (omega (arith, filled, few, value, value_is), omega (arith, filled, few, no_price, unpriced_is))
