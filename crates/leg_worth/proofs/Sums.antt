-- What the standing trades of notes come to, when one more note is told.
use Rattle.std.proofs.Common.{◌≡◌, ℕ, ◌+◌, inl, inr, Bool, true, false, not, ◌||◌, List, [], ◌∷◌, ◌++◌, refl, ap, sym, subst, ◌∙◌, arith, if◌then◌else◌}
use Rattle.std.specs.Prelude.{filter, sum_by, bytes_eq}
use Rattle.std.proofs.lemmas.Bool.{cases_Bool}
use Rattle.std.proofs.lemmas.List.{append-nil}
use Rattle.std.proofs.lemmas.List.Concat.{flat_map-append}
use Rattle.std.proofs.lemmas.List.Elements.{filter-append}
use Rattle.std.proofs.lemmas.List.Folds.{list_any-append}
use Rattle.std.proofs.lemmas.List.Sums.{sum_by-cons, sum_by_push}
use Rattle.std.proofs.lemmas.Slice.Eq.{bytes_eq-Decides}
use Rattle.dialect.specs.Fill.{FillParts}
use Rattle.dialect.specs.declared.note.Note.{Note}
use Rattle.share_ledger.specs.Shares.{has_id}
use Rattle.share_ledger.proofs.OneMore.{or_false}
use Rattle.leg_worth.specs.declared.change.LegTrade.{LegTrade}
use Rattle.leg_worth.specs.Worth.{trades_of, busts_of, trades_in, busts_in, standing_in, sum_of}
use Rattle.leg_worth.specs.Kept.{trades_under}

pub trades_push : (notes : List Note) (note : Note) → trades_in (notes ++ note ∷ []) ≡ trades_in notes ++ trades_of note
trades_push notes note = flat_map-append trades_of notes (note ∷ [])
    ∙ ap (λ (l : List LegTrade). trades_in notes ++ l) (append-nil (trades_of note))

pub busts_push : (notes : List Note) (note : Note) → busts_in (notes ++ note ∷ []) ≡ busts_in notes ++ busts_of note
busts_push notes note = flat_map-append busts_of notes (note ∷ [])
    ∙ ap (λ (l : List (List ℕ)). busts_in notes ++ l) (append-nil (busts_of note))

abbrev standing_by : List (List ℕ) → List LegTrade → List LegTrade
standing_by ids ts = filter (λ trade. not (has_id trade.exec ids)) ts

abbrev sum_by_fill : (FillParts → ℕ) → List LegTrade → ℕ
sum_by_fill counts ts = sum_by (λ trade. counts trade.fill) ts

module _ (counts : FillParts → ℕ) (notes : List Note) (note : Note) where
  -- a note that tells no trade and busts none
  pub sum_same : trades_of note ≡ [] → busts_of note ≡ [] → sum_of counts (notes ++ note ∷ []) ≡ sum_of counts notes
  sum_same no_trade no_bust =
      let ts = trades_push notes note
      ∙ (ap (λ (l : List LegTrade). trades_in notes ++ l) no_trade ∙ append-nil (trades_in notes)) in
      let ids = busts_push notes note
      ∙ (ap (λ (l : List (List ℕ)). busts_in notes ++ l) no_bust ∙ append-nil (busts_in notes)) in
      λ i. sum_by_fill counts (standing_by (ids i) (ts i))

  -- a trade under an id that no bust names
  pub sum_trade : (trade : LegTrade) → trades_of note ≡ trade ∷ [] → busts_of note ≡ []
      → has_id trade.exec (busts_in notes) ≡ false
      → sum_of counts (notes ++ note ∷ []) ≡ sum_of counts notes + counts trade.fill
  sum_trade trade is no_bust stands =
      let ts = trades_push notes note ∙ ap (λ (l : List LegTrade). trades_in notes ++ l) is in
      let ids = busts_push notes note
      ∙ (ap (λ (l : List (List ℕ)). busts_in notes ++ l) no_bust ∙ append-nil (busts_in notes)) in
      let alone : standing_by (busts_in notes) (trade ∷ []) ≡ trade ∷ [] = rw stands refl in
      (λ i. sum_by_fill counts (standing_by (ids i) (ts i)))
      ∙ (ap (sum_by_fill counts)
      (filter-append (λ (t : LegTrade). not (has_id t.exec (busts_in notes))) (trades_in notes) (trade ∷ [])
      ∙ ap (λ (l : List LegTrade). standing_by (busts_in notes) (trades_in notes) ++ l) alone)
      ∙ sum_by_push (λ (t : LegTrade). counts t.fill) (standing_by (busts_in notes) (trades_in notes)) trade)

-- what one of two tests leaves is what both leave and what the other one picks, where no element passes both
left_by : (counts : FillParts → ℕ) (one other both : LegTrade → Bool) (ts : List LegTrade)
    → ((t : LegTrade) → both t ≡ (one t || other t)) → ((t : LegTrade) → other t ≡ true → one t ≡ false)
    → sum_by_fill counts (filter (λ t. not (both t)) ts) + sum_by_fill counts (filter other ts)
    ≡ sum_by_fill counts (filter (λ t. not (one t)) ts)
left_by counts one other both [] is apart = refl
left_by counts one other both (t ∷ ts) is apart =
    let rest = left_by counts one other both ts is apart in
    let in_both = sum_by-cons (λ (x : LegTrade). counts x.fill) t (filter (λ x. not (both x)) ts) in
    let in_one = sum_by-cons (λ (x : LegTrade). counts x.fill) t (filter (λ x. not (one x)) ts) in
    let in_other = sum_by-cons (λ (x : LegTrade). counts x.fill) t (filter other ts) in
    elim (cases_Bool (other t)) [
      | inl o ↦
          (let n = apart t o in
          let b : both t ≡ true = is t ∙ (ap (λ x. one t || x) o ∙ ap (λ x. x || true) n) in
          rw (b, n, o) (omega (arith, rest, in_one, in_other)))
      | inr o ↦
          elim (cases_Bool (one t)) [
            | inl n ↦
                (let b : both t ≡ true = is t ∙ ap (λ x. x || other t) n in rw (b, n, o) rest)
            | inr n ↦
                (let b : both t ≡ false = is t ∙ (ap (λ x. x || other t) n ∙ o) in
                rw (b, n, o) (omega (arith, rest, in_both, in_one)))
          ]
    ]

-- the bust of the one trade under an id that no other bust names
pub sum_bust : (counts : FillParts → ℕ) (notes : List Note) (note : Note) (exec : List ℕ) (trade : LegTrade)
    → trades_of note ≡ [] → busts_of note ≡ exec ∷ [] → has_id exec (busts_in notes) ≡ false
    → trades_under exec notes ≡ trade ∷ []
    → sum_of counts (notes ++ note ∷ []) + counts trade.fill ≡ sum_of counts notes
sum_bust counts notes note exec trade no_trade is stands under =
    let ts = trades_push notes note
    ∙ (ap (λ (l : List LegTrade). trades_in notes ++ l) no_trade ∙ append-nil (trades_in notes)) in
    let ids = busts_push notes note ∙ ap (λ (l : List (List ℕ)). busts_in notes ++ l) is in
    let after : sum_of counts (notes ++ note ∷ [])
    ≡ sum_by_fill counts (standing_by (busts_in notes ++ exec ∷ []) (trades_in notes)) =
    λ i. sum_by_fill counts (standing_by (ids i) (ts i)) in
    let parts = left_by counts (λ t. has_id t.exec (busts_in notes)) (λ t. bytes_eq t.exec exec)
    (λ t. has_id t.exec (busts_in notes ++ exec ∷ [])) (trades_in notes)
    (λ t. list_any-append (bytes_eq t.exec) (busts_in notes) (exec ∷ [])
    ∙ ap (λ b. has_id t.exec (busts_in notes) || b) (or_false (bytes_eq t.exec exec)))
    (λ t same. subst (λ (x : List ℕ). has_id x (busts_in notes) ≡ false)
    (sym ((bytes_eq-Decides t.exec exec).0 same)) stands) in
    let one = ap (sum_by_fill counts) under in
    let only = sum_by-cons (λ (t : LegTrade). counts t.fill) trade [] in
    omega (arith, after, parts, one, only)

-- the trades under an id, when one more note is told
pub under_push : (exec : List ℕ) (notes : List Note) (note : Note)
    → trades_under exec (notes ++ note ∷ [])
    ≡ trades_under exec notes ++ filter (λ (t : LegTrade). bytes_eq t.exec exec) (trades_of note)
under_push exec notes note = ap (filter (λ (t : LegTrade). bytes_eq t.exec exec)) (trades_push notes note)
    ∙ filter-append (λ (t : LegTrade). bytes_eq t.exec exec) (trades_in notes) (trades_of note)
