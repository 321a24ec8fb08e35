-- A reader at its place.
use Rattle.std.proofs.Common.{◌≡◌, ◌≢◌, ℕ, ◌+◌, ◌≤◌, true, eqb, List, [], length, drop, Some, sym, ap, ◌∙◌, subst, arith, eq-eqb}
use Rattle.std.proofs.lemmas.Bool.{eqb-true}
use Rattle.std.proofs.lemmas.List.{drop_all, length-drop}
use Rattle.journal_record.specs.declared.damage.Damage.{Damage}
use Rattle.journal_record.specs.Record.{marked}
use Rattle.journal_record.specs.Reading.{ReaderParts, IsDamaged, first_line}

-- nothing is left where the place is the text's end, and only there
pub is_at_end : (at : ℕ) (text rest : List ℕ) → at ≤ length text → drop at text ≡ rest
    → (eqb at (length text) ≡ true → rest ≡ []) × (rest ≡ [] → eqb at (length text) ≡ true)
is_at_end at text rest within is = (
  λ last. let same : at ≡ length text = eqb-true at (length text) last in
      sym is ∙ drop_all at text (omega (arith, same)),
  λ none. let short : length (drop at text) ≡ 0 = ap length (is ∙ none) in
      let same : at ≡ length text = omega (arith, short, within, length-drop at text) in
      eq-eqb at (length text) same,
)

pub is_damaged : (r : ReaderParts) (rest whole later : List ℕ) (sum lines at : ℕ) → rest ≡ r.rest → sum ≡ r.sum
    → lines ≡ r.lines → at ≡ r.at → first_line rest ≡ Some (whole, later) → ((line : List ℕ) → whole ≢ marked sum line)
    → IsDamaged r (record { line = lines + 1; at = at })
is_damaged r rest whole later sum lines at is_rest is_sum is_lines is_at first not = (
  (
    whole,
    later,
    ap first_line (sym is_rest) ∙ first,
    λ line is. not line (subst (λ (s : ℕ). whole ≡ marked s line) (sym is_sum) is),
  ),
  same_damage lines r.lines at r.at is_lines is_at,
)
  where
    same_damage : (a b c d : ℕ) → a ≡ b → c ≡ d → ◌≡◌ {A = Damage} (record { line = a + 1; at = c }) (record { line = b + 1; at = d })
    same_damage a b c d one other = cc
