-- Lemmas: a number that counts from 1 is read from its shortest decimal, and from nothing else.
use Rattle.std.proofs.Common.{◌≡◌, ℕ, ◌≤◌, Bool, true, false, ◌&&◌, nat_le, List, decimal, Some, refl, subst, arith}
use Rattle.std.specs.Str.{bytes_eq}
use Rattle.std.proofs.lemmas.Bool.{and_parts, and_from, leb-true, le-leb, false_from_ne_true}
use Rattle.std.proofs.lemmas.Option.{cond_some, option_and_then_some}
use Rattle.std.proofs.lemmas.Slice.Eq.{bytes_eq-Decides}
use Rattle.fix_tags.specs.Number.{number_of}
use Rattle.fix_tags.proofs.ReadBack.{number_of-decimal}
use Rattle.dialect.specs.Ordinal.{ordinal_of}

-- a number that counts from 1
pub ordinal_of-decimal : (greatest n : ℕ) → 1 ≤ n → n ≤ greatest → greatest ≤ 999_999_999_999
    → ordinal_of greatest (decimal n) ≡ Some n
unfolding ordinal_of
ordinal_of-decimal greatest n low high limit =
    rw (
      number_of-decimal n (omega arith),
      le-leb 1 n low,
      le-leb n greatest high,
      (bytes_eq-Decides (decimal n) (decimal n)).1 refl,
    ) refl

-- what is read is the shortest decimal of a number that counts from 1
pub record IsOrdinal (greatest : ℕ) (text : List ℕ) (n : ℕ) : Type 0 where
  pub low : 1 ≤ n
  pub high : n ≤ greatest
  pub text_is : decimal n ≡ text

-- at a number, the test of `ordinal_of`
abbrev pub passes : ℕ → List ℕ → ℕ → Bool
passes greatest text n = nat_le 1 n && nat_le n greatest && bytes_eq (decimal n) text

pub passes-true : (greatest : ℕ) (text : List ℕ) (n : ℕ) → IsOrdinal greatest text n → passes greatest text n ≡ true
passes-true greatest text n is =
    and_from _ _ (and_from _ _ (le-leb _ _ is.low) (le-leb _ _ is.high))
    ((bytes_eq-Decides (decimal n) text).1 is.text_is)

pub passes-tells : (greatest : ℕ) (text : List ℕ) (n : ℕ) → passes greatest text n ≡ true → IsOrdinal greatest text n
passes-tells greatest text n e =
    let parts = and_parts _ _ e in
    let bounds = and_parts _ _ parts.0 in
    record {
      low = leb-true _ _ bounds.0;
      high = leb-true _ _ bounds.1;
      text_is = (bytes_eq-Decides (decimal n) text).0 parts.1;
    }

pub passes-false : (greatest : ℕ) (text : List ℕ) (n : ℕ) → (IsOrdinal greatest text n → ⊥)
    → passes greatest text n ≡ false
passes-false greatest text n never = false_from_ne_true _ (λ e. never (passes-tells greatest text n e))

pub ordinal_of-Some : (greatest : ℕ) (text : List ℕ) (n : ℕ) → ordinal_of greatest text ≡ Some n
    → IsOrdinal greatest text n
unfolding ordinal_of
ordinal_of-Some greatest text n e =
    option_and_then_some _ (number_of text) n e (λ m from then.
    let parts = cond_some _ m n then in
    subst (IsOrdinal greatest text) parts.1 (passes-tells greatest text m parts.0))
