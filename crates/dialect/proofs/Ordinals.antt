-- A number that counts from 1 is read from its shortest decimal alone.
use Rattle.std.proofs.Common.{◌≡◌, ℕ, zero, suc, ◌^◌, ◌<◌, ◌≤◌, Bool, true, false, cond, ◌&&◌, List, [], ◌∷◌, length, get_or, decimal, Option, Some, None, refl, sym, ap, ◌∙◌, arith}
use Rattle.std.specs.Char.{is_ascii_digit}
use Rattle.std.proofs.lemmas.Bool.{and_parts, and_from, ltb-true, eqb-true, cond-false, cond-true, true≢false}
use Rattle.std.proofs.lemmas.Bool.Decides.{nat_tests}
use Rattle.std.proofs.lemmas.Fmt.{first_decimal, decimal_digit, decimal-digits_value}
use Rattle.std.proofs.lemmas.Option.{cond_some}
use Rattle.fix_tags.specs.Digits.{digits_number, leading_digits, after_digits, all_digits, within}
use Rattle.fix_tags.specs.Number.{number_of}
use Rattle.fix_tags.proofs.Spelled.{own}
use Rattle.dialect.specs.Ordinal.{ordinal_of, begins_with_zero}
use Rattle.dialect.specs.Lemmas.OrdinalLaws.{IsOrdinal, passes, passes-true, passes-false}

-- a text that ends with its leading digits is these digits
only_digits_by : (b : Bool) (c : ℕ) (cs : List ℕ) → is_ascii_digit c ≡ b
    → (length (after_digits cs) ≡ 0 → (leading_digits cs ≡ cs) × (all_digits cs ≡ true))
    → length (cond b (after_digits cs) (c ∷ cs)) ≡ 0
    → (cond b (c ∷ leading_digits cs) [] ≡ c ∷ cs) × ((is_ascii_digit c && all_digits cs) ≡ true)
only_digits_by true c cs digit rest h = (ap (λ t. c ∷ t) (rest h).0, and_from _ _ digit (rest h).1)
only_digits_by false c cs digit rest h = absurd (omega arith)

only_digits : (text : List ℕ) → length (after_digits text) ≡ 0 → (leading_digits text ≡ text) × (all_digits text ≡ true)
only_digits [] h = (refl, refl)
only_digits (c ∷ cs) h = only_digits_by (is_ascii_digit c) c cs refl (only_digits cs) h

-- what a text is that writes a number
pub record Writes (text : List ℕ) (n : ℕ) : Type 0 where
  pub digits : all_digits text ≡ true
  pub some : 0 < length text
  pub number : digits_number text ≡ n
  pub small : n ≤ 999_999_999_999

chosen : (b : Bool) (o : Option ℕ) (n : ℕ) → cond b o None ≡ Some n → (b ≡ true) × (o ≡ Some n)
chosen true o n e = (refl, e)
chosen false o n e = cc

within_some : (greatest n m : ℕ) → within 0 greatest n ≡ Some m → (n ≡ m) × (n ≤ greatest)
within_some greatest n m e =
    let parts = cond_some _ n m e in
    (parts.1, grind (arith, nat_tests))

pub number_of-Some : (text : List ℕ) (n : ℕ) → number_of text ≡ Some n → Writes text n
unfolding number_of
number_of-Some text n e =
    let parts = chosen _ _ n e in
    let tests = and_parts _ _ parts.0 in
    let only = only_digits text (eqb-true _ _ tests.1) in
    let number = within_some _ _ n parts.1 in
    record {
      digits = only.1;
      some = rw only.0 at (ltb-true _ _ tests.0);
      number = ap digits_number (sym only.0) ∙ number.0;
      small = omega (arith, number.0, number.1);
    }

first_not_zero : (text : List ℕ) → begins_with_zero text ≡ false → get_or text 0 0 ≡ 48 → length text ≡ 1
first_not_zero [] plain first = absurd (omega arith)
first_not_zero (c ∷ cs) plain first = grind (arith, nat_tests)

-- digits that don't begin with '0' are the decimal of their number
decimal_again : (text : List ℕ) (n : ℕ) → begins_with_zero text ≡ false → Writes text n → decimal n ≡ text
decimal_again text n plain writes =
    rw (← writes.number) (decimal-digits_value own text writes.digits writes.some (first_not_zero text plain) (omega (arith, writes.small, writes.number)))

-- no decimal of a number from 1 begins with '0'
begins_with_zero-first : (text : List ℕ) → begins_with_zero text ≡ true → get_or text 0 0 ≡ 48
begins_with_zero-first [] starts = absurd cc
begins_with_zero-first (c ∷ cs) starts = grind (arith, nat_tests)

not_decimal : (text : List ℕ) (n : ℕ) → begins_with_zero text ≡ true → 1 ≤ n → n < 2 ^ 64 → decimal n ≡ text → ⊥
not_decimal text n starts low small e =
    omega (arith, first_decimal n low small, ap (λ t. get_or t 0 0) e, begins_with_zero-first text starts)

-- where the text writes no number, and where it writes one
pub ordinal_of-none : (greatest : ℕ) (text : List ℕ) → number_of text ≡ None → ordinal_of greatest text ≡ None
unfolding ordinal_of
ordinal_of-none greatest text e = rw e refl

ordinal_of-at : (greatest : ℕ) (text : List ℕ) (n : ℕ) → number_of text ≡ Some n
    → ordinal_of greatest text ≡ cond (passes greatest text n) (Some n) None
unfolding ordinal_of
ordinal_of-at greatest text n e = rw e refl

pub ordinal_of-above : (greatest : ℕ) (text : List ℕ) (n : ℕ) → number_of text ≡ Some n → greatest < n
    → ordinal_of greatest text ≡ None
ordinal_of-above greatest text n e above =
    ordinal_of-at greatest text n e ∙ cond-false _ (Some n) None (passes-false greatest text n (λ is. omega (arith, is.high)))

-- a decimal that begins with '0' is that of 0
from_one : (text : List ℕ) (n : ℕ) → begins_with_zero text ≡ false → decimal n ≡ text → 1 ≤ n
from_one text zero plain e = absurd (true≢false (ap begins_with_zero (sym (decimal_digit 0 (omega arith)) ∙ e) ∙ plain))
from_one text (suc n) plain e = omega arith

pub ordinal_of-shortest : (greatest : ℕ) (text : List ℕ) (n : ℕ) → begins_with_zero text ≡ false
    → number_of text ≡ Some n → n ≤ greatest → (ordinal_of greatest text ≡ Some n) × (1 ≤ n)
ordinal_of-shortest greatest text n plain e high =
    let text_is = decimal_again text n plain (number_of-Some text n e) in
    let low = from_one text n plain text_is in
    let is : IsOrdinal greatest text n = record { low = low; high = high; text_is = text_is } in
    (ordinal_of-at greatest text n e ∙ cond-true _ (Some n) None (passes-true greatest text n is), low)

never_zero : (greatest : ℕ) (text : List ℕ) (n : ℕ) → begins_with_zero text ≡ true → number_of text ≡ Some n
    → IsOrdinal greatest text n → ⊥
never_zero greatest text n starts e is =
    let writes = number_of-Some text n e in
    not_decimal text n starts is.low (omega (arith, writes.small)) is.text_is

ordinal_of-zero_by : (greatest : ℕ) (text : List ℕ) → begins_with_zero text ≡ true → (o : Option ℕ)
    → number_of text ≡ o → ordinal_of greatest text ≡ None
ordinal_of-zero_by greatest text starts None e = ordinal_of-none greatest text e
ordinal_of-zero_by greatest text starts (Some n) e =
    ordinal_of-at greatest text n e ∙ cond-false _ (Some n) None (passes-false greatest text n (never_zero greatest text n starts e))

pub ordinal_of-zero : (greatest : ℕ) (text : List ℕ) → begins_with_zero text ≡ true → ordinal_of greatest text ≡ None
ordinal_of-zero greatest text starts = ordinal_of-zero_by greatest text starts (number_of text) refl
