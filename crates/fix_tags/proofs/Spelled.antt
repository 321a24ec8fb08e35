-- Lemmas: what digits that a writer spelled read as.
use Rattle.std.proofs.Common.{◌≡◌, ℕ, ◌^◌, ◌<◌, true, cond, List, [], ◌∷◌, ◌++◌, decimal, Some, None, refl, ap, ◌∙◌, arith, rules}
use Rattle.std.specs.Char.{is_ascii_digit}
use Rattle.std.proofs.lemmas.Bool.{and_parts, and_from}
use Rattle.std.proofs.lemmas.Bool.Decides.{nat_tests}
use Rattle.std.proofs.lemmas.Fmt.{digits_decimal, digits_value-decimal}
use Rattle.std.proofs.lemmas.Str.Parse.{IsNumeralModel, IsDigitsTest, FoldsDigits, numerals_by_fold}
use Rattle.fix_text.specs.Grammar.{number_after}
use Rattle.fix_tags.specs.Digits.{digits_number, leading_digits, after_digits, all_digits, number_in, digit_at, two_digits, three_digits, four_digits}

-- our words for digits, and for the number that they write, are std's
all_digits_test : IsDigitsTest (λ ds. all_digits ds ≡ true)
all_digits_test = search rules

number_folds : FoldsDigits number_after
number_folds = search rules

pub own : IsNumeralModel (λ ds. all_digits ds ≡ true) (number_after 0)
own = numerals_by_fold _ all_digits_test number_after number_folds

-- a decimal is digits, and they write its number
pub all_digits-decimal : (n : ℕ) → n < 2 ^ 64 → all_digits (decimal n) ≡ true
all_digits-decimal n h = digits_decimal own n h

pub digits_number-decimal : (n : ℕ) → n < 2 ^ 64 → digits_number (decimal n) ≡ n
digits_number-decimal n h = digits_value-decimal own n h

-- the digits that a text begins with, where digits were put before it, and what follows them
pub leading_digits-append : (ds rest : List ℕ) → all_digits ds ≡ true → leading_digits (ds ++ rest) ≡ ds ++ leading_digits rest
leading_digits-append [] rest h = refl
leading_digits-append (d ∷ ds) rest h =
    let parts = and_parts (is_ascii_digit d) (all_digits ds) h in
    ap (λ b. cond b (d ∷ leading_digits (ds ++ rest)) []) parts.0 ∙ ap (λ t. d ∷ t) (leading_digits-append ds rest parts.1)

pub after_digits-append : (ds rest : List ℕ) → all_digits ds ≡ true → after_digits (ds ++ rest) ≡ after_digits rest
after_digits-append [] rest h = refl
after_digits-append (d ∷ ds) rest h =
    let parts = and_parts (is_ascii_digit d) (all_digits ds) h in
    ap (λ b. cond b (after_digits (ds ++ rest)) (d ∷ ds ++ rest)) parts.0 ∙ after_digits-append ds rest parts.1

-- all of a text that is digits
pub leading_digits-all : (ds : List ℕ) → all_digits ds ≡ true → leading_digits ds ≡ ds
leading_digits-all [] h = refl
leading_digits-all (d ∷ ds) h =
    let parts = and_parts (is_ascii_digit d) (all_digits ds) h in
    ap (λ b. cond b (d ∷ leading_digits ds) []) parts.0 ∙ ap (λ t. d ∷ t) (leading_digits-all ds parts.1)

pub after_digits-all : (ds : List ℕ) → all_digits ds ≡ true → after_digits ds ≡ []
after_digits-all [] h = refl
after_digits-all (d ∷ ds) h =
    let parts = and_parts (is_ascii_digit d) (all_digits ds) h in
    ap (λ b. cond b (after_digits ds) (d ∷ ds)) parts.0 ∙ after_digits-all ds parts.1

-- numbers of a fixed count of digits
pub is_ascii_digit-digit_at : (unit n : ℕ) → is_ascii_digit (digit_at unit n) ≡ true
is_ascii_digit-digit_at unit n = grind (arith, nat_tests)

pub all_digits-two : (n : ℕ) → all_digits (two_digits n) ≡ true
all_digits-two n = rw (is_ascii_digit-digit_at 10 n, is_ascii_digit-digit_at 1 n) refl

pub all_digits-three : (n : ℕ) → all_digits (three_digits n) ≡ true
all_digits-three n = and_from _ _ (is_ascii_digit-digit_at 100 n) (all_digits-two n)

pub all_digits-four : (n : ℕ) → all_digits (four_digits n) ≡ true
all_digits-four n = and_from _ _ (is_ascii_digit-digit_at 1000 n) (all_digits-three n)

pub digits_number-two : (n : ℕ) → n < 100 → digits_number (two_digits n) ≡ n
digits_number-two n h = omega arith

pub digits_number-three : (n : ℕ) → n < 1000 → digits_number (three_digits n) ≡ n
digits_number-three n h = omega arith

pub digits_number-four : (n : ℕ) → n < 10000 → digits_number (four_digits n) ≡ n
digits_number-four n h = omega arith

pub number_in-two : (n : ℕ) → n < 100 → number_in (two_digits n) ≡ Some n
number_in-two n h = ap (λ b. cond b (Some (digits_number (two_digits n))) None) (all_digits-two n) ∙ ap Some (digits_number-two n h)

pub number_in-three : (n : ℕ) → n < 1000 → number_in (three_digits n) ≡ Some n
number_in-three n h = ap (λ b. cond b (Some (digits_number (three_digits n))) None) (all_digits-three n) ∙ ap Some (digits_number-three n h)

pub number_in-four : (n : ℕ) → n < 10000 → number_in (four_digits n) ≡ Some n
number_in-four n h = ap (λ b. cond b (Some (digits_number (four_digits n))) None) (all_digits-four n) ∙ ap Some (digits_number-four n h)
