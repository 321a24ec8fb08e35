-- The ids that an exchange makes, a letter and a number, can be written.
use Rattle.std.proofs.Common.{◌≡◌, ◌≢◌, ◌==◌, refl, ℕ, ◌<◌, ◌≤◌, true, nat_le, List, ◌∷◌, length, decimal, Option, IsSome, arith}
use Rattle.std.specs.List.{All}
use Rattle.std.proofs.lemmas.Bool.{and_from, ne_eqb, not_from_false}
use Rattle.std.proofs.lemmas.Bool.Decides.{nat_tests}
use Rattle.std.proofs.lemmas.Fmt.{length-decimal-le}
use Rattle.std.proofs.lemmas.List.Elements.{All-cons}
use Rattle.std.proofs.lemmas.List.Folds.{list_any_none}
use Rattle.leg.proofs.Digits.{IsDigit, digits_of_decimal}
use Rattle.dialect.specs.FreeText.{IsFreeText, free_text_of}
use Rattle.exchange_core.specs.Order.{order_id}
use Rattle.exchange_core.specs.SentRecord.{exec_id}
use Rattle.exchange_core.specs.Acts.{test_id}

abbrev IsNotSoh : ℕ → Type 0
IsNotSoh c = c ≢ 1

-- a text of at most 64 bytes that isn't empty
free_text : (value : List ℕ) → 0 < length value → length value ≤ 64 → All IsNotSoh value → IsFreeText 64 value
free_text value some short none =
    let within : nat_le (length value) 64 ≡ true = grind (arith, nat_tests) in
    let full = ne_eqb (length value) 0 (λ e. omega arith) in
    let free = list_any_none (λ byte. byte == 1) value (λ k d inside. ne_eqb _ _ (none k d inside)) in
    and_from _ _ within (and_from _ _ (not_from_false _ full) (not_from_false _ free))

digit_free : (c : ℕ) → IsDigit c → c ≢ 1
digit_free c digit = λ e. omega arith

pub letter_and_number : (c n : ℕ) → 2 ≤ c → n ≤ 999_999_999 → IsFreeText 64 (c ∷ decimal n)
letter_and_number c n letter small =
    let digits = digits_of_decimal n (omega arith) in
    let short = length-decimal-le 9 n (omega arith) (omega arith) (omega arith) in
    free_text (c ∷ decimal n) (omega arith) (omega (arith, short))
    (All-cons IsNotSoh c (decimal n) (λ e. omega arith) (λ k d inside. digit_free _ (digits k d inside)))

pub exec_id_is : (count : ℕ) → count ≤ 999_999_999 → IsFreeText 64 (exec_id count)
exec_id_is count small = letter_and_number 69 count (omega arith) small

pub order_id_is : (place : ℕ) → place ≤ 999_999_999 → IsFreeText 64 (order_id place)
order_id_is place small = letter_and_number 79 place (omega arith) small

pub test_id_is : (number : ℕ) → number ≤ 999_999_999 → IsFreeText 64 (test_id number)
test_id_is number small = letter_and_number 88 number (omega arith) small

-- a text that is made of such a text is there
pub made : (most : ℕ) (text : List ℕ) (value : Option (List ℕ)) → value ≡ free_text_of most text → IsFreeText most text → IsSome value
made most text value is fits = rw (is, fits) refl
