-- Digits as they are read one by one, up to a greatest number, and as they are written.
use Rattle.std.proofs.Common.{◌≡◌, ℕ, zero, suc, ◌+◌, ◌-◌, ◌*◌, ◌/◌, ◌%◌, ◌<◌, ◌≤◌, List, [], ◌∷◌, ◌++◌, length, drop, get_or, Option, Some, None, option_and_then, refl, ap, ◌∙◌, arith, append_assoc}
use Rattle.std.proofs.lemmas.Bool.Decides.{nat_tests}
use Rattle.std.proofs.lemmas.List.{at_drop_more}
use Rattle.std.proofs.Math.Nat.{mul-le-mul_left}
use Rattle.dialect.specs.Digits.{digit, digit_in, digits, number_after, up_to, number_up_to}

-- the digits before the last one, and that one, behind a text
pub digits-pushed : (base width n : ℕ) (text : List ℕ) → 0 < width
    → (text ++ digits base (width - 1) (n / base)) ++ digit (n % base) ∷ [] ≡ text ++ digits base width n
digits-pushed base zero n text some = absurd (omega arith)
digits-pushed base (suc width) n text some =
    let fewer : suc width - 1 ≡ width = omega arith in
    append_assoc text (digits base (suc width - 1) (n / base)) (digit (n % base) ∷ [])
    ∙ ap (λ w. text ++ (digits base w (n / base) ++ digit (n % base) ∷ [])) fewer

-- digits make no number smaller
grown : (base n d : ℕ) → 1 ≤ base → n ≤ n * base + d
grown base n d low = let more = mul-le-mul_left n low in omega (arith, more)

above_by : (base greatest n : ℕ) (text : List ℕ) (o : Option ℕ) → 1 ≤ base → greatest < n
    → ((m : ℕ) → greatest < m → number_up_to base greatest m text ≡ None)
    → option_and_then (up_to greatest) (option_and_then (λ d. number_after base (n * base + d) text) o) ≡ None
above_by base greatest n text None low high more = refl
above_by base greatest n text (Some d) low high more = more (n * base + d) (omega (arith, grown base n d low))

above : (base greatest n : ℕ) (text : List ℕ) → 1 ≤ base → greatest < n → number_up_to base greatest n text ≡ None
above base greatest n [] low high = grind (arith, nat_tests)
above base greatest n (c ∷ text) low high =
    above_by base greatest n text (digit_in base c) low high (λ m past. above base greatest m text low past)

-- one digit more makes a number too great
pub past : (base greatest n d i : ℕ) (text : List ℕ) → 1 ≤ base → i < length text
    → digit_in base (get_or text i 0) ≡ Some d → greatest < n * base + d
    → number_up_to base greatest n (drop i text) ≡ None
past base greatest n d i text low within is high =
    at_drop_more (number_up_to base greatest n) text i 0 within
    ∙ ap (λ o. option_and_then (up_to greatest) (option_and_then (λ d. number_after base (n * base + d) (drop (i + 1) text)) o)) is
    ∙ above base greatest (n * base + d) (drop (i + 1) text) low high
