-- Lemmas: a number of a fixed width is read from its one spelling, and from nothing else.
use Rattle.std.proofs.Common.{◌≡◌, ◌==◌, ℕ, zero, suc, ◌+◌, ◌*◌, ◌/◌, ◌%◌, ◌<◌, ◌≤◌, Bool, true, false, cond, List, [], ◌∷◌, ◌++◌, length, Option, Some, None, option_and_then, refl, sym, ap, ap₂, subst, ◌∙◌, arith, append_assoc, length-append}
use Rattle.std.specs.List.{All}
use Rattle.std.proofs.lemmas.Bool.{leb-true, le-leb, eqb-true, eq-eqb}
use Rattle.std.proofs.lemmas.Bool.Decides.{nat_tests}
use Rattle.std.proofs.lemmas.List.{append-nil}
use Rattle.std.proofs.lemmas.List.Elements.{All-nil, All-cons, All-append}
use Rattle.std.proofs.lemmas.Nat.{div-mul-add, mod-mul-add, div-add-mod'}
use Rattle.std.proofs.lemmas.Option.{cond_some, option_and_then_some, same_Some}
use Rattle.std.proofs.Math.Nat.{mod-lt}
use Rattle.dialect.specs.Digits.{digit, digit_in, digits, number_after, number_up_to, fixed_of}

-- a digit's byte is 0 to 9 or a to f
pub record IsDigitByte (c : ℕ) : Type 0 where
  pub low : 48 ≤ c
  pub high : c ≤ 102

digit_byte : (d : ℕ) → d < 16 → IsDigitByte (digit d)
digit_byte d small = record { low = grind (arith, nat_tests); high = grind (arith, nat_tests) }

pub digits_bytes : (base width n : ℕ) → 2 ≤ base → base ≤ 16 → All IsDigitByte (digits base width n)
digits_bytes base zero n low high = All-nil IsDigitByte
digits_bytes base (suc width) n low high =
    let small : n % base < base = mod-lt n (omega arith) in
    All-append IsDigitByte (digits base width (n / base)) (digit (n % base) ∷ [])
    (digits_bytes base width (n / base) low high)
    (All-cons IsDigitByte (digit (n % base)) [] (digit_byte (n % base) (omega arith)) (All-nil IsDigitByte))

pub length-digits : (base width n : ℕ) → length (digits base width n) ≡ width
length-digits base zero n = refl
length-digits base (suc width) n =
    let whole = length-append (digits base width (n / base)) (digit (n % base) ∷ []) in
    omega (arith, whole, length-digits base width (n / base))

-- a digit is read from its byte, and from nothing else
digit_in-digit : (base d : ℕ) → base ≤ 16 → d < base → digit_in base (digit d) ≡ Some d
digit_in-digit base d high small = grind (arith, nat_tests)

digit_in-Some : (base c d : ℕ) → base ≤ 16 → digit_in base c ≡ Some d → (d < base) × (digit d ≡ c)
digit_in-Some base c d high e = (grind (arith, nat_tests), grind (arith, nat_tests))

-- what is left of a number behind its last digits, this many
abbrev pub rest_of : ℕ → ℕ → ℕ → ℕ
rest_of base zero n = n
rest_of base (suc width) n = rest_of base width (n / base)

-- what is written is read back
number_after-digits : (base width n : ℕ) (back : List ℕ) → 2 ≤ base → base ≤ 16 → rest_of base width n ≡ 0
    → number_after base 0 (digits base width n ++ back) ≡ number_after base n back
number_after-digits base zero n back low high none = ap (λ m. number_after base m back) (sym none)
number_after-digits base (suc width) n back low high none =
    let last = n % base in
    let small : last < base = mod-lt n (omega arith) in
    ap (number_after base 0) (append_assoc (digits base width (n / base)) (digit last ∷ []) back)
    ∙ number_after-digits base width (n / base) (digit last ∷ back) low high none
    ∙ ap (λ o. option_and_then (λ d. number_after base (n / base * base + d) back) o)
    (digit_in-digit base last high small)
    ∙ ap (λ m. number_after base m back) (div-add-mod' n base)

-- what is read is what is written
number_after-Some : (base width whole n m : ℕ) (text : List ℕ) → 2 ≤ base → base ≤ 16 → whole ≡ width + length text
    → number_after base n text ≡ Some m → digits base whole m ≡ digits base width n ++ text
number_after-Some base width whole n m [] low high is e =
    let same : whole ≡ width = omega arith in
    ap₂ (λ w x. digits base w x) same (sym (same_Some n m e)) ∙ sym (append-nil (digits base width n))
number_after-Some base width whole n m (c ∷ text) low high is e =
    option_and_then_some _ (digit_in base c) m e (λ d read more.
    let last = digit_in-Some base c d high read in
    let split : digits base (suc width) (n * base + d) ≡ digits base width n ++ c ∷ [] =
    ap₂ (λ q r. digits base width q ++ digit r ∷ []) (div-mul-add n base d last.0) (mod-mul-add n base d last.0)
    ∙ ap (λ x. digits base width n ++ x ∷ []) last.1 in
    number_after-Some base (suc width) whole (n * base + d) m text low high (omega arith) more
    ∙ ap (λ xs. xs ++ text) split
    ∙ append_assoc (digits base width n) (c ∷ []) text)

-- a number that fits its width
pub fixed_of-digits : (base width greatest n : ℕ) → 2 ≤ base → base ≤ 16 → 1 ≤ n → n ≤ greatest
    → rest_of base width n ≡ 0 → fixed_of base width greatest (digits base width n) ≡ Some n
unfolding fixed_of
fixed_of-digits base width greatest n low high from to none =
    let read : number_after base 0 (digits base width n) ≡ Some n =
    ap (number_after base 0) (sym (append-nil (digits base width n)))
    ∙ number_after-digits base width n [] low high none in
    rw (
      eq-eqb (length (digits base width n)) width (length-digits base width n),
      read,
      le-leb n greatest to,
      le-leb 1 n from,
    ) refl

-- what is known of a text that is read as a number
pub record IsFixed (base width greatest : ℕ) (text : List ℕ) (n : ℕ) : Type 0 where
  pub low : 1 ≤ n
  pub high : n ≤ greatest
  pub text_is : digits base width n ≡ text

chosen : (b : Bool) (o : Option ℕ) (n : ℕ) → cond b o None ≡ Some n → (b ≡ true) × (o ≡ Some n)
chosen true o n e = (refl, e)
chosen false o n e = cc

pub fixed_of-Some : (base width greatest : ℕ) (text : List ℕ) (n : ℕ) → 2 ≤ base → base ≤ 16
    → fixed_of base width greatest text ≡ Some n → IsFixed base width greatest text n
unfolding fixed_of
fixed_of-Some base width greatest text n low high e =
    let parts = chosen (length text == width) _ n e in
    let long = eqb-true (length text) width parts.0 in
    option_and_then_some _ (number_up_to base greatest 0 text) n parts.1 (λ m some first.
    option_and_then_some _ (number_after base 0 text) m some (λ k read last.
    let to = cond_some _ k m last in
    let from = cond_some _ m n first in
    let high_k : k ≤ greatest = leb-true k greatest to.0 in
    let low_m : 1 ≤ m = leb-true 1 m from.0 in
    let spelled = number_after-Some base 0 width 0 k text low high (omega (arith, long)) read in
    subst (IsFixed base width greatest text) (to.1 ∙ from.1) (record {
      low = omega (
        arith,
        to.1,
      );
      high = high_k;
      text_is = spelled;
    })))
