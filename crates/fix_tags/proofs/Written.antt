-- Lemmas: which bytes a written value has, and how many.
use Rattle.std.proofs.Common.{◌≡◌, ◌≢◌, ℕ, ◌+◌, ◌/◌, ◌%◌, ◌^◌, ◌<◌, ◌≤◌, Bool, true, false, cond, ◌&&◌, nat_le, List, [], ◌∷◌, ◌++◌, length, decimal, refl, arith, rules}
use Rattle.std.specs.Char.{is_ascii_digit, is_ascii_graphic}
use Rattle.std.specs.List.{AllByRecursion, list_all}
use Rattle.std.proofs.lemmas.Bool.{and_parts}
use Rattle.std.proofs.lemmas.Bool.Decides.{nat_tests}
use Rattle.std.proofs.lemmas.Fmt.{decimal_nonempty, length-decimal-le}
use Rattle.std.proofs.lemmas.List.{length-append}
use Rattle.fix_tags.specs.CompId.{IsCompId}
use Rattle.fix_tags.specs.Digits.{all_digits, all_zeros, four_digits}
use Rattle.fix_tags.specs.Price.{price_short, price_four, without_last_zeros, point_and}
use Rattle.fix_tags.specs.Flag.{flag_text}
use Rattle.fix_tags.specs.Stamp.{StampParts, stamp_text}
use Rattle.fix_tags.proofs.Spelled.{all_digits-decimal, all_digits-four}

-- a digit, or a separator of prices and stamps: '-', '.' or ':' ('/', which is 47, stands among their codes)
abbrev pub IsValueByte : ℕ → Type 0
IsValueByte b = (45 ≤ b) × (b ≤ 58) × (b ≢ 47)

-- a text of such bytes
abbrev pub IsValueText : List ℕ → Type 0
IsValueText text = AllByRecursion IsValueByte text

-- a text without the byte that ends a field, SOH
abbrev pub HasNoDelimiter : List ℕ → Type 0
HasNoDelimiter text = AllByRecursion (λ b. b ≢ 1) text

-- any other recursion that asks the same of each byte
pub HasNoDelimiter-to : (F : List ℕ → Type 0) → F [] → ((b : ℕ) (bs : List ℕ) → b ≢ 1 → F bs → F (b ∷ bs)) → (text : List ℕ) → HasNoDelimiter text → F text
HasNoDelimiter-to F none more [] h = none
HasNoDelimiter-to F none more (b ∷ bs) h = more b bs h.0 (HasNoDelimiter-to F none more bs h.1)

pub HasNoDelimiter-value : (text : List ℕ) → IsValueText text → HasNoDelimiter text
HasNoDelimiter-value [] h = tt
HasNoDelimiter-value (b ∷ bs) h = (omega (arith, h.0), HasNoDelimiter-value bs h.1)

IsValueText-append : (xs ys : List ℕ) → IsValueText xs → IsValueText ys → IsValueText (xs ++ ys)
IsValueText-append [] ys p q = q
IsValueText-append (x ∷ xs) ys p q = (p.0, IsValueText-append xs ys p.1 q)

IsValueByte-digit : (c : ℕ) → is_ascii_digit c ≡ true → IsValueByte c
IsValueByte-digit c h = grind (arith, nat_tests)

IsValueText-digits : (ds : List ℕ) → all_digits ds ≡ true → IsValueText ds
IsValueText-digits [] h = tt
IsValueText-digits (d ∷ ds) h =
    let parts = and_parts (is_ascii_digit d) (all_digits ds) h in
    (IsValueByte-digit d parts.0, IsValueText-digits ds parts.1)

IsValueText-point_and : (ds : List ℕ) → IsValueText ds → IsValueText (point_and ds)
IsValueText-point_and [] h = tt
IsValueText-point_and (d ∷ ds) h = ((omega arith, omega arith, omega arith), h)

IsValueText-without_by : (b : Bool) (d : ℕ) (ds : List ℕ) → IsValueByte d → IsValueText (without_last_zeros ds) → IsValueText (cond b [] (d ∷ without_last_zeros ds))
IsValueText-without_by true d ds p q = tt
IsValueText-without_by false d ds p q = (p, q)

IsValueText-without_last_zeros : (ds : List ℕ) → IsValueText ds → IsValueText (without_last_zeros ds)
IsValueText-without_last_zeros [] h = tt
IsValueText-without_last_zeros (d ∷ ds) h =
    IsValueText-without_by (all_zeros (d ∷ ds)) d ds h.0 (IsValueText-without_last_zeros ds h.1)

-- the bytes of each written value
pub IsValueText-decimal : (n : ℕ) → n < 2 ^ 64 → IsValueText (decimal n)
IsValueText-decimal n h = IsValueText-digits (decimal n) (all_digits-decimal n h)

pub IsValueText-price_short : (price : ℕ) → price < 2 ^ 64 → IsValueText (price_short price)
unfolding price_short
IsValueText-price_short price h =
    IsValueText-append _ _ (IsValueText-decimal (price / 10_000) (omega arith)) (IsValueText-point_and _ (IsValueText-without_last_zeros (four_digits (price % 10_000)) (IsValueText-digits (four_digits (price % 10_000)) (all_digits-four (price % 10_000)))))

pub IsValueText-price_four : (price : ℕ) → price < 2 ^ 64 → IsValueText (price_four price)
unfolding price_four
IsValueText-price_four price h =
    IsValueText-append _ _ (IsValueText-decimal (price / 10_000) (omega arith)) (IsValueText-point_and (four_digits (price % 10_000)) (IsValueText-digits (four_digits (price % 10_000)) (all_digits-four (price % 10_000))))

pub IsValueText-stamp_text : (s : StampParts) → IsValueText (stamp_text s)
unfolding stamp_text
IsValueText-stamp_text s = search rules

pub HasNoDelimiter-decimal : (n : ℕ) → n < 2 ^ 64 → HasNoDelimiter (decimal n)
HasNoDelimiter-decimal n h = HasNoDelimiter-value _ (IsValueText-decimal n h)

pub HasNoDelimiter-price_short : (price : ℕ) → price < 2 ^ 64 → HasNoDelimiter (price_short price)
HasNoDelimiter-price_short price h = HasNoDelimiter-value _ (IsValueText-price_short price h)

pub HasNoDelimiter-price_four : (price : ℕ) → price < 2 ^ 64 → HasNoDelimiter (price_four price)
HasNoDelimiter-price_four price h = HasNoDelimiter-value _ (IsValueText-price_four price h)

pub HasNoDelimiter-flag_text : (flag : Bool) → HasNoDelimiter (flag_text flag)
HasNoDelimiter-flag_text true = (omega arith, tt)
HasNoDelimiter-flag_text false = (omega arith, tt)

HasNoDelimiter-graphic : (text : List ℕ) → list_all is_ascii_graphic text ≡ true → HasNoDelimiter text
HasNoDelimiter-graphic [] h = tt
HasNoDelimiter-graphic (c ∷ cs) h =
    let parts = and_parts (is_ascii_graphic c) (list_all is_ascii_graphic cs) h in
    (grind (arith, nat_tests), HasNoDelimiter-graphic cs parts.1)

pub HasNoDelimiter-comp_id : (text : List ℕ) → IsCompId text → HasNoDelimiter text
HasNoDelimiter-comp_id text h =
    HasNoDelimiter-graphic text (and_parts (nat_le 1 (length text) && nat_le (length text) 16) (list_all is_ascii_graphic text) h).1

pub HasNoDelimiter-stamp_text : (s : StampParts) → HasNoDelimiter (stamp_text s)
HasNoDelimiter-stamp_text s = HasNoDelimiter-value _ (IsValueText-stamp_text s)

-- none is empty
pub nonempty-decimal : (n : ℕ) → n < 2 ^ 64 → 0 < length (decimal n)
nonempty-decimal n h = decimal_nonempty n h

pub nonempty-price_short : (price : ℕ) → price < 2 ^ 64 → 0 < length (price_short price)
unfolding price_short
nonempty-price_short price h =
    simp length-append (omega (arith, decimal_nonempty (price / 10_000) (omega arith)))

pub nonempty-price_four : (price : ℕ) → price < 2 ^ 64 → 0 < length (price_four price)
unfolding price_four
nonempty-price_four price h =
    simp length-append (omega (arith, decimal_nonempty (price / 10_000) (omega arith)))

pub nonempty-comp_id : (text : List ℕ) → IsCompId text → 0 < length text
nonempty-comp_id text h = grind (arith, nat_tests)

-- how many bytes each has
pub length-comp_id : (text : List ℕ) → IsCompId text → length text ≤ 16
length-comp_id text h = grind (arith, nat_tests)

pub length-decimal : (k n : ℕ) → 0 < k → n < 10 ^ k → n < 2 ^ 64 → length (decimal n) ≤ k
length-decimal k n some below small = length-decimal-le k n some below small

-- a point and these digits, or nothing
pub length-point_and : (ds : List ℕ) → length (point_and ds) ≤ 1 + length ds
length-point_and [] = omega arith
length-point_and (d ∷ ds) = omega arith

length-without_by : (b : Bool) (d : ℕ) (ds : List ℕ) → length (without_last_zeros ds) ≤ length ds → length (cond b [] (d ∷ without_last_zeros ds)) ≤ length (d ∷ ds)
length-without_by true d ds h = omega arith
length-without_by false d ds h = omega arith

pub length-without_last_zeros : (ds : List ℕ) → length (without_last_zeros ds) ≤ length ds
length-without_last_zeros [] = omega arith
length-without_last_zeros (d ∷ ds) = length-without_by (all_zeros (d ∷ ds)) d ds (length-without_last_zeros ds)

pub length-price_short : (price : ℕ) → price ≤ 9_999_999_999 → length (price_short price) ≤ 11
unfolding price_short
length-price_short price h =
    let ds : List ℕ = without_last_zeros (four_digits (price % 10_000)) in
    simp length-append (omega (arith, length-decimal-le 6 (price / 10_000) (omega arith) (omega arith) (omega arith), length-point_and ds, length-without_last_zeros (four_digits (price % 10_000))))

pub length-price_four : (price : ℕ) → price ≤ 9_999_999_999 → length (price_four price) ≤ 11
unfolding price_four
length-price_four price h =
    simp length-append (omega (arith, length-decimal-le 6 (price / 10_000) (omega arith) (omega arith) (omega arith)))

pub length-stamp_text : (s : StampParts) → length (stamp_text s) ≡ 21
unfolding stamp_text
length-stamp_text s = refl
