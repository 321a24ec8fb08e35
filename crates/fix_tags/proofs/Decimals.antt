-- Decimals one by one: each counts a tenth of the one before.
use Rattle.std.proofs.Common.{◌≡◌, ℕ, ◌+◌, ◌-◌, ◌*◌, ◌/◌, ◌<◌, Bool, true, false, cond, ◌&&◌, ◌||◌, nat_lt, ◌==◌, List, [], ◌∷◌, length, drop, get_or, refl, ap, ◌∙◌, arith, Some, None}
use Rattle.std.specs.Char.{is_ascii_digit}
use Rattle.std.proofs.lemmas.Bool.Decides.{nat_tests}
use Rattle.std.proofs.lemmas.List.{at_drop_more}
use Rattle.fix_tags.specs.Digits.{all_digits, all_zeros}
use Rattle.fix_tags.specs.Price.{ten_thousandths}

-- what decimals count, of which the first counts this unit
abbrev pub weight : ℕ → List ℕ → ℕ
weight unit [] = 0
weight unit (c ∷ cs) = (c - 48) * unit + weight (unit / 10) cs

-- each is a digit, and '0' where it counts nothing
abbrev pub are_decimals : ℕ → List ℕ → Bool
are_decimals unit [] = true
are_decimals unit (c ∷ cs) = is_ascii_digit c && (nat_lt 0 unit || (c == 48)) && are_decimals (unit / 10) cs

-- past the last unit only zeros stand
are_decimals-past : (cs : List ℕ) → are_decimals 0 cs ≡ (all_digits cs && all_zeros cs)
are_decimals-past [] = refl
are_decimals-past (c ∷ cs) = grind (arith, nat_tests, are_decimals-past cs)

weight-past : (cs : List ℕ) → weight 0 cs ≡ 0
weight-past [] = refl
weight-past (c ∷ cs) = omega (arith, weight-past cs)

pub are_decimals-is : (cs : List ℕ) → are_decimals 1000 cs ≡ (all_digits cs && all_zeros (drop 4 cs))
are_decimals-is [] = refl
are_decimals-is (a ∷ []) = grind (arith, nat_tests)
are_decimals-is (a ∷ b ∷ []) = grind (arith, nat_tests)
are_decimals-is (a ∷ b ∷ c ∷ []) = grind (arith, nat_tests)
are_decimals-is (a ∷ b ∷ c ∷ d ∷ es) = grind (arith, nat_tests, are_decimals-past es)

pub weight-is : (cs : List ℕ) → weight 1000 cs ≡ ten_thousandths cs
weight-is [] = refl
weight-is (a ∷ []) = omega arith
weight-is (a ∷ b ∷ []) = omega arith
weight-is (a ∷ b ∷ c ∷ []) = omega arith
weight-is (a ∷ b ∷ c ∷ d ∷ es) = omega (arith, weight-past es)

-- what is read where each is a decimal, and that else nothing is
pub ten_thousandths_read : (v : ℕ) (ds : List ℕ) → are_decimals 1000 ds ≡ true → v ≡ weight 1000 ds → Some v ≡ cond (all_digits ds && all_zeros (drop 4 ds)) (Some (ten_thousandths ds)) None
ten_thousandths_read v ds passes is = rw (← are_decimals-is ds, passes, is, weight-is ds) refl

pub ten_thousandths_refused : (ds : List ℕ) → are_decimals 1000 ds ≡ false → None ≡ cond (all_digits ds && all_zeros (drop 4 ds)) (Some (ten_thousandths ds)) None
ten_thousandths_refused ds fails = rw (← are_decimals-is ds, fails) refl

-- a byte that is no digit, or counts nothing and isn't '0', stands at this place
pub are_decimals-fails : (unit : ℕ) (ds : List ℕ) (i : ℕ) → i < length ds → (is_ascii_digit (get_or ds i 0) && (nat_lt 0 unit || (get_or ds i 0 == 48))) ≡ false → are_decimals unit (drop i ds) ≡ false
are_decimals-fails unit ds i h fails =
    at_drop_more (are_decimals unit) ds i 0 h ∙ ap (λ b. b && are_decimals (unit / 10) (drop (i + 1) ds)) fails
