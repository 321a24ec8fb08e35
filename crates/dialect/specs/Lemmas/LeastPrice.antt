-- Lemmas: a price with so many decimals at least is read back.
use Rattle.std.proofs.Common.{◌≡◌, ◌==◌, ℕ, zero, suc, ◌+◌, ◌-◌, ◌*◌, ◌/◌, ◌%◌, ◌^◌, ◌<◌, ◌≤◌, Bool, true, false, cond, ◌&&◌, List, [], ◌∷◌, ◌++◌, length, take, drop, decimal, Some, refl, sym, ap, ap₂, subst, ◌∙◌, arith, length-append, nat_lt}
use Rattle.std.proofs.lemmas.Bool.{and_parts, and_from, eqb-true, ltb-true}
use Rattle.std.proofs.lemmas.List.{length-take}
use Rattle.std.proofs.Math.Seq.{take-append-add}
use Rattle.std.specs.Char.{is_ascii_digit}
use Rattle.fix_tags.specs.Digits.{digits_number, all_digits, all_zeros, digit_at, four_digits}
use Rattle.fix_tags.specs.Price.{price_of, price_short, price_four, ten_thousandths, without_last_zeros, point_and}
use Rattle.fix_tags.proofs.ReadBack.{price_of-decimals, price_of-price_short}
use Rattle.dialect.specs.Words.{price_least}
use Rattle.fix_tags.proofs.Spelled.{all_digits-four, digits_number-four}

-- behind what is left of digits without their last zeros there are zeros
zeros_all : (ds : List ℕ) (n : ℕ) → all_zeros ds ≡ true → all_zeros (drop n ds) ≡ true
zeros_all [] zero e = refl
zeros_all [] (suc n) e = refl
zeros_all (d ∷ ds) zero e = e
zeros_all (d ∷ ds) (suc n) e = zeros_all ds n (and_parts (d == 48) (all_zeros ds) e).1

zeros_by : (b : Bool) (d n : ℕ) (ds : List ℕ) → all_zeros (d ∷ ds) ≡ b
    → (length (without_last_zeros ds) ≤ n → all_zeros (drop n ds) ≡ true)
    → length (cond b [] (d ∷ without_last_zeros ds)) ≤ suc n → all_zeros (drop n ds) ≡ true
zeros_by true d n ds is more few = zeros_all ds n (and_parts (d == 48) (all_zeros ds) is).1
zeros_by false d n ds is more few = more (omega (arith, few))

none_by : (b : Bool) (d : ℕ) (ds : List ℕ) → all_zeros (d ∷ ds) ≡ b
    → length (cond b [] (d ∷ without_last_zeros ds)) ≤ 0 → all_zeros (d ∷ ds) ≡ true
none_by true d ds is few = is
none_by false d ds is few = absurd (omega (arith, few))

zeros_behind : (ds : List ℕ) (n : ℕ) → length (without_last_zeros ds) ≤ n → all_zeros (drop n ds) ≡ true
zeros_behind [] zero few = refl
zeros_behind [] (suc n) few = refl
zeros_behind (d ∷ ds) zero few = none_by (all_zeros (d ∷ ds)) d ds refl few
zeros_behind (d ∷ ds) (suc n) few = zeros_by (all_zeros (d ∷ ds)) d n ds refl (zeros_behind ds n) few

-- so the first digits say as much
first_say : (n a b c d : ℕ) → all_zeros (drop n (a ∷ b ∷ c ∷ d ∷ [])) ≡ true
    → ten_thousandths (take n (a ∷ b ∷ c ∷ d ∷ [])) ≡ digits_number (a ∷ b ∷ c ∷ d ∷ [])
first_say zero a b c d e =
    let p = and_parts (a == 48) (all_zeros (b ∷ c ∷ d ∷ [])) e in
    let q = and_parts (b == 48) (all_zeros (c ∷ d ∷ [])) p.1 in
    let r = and_parts (c == 48) (all_zeros (d ∷ [])) q.1 in
    let s = and_parts (d == 48) true r.1 in
    rw (eqb-true a 48 p.0, eqb-true b 48 q.0, eqb-true c 48 r.0, eqb-true d 48 s.0) refl
first_say (suc zero) a b c d e =
    let q = and_parts (b == 48) (all_zeros (c ∷ d ∷ [])) e in
    let r = and_parts (c == 48) (all_zeros (d ∷ [])) q.1 in
    let s = and_parts (d == 48) true r.1 in
    rw (eqb-true b 48 q.0, eqb-true c 48 r.0, eqb-true d 48 s.0) refl
first_say (suc (suc zero)) a b c d e =
    let r = and_parts (c == 48) (all_zeros (d ∷ [])) e in
    let s = and_parts (d == 48) true r.1 in
    rw (eqb-true c 48 r.0, eqb-true d 48 s.0) refl
first_say (suc (suc (suc zero))) a b c d e =
    let s = and_parts (d == 48) true e in
    rw (eqb-true d 48 s.0) refl
first_say (suc (suc (suc (suc n)))) a b c d e = refl

digits_kept : (n a b c d : ℕ) → all_digits (a ∷ b ∷ c ∷ d ∷ []) ≡ true
    → (all_digits (take n (a ∷ b ∷ c ∷ d ∷ [])) ≡ true) × (drop 4 (take n (a ∷ b ∷ c ∷ d ∷ [])) ≡ [])
digits_kept zero a b c d e = (refl, refl)
digits_kept (suc zero) a b c d e =
    let p = and_parts (is_ascii_digit a) (all_digits (b ∷ c ∷ d ∷ [])) e in (and_from _ _ p.0 refl, refl)
digits_kept (suc (suc zero)) a b c d e =
    let p = and_parts (is_ascii_digit a) (all_digits (b ∷ c ∷ d ∷ [])) e in
    let q = and_parts (is_ascii_digit b) (all_digits (c ∷ d ∷ [])) p.1 in
    (and_from _ _ p.0 (and_from _ _ q.0 refl), refl)
digits_kept (suc (suc (suc zero))) a b c d e =
    let p = and_parts (is_ascii_digit a) (all_digits (b ∷ c ∷ d ∷ [])) e in
    let q = and_parts (is_ascii_digit b) (all_digits (c ∷ d ∷ [])) p.1 in
    let r = and_parts (is_ascii_digit c) (all_digits (d ∷ [])) q.1 in
    (and_from _ _ p.0 (and_from _ _ q.0 (and_from _ _ r.0 refl)), refl)
digits_kept (suc (suc (suc (suc zero)))) a b c d e = (e, refl)
digits_kept (suc (suc (suc (suc (suc n))))) a b c d e = (e, refl)

-- a price with its first decimals alone, where the others are zeros
first_back : (n p : ℕ) → 1 ≤ p → p ≤ 9_999_999_999 → all_zeros (drop (suc n) (four_digits (p % 10_000))) ≡ true
    → price_of (decimal (p / 10_000) ++ 46 ∷ take (suc n) (four_digits (p % 10_000))) ≡ Some p
first_back n p low high zeros =
    let part = p % 10_000 in
    let is : p / 10_000 * 10_000 + p % 10_000 ≡ p = omega arith in
    let kept = digits_kept (suc n) (digit_at 1000 part) (digit_at 100 part) (digit_at 10 part) (digit_at 1 part)
    (all_digits-four part) in
    let says = first_say (suc n) (digit_at 1000 part) (digit_at 100 part) (digit_at 10 part) (digit_at 1 part) zeros in
    price_of-decimals (p / 10_000) part (take (suc n) (four_digits part)) (omega arith) kept.0 kept.1
    (says ∙ digits_number-four part (omega arith)) (omega arith) (omega arith)
    ∙ ap Some is

cut_is : (n p : ℕ) → n ≤ 3
    → take (length (price_four p) - (4 - suc n)) (price_four p) ≡ decimal (p / 10_000) ++ 46 ∷ take (suc n) (four_digits (p % 10_000))
unfolding price_four
cut_is n p few =
    let front = decimal (p / 10_000) in
    let back : List ℕ = 46 ∷ four_digits (p % 10_000) in
    let whole = length-append front back in
    let at : length (front ++ back) - (4 - suc n) ≡ length front + suc (suc n) = omega (arith, whole) in
    ap (λ k. take k (front ++ back)) at ∙ take-append-add front back (suc (suc n))

by_longer : (b : Bool) (short cut : List ℕ) (p : ℕ) → nat_lt (length short) (length cut) ≡ b
    → price_of short ≡ Some p → (length short < length cut → price_of cut ≡ Some p)
    → price_of (cond b cut short) ≡ Some p
by_longer true short cut p is first second = second (ltb-true (length short) (length cut) is)
by_longer false short cut p is first second = first

short_is : (p : ℕ) → length (price_short p) ≡ length (decimal (p / 10_000)) + length (point_and (without_last_zeros (four_digits (p % 10_000))))
unfolding price_short
short_is p = length-append (decimal (p / 10_000)) (point_and (without_last_zeros (four_digits (p % 10_000))))

at_most_point : (ds : List ℕ) → length ds ≤ length (point_and ds)
at_most_point [] = omega arith
at_most_point (d ∷ ds) = omega arith

pub least_back : (n p : ℕ) → n ≤ 3 → 1 ≤ p → p ≤ 9_999_999_999 → price_of (price_least (suc n) p) ≡ Some p
least_back n p few low high =
    let cut = take (length (price_four p) - (4 - suc n)) (price_four p) in
    let front = decimal (p / 10_000) in
    let ds = four_digits (p % 10_000) in
    by_longer (nat_lt (length (price_short p)) (length cut)) (price_short p) cut p refl
    (price_of-price_short p low high)
    (λ shorter.
    let is = cut_is n p few in
    let long : length cut ≡ length front + suc (suc n) =
    ap length is ∙ omega (arith, length-append front (46 ∷ take (suc n) ds), length-take (suc n) ds) in
    let w = without_last_zeros ds in
    let behind = zeros_behind ds (suc n) (omega (arith, shorter, long, short_is p, at_most_point w)) in
    ap price_of is ∙ first_back n p low high behind)
