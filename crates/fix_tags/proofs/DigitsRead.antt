-- Reading digits one by one, from the first to the last.
use Rattle.std.proofs.Common.{◌≡◌, ℕ, ◌+◌, ◌-◌, ◌*◌, ◌^◌, ◌<◌, ◌≤◌, min, Bool, true, false, cond, List, [], ◌∷◌, ◌++◌, length, take, drop, get_or, refl, ap, ◌∙◌, arith, ◌⊎◌, inl, inr}
use Rattle.std.specs.Char.{is_ascii_digit}
use Rattle.std.proofs.lemmas.Bool.Decides.{leb_tells}
use Rattle.std.proofs.lemmas.List.{at_drop_more, take_more}
use Rattle.std.proofs.lemmas.List.Folds.{list_all_more}
use Rattle.std.proofs.lemmas.Str.Parse.{digits_value_short}
use Rattle.fix_tags.proofs.Spelled.{own}
use Rattle.fix_text.specs.Grammar.{number_after}
use Rattle.fix_tags.specs.Digits.{digits_number, leading_digits, after_digits, all_digits}

-- so many digits write a number below that power of ten
pub digits_number-lt : (k : ℕ) (ds : List ℕ) → all_digits ds ≡ true → length ds ≤ k → digits_number ds < 10 ^ k
digits_number-lt k ds digits short = digits_value_short own ds k digits short

-- digits that follow those of a number make no smaller number
pub number_after-ge : (n : ℕ) (ds : List ℕ) → n ≤ number_after n ds
number_after-ge n [] = omega arith
number_after-ge n (c ∷ cs) = omega (arith, number_after-ge (10 * n + (c - 48)) cs)

-- past a limit it doesn't matter by how much
number_after-min_by : (limit n : ℕ) (ds : List ℕ) → (limit ≤ n) ⊎ (n < limit) → min limit (number_after (min limit n) ds) ≡ min limit (number_after n ds)
number_after-min_by limit n ds (inl h) = omega (arith, number_after-ge (min limit n) ds, number_after-ge n ds)
number_after-min_by limit n ds (inr h) = let e : min limit n ≡ n = omega arith in rw e refl

above_or_below : (limit n : ℕ) → (limit ≤ n) ⊎ (n < limit)
above_or_below limit n = grind (arith, leb_tells limit n)

pub number_after-min : (limit n : ℕ) (ds : List ℕ) → min limit (number_after (min limit n) ds) ≡ min limit (number_after n ds)
number_after-min limit n ds = number_after-min_by limit n ds (above_or_below limit n)

-- the digits that a text begins with and what follows them are the text
length-leading_digits_by : (b : Bool) (c : ℕ) (cs : List ℕ) → length (leading_digits cs) + length (after_digits cs) ≡ length cs → length (cond b (c ∷ leading_digits cs) []) + length (cond b (after_digits cs) (c ∷ cs)) ≡ length (c ∷ cs)
length-leading_digits_by true c cs h = omega arith
length-leading_digits_by false c cs h = omega arith

pub length-leading_digits : (text : List ℕ) → length (leading_digits text) + length (after_digits text) ≡ length text
length-leading_digits [] = refl
length-leading_digits (c ∷ cs) = length-leading_digits_by (is_ascii_digit c) c cs (length-leading_digits cs)

-- at a place of the text where a digit stands
pub leading_digits-more : (text : List ℕ) (i : ℕ) → i < length text → is_ascii_digit (get_or text i 0) ≡ true → leading_digits (drop i text) ≡ get_or text i 0 ∷ leading_digits (drop (i + 1) text)
leading_digits-more text i h digit =
    at_drop_more leading_digits text i 0 h
    ∙ ap (λ b. cond b (get_or text i 0 ∷ leading_digits (drop (i + 1) text)) []) digit

pub after_digits-more : (text : List ℕ) (i : ℕ) → i < length text → is_ascii_digit (get_or text i 0) ≡ true → after_digits (drop i text) ≡ after_digits (drop (i + 1) text)
after_digits-more text i h digit =
    at_drop_more after_digits text i 0 h
    ∙ ap (λ b. cond b (after_digits (drop (i + 1) text)) (get_or text i 0 ∷ drop (i + 1) text)) digit

-- one more digit of a number that is read up to a limit
pub number_more : (limit v w c : ℕ) (text : List ℕ) (i : ℕ) → i < length text → c ≡ get_or text i 0 → is_ascii_digit c ≡ true → w ≡ min limit (10 * v + (c - 48)) → min limit (number_after w (leading_digits (drop (i + 1) text))) ≡ min limit (number_after v (leading_digits (drop i text)))
number_more limit v w c text i h at digit is =
    let digit_there : is_ascii_digit (get_or text i 0) ≡ true = rw (← at) digit in
    rw (is, leading_digits-more text i h digit_there, ← at) (number_after-min limit (10 * v + (c - 48)) (leading_digits (drop (i + 1) text)))

number_after-push : (n : ℕ) (ds : List ℕ) (c : ℕ) → number_after n (ds ++ c ∷ []) ≡ 10 * number_after n ds + (c - 48)
number_after-push n [] c = refl
number_after-push n (d ∷ ds) c = number_after-push (10 * n + (d - 48)) ds c

-- one more digit of a number that is read from its front
pub digits_more : (text : List ℕ) (i : ℕ) → i < length text → is_ascii_digit (get_or text i 0) ≡ true → all_digits (take i text) ≡ true → (digits_number (take (i + 1) text) ≡ 10 * digits_number (take i text) + (get_or text i 0 - 48)) × (all_digits (take (i + 1) text) ≡ true)
digits_more text i h digit before =
    (rw (take_more text i 0 h) (number_after-push 0 (take i text) (get_or text i 0)), rw (list_all_more is_ascii_digit text i 0 h, before) digit)
