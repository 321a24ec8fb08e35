-- Lemmas: what is written is read back, and what is read is in range.
use Rattle.std.proofs.Common.{◌≡◌, ◌==◌, ℕ, suc, ◌+◌, ◌*◌, ◌/◌, ◌%◌, ◌^◌, ◌<◌, ◌≤◌, Bool, true, false, cond, ◌&&◌, nat_lt, List, [], ◌∷◌, ◌++◌, length, take, drop, replicate, decimal, Option, Some, None, refl, sym, ap, ap₂, ◌∙◌, arith}
use Rattle.std.proofs.lemmas.Bool.Decides.{nat_tests}
use Rattle.std.proofs.lemmas.Bool.{and_parts, and_from}
use Rattle.std.specs.Char.{is_ascii_digit}
use Rattle.std.proofs.lemmas.Fmt.{decimal_nonempty}
use Rattle.std.proofs.lemmas.List.{append-nil}
use Rattle.fix_tags.specs.CompId.{IsCompId, comp_id_of}
use Rattle.fix_tags.specs.Digits.{digits_number, leading_digits, after_digits, all_digits, all_zeros, within, digit_at, four_digits}
use Rattle.fix_tags.specs.Number.{number_of}
use Rattle.fix_tags.specs.Shares.{shares_of, is_no_part}
use Rattle.fix_tags.specs.Price.{price_of, price_short, price_four, is_price_text, is_point_or_end, decimals_of, ten_thousandths, without_last_zeros, point_and}
use Rattle.fix_tags.specs.Flag.{flag_of, flag_text}
use Rattle.fix_tags.specs.Stamp.{StampParts, IsStamp, stamp_of, has_separators, number_at, milli_of, stamp_with, stamp_read, stamp_text}
use Rattle.fix_tags.proofs.Spelled.{all_digits-decimal, digits_number-decimal, leading_digits-append, after_digits-append, leading_digits-all, after_digits-all, all_digits-four, digits_number-four, number_in-two, number_in-three, number_in-four}

-- a number up to 999,999,999,999
pub number_of-decimal : (n : ℕ) → n ≤ 999_999_999_999 → number_of (decimal n) ≡ Some n
unfolding number_of
number_of-decimal n h =
    let small : n < 2 ^ 64 = omega arith in
    let digits = all_digits-decimal n small in
    rw (leading_digits-all (decimal n) digits, after_digits-all (decimal n) digits, digits_number-decimal n small) (grind (arith, nat_tests, decimal_nonempty n small))

-- shares up to 999,999,999
pub shares_of-decimal : (n : ℕ) → n ≤ 999_999_999 → shares_of (decimal n) ≡ Some n
unfolding shares_of
shares_of-decimal n h =
    let small : n < 2 ^ 64 = omega arith in
    let digits = all_digits-decimal n small in
    rw (leading_digits-all (decimal n) digits, after_digits-all (decimal n) digits, digits_number-decimal n small) (grind (arith, nat_tests, decimal_nonempty n small))

-- what stands after the dollars of a written price
leading_digits-point_and : (ds : List ℕ) → leading_digits (point_and ds) ≡ []
leading_digits-point_and [] = refl
leading_digits-point_and (d ∷ ds) = refl

after_digits-point_and : (ds : List ℕ) → after_digits (point_and ds) ≡ point_and ds
after_digits-point_and [] = refl
after_digits-point_and (d ∷ ds) = refl

is_point_or_end-point_and : (ds : List ℕ) → is_point_or_end (point_and ds) ≡ true
is_point_or_end-point_and [] = refl
is_point_or_end-point_and (d ∷ ds) = refl

drop-point_and : (ds : List ℕ) → drop 1 (point_and ds) ≡ ds
drop-point_and [] = refl
drop-point_and (d ∷ ds) = refl

-- dollars and at most four decimals
pub price_of-decimals : (dollars part : ℕ) (ds : List ℕ) → dollars < 2 ^ 64 → all_digits ds ≡ true → drop 4 ds ≡ [] → ten_thousandths ds ≡ part → 1 ≤ dollars * 10_000 + part → dollars * 10_000 + part ≤ 9_999_999_999 → price_of (decimal dollars ++ point_and ds) ≡ Some (dollars * 10_000 + part)
unfolding price_of
price_of-decimals dollars part ds small digits short is low high =
    let dollar_digits = all_digits-decimal dollars small in
    let before : leading_digits (decimal dollars ++ point_and ds) ≡ decimal dollars =
    leading_digits-append (decimal dollars) (point_and ds) dollar_digits
    ∙ ap (λ t. decimal dollars ++ t) (leading_digits-point_and ds)
    ∙ append-nil (decimal dollars) in
    let after : after_digits (decimal dollars ++ point_and ds) ≡ point_and ds =
    after_digits-append (decimal dollars) (point_and ds) dollar_digits ∙ after_digits-point_and ds in
    rw (before, after, is_point_or_end-point_and ds, drop-point_and ds, digits, short, digits_number-decimal dollars small, is) (grind (arith, nat_tests, decimal_nonempty dollars small))

-- four decimals without the zeros at their end
all_digits-without_by : (b : Bool) (d : ℕ) (ds : List ℕ) → is_ascii_digit d ≡ true → all_digits (without_last_zeros ds) ≡ true → all_digits (cond b [] (d ∷ without_last_zeros ds)) ≡ true
all_digits-without_by true d ds p q = refl
all_digits-without_by false d ds p q = and_from _ _ p q

all_digits-without_last_zeros : (ds : List ℕ) → all_digits ds ≡ true → all_digits (without_last_zeros ds) ≡ true
all_digits-without_last_zeros [] h = refl
all_digits-without_last_zeros (d ∷ ds) h =
    let parts = and_parts (is_ascii_digit d) (all_digits ds) h in
    all_digits-without_by (all_zeros (d ∷ ds)) d ds parts.0 (all_digits-without_last_zeros ds parts.1)

drop-without_last_zeros : (a b c d : ℕ) → drop 4 (without_last_zeros (a ∷ b ∷ c ∷ d ∷ [])) ≡ []
drop-without_last_zeros a b c d = grind (arith, nat_tests)

-- zeros put back after digits without their last zeros make the digits again
padded_by : (d : ℕ) (ds : List ℕ) (n : ℕ) (zeros : List ℕ) (b : Bool) → (b ≡ true → take (suc n) zeros ≡ d ∷ ds) → take n (without_last_zeros ds ++ zeros) ≡ ds → take (suc n) (cond b [] (d ∷ without_last_zeros ds) ++ zeros) ≡ d ∷ ds
padded_by d ds n zeros true all rest = all refl
padded_by d ds n zeros false all rest = ap (λ t. d ∷ t) rest

zeros-is : (ds : List ℕ) → all_zeros ds ≡ true → replicate (length ds) 48 ≡ ds
zeros-is [] h = refl
zeros-is (d ∷ ds) h =
    let parts = and_parts (d == 48) (all_zeros ds) h in
    let first : d ≡ 48 = grind (arith, nat_tests) in
    ap₂ (λ x xs. x ∷ xs) (sym first) (zeros-is ds parts.1)

padded : (a b c d : ℕ) → take 4 (without_last_zeros (a ∷ b ∷ c ∷ d ∷ []) ++ 48 ∷ 48 ∷ 48 ∷ 48 ∷ []) ≡ a ∷ b ∷ c ∷ d ∷ []
padded a b c d =
    let zeros : List ℕ = 48 ∷ 48 ∷ 48 ∷ 48 ∷ [] in
    let one = padded_by d [] 0 zeros (all_zeros (d ∷ [])) (zeros-is (d ∷ [])) refl in
    let two = padded_by c (d ∷ []) 1 zeros (all_zeros (c ∷ d ∷ [])) (zeros-is (c ∷ d ∷ [])) one in
    let three = padded_by b (c ∷ d ∷ []) 2 zeros (all_zeros (b ∷ c ∷ d ∷ [])) (zeros-is (b ∷ c ∷ d ∷ [])) two in
    padded_by a (b ∷ c ∷ d ∷ []) 3 zeros (all_zeros (a ∷ b ∷ c ∷ d ∷ [])) (zeros-is (a ∷ b ∷ c ∷ d ∷ [])) three

ten_thousandths-without_last_zeros : (a b c d : ℕ) → ten_thousandths (without_last_zeros (a ∷ b ∷ c ∷ d ∷ [])) ≡ digits_number (a ∷ b ∷ c ∷ d ∷ [])
ten_thousandths-without_last_zeros a b c d = ap digits_number (padded a b c d)

-- a price of 1 to 9,999,999,999 ten-thousandths, written short or in full
pub price_of-price_short : (price : ℕ) → 1 ≤ price → price ≤ 9_999_999_999 → price_of (price_short price) ≡ Some price
unfolding price_short
price_of-price_short price low high =
    let part = price % 10_000 in
    let is : price / 10_000 * 10_000 + price % 10_000 ≡ price = omega arith in
    price_of-decimals (price / 10_000) part (without_last_zeros (four_digits part)) (omega arith) (all_digits-without_last_zeros (four_digits part) (all_digits-four part)) (drop-without_last_zeros (digit_at 1000 part) (digit_at 100 part) (digit_at 10 part) (digit_at 1 part)) (ten_thousandths-without_last_zeros (digit_at 1000 part) (digit_at 100 part) (digit_at 10 part) (digit_at 1 part) ∙ digits_number-four part (omega arith)) (omega arith) (omega arith)
    ∙ ap Some is

pub price_of-price_four : (price : ℕ) → 1 ≤ price → price ≤ 9_999_999_999 → price_of (price_four price) ≡ Some price
unfolding price_four
price_of-price_four price low high =
    let part = price % 10_000 in
    let is : price / 10_000 * 10_000 + price % 10_000 ≡ price = omega arith in
    price_of-decimals (price / 10_000) part (four_digits part) (omega arith) (all_digits-four part) refl (digits_number-four part (omega arith)) (omega arith) (omega arith)
    ∙ ap Some is

pub flag_of-flag_text : (flag : Bool) → flag_of (flag_text flag) ≡ Some flag
unfolding flag_of
flag_of-flag_text true = refl
flag_of-flag_text false = refl

-- a stamp whose fields are in their ranges
stamp_of-is : (s : StampParts) → IsStamp s → stamp_of s.year s.month s.day s.hour s.minute s.second s.milli ≡ Some s
stamp_of-is s h = grind (arith, nat_tests)

pub stamp_read-stamp_text : (s : StampParts) → IsStamp s → stamp_read (stamp_text s) ≡ Some s
unfolding stamp_read stamp_text
stamp_read-stamp_text s h =
    rw (number_in-four s.year (omega arith), number_in-two s.month (omega arith), number_in-two s.day (omega arith), number_in-two s.hour (omega arith), number_in-two s.minute (omega arith), number_in-two s.second (omega arith), number_in-three s.milli (omega arith)) (stamp_of-is s h)

-- the name of a firm
pub comp_id_of-is : (text : List ℕ) → IsCompId text → comp_id_of text ≡ Some text
comp_id_of-is text h = ap (λ b. cond b (Some text) None) h

-- what is read is in range
within-range : (least greatest m n : ℕ) → within least greatest m ≡ Some n → (least ≤ n) × (n ≤ greatest)
within-range least greatest m n e = grind (arith, nat_tests)

within_if-range : (b : Bool) (least greatest m n : ℕ) → cond b (within least greatest m) None ≡ Some n → (least ≤ n) × (n ≤ greatest)
within_if-range true least greatest m n e = within-range least greatest m n e
within_if-range false least greatest m n e = cc

pub number_of-range : (text : List ℕ) (n : ℕ) → number_of text ≡ Some n → n ≤ 999_999_999_999
unfolding number_of
number_of-range text n e =
    (within_if-range (nat_lt 0 (length (leading_digits text)) && (length (after_digits text) == 0)) 0 999_999_999_999 (digits_number (leading_digits text)) n e).1

pub shares_of-range : (text : List ℕ) (n : ℕ) → shares_of text ≡ Some n → n ≤ 999_999_999
unfolding shares_of
shares_of-range text n e =
    (within_if-range (nat_lt 0 (length (leading_digits text)) && is_no_part (after_digits text)) 0 999_999_999 (digits_number (leading_digits text)) n e).1

pub price_of-range : (text : List ℕ) (price : ℕ) → price_of text ≡ Some price → (1 ≤ price) × (price ≤ 9_999_999_999)
unfolding price_of
price_of-range text price e =
    within_if-range (is_price_text text) 1 9_999_999_999 (digits_number (leading_digits text) * 10_000 + ten_thousandths (decimals_of text)) price e

stamp_of-range : (year month day hour minute second milli : ℕ) (s : StampParts) → stamp_of year month day hour minute second milli ≡ Some s → IsStamp s
stamp_of-range year month day hour minute second milli s e = grind (arith, nat_tests)

stamp_with-range : (year month day hour minute second milli : Option ℕ) (s : StampParts) → stamp_with year month day hour minute second milli ≡ Some s → IsStamp s
stamp_with-range (Some year) (Some month) (Some day) (Some hour) (Some minute) (Some second) (Some milli) s e =
    stamp_of-range year month day hour minute second milli s e
stamp_with-range None _ _ _ _ _ _ s e = cc
stamp_with-range (Some _) None _ _ _ _ _ s e = cc
stamp_with-range (Some _) (Some _) None _ _ _ _ s e = cc
stamp_with-range (Some _) (Some _) (Some _) None _ _ _ s e = cc
stamp_with-range (Some _) (Some _) (Some _) (Some _) None _ _ s e = cc
stamp_with-range (Some _) (Some _) (Some _) (Some _) (Some _) None _ s e = cc
stamp_with-range (Some _) (Some _) (Some _) (Some _) (Some _) (Some _) None s e = cc

stamp_if-range : (b : Bool) (o : Option StampParts) → ((s : StampParts) → o ≡ Some s → IsStamp s) → (s : StampParts) → cond b o None ≡ Some s → IsStamp s
stamp_if-range true o each s e = each s e
stamp_if-range false o each s e = cc

pub stamp_read-range : (text : List ℕ) (s : StampParts) → stamp_read text ≡ Some s → IsStamp s
unfolding stamp_read
stamp_read-range text =
    stamp_if-range (has_separators text) _ (stamp_with-range (number_at text 0 4) (number_at text 4 2) (number_at text 6 2) (number_at text 9 2) (number_at text 12 2) (number_at text 15 2) (milli_of text))
