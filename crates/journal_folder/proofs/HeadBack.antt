-- The head of a file says what it was written of.
use Rattle.std.proofs.Common.{◌≡◌, ◌==◌, ℕ, zero, suc, ◌<◌, ◌≤◌, true, false, List, [], ◌∷◌, ◌++◌, length, get_or, codes, decimal, Some, refl, sym, ap, ◌∙◌, subst, arith, append_assoc, length-append}
use Rattle.std.specs.Prelude.{nat_eq}
use Rattle.std.specs.Char.{is_ascii_digit}
use Rattle.std.specs.Fmt.{digits}
use Rattle.std.specs.List.{All, position_or_len, starts_with}
use Rattle.std.proofs.lemmas.Bool.{lt-ltb, eq-eqb}
use Rattle.std.proofs.lemmas.Bool.Decides.{nat_tests, Decides-eqb}
use Rattle.std.proofs.lemmas.Fmt.{first_decimal}
use Rattle.std.proofs.lemmas.List.Sums.{AllPass-from_list_all, position_or_len_is}
use Rattle.std.proofs.lemmas.Slice.Eq.{starts_is}
use Rattle.std.proofs.Math.ListN.{get_or-append}
use Rattle.std.proofs.Math.Seq.{take-append_seam, drop-append-add, drop-append_seam, get_or-append_seam}
use Rattle.fix_tags.proofs.ReadBack.{number_of-decimal}
use Rattle.fix_tags.proofs.Spelled.{all_digits-decimal}
use Rattle.journal_folder.specs.Head.{behind, count_of, has_leading_zero, head_of, head_text, numbered, parts_round}

abbrev HasNoSpace : List ℕ → Type 0
HasNoSpace text = All (λ c. (c == 32) ≡ false) text

-- no number has a space, or a zero before it
no_space : (n : ℕ) → n ≤ 999_999_999_999 → HasNoSpace (decimal n)
no_space n high =
    let each = AllPass-from_list_all is_ascii_digit (decimal n) (all_digits-decimal n (omega arith)) in
    λ k d within. let digit = each k d within in grind (arith, nat_tests)

by_first : (text : List ℕ) → 48 < get_or text 0 0 → has_leading_zero text ≡ false
by_first [] first = refl
by_first (c ∷ []) first = refl
by_first (c ∷ d ∷ cs) first = grind (arith, nat_tests)

shortest : (n : ℕ) → n ≤ 999_999_999_999 → has_leading_zero (decimal n) ≡ false
unfolding digits
shortest zero high = refl
shortest (suc n) high = by_first (decimal (suc n)) (first_decimal (suc n) (omega arith) (omega arith))

count_back : (n : ℕ) → n ≤ 999_999_999_999 → count_of (decimal n) ≡ Some n
count_back n high = rw (shortest n high) (number_of-decimal n high)

-- what is behind a front
behind_back : (front rest : List ℕ) → behind front (front ++ rest) ≡ Some rest
behind_back front rest =
    let starts : starts_with nat_eq (front ++ rest) front ≡ true =
    (starts_is Decides-eqb (front ++ rest) front (starts_with nat_eq (front ++ rest) front) refl).1 rest refl in
    rw (starts, drop-append_seam front rest) refl

-- what is round a space
space_at : (front back : List ℕ) → HasNoSpace front → position_or_len (λ c. c == 32) (front ++ 32 ∷ back) ≡ length front
space_at front back none =
    position_or_len_is (λ c. c == 32) (front ++ 32 ∷ back) (length front) 0
    (omega (arith, length-append front (32 ∷ back)))
    (λ k below. subst (λ c. (c == 32) ≡ false) (sym (get_or-append front (32 ∷ back) 0 k below)) (none k 0 below))
    (λ _. eq-eqb _ _ (get_or-append_seam front 32 back 0))

parts_back : (front back : List ℕ) → HasNoSpace front → parts_round 32 (front ++ 32 ∷ back) ≡ Some (front, back)
parts_back front back none =
    let inside =
    lt-ltb (length front) (length (front ++ 32 ∷ back)) (omega (arith, length-append front (32 ∷ back))) in
    rw (space_at front back none, inside, take-append_seam front (32 ∷ back), drop-append-add front (32 ∷ back) 1) refl

numbered_back : (front rest : List ℕ) (n : ℕ) → n ≤ 999_999_999_999
    → numbered front (front ++ (decimal n ++ 32 ∷ rest)) ≡ Some (n, rest)
numbered_back front rest n high =
    rw (
      behind_back front (decimal n ++ 32 ∷ rest),
      parts_back (decimal n) rest (no_space n high),
      count_back n high,
    ) refl

regroup : (a b c d e : List ℕ) → ((((a ++ b) ++ 32 ∷ c) ++ d) ++ 32 ∷ []) ++ e ≡ a ++ (b ++ 32 ∷ (c ++ (d ++ 32 ∷ e)))
regroup a b c d e = simp append_assoc

pub head_back : (file after : ℕ) (words : List ℕ) → file ≤ 999_999_999_999 → after ≤ 999_999_999_999
    → head_of (head_text file after words) ≡ Some (file, after, words)
head_back file after words few many =
    let rest : List ℕ = codes "after " ++ (decimal after ++ 32 ∷ words) in
    ap head_of (regroup (codes "journal 1 file ") (decimal file) (codes "after ") (decimal after) words)
    ∙ rw (numbered_back (codes "journal 1 file ") rest file few, numbered_back (codes "after ") words after many) refl
