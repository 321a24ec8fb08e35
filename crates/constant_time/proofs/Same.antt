-- Two texts, compared place by place.
use Rattle.std.proofs.Common.{◌≡◌, ◌≢◌, ℕ, ◌+◌, ◌<◌, Bool, true, false, ◌&&◌, List, [], ◌∷◌, refl, sym, ap, ◌∙◌, length, drop, get_or, suc}
use Rattle.std.proofs.lemmas.List.{drop_more}
use Rattle.std.specs.Prelude.{◌==◌}
use Rattle.std.specs.Str.{bytes_eq}

and_assoc : (a b c : Bool) → (a && (b && c)) ≡ ((a && b) && c)
and_assoc true b c = refl
and_assoc false b c = refl

and_false : (b : Bool) → (b && false) ≡ false
and_false true = refl
and_false false = refl

-- one more byte is compared, and those behind it are left
pub one_more : (same : Bool) (xs ys : List ℕ) (i d e : ℕ) → i < length xs → i < length ys
    → (same && bytes_eq (drop i xs) (drop i ys))
    ≡ ((same && (get_or xs i d == get_or ys i e)) && bytes_eq (drop (i + 1) xs) (drop (i + 1) ys))
one_more same xs ys i d e in_one in_other =
    ap (λ rest. same && bytes_eq rest (drop i ys)) (drop_more xs i d in_one)
    ∙ ap (λ rest. same && bytes_eq (get_or xs i d ∷ drop (i + 1) xs) rest) (drop_more ys i e in_other)
    ∙ and_assoc same (get_or xs i d == get_or ys i e) (bytes_eq (drop (i + 1) xs) (drop (i + 1) ys))

-- texts of other lengths aren't the same
pub other_length : (xs ys : List ℕ) → length xs ≢ length ys → bytes_eq xs ys ≡ false
other_length [] [] apart = absurd (apart refl)
other_length [] (y ∷ ys) apart = refl
other_length (x ∷ xs) [] apart = refl
other_length (x ∷ xs) (y ∷ ys) apart =
    ap (λ rest. (x == y) && rest) (other_length xs ys (λ same. apart (ap suc same))) ∙ and_false (x == y)
