-- No frame goes out before its line is kept.
use Rattle.std.proofs.Common.{◌≡◌, ℕ, Bool, true, false, List, [], ◌∷◌, ◌++◌, refl, sym, ap, ◌∙◌, subst, append_assoc}
use Rattle.std.specs.Prelude.{◌&&◌}
use Rattle.std.proofs.lemmas.List.{append-nil}
use mathlib.Core.List.{IsPrefix}
use Rattle.kept_link.specs.Keeping.{Moment, Stands, Extends, IsNext, AreNext, IsKeptFirst, after, after_all, are_none, is_allowed, are_allowed}
use Rattle.kept_link.specs.Keeping.Moment.{Tells, Keeps, Takes}

longer : (xs ys zs : List ℕ) → IsPrefix xs ys → IsPrefix ys zs → IsPrefix xs zs
longer xs ys zs first then =
    (first.0 ++ then.0, sym (append_assoc xs first.0 then.0) ∙ ap (λ (l : List ℕ). l ++ then.0) first.1 ∙ then.1)

none_left : (lines : List (List ℕ)) → are_none lines ≡ true → lines ≡ []
none_left [] is = refl
none_left (l ∷ ls) is = absurd (cc)

first_holds : (a b : Bool) → (a && b) ≡ true → a ≡ true
first_holds true b is = refl
first_holds false b is = absurd (cc)

then_holds : (a b : Bool) → (a && b) ≡ true → b ≡ true
then_holds true b is = is
then_holds false b is = absurd (cc)

one : (bytes_of : List (List ℕ) → List ℕ) (m : Moment) (s : Stands) → Extends bytes_of → IsKeptFirst bytes_of s
    → is_allowed m s ≡ true → IsNext bytes_of m s → IsKeptFirst bytes_of (after m s)
one bytes_of (Tells line) s more first allowed next = first
one bytes_of Keeps s more first allowed next =
    longer s.taken (bytes_of s.kept) (bytes_of (s.kept ++ s.unkept)) first (more s.kept s.unkept)
one bytes_of (Takes bytes) s more first allowed next =
    subst (λ (l : List (List ℕ)). IsPrefix (s.taken ++ bytes) (bytes_of l))
    (ap (λ (l : List (List ℕ)). s.kept ++ l) (none_left s.unkept allowed) ∙ append-nil s.kept) next

pub kept_first : (bytes_of : List (List ℕ) → List ℕ) (moments : List Moment) (before : Stands) → Extends bytes_of
    → IsKeptFirst bytes_of before → are_allowed moments before ≡ true → AreNext bytes_of moments before
    → IsKeptFirst bytes_of (after_all moments before)
kept_first bytes_of [] s more first allowed next = first
kept_first bytes_of (m ∷ ms) s more first allowed next =
    kept_first bytes_of ms (after m s) more
    (one bytes_of m s more first (first_holds (is_allowed m s) (are_allowed ms (after m s)) allowed) next.0)
    (then_holds (is_allowed m s) (are_allowed ms (after m s)) allowed) next.1
