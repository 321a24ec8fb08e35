-- Two texts that are joined by a mark are found again, where the mark isn't in the first one.
use Rattle.std.proofs.Common.{◌≡◌, ◌≢◌, ℕ, List, [], ◌∷◌, ◌++◌, refl}
use Rattle.std.specs.List.{All, AllByRecursion}
use Rattle.std.proofs.lemmas.List.Elements.{recursion_from_All}

-- the two parts, where no byte before the mark is the mark
pub record SameParts (xs xs' ys ys' : List ℕ) : Type 0 where
  pub front : xs ≡ xs'
  pub back : ys ≡ ys'

by_recursion : (mark : ℕ) (xs xs' ys ys' : List ℕ) → AllByRecursion (λ c. c ≢ mark) xs → AllByRecursion (λ c. c ≢ mark) xs' → xs ++ (mark ∷ ys) ≡ xs' ++ (mark ∷ ys') → SameParts xs xs' ys ys'
by_recursion mark [] [] ys ys' free free' e = record { front = refl; back = cc }
by_recursion mark [] (x ∷ xs') ys ys' free free' e = let same : x ≡ mark = cc in absurd (free'.0 same)
by_recursion mark (x ∷ xs) [] ys ys' free free' e = let same : x ≡ mark = cc in absurd (free.0 same)
by_recursion mark (x ∷ xs) (x' ∷ xs') ys ys' free free' e =
    let rest : xs ++ (mark ∷ ys) ≡ xs' ++ (mark ∷ ys') = cc in
    let parts = by_recursion mark xs xs' ys ys' free.1 free'.1 rest in
    let front = parts.front in
    record { front = cc; back = parts.back }

pub same_parts : (mark : ℕ) (xs xs' ys ys' : List ℕ) → All (λ c. c ≢ mark) xs → All (λ c. c ≢ mark) xs' → xs ++ (mark ∷ ys) ≡ xs' ++ (mark ∷ ys') → SameParts xs xs' ys ys'
same_parts mark xs xs' ys ys' free free' e =
    by_recursion mark xs xs' ys ys' (recursion_from_All _ xs free) (recursion_from_All _ xs' free') e
