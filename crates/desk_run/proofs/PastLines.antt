-- What is found of one venue more.
use Rattle.std.proofs.Common.{◌≡◌, ℕ, zero, suc, ◌+◌, List, [], ◌∷◌, ◌++◌, map, take, slice_get, refl, sym, ap, subst, ◌∙◌, arith}
use Rattle.std.specs.Option.{IsSomeAnd}
use Rattle.std.proofs.lemmas.List.{map-append}

lines_more : {F L : Type 0} (lines : F → L) (files : List F) (i : ℕ) (given : L)
    → IsSomeAnd (slice_get files i) (λ f. given ≡ lines f)
    → map lines (take (i + 1) files) ≡ map lines (take i files) ++ given ∷ []
lines_more lines [] i given is = absurd is
lines_more lines (file ∷ files) zero given is = ap (λ l. l ∷ []) (sym is)
lines_more lines (file ∷ files) (suc i) given is =
    let next : suc i + 1 ≡ suc (i + 1) = omega arith in
    ap (λ n. map lines (take n (file ∷ files))) next ∙ ap (λ l. lines file ∷ l) (lines_more lines files i given is)

-- the lines so far, and those of the venue that was pushed, are those of the files up to its place
pub lines_pushed : {P F L : Type 0} (of : P → L) (lines : F → L) (pasts now : List P) (past : P) (files : List F)
    (i at : ℕ) → now ≡ pasts ++ past ∷ [] → at ≡ i → IsSomeAnd (slice_get files at) (λ f. of past ≡ lines f)
    → map of pasts ≡ map lines (take i files) → map of now ≡ map lines (take (i + 1) files)
lines_pushed of lines pasts now past files i at pushed here found so_far =
    let there = subst (λ n. IsSomeAnd (slice_get files n) (λ f. of past ≡ lines f)) here found in
    ap (map of) pushed
    ∙ (map-append of pasts (past ∷ [])
    ∙ (ap (λ l. l ++ of past ∷ []) so_far ∙ sym (lines_more lines files i (of past) there)))

-- what is said so far of venues, and of the one that was pushed, is said of those up to its place
pub found_pushed : {P V D : Type 0} (of : P → D) (from : V → D) (pasts now : List P) (past : P) (venues : List V)
    (venue : V) (i : ℕ) → now ≡ pasts ++ past ∷ [] → take (i + 1) venues ≡ take i venues ++ venue ∷ []
    → of past ≡ from venue → map of pasts ≡ map from (take i venues) → map of now ≡ map from (take (i + 1) venues)
found_pushed of from pasts now past venues venue i pushed taken same so_far =
    ap (map of) pushed
    ∙ (map-append of pasts (past ∷ [])
    ∙ (ap (λ l. l ++ of past ∷ []) so_far
    ∙ (ap (λ d. map from (take i venues) ++ d ∷ []) same
    ∙ sym (ap (map from) taken ∙ map-append from (take i venues) (venue ∷ [])))))
