-- What a range to the end of the refusals has.
use Rattle.std.proofs.Common.{◌≡◌, ℕ, ◌≤◌, List, [], ◌++◌, length, drop, sym, ap, ◌∙◌, arith}
use Rattle.std.specs.Prelude.{slice_range}
use Rattle.std.proofs.lemmas.List.{append-nil, drop_all}
use Rattle.std.proofs.lemmas.List.Folds.{drop_split}

pub to_the_end : {A : Type 0} (xs : List A) (at end : ℕ) → at ≤ end → end ≡ length xs
    → slice_range xs at end ≡ drop at xs
to_the_end {A} xs at end within is =
    let none : drop end xs ≡ [] = drop_all end xs (omega (arith, is)) in
    sym (append-nil (slice_range xs at end))
    ∙ (ap (λ (l : List A). slice_range xs at end ++ l) (sym none)
    ∙ sym (drop_split xs at end within))
