-- The lists of a book that has no name yet.
use Rattle.std.proofs.Common.{◌≡◌, ℕ, suc, ◌+◌, List, [], ◌∷◌, ◌++◌, length, subst, arith}
use Rattle.exec_collector.specs.declared.blank_book.BlankList.{BlankList}
use Rattle.exec_collector.specs.Blank.{IsBlank, AreBlank}

pub blank-push : (from : ℕ) (lists : List BlankList) (list : BlankList) → AreBlank from lists
    → IsBlank (from + length lists) list → AreBlank from (lists ++ list ∷ [])
blank-push from [] list blank last =
    let here : from + 0 ≡ from = omega arith in
    (subst (λ v. IsBlank v list) here last, tt)
blank-push from (first ∷ lists) list blank last =
    let next : from + suc (length lists) ≡ suc from + length lists = omega arith in
    (blank.0, blank-push (suc from) lists list blank.1 (subst (λ v. IsBlank v list) next last))
