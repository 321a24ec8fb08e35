-- The fields that an order carries besides, one by one.
use Rattle.std.proofs.Common.{◌≡◌, ◌≤◌, ◌-◌, List, [], ◌∷◌, length, map, take, drop, get_or, sym, ap, ◌∙◌, arith}
use Rattle.std.proofs.lemmas.List.{take_all}
use Rattle.dialect.specs.declared.words.Extra.{Extra}
use Rattle.dialect.specs.Words.{extra_field}

pub opened : (xs : List Extra) (x : Extra) → 1 ≤ length xs → x ≡ get_or xs 0 x
    → map extra_field xs ≡ extra_field x ∷ map extra_field (take (length xs - 1) (drop 1 xs))
opened [] x some is = absurd (omega arith)
opened (y ∷ ys) x some is =
    let rest : take (length (y ∷ ys) - 1) ys ≡ ys = take_all (length (y ∷ ys) - 1) ys (omega arith) in
    ap (λ (z : Extra). extra_field z ∷ map extra_field ys) (sym is)
    ∙ ap (λ zs. extra_field x ∷ map extra_field zs) (sym rest)
