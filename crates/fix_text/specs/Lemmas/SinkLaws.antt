-- Lemmas: fields that are pushed one after another.
use Rattle.std.proofs.Common.{◌≡◌, ◌≤◌, ℕ, arith, List, [], ◌++◌, Option, append_assoc, refl, sym, ap, ◌∙◌}
use Rattle.std.proofs.lemmas.List.{append-nil}
use Rattle.fix_text.specs.Tagged.{Tagged}
use Rattle.fix_text.specs.Sink.{body_of, TakesFields}

pub list_takes_short : 24 ≤ 24
list_takes_short = omega arith

pub list_takes_none : (items : List Tagged) → items ≡ items ++ []
list_takes_none items = sym (append-nil items)

pub list_takes_more : (a b c xs ys : List Tagged) → b ≡ a ++ xs → c ≡ b ++ ys → c ≡ a ++ (xs ++ ys)
list_takes_more a b c xs ys first then = then ∙ ap (λ (items : List Tagged). items ++ ys) first ∙ append_assoc a xs ys

pub body_takes_short : 24 ≤ 1152
body_takes_short = omega arith

pub body_takes_none : (s : Option (List ℕ)) → TakesFields s s []
body_takes_none s fields is = is ∙ ap body_of (sym (append-nil fields))

pub body_takes_more : (a b c : Option (List ℕ)) (xs ys : List Tagged) → TakesFields a b xs → TakesFields b c ys
    → TakesFields a c (xs ++ ys)
body_takes_more a b c xs ys first then fields is =
    then (fields ++ xs) (first fields is) ∙ ap body_of (append_assoc fields xs ys)
