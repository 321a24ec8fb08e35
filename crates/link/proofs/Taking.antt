-- One write after another.
use Rattle.std.proofs.Common.{◌≡◌, ℕ, List, [], ◌∷◌, ◌++◌, Option, Some, None, refl, ap, sym, ◌∙◌, append_assoc}
use Rattle.std.proofs.lemmas.List.{append-nil}
use Rattle.link.specs.Traffic.{Traffic, Tells, Takes}

takes_nothing : (w : List Traffic) → Takes [] w w
takes_nothing [] = (refl, refl)
takes_nothing (t ∷ ts) = ap (λ (l : List ℕ). record { written = l; read = t.read } ∷ ts) (sym (append-nil t.written))

takes_more : (xs ys : List ℕ) (u v w : List Traffic) → Takes xs u v → Takes ys v w → Takes (xs ++ ys) u w
takes_more xs ys [] v w p q =
    let last : (ys ≡ []) × (w ≡ []) = rw p.1 at q in
    (rw p.0 last.0, last.1)
takes_more xs ys (t ∷ ts) v w p q =
    let last : w ≡ record { written = (t.written ++ xs) ++ ys; read = t.read } ∷ ts = rw p at q in
    last ∙ ap (λ (l : List ℕ). record { written = l; read = t.read } ∷ ts) (append_assoc t.written xs ys)

pub tells_nothing : (a : Option (List Traffic)) → Tells a a (Takes [])
tells_nothing None = tt
tells_nothing (Some w) = takes_nothing w

pub tells_more : (xs ys : List ℕ) (a b c : Option (List Traffic)) → Tells a b (Takes xs) → Tells b c (Takes ys) → Tells a c (Takes (xs ++ ys))
tells_more xs ys None None None p q = tt
tells_more xs ys None None (Some w) p q = absurd q
tells_more xs ys None (Some v) c p q = absurd p
tells_more xs ys (Some u) None c p q = absurd p
tells_more xs ys (Some u) (Some v) None p q = absurd q
tells_more xs ys (Some u) (Some v) (Some w) p q = takes_more xs ys u v w p q
