-- One note more has a name, or none.
use Rattle.std.proofs.Common.{◌≡◌, List, [], ◌∷◌, ◌++◌, Option, Some, None}
use Rattle.std.specs.Prelude.{filter_map}
use Rattle.std.proofs.lemmas.List.{append-nil}
use Rattle.std.proofs.lemmas.List.Elements.{filter_map-append}

pub named_more : {X Y : Type 0} (h : X → Option Y) (xs : List X) (x : X) (y : Y) (ys zs : List Y)
    → ys ≡ filter_map h xs → h x ≡ Some y → zs ≡ ys ++ y ∷ [] → zs ≡ filter_map h (xs ++ x ∷ [])
named_more h xs x y ys zs so_far is pushed = simp (filter_map-append, is, pushed, so_far)

pub named_same : {X Y : Type 0} (h : X → Option Y) (xs : List X) (x : X) (ys : List Y)
    → ys ≡ filter_map h xs → h x ≡ None → ys ≡ filter_map h (xs ++ x ∷ [])
named_same h xs x ys so_far is = simp (filter_map-append, is, so_far, append-nil)
