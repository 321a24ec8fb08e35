-- Elements of a list by their number, counted from 1.
use Rattle.std.specs.Prelude.{ℕ, zero, suc, List, Option, None, slice_get, slice_set}

-- the element of a number, if there is one
abbrev pub numbered : {A : Type 0} → ℕ → List A → Option A
numbered zero xs = None
numbered (suc before) xs = slice_get xs before

-- the list with another element under a number
abbrev pub with_numbered : {A : Type 0} → ℕ → A → List A → List A
with_numbered zero x xs = xs
with_numbered (suc before) x xs = slice_set xs before x
