-- What lives before placed under references is noted one after the other.
use Rattle.std.proofs.Common.{◌≡◌, List, [], ◌∷◌, ◌++◌, refl}
use Rattle.day_restart.specs.declared.desk_past.Placed.{Placed}
use Rattle.desk_floor.specs.Release.{noted_again}
use Rattle.desk_run.specs.GoingOn.{all_noted}
use Rattle.sweep_refs.specs.Placed.{Entry}

-- one more
pub noted_more : (entries : List Entry) (placed : List Placed) (p : Placed)
    → all_noted entries (placed ++ p ∷ []) ≡ noted_again (all_noted entries placed) p.reference p.placement
noted_more entries [] p = refl
noted_more entries (q ∷ placed) p = noted_more (noted_again entries q.reference q.placement) placed p
