-- Legs by their numbers: the first, and each other one behind a space.
use Rattle.std.proofs.Common.{◌≡◌, ◌≤◌, ℕ, List, [], ◌∷◌, ◌++◌, length, map, drop, get_or, sym, ap, ◌∙◌, arith}
use Rattle.std.specs.List.{flat_map}
use Rattle.std.proofs.lemmas.List.{append-nil}
use Rattle.leg.specs.LegId.{LegIdParts, leg_id_text}
use Rattle.schedule.specs.Printed.{spaced}

abbrev pub behind_space : LegIdParts → List ℕ
behind_space id = 32 ∷ leg_id_text id

pub first_and_others : (id : LegIdParts) (ids : List LegIdParts)
    → spaced (map leg_id_text (id ∷ ids)) ≡ leg_id_text id ++ flat_map behind_space ids
first_and_others id [] = sym (append-nil (leg_id_text id))
first_and_others id (next ∷ ids) = ap (λ (l : List ℕ). leg_id_text id ++ 32 ∷ l) (first_and_others next ids)

pub spaced_ids : (ids : List LegIdParts) (first : LegIdParts) → 1 ≤ length ids → first ≡ get_or ids 0 first
    → spaced (map leg_id_text ids) ≡ leg_id_text first ++ flat_map behind_space (drop 1 ids)
spaced_ids [] first some is = absurd (omega arith)
spaced_ids (id ∷ ids) first some is =
    first_and_others id ids
    ∙ ap (λ (f : LegIdParts). leg_id_text f ++ flat_map behind_space ids) (let same : id ≡ first = sym is in same)
