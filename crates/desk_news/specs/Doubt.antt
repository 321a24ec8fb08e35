-- The legs that stay in doubt.
use Rattle.std.specs.Prelude.{ℕ, List, [], ◌∷◌, ◌++◌, codes}
use Rattle.leg.specs.LegId.{LegIdParts, leg_id_text}

-- legs by their numbers, each behind a space
abbrev pub ids_text : List LegIdParts → List ℕ
ids_text [] = []
ids_text (id ∷ ids) = codes " " ++ leg_id_text id ++ ids_text ids

-- the legs of a venue that are in doubt, as `doubt ARCA S3L1 S4L2`
abbrev pub doubt_text : List ℕ → List LegIdParts → List ℕ
doubt_text venue ids = codes "doubt " ++ venue ++ ids_text ids
