-- So many venues are so many.
use Rattle.std.proofs.Common.{◌≡◌, ℕ, zero, suc, length, ◌∷◌, [], refl, arith}
use Rattle.std.proofs.lemmas.List.{length-append}
use Rattle.live_load.specs.Config.{venue_of, venues_to}

pub venues_count : (venues : ℕ) → length (venues_to venues) ≡ venues
venues_count zero = refl
venues_count (suc venues) =
    let rest = venues_count venues in
    let one = length-append (venues_to venues) (venue_of venues ∷ []) in
    omega (arith, rest, one)
