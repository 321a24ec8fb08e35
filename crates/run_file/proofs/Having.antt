-- The passwords that were read so far.
use Rattle.std.proofs.Common.{◌≡◌, ℕ, ◌+◌, ◌<◌, List, [], ◌∷◌, ◌++◌, length, take, get_or, sym, ap, subst, ◌∙◌}
use Rattle.std.specs.Prelude.{Option}
use Rattle.std.proofs.lemmas.List.{take_more}
use Rattle.desk_config.specs.declared.venue.Venue.{Venue}
use Rattle.run_file.specs.Passwords.{HasItsPassword, HaveTheirPasswords}

have_more : (venues : List Venue) (secrets : List (Option (List ℕ))) (venue : Venue) (secret : Option (List ℕ))
    → HaveTheirPasswords venues secrets → HasItsPassword venue secret
    → HaveTheirPasswords (venues ++ venue ∷ []) (secrets ++ secret ∷ [])
have_more [] [] venue secret so_far has = (has, tt)
have_more [] (first ∷ secrets) venue secret so_far has = absurd so_far
have_more (first ∷ venues) [] venue secret so_far has = absurd so_far
have_more (first ∷ venues) (next ∷ secrets) venue secret so_far has =
    (so_far.0, have_more venues secrets venue secret so_far.1 has)

pub one_more_has : (venues : List Venue) (i : ℕ) (venue : Venue) (secrets now : List (Option (List ℕ)))
    (secret : Option (List ℕ)) → i < length venues → venue ≡ get_or venues i venue → now ≡ secrets ++ secret ∷ []
    → HasItsPassword venue secret → HaveTheirPasswords (take i venues) secrets
    → HaveTheirPasswords (take (i + 1) venues) now
one_more_has venues i venue secrets now secret below is pushed has so_far =
    let taken : take i venues ++ venue ∷ [] ≡ take (i + 1) venues =
    sym (take_more venues i venue below ∙ ap (λ v. take i venues ++ v ∷ []) (sym is)) in
    subst (HaveTheirPasswords (take (i + 1) venues)) (sym pushed)
    (subst (λ (vs : List Venue). HaveTheirPasswords vs (secrets ++ secret ∷ [])) taken
    (have_more (take i venues) secrets venue secret so_far has))
