-- The links made so far put on the dresses of the first venues, and one more is made.
use Rattle.std.proofs.Common.{◌≡◌, ℕ, List, [], ◌∷◌, ◌++◌, map, Option, length, suc, refl, sym, ap, subst, ◌∙◌, append_assoc}
use Rattle.std.proofs.lemmas.List.{append-nil, map-append}
use Rattle.desk_config.specs.declared.venue.Venue.{Venue}
use Rattle.fix_tags.specs.Dress.{Dress}
use Rattle.desk_venues.specs.Dresses.{AllWear, Wears, venue_dress, venue_dresses, worn}

pub worn_more : {K : Type 0} (on : K → Option Dress) (all : List (Option Dress)) (links now : List K) (link : K)
    (left rest : List Venue) (venue : Venue) (secrets more : List (Option (List ℕ))) (secret : Option (List ℕ))
    → now ≡ links ++ link ∷ [] → left ≡ venue ∷ rest → secrets ≡ secret ∷ more
    → on link ≡ worn (venue_dress venue secret)
    → map on links ++ map worn (venue_dresses left secrets) ≡ all
    → map on now ++ map worn (venue_dresses rest more) ≡ all
worn_more on all links now link left rest venue secrets more secret pushed first next is so_far =
    let tail = map worn (venue_dresses rest more) in
    let one : map worn (venue_dresses left secrets) ≡ worn (venue_dress venue secret) ∷ tail =
    ap (λ vs. map worn (venue_dresses vs secrets)) first
    ∙ ap (λ ss. map worn (venue_dresses (venue ∷ rest) ss)) next in
    ap (λ ls. map on ls ++ tail) pushed
    ∙ (ap (λ ls. ls ++ tail) (map-append on links (link ∷ []))
    ∙ (append_assoc (map on links) (on link ∷ []) tail
    ∙ (ap (λ (o : Option Dress). map on links ++ o ∷ tail) is
    ∙ (ap (λ ls. map on links ++ ls) (sym one) ∙ so_far))))

pub worn_over : {K : Type 0} (on : K → Option Dress) (all : List (Option Dress)) (links : List K) (left : List Venue)
    (secrets : List (Option (List ℕ))) → left ≡ []
    → map on links ++ map worn (venue_dresses left secrets) ≡ all → map on links ≡ all
worn_over on all links left secrets none so_far =
    sym (append-nil (map on links))
    ∙ (sym (ap (λ vs. map on links ++ map worn (venue_dresses vs secrets)) none) ∙ so_far)

pub all_wear : (venues : List Venue) (secrets : List (Option (List ℕ))) → length secrets ≡ length venues
    → AllWear venues (map worn (venue_dresses venues secrets))
all_wear [] secrets same = tt
all_wear (venue ∷ venues) [] same = absurd cc
all_wear (venue ∷ venues) (secret ∷ secrets) same = ((secret, refl), all_wear venues secrets cc)

-- the first link puts the first venue's dress on, and the others those of the others
pub first_wears : {K : Type 0} (on : K → Option Dress) (left rest : List Venue) (venue : Venue) (links more : List K)
    (link : K) → left ≡ venue ∷ rest → links ≡ link ∷ more → AllWear left (map on links)
    → Wears venue (on link) × AllWear rest (map on more)
first_wears on left rest venue links more link first next wear =
    subst (λ vs. AllWear vs (on link ∷ map on more)) first (subst (λ ls. AllWear left (map on ls)) next wear)
