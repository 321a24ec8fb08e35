-- Where a day's venues are dialled, one venue more, and one link less.
use Rattle.std.proofs.Common.{◌≡◌, ℕ, ◌+◌, ◌<◌, List, [], ◌∷◌, ◌++◌, length, map, take, get_or, refl, sym, ap, subst, ◌∙◌, append-nil, append_assoc}
use Rattle.std.specs.Prelude.{Option, Some, None, option_map, option_to_list}
use Rattle.std.specs.declared.net.socket_addr.SocketAddr.{SocketAddr}
use Rattle.std.proofs.lemmas.List.{map-append, take_more}
use Rattle.desk_config.specs.declared.venue.Venue.{Venue}
use Rattle.link.specs.declared.goal.Goal.{Goal}
use Rattle.desk_venues.specs.Addresses.{IsAt, AreAt, own_addr, own_addrs}

-- the first link dials where the first venue is, and the others where the other venues are
pub at_first : {K : Type 0} (goal : K → Goal) (venues left : List Venue) (venue : Venue) (links more : List K)
    (link : K) → venues ≡ venue ∷ left → links ≡ link ∷ more → AreAt venues (map goal links)
    → IsAt venue.endpoint venue.backups (goal link) × AreAt left (map goal more)
at_first {K} goal venues left venue links more link first next at =
    let there = subst (λ (ks : List K). AreAt venues (map goal ks)) next at in
    subst (λ (vs : List Venue). AreAt vs (map goal (link ∷ more))) first there

at_more : (venues : List Venue) (goals : List Goal) (venue : Venue) (goal : Goal) → AreAt venues goals
    → IsAt venue.endpoint venue.backups goal → AreAt (venues ++ venue ∷ []) (goals ++ goal ∷ [])
at_more [] [] venue goal at one = (one, tt)
at_more [] (first ∷ goals) venue goal at one = absurd at
at_more (first ∷ venues) [] venue goal at one = absurd at
at_more (first ∷ venues) (next ∷ goals) venue goal at one = (at.0, at_more venues goals venue goal at.1 one)

own_more : (venues : List Venue) (goals : List Goal) (venue : Venue) (goal : Goal) → AreAt venues goals
    → own_addrs (venues ++ venue ∷ []) (goals ++ goal ∷ [])
    ≡ own_addrs venues goals ++ option_to_list (own_addr venue.endpoint goal)
own_more [] [] venue goal at = append-nil (option_to_list (own_addr venue.endpoint goal))
own_more [] (first ∷ goals) venue goal at = absurd at
own_more (first ∷ venues) [] venue goal at = absurd at
own_more (first ∷ venues) (next ∷ goals) venue goal at =
    ap (λ l. option_to_list (own_addr first.endpoint next) ++ l) (own_more venues goals venue goal at.1)
    ∙ sym (append_assoc (option_to_list (own_addr first.endpoint next)) (own_addrs venues goals)
    (option_to_list (own_addr venue.endpoint goal)))

option_mapped : {E : Type 0} (address : E → SocketAddr) (one : Option E)
    → map address (option_to_list one) ≡ option_to_list (option_map address one)
option_mapped address None = refl
option_mapped address (Some exchange) = refl

-- one venue more, with the exchange that it has in the process, if it has one
pub places_more : {E : Type 0} (address : E → SocketAddr) (venues : List Venue) (i : ℕ) (venue : Venue)
    (goals now : List Goal) (goal : Goal) (before after : List E) (one : Option E) → i < length venues
    → venue ≡ get_or venues i venue
    → now ≡ goals ++ goal ∷ []
    → after ≡ before ++ option_to_list one
    → IsAt venue.endpoint venue.backups goal
    → option_map address one ≡ own_addr venue.endpoint goal
    → AreAt (take i venues) goals
    → map address before ≡ own_addrs (take i venues) goals
    → AreAt (take (i + 1) venues) now × (map address after ≡ own_addrs (take (i + 1) venues) now)
places_more address venues i venue goals now goal before after one below is pushed grown there own at owns =
    let taken : take i venues ++ venue ∷ [] ≡ take (i + 1) venues =
    sym (take_more venues i venue below ∙ ap (λ v. take i venues ++ v ∷ []) (sym is)) in
    let places = at_more (take i venues) goals venue goal at there in
    let next : map address (option_to_list one) ≡ option_to_list (own_addr venue.endpoint goal) =
    option_mapped address one ∙ ap option_to_list own in (
      subst (λ (all : List Goal). AreAt (take (i + 1) venues) all) (sym pushed)
          (subst (λ (vs : List Venue). AreAt vs (goals ++ goal ∷ [])) taken places),
      ap (map address) grown
          ∙ (map-append address before (option_to_list one)
          ∙ (ap (λ l. map address before ++ l) next
          ∙ (ap (λ l. l ++ option_to_list (own_addr venue.endpoint goal)) owns
          ∙ (sym (own_more (take i venues) goals venue goal at)
          ∙ (ap (λ vs. own_addrs vs (goals ++ goal ∷ [])) taken
          ∙ ap (λ all. own_addrs (take (i + 1) venues) all) (sym pushed)))))),
    )

-- one link more, to the next goal
pub links_more : {K : Type 0} (to : K → Goal) (goals left more : List Goal) (goal : Goal) (links now : List K)
    (link : K) → map to links ++ left ≡ goals → left ≡ goal ∷ more → now ≡ links ++ link ∷ [] → to link ≡ goal
    → map to now ++ more ≡ goals
links_more to goals left more goal links now link so_far next pushed is =
    ap (λ ks. map to ks ++ more) pushed
    ∙ (ap (λ gs. gs ++ more) (map-append to links (link ∷ []))
    ∙ (append_assoc (map to links) (to link ∷ []) more
    ∙ (ap (λ g. map to links ++ g ∷ more) is
    ∙ (ap (λ gs. map to links ++ gs) (sym next) ∙ so_far))))
