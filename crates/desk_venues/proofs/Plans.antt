-- The plans of simulated exchanges, one venue more.
use Rattle.std.proofs.Common.{◌≡◌, ℕ, ◌+◌, ◌<◌, zero, suc, List, [], ◌∷◌, ◌++◌, length, map, take, get_or, refl, sym, ap, ◌∙◌, arith, zero-add, add-zero, append-nil, append_assoc, length-take-le}
use Rattle.std.specs.Prelude.{Option, Some, None, option_map, option_to_list}
use Rattle.std.proofs.lemmas.List.{map-append, take_more}
use Rattle.exchange_sim.specs.declared.plan.Plan.{Plan}
use Rattle.desk_config.specs.declared.venue.Venue.{Venue}
use Rattle.desk_venues.specs.Venues.{cut_of, plan_in, plans_from, plans}

-- the plan of a venue at a place, if its exchange is simulated
abbrev plan_of_venue : ℕ → ℕ → Venue → List Plan
plan_of_venue cut place venue = option_to_list (plan_in (cut_of cut place) venue.endpoint)

one_more : (cut place : ℕ) (venues : List Venue) (venue : Venue)
    → plans_from cut place (venues ++ venue ∷ [])
    ≡ plans_from cut place venues ++ plan_of_venue cut (place + length venues) venue
one_more cut place [] venue =
    append-nil (plan_of_venue cut place venue) ∙ ap (λ n. plan_of_venue cut n venue) (sym (add-zero place))
one_more cut place (first ∷ venues) venue =
    let rest = one_more cut (suc place) venues venue in
    let next : suc place + length venues ≡ place + length (first ∷ venues) = omega arith in
    ap (λ ps. plan_of_venue cut place first ++ ps)
    (rest ∙ ap (λ n. plans_from cut (suc place) venues ++ plan_of_venue cut n venue) next)
    ∙ sym (append_assoc (plan_of_venue cut place first) (plans_from cut (suc place) venues)
    (plan_of_venue cut (place + length (first ∷ venues)) venue))

option_mapped : {A : Type 0} (plan : A → Plan) (one : Option A)
    → map plan (option_to_list one) ≡ option_to_list (option_map plan one)
option_mapped plan None = refl
option_mapped plan (Some x) = refl

-- the plans of the exchanges of the venues so far, and that of the next
pub plans_more : {A : Type 0} (plan : A → Plan) (cut : ℕ) (venues : List Venue) (i : ℕ) (venue : Venue) (own : ℕ)
    (before after : List A) (one : Option A) → i < length venues
    → venue ≡ get_or venues i venue
    → own ≡ cut_of cut i
    → map plan before ≡ plans cut (take i venues)
    → after ≡ before ++ option_to_list one
    → option_map plan one ≡ plan_in own venue.endpoint
    → map plan after ≡ plans cut (take (i + 1) venues)
plans_more plan cut venues i venue own before after one below is own_is so_far pushed planned =
    let long : zero + length (take i venues) ≡ i = zero-add (length (take i venues)) ∙ length-take-le i venues (omega (arith, below)) in
    let taken : take (i + 1) venues ≡ take i venues ++ venue ∷ [] =
    take_more venues i venue below ∙ ap (λ v. take i venues ++ v ∷ []) (sym is) in
    let next : map plan (option_to_list one) ≡ plan_of_venue cut i venue =
    option_mapped plan one
    ∙ (ap option_to_list planned ∙ ap (λ n. option_to_list (plan_in n venue.endpoint)) own_is) in
    ap (map plan) pushed
    ∙ (map-append plan before (option_to_list one)
    ∙ (ap (λ ps. map plan before ++ ps) next
    ∙ (ap (λ ps. ps ++ plan_of_venue cut i venue) so_far
    ∙ (ap (λ n. plans cut (take i venues) ++ plan_of_venue cut n venue) (sym long)
    ∙ (sym (one_more cut 0 (take i venues) venue) ∙ ap (plans cut) (sym taken))))))
