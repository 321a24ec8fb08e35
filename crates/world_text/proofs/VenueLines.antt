-- The line of a venue, and the lines of the venues, one venue further.
use Rattle.std.proofs.Common.{◌≡◌, ◌+◌, ℕ, zero, suc, ◌<◌, List, [], ◌∷◌, ◌++◌, length, map, drop, Option, Some, None, Ok, Err, Bool, true, false, if◌then◌else◌, refl, sym, ap, ◌∙◌, arith}
use Rattle.std.specs.Prelude.{slice_get, codes, decimal, nat_le}
use Rattle.std.specs.Option.{option_map_or}
use Rattle.std.proofs.lemmas.List.{append_assoc}
use Rattle.leg.specs.LegId.{LegIdParts}
use Rattle.leg.specs.Venue.{venue_of}
use Rattle.leg.specs.declared.fault.LegFault.TheVariants.{BadVenue}
use Rattle.leg.specs.declared.leg.Leg.{Leg}
use Rattle.session_core.specs.declared.phase.Phase.{Phase}
use Rattle.exchange_core.specs.Exchange.{accepted_by}
use Rattle.schedule.specs.World.{World, VenueParts, venue_in, of_venue, accepted, closed_at, withdrawn_ids, doubtful_ids}
use Rattle.schedule.specs.Printed.{legs_text, phase_text, closed_text, venue_line, venue_lines}

-- a venue that has a phase is there
pub there_in : (found : Option VenueParts) (phase : Phase) → Some phase ≡ option_map_or (λ v. Some v.session.phase) found None
    → (venue : VenueParts) × (found ≡ Some venue) × (phase ≡ venue.session.phase)
there_in (Some venue) phase is = (venue, refl, (let same : phase ≡ venue.session.phase = cc in same))
there_in None phase is = absurd cc

-- the line that these words make, and that of these legs
abbrev pub words : ℕ → List ℕ → List ℕ → List ℕ → List ℕ → List ℕ → List ℕ
words v accepted withdrawn doubtful phase closed =
    codes "venue " ++ decimal v
    ++ codes " accepted " ++ accepted
    ++ codes " withdrawn " ++ withdrawn
    ++ codes " doubt " ++ doubtful
    ++ codes " phase " ++ phase
    ++ codes " closed " ++ closed
    ++ 10 ∷ []

abbrev pub line_of : ℕ → List LegIdParts → List LegIdParts → List LegIdParts → Phase → Option ℕ → List ℕ
line_of v accepted withdrawn doubtful phase closed =
    words v (legs_text accepted) (legs_text withdrawn) (legs_text doubtful) (phase_text phase) (closed_text closed)

pub line_is : (w : World) (v : ℕ) (phase : Phase) (orders : List Leg) (ids withdrawn doubtful : List LegIdParts)
    (closed : Option ℕ) → Some phase ≡ of_venue w v None (λ at. Some at.session.phase)
    → orders ≡ accepted w v
    → ids ≡ map (λ leg. leg.id) orders
    → withdrawn ≡ withdrawn_ids w v
    → doubtful ≡ doubtful_ids w v
    → closed ≡ closed_at w v
    → line_of v ids withdrawn doubtful phase closed ≡ of_venue w v [] (venue_line w v)
line_is w v phase orders ids withdrawn doubtful closed phased ordered named gone unsure ended =
    let found = there_in (venue_in w v) phase phased in
    let venue = found.0 in
    let there : venue_in w v ≡ Some venue = found.1 in
    let accepts : orders ≡ accepted_by venue.exchange =
    ordered ∙ ap (λ (o : Option VenueParts). option_map_or (λ at. accepted_by at.exchange) o []) there in
    let ids_are : ids ≡ map (λ leg. leg.id) (accepted_by venue.exchange) =
    named ∙ ap (λ (l : List Leg). map (λ leg. leg.id) l) accepts in
    let ends : closed ≡ venue.exchange.closed_at =
    ended ∙ ap (λ (o : Option VenueParts). option_map_or (λ at. at.exchange.closed_at) o None) there in
    (λ k. line_of v (ids_are k) (gone k) (unsure k) (found.2 k) (ends k))
    ∙ sym (ap (λ (o : Option VenueParts). option_map_or (venue_line w v) o []) there)

-- the lines of the venues, of which one more is written
line_next : (w : World) (number at : ℕ) (venues : List VenueParts) → at < length venues
    → venue_lines w number (drop at venues)
    ≡ option_map_or (venue_line w number) (slice_get venues at) [] ++ venue_lines w (suc number) (drop (suc at) venues)
line_next w number at [] there = absurd (omega arith)
line_next w number zero (venue ∷ venues) there = refl
line_next w number (suc at) (venue ∷ venues) there = line_next w number at venues (omega arith)

pub next_line : (w : World) (number : ℕ) (text now start : List ℕ) → number < length w.venues
    → now ≡ text ++ of_venue w number [] (venue_line w number)
    → text ++ venue_lines w number (drop number w.venues) ≡ start
    → now ++ venue_lines w (number + 1) (drop (number + 1) w.venues) ≡ start
next_line w number text now start there written before =
    let one : number + 1 ≡ suc number = omega arith in
    ap (λ (t : List ℕ). t ++ venue_lines w (number + 1) (drop (number + 1) w.venues)) written
    ∙ (ap (λ (n : ℕ). (text ++ of_venue w number [] (venue_line w number)) ++ venue_lines w n (drop n w.venues)) one
    ∙ (append_assoc text (of_venue w number [] (venue_line w number)) (venue_lines w (suc number) (drop (suc number) w.venues))
    ∙ (ap (λ (t : List ℕ). text ++ t) (sym (line_next w number number w.venues there)) ∙ before)))

-- the venue of a number that is in range
in_range : (b : Bool) (n v : ℕ) → (if b then Ok n else Err BadVenue) ≡ Ok v → v ≡ n
in_range true n v is = cc
in_range false n v is = absurd cc

pub venue_is : (n v : ℕ) → venue_of n ≡ Ok v → v ≡ n
venue_is n v is = in_range (nat_le n 15) n v is
