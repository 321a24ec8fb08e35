-- One sweep, leg or venue more is shown.
use Rattle.std.proofs.Common.{◌≡◌, ℕ, suc, ◌+◌, ◌<◌, ◌≤◌, List, [], ◌∷◌, ◌++◌, length, Option, Some, None, ap, subst, arith, min}
use Rattle.std.specs.Prelude.{filter_map}
use Rattle.std.proofs.lemmas.List.{append-nil, length-append}
use Rattle.std.proofs.lemmas.List.Elements.{filter_map-append}
use Rattle.desk_news.specs.declared.paid.PaidSweep.{PaidSweep}
use Rattle.desk_json.specs.declared.standing.VenueRow.{VenueRow}
use Rattle.day_sweeps.specs.Paid.{IsPaid}
use Rattle.day_sweeps.specs.Sweeps.{AddsUp}
use Rattle.desk_serve.specs.Shown.{AreBooked, AreVenues, IsVenue}

pub booked_more : (number : ℕ) (sweeps : List PaidSweep) (sweep : PaidSweep) → AreBooked number sweeps
    → IsPaid (number + length sweeps) (Some sweep) → AddsUp sweep.parts → AreBooked number (sweeps ++ sweep ∷ [])
booked_more number [] sweep booked next adds =
    let same : number + 0 ≡ number = omega arith in
    (subst (λ (n : ℕ). IsPaid n (Some sweep)) same next, adds, tt)
booked_more number (first ∷ sweeps) sweep booked next adds =
    let same : number + length (first ∷ sweeps) ≡ suc number + length sweeps = omega arith in (
      booked.0,
      booked.1,
      booked_more (suc number) sweeps sweep booked.2
          (subst (λ (n : ℕ). IsPaid n (Some sweep)) same next) adds,
    )

pub filtered_more : {X Y : Type 0} (h : X → Option Y) (xs : List X) (x : X) (y : Y) (ys zs : List Y)
    → ys ≡ filter_map h xs → h x ≡ Some y → zs ≡ ys ++ y ∷ [] → zs ≡ filter_map h (xs ++ x ∷ [])
filtered_more h xs x y ys zs so_far is pushed = simp (filter_map-append, is, pushed, so_far)

pub filtered_same : {X Y : Type 0} (h : X → Option Y) (xs : List X) (x : X) (ys : List Y)
    → ys ≡ filter_map h xs → h x ≡ None → ys ≡ filter_map h (xs ++ x ∷ [])
filtered_same h xs x ys so_far is = simp (filter_map-append, is, so_far, append-nil)

pub venues_more : (names : List (List ℕ)) (place : ℕ) (rows : List VenueRow) (row : VenueRow)
    → AreVenues names place rows → IsVenue names (place + length rows) row → AreVenues names place (rows ++ row ∷ [])
venues_more names place [] row are next =
    let same : place + 0 ≡ place = omega arith in (subst (λ (n : ℕ). IsVenue names n row) same next, tt)
venues_more names place (first ∷ rows) row are next =
    let same : place + length (first ∷ rows) ≡ suc place + length rows = omega arith in
    (are.0, venues_more names (suc place) rows row are.1 (subst (λ (n : ℕ). IsVenue names n row) same next))

pub venue_more : (names : List (List ℕ)) (venues place : ℕ) (rows next : List VenueRow) (row : VenueRow)
    → next ≡ rows ++ row ∷ [] → (length rows ≡ min place venues) × AreVenues names 0 rows
    → (place < venues) × IsVenue names place row
    → (length next ≡ min (place + 1) venues) × AreVenues names 0 next
venue_more names venues place rows next row pushed so_far told =
    let low = told.0 in
    let many = so_far.0 in
    let one = length-append rows (row ∷ []) in
    let more = ap length pushed in
    let here : place ≡ 0 + length rows = omega (arith, low, many) in (
      omega (arith, low, many, one, more),
      rw pushed (venues_more names 0 rows row so_far.1 (subst (λ (n : ℕ). IsVenue names n row) here told.1)),
    )

pub no_venue : (names : List (List ℕ)) (venues place : ℕ) (rows next : List VenueRow) → next ≡ rows
    → (length rows ≡ min place venues) × AreVenues names 0 rows → venues ≤ place
    → (length next ≡ min (place + 1) venues) × AreVenues names 0 next
no_venue names venues place rows next same so_far past =
    let many = so_far.0 in
    let more = ap length same in (omega (arith, many, more, past), rw same so_far.1)
