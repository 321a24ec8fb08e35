-- The workers of a day keep their places: each is that of its venue, and their seats have all parts.
use Rattle.std.proofs.Common.{◌≡◌, ◌⊎◌, inl, inr, ℕ, zero, suc, List, [], ◌∷◌, ◌++◌, length, map, All, Some, refl, sym, ap, ◌∙◌, arith}
use Rattle.std.specs.Prelude.{slice_get, sum_by}
use Rattle.std.proofs.lemmas.List.{length-append, append-nil, append_assoc, map-append}
use Rattle.std.proofs.lemmas.List.Elements.{All-nil, All-push}
use Rattle.std.proofs.lemmas.List.Sums.{sum_by-cons}
use Rattle.exec_collector.specs.Seats.{Seat, worker_seat, worker_seats, parts_of as seat_parts}
use Rattle.release_lock.specs.Queues.{DrainParts, new_drains, Took, AreInOrder}
use Rattle.dialect.specs.Wording.{Wording}
use Rattle.session_worker.specs.Events.{WorkerParts, Lasting}
use Rattle.session_worker.specs.Ends.{WorkerStart, WorkerLeft, queues_of, seats_of, AllRan}
use Rattle.session_worker.specs.Places.{Place, place, place_of, new_place, new_places}

-- each worker that ran keeps its place
pub kept_places : {D : Type 0} (wording : D → Wording) (workers : List (WorkerStart D)) (ends : List WorkerLeft)
    → AllRan wording workers ends → map (λ e. place e.parts) ends ≡ map (λ w. place w.parts) workers
kept_places wording [] [] ran = refl
kept_places wording [] (end ∷ ends) ran = absurd ran
kept_places wording (worker ∷ workers) [] ran = absurd ran
kept_places wording (worker ∷ workers) (end ∷ ends) ran =
    let runs = ran.0 in
    let venue : end.parts.took.venue ≡ worker.parts.took.venue = runs.last.venue ∙ runs.goes.venue in
    let seat : end.parts.seat.parts ≡ worker.parts.seat.parts = ap (λ (l : Lasting). l.parts) (runs.last.seat ∙ runs.goes.seat) in
    let rest = kept_places wording workers ends ran.1 in
    let first : place end.parts ≡ place worker.parts = (λ k. record { venue = venue k; parts = seat k }) in
    (λ k. first k ∷ rest k)

-- what stands at a place of a list with one element more
snoc_at : {A : Type 0} (xs : List A) (y : A) (at : ℕ) (x : A) → slice_get (xs ++ y ∷ []) at ≡ Some x
    → (slice_get xs at ≡ Some x) ⊎ ((at ≡ length xs) × (y ≡ x))
snoc_at [] y zero x e = inr (refl, cc)
snoc_at [] y (suc at) x e = absurd cc
snoc_at (first ∷ xs) y zero x e = inl e
snoc_at (first ∷ xs) y (suc at) x e =
    elim (snoc_at xs y at x e) [
      | inl there ↦ inl there
      | inr last ↦ inr (ap suc last.0, last.1)
    ]

pub drains_length : (venues : ℕ) → length (new_drains venues) ≡ venues
drains_length zero = refl
drains_length (suc venues) =
    let rest = drains_length venues in
    let one = length-append (new_drains venues) (record { venue = venues; popped = [] } ∷ []) in
    omega (arith, rest, one)

-- nothing was popped from a new drain
pub none_popped : (venues : ℕ) → All (λ (d : DrainParts). d.popped ≡ []) (new_drains venues)
none_popped zero = All-nil (λ (d : DrainParts). d.popped ≡ [])
none_popped (suc venues) = All-push (λ (d : DrainParts). d.popped ≡ []) (new_drains venues) (record { venue = venues; popped = [] })
    (none_popped venues) refl

pub seats_length : (venues : ℕ) → length (worker_seats venues) ≡ venues
seats_length zero = refl
seats_length (suc venues) =
    let rest = seats_length venues in
    let one = length-append (worker_seats venues) (worker_seat venues ∷ []) in
    omega (arith, rest, one)

-- the seat of a drain's venue
abbrev pub seat_of : DrainParts → Seat
seat_of drain = worker_seat drain.venue

pub all_seats : (venues : ℕ) → worker_seats venues ≡ map seat_of (new_drains venues)
all_seats zero = refl
all_seats (suc venues) =
    ap (λ (seats : List Seat). seats ++ worker_seat venues ∷ []) (all_seats venues)
    ∙ sym (map-append seat_of (new_drains venues) (record { venue = venues; popped = [] } ∷ []))

-- of the seats of some drains the first is that of the first drain, and the others are those of the others
pub first_seat : (seat : Seat) (seats all : List Seat) (drain : DrainParts) (drains left : List DrainParts)
    → all ≡ seat ∷ seats → left ≡ drain ∷ drains → all ≡ map seat_of left
    → (seat ≡ seat_of drain) × (seats ≡ map seat_of drains)
first_seat seat seats all drain drains left is here same =
    let both : seat ∷ seats ≡ seat_of drain ∷ map seat_of drains =
    sym is ∙ (same ∙ ap (map seat_of) here) in
    (cc, cc)

drain_at : (venues at : ℕ) (drain : DrainParts) → slice_get (new_drains venues) at ≡ Some drain → drain.venue ≡ at
drain_at zero at drain e = absurd cc
drain_at (suc venues) at drain e =
    elim (snoc_at (new_drains venues) (record { venue = venues; popped = [] }) at drain e) [
      | inl there ↦ drain_at venues at drain there
      | inr last ↦ sym (ap (λ (d : DrainParts). d.venue) last.1) ∙ sym (last.0 ∙ drains_length venues)
    ]

-- what stands at a place of a list that was mapped
source_at : {A B : Type 0} (f : A → B) (xs : List A) (at : ℕ) (y : B) → slice_get (map f xs) at ≡ Some y
    → (x : A) × (slice_get xs at ≡ Some x) × (f x ≡ y)
source_at f [] at y e = absurd cc
source_at f (x ∷ xs) zero y e = (x, refl, cc)
source_at f (x ∷ xs) (suc at) y e = source_at f xs at y e

at_map : {A B : Type 0} (f : A → B) (xs : List A) (at : ℕ) (x : A) → slice_get xs at ≡ Some x
    → slice_get (map f xs) at ≡ Some (f x)
at_map f [] at x e = absurd cc
at_map f (first ∷ xs) zero x e = (let same : first ≡ x = cc in ap (λ y. Some (f y)) same)
at_map f (first ∷ xs) (suc at) x e = at_map f xs at x e

-- workers that have the places of new ones, one for each venue, are in the order of the venues
pub in_order : (venues : ℕ) (ends : List WorkerLeft) → map (λ e. place e.parts) ends ≡ new_places venues
    → AreInOrder (queues_of ends)
in_order venues ends kept at t e =
    let end = source_at (λ (e : WorkerLeft). e.parts.took) ends at t e in
    let there = at_map (λ (e : WorkerLeft). place e.parts) ends at end.0 end.1 in
    let here : slice_get (new_places venues) at ≡ Some (place end.0.parts) =
    ap (λ (ps : List Place). slice_get ps at) (sym kept) ∙ there in
    let drain = source_at new_place (new_drains venues) at (place end.0.parts) here in
    let venue_is : end.0.parts.took.venue ≡ drain.0.venue = sym (ap (λ (p : Place). p.venue) drain.2) in
    sym (ap (λ (t : Took). t.venue) end.2) ∙ (venue_is ∙ drain_at venues at drain.0 drain.1)

parts_in : (ends : List WorkerLeft)
    → seat_parts (seats_of ends) ≡ sum_by (λ (p : Place). p.parts) (map (λ e. place e.parts) ends)
parts_in [] = refl
parts_in (end ∷ ends) =
    let rest = parts_in ends in
    let seats = sum_by-cons (λ (s : Seat). s.parts) end.parts.seat (seats_of ends) in
    let places = sum_by-cons (λ (p : Place). p.parts) (place end.parts) (map (λ e. place e.parts) ends) in
    omega (arith, rest, seats, places)

one_each : (drains : List DrainParts) → sum_by (λ (p : Place). p.parts) (map new_place drains) ≡ length drains
one_each [] = refl
one_each (drain ∷ drains) =
    let rest = one_each drains in
    let all = sum_by-cons (λ (p : Place). p.parts) (new_place drain) (map new_place drains) in
    omega (arith, rest, all)

-- and their seats have one part for each venue
pub all_parts : (venues : ℕ) (ends : List WorkerLeft) → map (λ e. place e.parts) ends ≡ new_places venues
    → seat_parts (seats_of ends) ≡ venues
all_parts venues ends kept =
    parts_in ends
    ∙ (ap (λ (ps : List Place). sum_by (λ (p : Place). p.parts) ps) kept
    ∙ (one_each (new_drains venues) ∙ drains_length venues))

-- a worker that was made of a new seat has the place of its drain
pub is_new : (made : WorkerParts) (drain : DrainParts) (seat : Seat) → place made ≡ place_of drain.venue seat.parts
    → seat ≡ seat_of drain → place made ≡ new_place drain
is_new made drain seat is same = is ∙ ap (λ (s : Seat). place_of drain.venue s.parts) same

-- one worker more was made, of the first drain left
pub one_made : {A B : Type 0} (parts : A → B) (begun : DrainParts → B) (made : List A) (worker : A) (drain : DrainParts)
    (before rest all : List DrainParts) → parts worker ≡ begun drain → before ≡ drain ∷ rest
    → map parts made ++ map begun before ≡ map begun all
    → map parts (made ++ worker ∷ []) ++ map begun rest ≡ map begun all
one_made parts begun made worker drain before rest all is here so_far =
    ap (λ ws. ws ++ map begun rest) (map-append parts made (worker ∷ []))
    ∙ (append_assoc (map parts made) (parts worker ∷ []) (map begun rest)
    ∙ (ap (λ w. map parts made ++ w ∷ map begun rest) is
    ∙ (sym (ap (λ ds. map parts made ++ map begun ds) here) ∙ so_far)))

-- where no drain is left, all were made
pub all_made : {A B : Type 0} (parts : A → B) (begun : DrainParts → B) (made : List A) (left all : List DrainParts)
    (venues : ℕ) → length left ≡ 0 → all ≡ new_drains venues
    → map parts made ++ map begun left ≡ map begun all
    → map parts made ≡ map begun (new_drains venues)
all_made parts begun made [] all venues none is so_far =
    sym (append-nil (map parts made)) ∙ (so_far ∙ ap (map begun) is)
all_made parts begun made (drain ∷ drains) all venues none is so_far = absurd (omega (arith, none))
