-- What is asked of a venue, whether or not the desk has it.
use Rattle.std.proofs.Common.{◌≡◌, ℕ, ◌<◌, ◌≤◌, [], length, map, get_or, sym, ap, subst, ◌∙◌}
use Rattle.std.specs.Prelude.{unwrap_or}
use Rattle.std.proofs.lemmas.List.{length-map}
use Rattle.std.proofs.lemmas.Option.{slice_get_past}
use Rattle.sweep_release.specs.declared.desk.Desk.TheInside.{Inside}
use Rattle.sweep_release.specs.declared.gate.Gate.TheVariants.{Shut}
use Rattle.sweep_release.specs.declared.venue.Venue.{Venue}
use Rattle.sweep_release.specs.Released.{released}
use Rattle.sweep_release.specs.Desk.{DeskVenue, venue_at}
use Rattle.sweep_release.specs.History.{KeptDesk}
use Rattle.sweep_release.specs.Kept.{desk_seen, released_sweeps, venue_seen, IsKeptVenue, IsKept}
use Rattle.sweep_release.proofs.Changing.{venue_at_seen}

-- a venue that the desk has
pub released_there : (desk : Inside) (seen : KeptDesk) (venue i : ℕ) (at : Venue) → desk_seen desk ≡ seen → i ≡ venue
    → i < length desk.venues.items
    → at ≡ get_or desk.venues.items i at
    → IsKept desk
    → at.released.items ≡ released venue seen.desk.sweeps
released_there desk seen venue i at e same there is h =
    let all = h.venues in
    let kept : IsKeptVenue (released_sweeps desk.history.items) desk.room i at =
    subst (IsKeptVenue (released_sweeps desk.history.items) desk.room i) (sym is) (all i at there) in
    kept.legs
    ∙ (ap (λ (v : ℕ). released v (released_sweeps desk.history.items)) same
    ∙ ap (λ (s : KeptDesk). released venue s.desk.sweeps) e)

pub left_there : (desk : Inside) (seen : KeptDesk) (venue i : ℕ) (at : Venue) → desk_seen desk ≡ seen → i ≡ venue
    → i < length desk.venues.items
    → at ≡ get_or desk.venues.items i at
    → at.left ≡ (venue_at seen.desk venue).left
left_there desk seen venue i at e same there is =
    ap (λ (v : DeskVenue). v.left) (sym (venue_at_seen desk i at there (sym is)))
    ∙ (ap (λ (v : ℕ). (venue_at (desk_seen desk).desk v).left) same
    ∙ ap (λ (s : KeptDesk). (venue_at s.desk venue).left) e)

-- and one that it hasn't got
pub none_released : (desk : Inside) (seen : KeptDesk) (venue i : ℕ) → desk_seen desk ≡ seen → i ≡ venue
    → length desk.venues.items ≤ i
    → IsKept desk
    → [] ≡ released venue seen.desk.sweeps
none_released desk seen venue i e same past h =
    let elsewhere = h.elsewhere in
    sym (elsewhere i past)
    ∙ (ap (λ (v : ℕ). released v (released_sweeps desk.history.items)) same
    ∙ ap (λ (s : KeptDesk). released venue s.desk.sweeps) e)

pub none_left : (desk : Inside) (seen : KeptDesk) (venue i : ℕ) → desk_seen desk ≡ seen → i ≡ venue
    → length desk.venues.items ≤ i
    → 0 ≡ (venue_at seen.desk venue).left
none_left desk seen venue i e same past =
    let none : DeskVenue = record { gate = Shut; left = 0 } in
    let beyond : length (map venue_seen desk.venues.items) ≤ i =
    subst (λ (n : ℕ). n ≤ i) (sym (length-map desk.venues.items venue_seen)) past in
    ap (λ v. (unwrap_or v none).left) (sym (slice_get_past (map venue_seen desk.venues.items) i beyond))
    ∙ (ap (λ (v : ℕ). (venue_at (desk_seen desk).desk v).left) same
    ∙ ap (λ (s : KeptDesk). (venue_at s.desk venue).left) e)
