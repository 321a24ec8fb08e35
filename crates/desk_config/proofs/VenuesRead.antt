-- The venues that were read so far.
use Rattle.std.proofs.Common.{◌≡◌, ℕ, ◌+◌, ◌<◌, List, [], ◌∷◌, ◌++◌, length, drop, get_or, Option, ap, ◌∙◌}
use Rattle.std.specs.Prelude.{Result, Ok, Err}
use Rattle.toml.specs.declared.value.Value.{Value}
use Rattle.toml.specs.View.{view, items_view}
use Rattle.toml.proofs.Views.{items_view-drop}
use Rattle.desk_config.specs.declared.fault.KeyFault.{KeyFault}
use Rattle.desk_config.specs.declared.venue.Venue.{Venue}
use Rattle.desk_config.specs.Reading.{and_then}
use Rattle.desk_config.specs.Venues.{next_venue, venues_from}

-- what the tables from an index on say
abbrev pub venues_at : Option (List ℕ) → List Venue → List Value → ℕ → Result (List Venue) KeyFault
venues_at desk earlier tables i = venues_from desk earlier (items_view (drop i tables))

-- a venue more, and what the tables behind it say
abbrev pub behind : Option (List ℕ) → List Venue → List Value → ℕ → Venue → Result (List Venue) KeyFault
behind desk earlier tables i venue = venues_at desk (earlier ++ venue ∷ []) tables (i + 1)

-- the next table, and those behind it
venues_step : (desk : Option (List ℕ)) (earlier : List Venue) (tables : List Value) (i : ℕ) (d : Value)
    → i < length tables
    → venues_at desk earlier tables i
    ≡ and_then (next_venue desk earlier (view (get_or tables i d))) (behind desk earlier tables i)
unfolding venues_from
venues_step desk earlier tables i d within = ap (venues_from desk earlier) (items_view-drop tables i d within)

-- a venue that was read
pub venue_read : (desk : Option (List ℕ)) (earlier : List Venue) (tables : List Value) (i : ℕ) (d : Value)
    (venue : Venue) → i < length tables
    → next_venue desk earlier (view (get_or tables i d)) ≡ Ok venue
    → venues_from desk earlier (items_view (drop i tables))
    ≡ venues_from desk (earlier ++ venue ∷ []) (items_view (drop (i + 1) tables))
venue_read desk earlier tables i d venue within read =
    venues_step desk earlier tables i d within ∙ ap (λ r. and_then r (behind desk earlier tables i)) read

-- a venue with a fault
pub venue_refused : (desk : Option (List ℕ)) (earlier : List Venue) (tables : List Value) (i : ℕ) (d : Value)
    (fault : KeyFault) → i < length tables
    → next_venue desk earlier (view (get_or tables i d)) ≡ Err fault
    → venues_from desk earlier (items_view (drop i tables)) ≡ Err fault
venue_refused desk earlier tables i d fault within refused =
    venues_step desk earlier tables i d within ∙ ap (λ r. and_then r (behind desk earlier tables i)) refused

pub ruleset venue_steps = (venue_read, venue_refused)
