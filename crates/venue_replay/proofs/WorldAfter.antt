-- The world after what happened at one of its venues.
use Rattle.std.proofs.Common.{◌≡◌, ℕ, zero, suc, ◌<◌, List, [], ◌∷◌, length, Option, Some, Ok, Err, refl, ap, ◌∙◌}
use Rattle.std.specs.Prelude.{slice_get, slice_set}
use Rattle.std.specs.Option.{option_map_or}
use Rattle.std.proofs.Math.ListN.{get_or}
use Rattle.std.proofs.lemmas.Option.{slice_get_read}
use Rattle.dialect.specs.declared.message.Message.{Message}
use Rattle.session_core.specs.Session.{SessionParts}
use Rattle.session_core.specs.Turn.{StepParts}
use Rattle.session_core.specs.Calling.{SessionAnswer}
use Rattle.session_core.specs.Onward.{OrUnchanged}
use Rattle.schedule.specs.World.{World, VenueParts, venue_in}
use Rattle.schedule.specs.Happening.{with_venue, at_venue, connected_world, called_world}
use Rattle.venue_replay.specs.AtVenue.{sent, called}

-- a venue that is there
pub is_there : (venues : List VenueParts) (i v : ℕ) (venue : VenueParts) → i ≡ v → v < length venues
    → venue ≡ get_or venues i venue
    → slice_get venues v ≡ Some venue
is_there venues i v venue same low is =
    slice_get_read venues (length venues) v venue refl low (is ∙ ap (λ (k : ℕ). get_or venues k venue) same)

-- what happens at a venue that is there
pub at_there : (w : World) (v : ℕ) (venue : VenueParts) (f : VenueParts → World) → venue_in w v ≡ Some venue
    → at_venue w v f ≡ f venue
at_there w v venue f there = ap (λ (o : Option VenueParts). option_map_or f o w) there

pub set_same : {A : Type 0} (xs : List A) (v : ℕ) (x : A) → slice_get xs v ≡ Some x → slice_set xs v x ≡ xs
set_same [] v x there = absurd cc
set_same (y ∷ ys) zero x there = ap (λ (z : _). z ∷ ys) (let same : x ≡ y = cc in same)
set_same (y ∷ ys) (suc v) x there = ap (λ l. y ∷ l) (set_same ys v x there)

pub with_same : (w : World) (v : ℕ) (venue : VenueParts) → venue_in w v ≡ Some venue → with_venue w v venue ≡ w
with_same w v venue there = λ k. record w { venues = set_same w.venues v venue there k }

-- a refused call leaves the world
pub connected_is : (w : World) (v : ℕ) (venue : VenueParts) (Does : Message → SessionParts → Type 0)
    (answer : SessionAnswer Message) → venue_in w v ≡ Some venue → OrUnchanged venue.session Does answer
    → with_venue w v (sent venue answer) ≡ connected_world w v venue answer
connected_is w v venue Does (Ok message, session) there keeps = refl
connected_is w v venue Does (Err fault, session) there keeps =
    (λ k. with_venue w v (record venue { session = keeps k })) ∙ with_same w v venue there

pub called_is : (w : World) (v : ℕ) (venue : VenueParts) (Does : StepParts → SessionParts → Type 0)
    (answer : SessionAnswer StepParts) → venue_in w v ≡ Some venue → OrUnchanged venue.session Does answer
    → with_venue w v (called venue answer) ≡ called_world w v venue answer
called_is w v venue Does (Ok step, session) there keeps = refl
called_is w v venue Does (Err fault, session) there keeps =
    (λ k. with_venue w v (record venue { session = keeps k })) ∙ with_same w v venue there
