-- An event at a venue that is there: what its answers share.
use Rattle.std.proofs.Common.{◌≡◌, ◌<◌, ℕ, length, Some, sym, subst, ◌∙◌}
use Rattle.std.proofs.Math.ListN.{get_or}
use Rattle.schedule.specs.declared.event.Event.{Event}
use Rattle.schedule.specs.World.{World, VenueParts, venue_in}
use Rattle.schedule.specs.Happening.{with_venue, happens}
use Rattle.venue_replay.proofs.WorldAfter.{is_there}
use Rattle.replay.specs.declared.event_outcome.EventOutcome.{EventOutcome}
use Rattle.replay.specs.Telling.{told}

-- the world that is kept is the one that is seen, and has this venue at the index of its number
pub record Setting (w seen : World) (index v : ℕ) (before : VenueParts) : Type 0 where
  pub is : w ≡ seen
  pub same : index ≡ v
  pub low : v < length w.venues
  pub there : venue_in w v ≡ Some before

pub setting : (w seen : World) (index number v : ℕ) (before : VenueParts) → w ≡ seen → index ≡ number → number ≡ v
    → v < length seen.venues → before ≡ get_or w.venues index before → Setting w seen index v before
setting w seen index number v before is at number_is low found =
    let here : v < length w.venues = subst (λ (world : World). v < length world.venues) (sym is) low in
    record {
      is = is;
      same = at ∙ number_is;
      low = here;
      there = is_there w.venues index v before (at ∙ number_is) here found;
    }

abbrev pub world_of : {w seen : World} {index v : ℕ} {before : VenueParts} → Setting w seen index v before → World
world_of {w} s = w

-- what becomes of the venue that is kept is what happens in the world that is seen
pub happened : (w seen left : World) (index v : ℕ) (before now : VenueParts) (e : Event) → Setting w seen index v before
    → with_venue left v now ≡ happens w e → with_venue left index now ≡ happens seen e
happened w seen left index v before now e s is =
    subst (λ (world : World). with_venue left index now ≡ happens world e) s.is ((λ k. with_venue left (s.same k) now) ∙ is)

-- and so is what is told of it
pub told_so : (w seen : World) (index v : ℕ) (before : VenueParts) (e : Event) (answer : EventOutcome)
    → Setting w seen index v before → answer ≡ told w e → answer ≡ told seen e
told_so w seen index v before e answer s is = subst (λ (world : World). answer ≡ told world e) s.is is
