-- The orders of a sweep that has no number yet.
use Rattle.leg.specs.declared.sweep.Routed.{Routed}
use Rattle.leg.specs.Terms.{IsTerms}
use Rattle.leg.specs.Venue.{IsVenue}

-- both parts of a routed order are in range
pub record IsRouted (routed : Routed) : Type 0 where
  pub venue : IsVenue routed.venue
  pub terms : IsTerms routed.terms
