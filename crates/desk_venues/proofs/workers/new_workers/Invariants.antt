use Rattle.std.proofs.Common.{◌≡◌, ◌+◌, ◌++◌, Some, [], length, drop, map, All}
use Rattle.dressed_link.specs.Links.{dress_on, wire_over}
use Rattle.desk_venues.specs.Addresses.{AreAt}
use Rattle.desk_venues.specs.Dresses.{AllWear}
use Rattle.desk_venues.specs.Starts.{workers_from}
use Rattle.desk_venues.proofs.workers.new_workers.Given as goal

abbrev pub invariant-loop-venue : goal.invariant-loop-venue
invariant-loop-venue g l = record {
  starts_are : l.workers.items
      ++ workers_from (drop l.venue-index l.venues) l.starts.items (map g.J.Telling.told l.journals.items)
      ≡ workers_from l.venues l.initial.starts.items (map g.J.Telling.told l.initial.journals.items);
  new_links : All (λ k. wire_over k.link.dresser (Some k.link.link.told.traffic) ≡ Some []) l.links.items;
  their_links : AreAt (drop l.venue-index l.venues) (map (λ k. k.link.link.goal) l.links.items);
  their_dresses : AllWear (drop l.venue-index l.venues) (map (λ k. dress_on k.link.dresser) l.links.items);
  links_left : length l.links.items + l.venue-index ≡ length l.venues;
  made : length l.workers.items ≡ l.venue-index;
  starts_left : length l.starts.items + l.venue-index ≡ length l.venues;
  journals_left : length l.journals.items + l.venue-index ≡ length l.venues;
}
