use Rattle.std.proofs.Common.{rules, ◌≡◌, ◌+◌, Some, [], ◌∷◌, length, drop, map, refl, sym, ap, ◌∙◌, arith}
use Rattle.std.proofs.lemmas.List.Elements.{All-head, All-same, All-rest}
use Rattle.std.proofs.lemmas.List.{drop_more}
use Rattle.std.proofs.Math.ListN.{drop_of_length-le}
use Rattle.dressed_link.specs.Links.{dress_on, wire_over}
use Rattle.desk_venues.specs.Starts.{workers_from}
use Rattle.desk_venues.proofs.Addressing.{at_first}
use Rattle.desk_venues.proofs.Starting.{starts_more, starts_over}
use Rattle.desk_venues.proofs.Wearing.{first_wears}
use Rattle.desk_venues.proofs.workers.new_workers.Goals as goal

pub loop-venue-init : goal.loop-venue-init
loop-venue-init g c =
    let starts : c.from-starts.result.items ≡ c.args.starts.items = search rules in
    let journals : c.from-journals.result.items ≡ c.args.journals.items = search rules in
    let links : c.from-links.result.items ≡ c.args.links.items = search rules in
    let starts_are = ap length starts in
    let journals_are = ap length journals in
    let links_are = ap length links in
    record {
      starts_are = rw c.new-workers.ensures.items refl;
      new_links = rw links c.requires.new;
      their_links = rw links c.requires.at;
      their_dresses = rw links c.requires.dressed;
      links_left = omega (arith, links_are, c.requires.links);
      made = rw c.new-workers.ensures.items refl;
      starts_left = omega (arith, starts_are, c.requires.starts);
      journals_left = omega (arith, journals_are, c.requires.journals);
    }

pub new_worker-requires-clause-link : goal.new_worker-requires-clause-link
new_worker-requires-clause-link g c =
    let link = c.in-Some-pop_front-2.link in
    let links = c.pop_front-in-loop-venue-2.new.self.items in
    All-head (λ k. wire_over k.link.dresser (Some k.link.link.told.traffic) ≡ Some []) link links
    (All-same (λ k. wire_over k.link.dresser (Some k.link.link.told.traffic) ≡ Some []) (link ∷ links) c.loop-venue.links.items
    (sym c.in-Some-pop_front-2.ensures.items) c.loop-venue.invariant.new_links)

pub new_worker-requires-clause-at : goal.new_worker-requires-clause-at
new_worker-requires-clause-at g c =
    let left = drop_more c.args.venues.now c.loop-venue.venue-index c.venue-item.result c.loop-venue-test.true
    ∙ ap (λ v. v ∷ drop (c.loop-venue.venue-index + 1) c.args.venues.now) (sym c.venue-item.is) in
    (at_first (λ k. k.link.link.goal) _ _ c.venue-item.result c.loop-venue.links.items _ c.in-Some-pop_front-2.link left
    c.in-Some-pop_front-2.ensures.items c.loop-venue.invariant.their_links).0

pub new_worker-requires-clause-dressed : goal.new_worker-requires-clause-dressed
new_worker-requires-clause-dressed g c =
    let left = drop_more c.args.venues.now c.loop-venue.venue-index c.venue-item.result c.loop-venue-test.true
    ∙ ap (λ v. v ∷ drop (c.loop-venue.venue-index + 1) c.args.venues.now) (sym c.venue-item.is) in
    (first_wears (λ k. dress_on k.link.dresser) _ _ c.venue-item.result c.loop-venue.links.items _
    c.in-Some-pop_front-2.link left c.in-Some-pop_front-2.ensures.items c.loop-venue.invariant.their_dresses).0

pub loop-venue-preserved : goal.loop-venue-preserved
loop-venue-preserved g c =
    let so_far = c.loop-venue.invariant in
    let told = g.J.Telling.told in
    let start = c.in-Some.start in
    let starts = c.pop_front.new.self.items in
    let first_start = c.in-Some.ensures.items in
    let journal = c.in-Some-pop_front.journal in
    let journals = c.pop_front-in-loop-venue.new.self.items in
    let first_journal = c.in-Some-pop_front.ensures.items in
    let link = c.in-Some-pop_front-2.link in
    let links = c.pop_front-in-loop-venue-2.new.self.items in
    let first_link = c.in-Some-pop_front-2.ensures.items in
    let starts_were = ap length first_start in
    let journals_were = ap length first_journal in
    let links_were = ap length first_link in
    let starts_left = so_far.starts_left in
    let journals_left = so_far.journals_left in
    let links_left = so_far.links_left in
    let left = drop_more c.args.venues.now c.loop-venue.venue-index c.venue-item.result c.loop-venue-test.true
    ∙ ap (λ v. v ∷ drop (c.loop-venue.venue-index + 1) c.args.venues.now) (sym c.venue-item.is) in
    record {
      starts_are = starts_more _ c.loop-venue.workers.items _ c.in_ok-new_worker.field-0
          (drop c.loop-venue.venue-index c.args.venues.now) (drop (c.loop-venue.venue-index + 1) c.args.venues.now)
          c.venue-item.result c.loop-venue.starts.items starts start (map told c.loop-venue.journals.items)
          (map told journals) (told journal) c.in_ok-push.ensures.items left first_start
          (ap (map told) first_journal) c.in_ok-new_worker.ensures so_far.starts_are;
      new_links = All-rest (λ k. wire_over k.link.dresser (Some k.link.link.told.traffic) ≡ Some []) link links c.loop-venue.links.items first_link
          so_far.new_links;
      their_links = (at_first (λ k. k.link.link.goal) _ _ c.venue-item.result c.loop-venue.links.items links link left
          first_link so_far.their_links).1;
      their_dresses = (first_wears (λ k. dress_on k.link.dresser) _ _ c.venue-item.result c.loop-venue.links.items links
          link left first_link so_far.their_dresses).1;
      links_left = omega (arith, links_were, links_left);
      made = search rules;
      starts_left = omega (arith, starts_were, starts_left);
      journals_left = omega (arith, journals_were, journals_left);
    }

pub returns-clause-starts : goal.returns-clause-starts
returns-clause-starts g c =
    let venues = c.args.venues.now in
    let told = g.J.Telling.told in
    let starts : c.from-starts.result.items ≡ c.args.starts.items = search rules in
    let journals : c.from-journals.result.items ≡ c.args.journals.items = search rules in
    starts_over _ _ (drop c.loop-venue.venue-index venues) c.loop-venue.starts.items
    (map told c.loop-venue.journals.items) (drop_of_length-le venues c.loop-venue-test.false)
    c.loop-venue.invariant.starts_are
    ∙ (ap (λ ss. workers_from venues ss (map told c.from-journals.result.items)) starts
    ∙ ap (λ js. workers_from venues c.args.starts.items (map told js)) journals)
