use Rattle.std.proofs.Common.{rules, ◌≡◌, ◌+◌, ◌++◌, ◌∷◌, [], Some, length, map, drop, refl, sym, ap, ◌∙◌, arith}
use Rattle.std.proofs.lemmas.List.{append-nil, drop_more}
use Rattle.std.proofs.lemmas.List.Elements.{All-push, All-same}
use Rattle.std.proofs.Math.ListN.{drop_of_length-le}
use Rattle.dressed_link.specs.Links.{dress_on, wire_over}
use Rattle.desk_venues.specs.Dresses.{venue_dresses, worn}
use Rattle.desk_venues.proofs.Addressing.{links_more}
use Rattle.desk_venues.proofs.Wearing.{worn_more, worn_over}
use Rattle.desk_venues.proofs.workers.new_links.Goals as goal

pub loop-venue-init : goal.loop-venue-init
loop-venue-init g c =
    let goals : c.from-goals.result.items ≡ c.args.goals.items = search rules in
    let secrets : c.from-secrets.result.items ≡ c.args.secrets.items = search rules in
    let goals_are = ap length goals in
    let secrets_are = ap length secrets in
    record {
      to = rw c.new-links.ensures.items refl;
      dresses = rw c.new-links.ensures.items refl;
      new = rw c.new-links.ensures.items search rules;
      made = rw c.new-links.ensures.items refl;
      goals_left = omega (arith, goals_are, c.requires.goals);
      secrets_left = omega (arith, secrets_are, c.requires.secrets);
    }

pub loop-venue-preserved : goal.loop-venue-preserved
loop-venue-preserved g c =
    let so_far = c.loop-venue.invariant in
    let links = c.loop-venue.links.items in
    let link = c.in_ok-new_link.field-0 in
    let first_goal = c.in-Some.ensures.items in
    let first_secret = c.in-Some-pop_front.ensures.items in
    let goals_were = ap length first_goal in
    let secrets_were = ap length first_secret in
    let goals_left = so_far.goals_left in
    let secrets_left = so_far.secrets_left in
    let left = drop_more c.args.venues.now c.loop-venue.venue-index c.venue-item.result c.loop-venue-test.true
    ∙ ap (λ v. v ∷ drop (c.loop-venue.venue-index + 1) c.args.venues.now) (sym c.venue-item.is) in
    let on = c.in_ok-new_link.ensures.dress ∙ ap worn c.in_ok-dress.ensures in
    record {
      to = links_more (λ k. k.link.link.goal) _ c.loop-venue.goals.items _ c.in-Some.goal links _ link so_far.to
          first_goal c.in_ok-push.ensures.items c.in_ok-new_link.ensures.goal;
      dresses = worn_more (λ k. dress_on k.link.dresser) _ links _ link
          (drop c.loop-venue.venue-index c.args.venues.now) (drop (c.loop-venue.venue-index + 1) c.args.venues.now)
          c.venue-item.result c.loop-venue.secrets.items _ c.in-Some-pop_front.secret c.in_ok-push.ensures.items left
          first_secret on so_far.dresses;
      new = All-same (λ k. wire_over k.link.dresser (Some k.link.link.told.traffic) ≡ Some []) _ (links ++ link ∷ [])
          c.in_ok-push.ensures.items
          (All-push (λ k. wire_over k.link.dresser (Some k.link.link.told.traffic) ≡ Some []) links link so_far.new
          c.in_ok-new_link.ensures.new);
      made = search rules;
      goals_left = omega (arith, goals_were, goals_left);
      secrets_left = omega (arith, secrets_were, secrets_left);
    }

pub returns-clause-dresses : goal.returns-clause-dresses
returns-clause-dresses g c =
    let venues = c.args.venues.now in
    let secrets : c.from-secrets.result.items ≡ c.args.secrets.items = search rules in
    worn_over (λ k. dress_on k.link.dresser) _ c.loop-venue.links.items (drop c.loop-venue.venue-index venues)
    c.loop-venue.secrets.items (drop_of_length-le venues c.loop-venue-test.false) c.loop-venue.invariant.dresses
    ∙ ap (λ ss. map worn (venue_dresses venues ss)) secrets
