-- A desk whose venues are all new.
use Rattle.std.proofs.Common.{◌≡◌, ℕ, ◌+◌, ◌≤◌, List, [], ◌∷◌, length, map, get_or, replicate, refl, ap, sym, ◌∙◌, subst, arith}
use Rattle.std.specs.Prelude.{sum_by, vec_len, vec_capacity}
use Rattle.std.specs.List.{All}
use Rattle.std.proofs.lemmas.List.Sums.{sum_by-cons}
use Rattle.std.proofs.lemmas.List.Elements.{All-nil, All-head, All-tail, All-get_or}
use Rattle.leg.specs.declared.sweep.Routed.{Routed}
use Rattle.sweep_release.specs.declared.desk.Desk.TheInside.{Inside}
use Rattle.sweep_release.specs.declared.gate.Gate.TheVariants.{Down}
use Rattle.sweep_release.specs.declared.venue.Venue.{Venue}
use Rattle.sweep_release.specs.Gates.{gate_due}
use Rattle.sweep_release.specs.Released.{released}
use Rattle.sweep_release.specs.Desk.{DeskVenue}
use Rattle.sweep_release.specs.Kept.{released_sweeps, AreShort, venue_seen, entries_due, IsKeptVenue, IsKept}

-- the gate is down, no leg left and none is placed
pub record IsFresh (venue : Venue) : Type 0 where
  pub gate : venue.gate ≡ Down
  pub left : venue.left ≡ 0
  pub empty : venue.released.items ≡ []

seen_fresh : (venue : Venue) → IsFresh venue → venue_seen venue ≡ record { gate = Down; left = 0 }
seen_fresh venue fresh = let gate = fresh.gate in let left = fresh.left in λ k. record { gate = gate k; left = left k }

pub all_seen : (venues : List Venue) → All IsFresh venues → map venue_seen venues ≡ replicate (length venues) (let v : DeskVenue = record { gate = Down; left = 0 } in v)
all_seen [] fresh = refl
all_seen (venue ∷ venues) fresh =
    let first = seen_fresh venue (All-head IsFresh venue venues fresh) in
    let rest = all_seen venues (All-tail IsFresh venue venues fresh) in
    λ k. first k ∷ rest k

due_fresh : (venue : Venue) → IsFresh venue → entries_due venue ≡ 1
due_fresh venue fresh = let none = ap length fresh.empty in let one = ap gate_due fresh.gate in omega (arith, none, one)

all_due : (venues : List Venue) → All IsFresh venues → sum_by entries_due venues ≡ length venues
all_due [] fresh = refl
all_due (venue ∷ venues) fresh =
    omega (arith, sum_by-cons entries_due venue venues, due_fresh venue (All-head IsFresh venue venues fresh), all_due venues (All-tail IsFresh venue venues fresh))

kept_fresh : (number : ℕ) (venue : Venue) → IsFresh venue → IsKeptVenue [] 0 number venue
kept_fresh number venue fresh =
    let empty = fresh.empty in
    let none = ap length empty in
    let left = fresh.left in
    record {
      legs = empty;
      left = omega (arith, none, left);
      few = omega (arith, none);
      counted = omega (arith, none);
      spare = omega (arith, none, venue.released.ok.0, venue.released.ok.1);
    }

pub kept_new : (desk : Inside) → All IsFresh desk.venues.items → desk.history.items ≡ [] → desk.sweeps ≡ 0 → desk.shares ≡ 0 → desk.due ≡ length desk.venues.items → desk.room ≡ 0 → vec_len desk.history + desk.due ≤ vec_capacity desk.history → length desk.venues.items ≤ 16 → IsKept desk
kept_new desk fresh empty sweeps shares due none_more room few =
    let none : [] ≡ released_sweeps desk.history.items = ap released_sweeps (sym empty) in
    record {
      venues = λ k other there.
          subst (λ n. IsKeptVenue (released_sweeps desk.history.items) n k (get_or desk.venues.items k other)) (sym none_more)
          (subst (λ s. IsKeptVenue s 0 k (get_or desk.venues.items k other)) none
          (kept_fresh k _ (All-get_or IsFresh desk.venues.items k other there fresh)));
      count = sweeps ∙ ap length none;
      shares = shares ∙ ap (sum_by _) none;
      few = omega (arith, sweeps);
      bounded = omega (arith, shares);
      due = due ∙ sym (all_due desk.venues.items fresh);
      spare = omega (arith, room, none_more);
      few_venues = few;
      elsewhere = λ k past. ap (released k) (sym none);
      short = subst AreShort none (All-nil (λ (legs : List Routed). length legs ≤ 32));
    }
