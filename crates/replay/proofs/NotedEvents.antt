-- What is kept of an event at a venue: the deed does what the definition's deed does, and a frame that came to the
-- exchange counts.
use Rattle.std.proofs.Common.{◌≡◌, ◌≤◌, ◌<◌, ◌==◌, ℕ, zero, suc, Bool, true, false, List, length, Option, Some, None, refl, sym, ap, ◌∙◌, if◌then◌else◌, nat_le, arith}
use Rattle.std.specs.Prelude.{slice_get, max}
use Rattle.std.specs.Option.{option_map_or}
use Rattle.std.proofs.lemmas.Bool.{eq-eqb, ne_eqb, leb-true}
use Rattle.std.proofs.lemmas.Option.{same_Some, slice_get_past}
use Rattle.std.proofs.lemmas.Bool.Decides.{nat_tests}
use Rattle.leg.specs.Numbered.{numbered}
use Rattle.leg.specs.declared.placed_leg.PlacedLeg.{PlacedLeg}
use Rattle.sweep_release.specs.Desk.{drop_next}
use Rattle.sweep_release.specs.Desk as desk
use Rattle.session_core.specs.Session.{SessionParts}
use Rattle.schedule.specs.declared.event.Event.{Event}
use Rattle.schedule.specs.declared.event.Event.TheVariants as event
use Rattle.schedule.specs.Growing.{named}
use Rattle.schedule.specs.World.{World, VenueParts, Frame, venue_in}
use Rattle.schedule.specs.Happening.{may_connect, is_session_up}
use Rattle.world_restart.specs.Journal.{Standing, standing_at, writes_at, reached_by, reached_at}
use Rattle.world_restart.specs.Deeds.{again, deed_of, drop_deed, take_deed, frame_deed}
use Rattle.world_restart.specs.Deeds.Deed.{Nothing as Idle, Connected}
use Rattle.replay.specs.declared.deed.Deed.{Deed}
use Rattle.replay.specs.declared.deed.Deed.TheVariants as deed
use Rattle.replay.specs.declared.noted.Noted.{Noted}
use Rattle.replay.specs.declared.noted.Noted.TheVariants.{Nothing, Line, Reached}
use Rattle.replay.specs.Redoing.{redo}
use Rattle.replay.specs.Noting.{noted, drop_kept, take_kept}
use Rattle.replay.specs.DaySeen.{IsWithin}

-- what is kept is a line, whose deed does what the event did; or no line is written, and so many frames came
pub record IsLine (w : World) (e : Event) (v : ℕ) (venue : VenueParts) (d : Deed) : Type 0 where
  pub writes : writes_at e v ≡ true
  pub does : redo venue.from_exchange (standing_at w v venue) d ≡ again (standing_at w v venue) (deed_of w e venue)
  pub within : IsWithin (length venue.from_exchange) d
  pub reached : (r : ℕ) → reached_at w e v r ≡ r

pub record IsNoLine (w : World) (e : Event) (v : ℕ) (after : ℕ → ℕ) : Type 0 where
  pub writes : writes_at e v ≡ false
  pub reached : (r : ℕ) → reached_at w e v r ≡ after r

abbrev pub IsNoted : World → Event → ℕ → VenueParts → Noted → Type 0
IsNoted w e v venue Nothing = IsNoLine w e v (λ r. r)
IsNoted w e v venue (Line d) = IsLine w e v venue d
IsNoted w e v venue (Reached n) = IsNoLine w e v (λ r. max r n)

module _ (w : World) (v : ℕ) (venue : VenueParts) (there : venue_in w v ≡ Some venue) where
  abbrev s : Standing
  s = standing_at w v venue

  here : (at : ℕ) → at ≡ v → (at == v) ≡ true
  here at same = eq-eqb at v same

  drop_does : (o : Option PlacedLeg) → redo venue.from_exchange s (drop_kept o) ≡ again s (drop_deed o)
  drop_does None = refl
  drop_does (Some placed) = refl

  drop_within : (o : Option PlacedLeg) → IsWithin (length venue.from_exchange) (drop_kept o)
  drop_within None = tt
  drop_within (Some placed) = tt

  take_does : (up : Bool) (o : Option PlacedLeg)
      → redo venue.from_exchange s (take_kept (if up then o else None))
      ≡ again s (if up then take_deed venue.session o else Idle)
  take_does true None = refl
  take_does true (Some placed) = refl
  take_does false o = refl

  take_within : (o : Option PlacedLeg) → IsWithin (length venue.from_exchange) (take_kept o)
  take_within None = tt
  take_within (Some placed) = tt

  connect_does : (may : Bool)
      → redo venue.from_exchange s (if may then deed.Connected else deed.Nothing)
      ≡ again s (if may then Connected else Idle)
  connect_does true = refl
  connect_does false = refl

  connect_within : (may : Bool)
      → IsWithin (length venue.from_exchange) (if may then deed.Connected else deed.Nothing)
  connect_within true = tt
  connect_within false = tt

  past : (n : ℕ) (frames : List Frame) → nat_le n (length frames) ≡ false → numbered n frames ≡ None
  past zero frames is = refl
  past (suc n) frames is =
      let high : length frames ≤ n = grind (arith, nat_tests) in slice_get_past frames n high

  hear_does : (n : ℕ) (low : Bool) → nat_le n (length venue.from_exchange) ≡ low
      → redo venue.from_exchange s (if low then deed.Heard n else deed.Nothing)
      ≡ again s (frame_deed venue.session (numbered n venue.from_exchange))
  hear_does n true is = refl
  hear_does n false is =
      ap (λ o. again s (frame_deed venue.session o)) (sym (past n venue.from_exchange is))

  hear_within : (n : ℕ) (low : Bool) → nat_le n (length venue.from_exchange) ≡ low
      → IsWithin (length venue.from_exchange) (if low then deed.Heard n else deed.Nothing)
  hear_within n true is = leb-true n (length venue.from_exchange) is
  hear_within n false is = tt

  comes : (at n : ℕ) → at ≡ v → (r : ℕ) → reached_at w (event.ToExchange at n) v r ≡ reached_by n r venue
  comes at n same r =
      ap (λ b. if b then option_map_or (reached_by n r) (venue_in w v) r else r) (here at same)
      ∙ ap (λ o. option_map_or (reached_by n r) o r) there

  reach_noted : (at n : ℕ) → at ≡ v → (low : Bool) → nat_le n (length venue.to_exchange) ≡ low
      → IsNoted w (event.ToExchange at n) v venue (if low then Reached n else Nothing)
  reach_noted at n same true is = record {
    writes = refl;
    reached = λ r. comes at n same r ∙ ap (λ b. if b then max r n else r) is;
  }
  reach_noted at n same false is = record {
    writes = refl;
    reached = λ r. comes at n same r ∙ ap (λ b. if b then max r n else r) is;
  }

  pub is_noted : (e : Event) → named e ≡ Some v → IsNoted w e v venue (noted w e venue)
  is_noted (event.Release sweep) names = absurd cc
  is_noted (event.GateUp at) names = record { writes = refl; reached = λ r. refl }
  is_noted (event.GateDown at) names = record { writes = refl; reached = λ r. refl }
  is_noted (event.ExchangeBreak at) names = record { writes = refl; reached = λ r. refl }
  is_noted (event.Act at act) names = record { writes = refl; reached = λ r. refl }
  is_noted (event.ToExchange at n) names =
      reach_noted at n (same_Some at v names) (nat_le n (length venue.to_exchange)) refl
  is_noted (event.ToDispatcher at n) names = record {
    writes = here at (same_Some at v names);
    does = hear_does n (nat_le n (length venue.from_exchange)) refl;
    within = hear_within n (nat_le n (length venue.from_exchange)) refl;
    reached = λ r. refl;
  }
  is_noted (event.Drop at) names = record {
    writes = here at (same_Some at v names);
    does = drop_does (drop_next w.desk at).0;
    within = drop_within (drop_next w.desk at).0;
    reached = λ r. refl;
  }
  is_noted (event.Take at) names = record {
    writes = here at (same_Some at v names);
    does = take_does (is_session_up venue.session.phase) (desk.take w.desk at).0;
    within = take_within (if is_session_up venue.session.phase then (desk.take w.desk at).0 else None);
    reached = λ r. refl;
  }
  is_noted (event.Connect at) names = record {
    writes = here at (same_Some at v names);
    does = connect_does (may_connect w.desk at);
    within = connect_within (may_connect w.desk at);
    reached = λ r. refl;
  }
  is_noted (event.Break at) names =
      record { writes = here at (same_Some at v names); does = refl; within = tt; reached = λ r. refl }
  is_noted (event.Quiet at) names =
      record { writes = here at (same_Some at v names); does = refl; within = tt; reached = λ r. refl }
  is_noted (event.Silent at) names =
      record { writes = here at (same_Some at v names); does = refl; within = tt; reached = λ r. refl }
  is_noted (event.Close at) names =
      record { writes = here at (same_Some at v names); does = refl; within = tt; reached = λ r. refl }
  is_noted (event.Abandon at) names =
      record { writes = here at (same_Some at v names); does = refl; within = tt; reached = λ r. refl }

-- an event at another venue, or at none
pub not_noted : (w : World) (e : Event) (v : ℕ) → (named e ≡ Some v → ⊥) → IsNoLine w e v (λ r. r)
not_noted w (event.Release sweep) v other = record { writes = refl; reached = λ r. refl }
not_noted w (event.GateUp at) v other = record { writes = refl; reached = λ r. refl }
not_noted w (event.GateDown at) v other = record { writes = refl; reached = λ r. refl }
not_noted w (event.ExchangeBreak at) v other = record { writes = refl; reached = λ r. refl }
not_noted w (event.Act at act) v other = record { writes = refl; reached = λ r. refl }
not_noted w (event.ToExchange at n) v other =
    let differs = ne_eqb at v (λ same. other (ap (λ k. Some k) same)) in
    record {
      writes = refl;
      reached = λ r. ap (λ b. if b then option_map_or (reached_by n r) (venue_in w v) r else r) differs;
    }
not_noted w (event.ToDispatcher at n) v other =
    record { writes = ne_eqb at v (λ same. other (ap (λ k. Some k) same)); reached = λ r. refl }
not_noted w (event.Drop at) v other =
    record { writes = ne_eqb at v (λ same. other (ap (λ k. Some k) same)); reached = λ r. refl }
not_noted w (event.Take at) v other =
    record { writes = ne_eqb at v (λ same. other (ap (λ k. Some k) same)); reached = λ r. refl }
not_noted w (event.Connect at) v other =
    record { writes = ne_eqb at v (λ same. other (ap (λ k. Some k) same)); reached = λ r. refl }
not_noted w (event.Break at) v other =
    record { writes = ne_eqb at v (λ same. other (ap (λ k. Some k) same)); reached = λ r. refl }
not_noted w (event.Quiet at) v other =
    record { writes = ne_eqb at v (λ same. other (ap (λ k. Some k) same)); reached = λ r. refl }
not_noted w (event.Silent at) v other =
    record { writes = ne_eqb at v (λ same. other (ap (λ k. Some k) same)); reached = λ r. refl }
not_noted w (event.Close at) v other =
    record { writes = ne_eqb at v (λ same. other (ap (λ k. Some k) same)); reached = λ r. refl }
not_noted w (event.Abandon at) v other =
    record { writes = ne_eqb at v (λ same. other (ap (λ k. Some k) same)); reached = λ r. refl }
