-- What is settled at a venue stays so, as it does on its line.
use Rattle.std.proofs.Common.{◌≡◌, ℕ, List, [], ◌∷◌, ◌++◌, Option, Some, None, refl, sym, subst, ◌∙◌, arith, ap}
use Rattle.std.specs.List.{Contains}
use Rattle.std.specs.Option.{option_map_or}
use Rattle.std.proofs.lemmas.List.Elements.{Contains-append_left}
use Rattle.std.proofs.lemmas.Option.{same_Some, slice_get_past}
use Rattle.leg.specs.Numbered.{numbered}
use Rattle.leg.specs.declared.leg.Leg.{Leg}
use Rattle.leg.specs.declared.leg_state.LegState.TheVariants.{Taken, Withdrawn}
use Rattle.exchange_core.specs.Exchange.{accepted_by}
use Rattle.venue_line.specs.ForGood.{StaysSettled as LineStaysSettled}
use Rattle.venue_line.proofs.PastLines.{IsPast}
use Rattle.venue_line.proofs.ForGood.{settled-refl, settled-trans, stays_settled}
use Rattle.schedule.specs.declared.event.Event.{Event}
use Rattle.schedule.specs.World.{World, VenueParts, venue_in, opening, state_of, released_to, accepted}
use Rattle.schedule.specs.Happening.{happens, happen, run}
use Rattle.schedule.specs.LineOf.{line_at}
use Rattle.schedule.specs.SweepTheorem.{IsWithdrawn}
use Rattle.schedule.specs.ForGood.{StaysSettled, WhatIsSettledStays}
use Rattle.schedule.proofs.Happened.{event_is_later}
use Rattle.schedule.proofs.Lines.{event_advances}
use Rattle.schedule.proofs.RunsSafely.{IsSafe, safe_after, safe_run, safe_opening}
use Rattle.schedule.proofs.OrderHolds.{withdrawn_at, withdrawn_of, sent_as, sent_of, holds_by, never, none_past}
use Rattle.schedule.proofs.LegNumbers.{one_ordinal}
use Rattle.schedule.proofs.GoneLegs.{passed, ordinal_of}

-- a venue of a later world, whose line keeps what is settled, and whose exchange what it accepted
record KeepsVenue (w later : World) (v : ℕ) (venue : VenueParts) : Type 0 where
  now : VenueParts
  there : venue_in later v ≡ Some now
  stays : LineStaysSettled (line_at w.desk v venue) (line_at later.desk v now)
  accepts : (leg : Leg) → Contains (accepted_by venue.exchange) leg → Contains (accepted_by now.exchange) leg

abbrev Keeps : World → World → Type 0
Keeps w later = (v : ℕ) (venue : VenueParts) → venue_in w v ≡ Some venue → KeepsVenue w later v venue

keeps-refl : (w : World) → Keeps w w
keeps-refl w v venue there =
    record {
      now = venue;
      there = there;
      stays = settled-refl (line_at w.desk v venue);
      accepts = λ leg among. among;
    }

keeps-trans : (a b c : World) → Keeps a b → Keeps b c → Keeps a c
keeps-trans a b c first more v venue there =
    let one = first v venue there in
    let two = more v one.now one.there in
    record {
      now = two.now;
      there = two.there;
      stays = settled-trans (line_at a.desk v venue) (line_at b.desk v one.now) (line_at c.desk v two.now) one.stays
          two.stays;
      accepts = λ leg among. two.accepts leg (one.accepts leg among);
    }

keeps_event : (w : World) (e : Event) → IsSafe w → IsSafe (happens w e) → Keeps w (happens w e)
keeps_event w e safe safe_after v venue there =
    let after = happens w e in
    let advances = event_advances w e in
    let now = (event_is_later w e).venue v venue there in
    let p = passed w after safe advances v now.0 now.1 in
    let one : p.old ≡ venue = same_Some p.old venue (sym p.there ∙ there) in
    let past = subst (λ x. IsPast (line_at w.desk v x) (line_at after.desk v now.0)) one p.past in
    record {
      now = now.0;
      there = now.1;
      stays = stays_settled (line_at w.desk v venue) (line_at after.desk v now.0) past (safe.lines v venue there)
          (safe_after.lines v now.0 now.1);
      accepts = λ leg among.
          (let more = now.2.exchange.accepted in
          subst (λ l. Contains l leg) (sym more.1)
          (Contains-append_left (accepted_by venue.exchange) more.0 leg among));
    }

keeps_run : (more : List Event) (w : World) → IsSafe w → Keeps w (happen more w)
keeps_run [] w safe = keeps-refl w
keeps_run (e ∷ more) w safe =
    let after = happens w e in
    let next = safe_after w after (event_advances w e) safe in
    keeps-trans w after (happen more after) (keeps_event w e safe next) (keeps_run more after next)

-- the legs accepted at a venue
abbrev accepted_at : Option VenueParts → List Leg
accepted_at found = option_map_or (λ (venue : VenueParts). accepted_by venue.exchange) found []

-- by the states of a world
module _ (w later : World) (safe : IsSafe w) (safe_later : IsSafe later) (v : ℕ) (venue : VenueParts)
    (there : venue_in w v ≡ Some venue) (kept : KeepsVenue w later v venue) where
  withdrawn_stays : (ordinal : ℕ) → IsWithdrawn w v ordinal → IsWithdrawn later v ordinal
  withdrawn_stays ordinal is =
      let old = safe.lines v venue there in
      let new = safe_later.lines v kept.now kept.there in
      withdrawn_of later v kept.now kept.there new.0 new.1 (safe_later.orderly v kept.now kept.there).clean ordinal
      (kept.stays.withdrawn ordinal
      (withdrawn_at w v venue there old.0 old.1 (safe.orderly v venue there).clean ordinal is))

  taken_stays : (ordinal : ℕ) → state_of w v ordinal ≡ Some Taken → state_of later v ordinal ≡ Some Taken
  taken_stays ordinal is =
      let old = safe.lines v venue there in
      let new = safe_later.lines v kept.now kept.there in
      sent_of later v kept.now kept.there new.0 new.1 (safe_later.orderly v kept.now kept.there).clean ordinal Taken
      (kept.stays.taken ordinal
      (sent_as w v venue there old.0 old.1 (safe.orderly v venue there).clean ordinal Taken (λ e. cc) (λ e. cc) is))

  -- a leg isn't both withdrawn and accepted
  not_both : (ordinal : ℕ) (leg : Leg) → numbered ordinal (released_to w v) ≡ Some leg
      → IsWithdrawn later v ordinal → Contains (accepted later v) leg → ⊥
  not_both ordinal leg whole gone among =
      let h = holds_by later v (venue_in later v) refl safe_later in
      let o = ordinal_of (accepted later v) h.ordinals (λ k. numbered k (released_to later v)) leg h.order.released
      among in
      let same : ordinal ≡ o.0 =
      one_ordinal v later.desk.sweeps ordinal o.0 leg leg (kept.stays.released ordinal leg whole) o.2 refl in
      h.gaps.withdrawn_is_missing ordinal gone (subst (Contains h.ordinals) (sym same) o.1)

  still_accepted : (leg : Leg) → Contains (accepted w v) leg → Contains (accepted later v) leg
  still_accepted leg among =
      let before : accepted w v ≡ accepted_by venue.exchange = ap accepted_at there in
      let after : accepted later v ≡ accepted_by kept.now.exchange = ap accepted_at kept.there in
      subst (λ l. Contains l leg) (sym after) (kept.accepts leg (subst (λ l. Contains l leg) before among))

settled_at : (w later : World) → IsSafe w → IsSafe later → Keeps w later → (v : ℕ) (found : Option VenueParts)
    → venue_in w v ≡ found → StaysSettled w later v
settled_at w later safe safe_later keeps v (Some venue) is =
    let kept = keeps v venue is in
    record {
      withdrawn = withdrawn_stays w later safe safe_later v venue is kept;
      taken = taken_stays w later safe safe_later v venue is kept;
      never_accepted = λ ordinal leg whole gone among.
          not_both w later safe safe_later v venue is kept ordinal leg whole
          (withdrawn_stays w later safe safe_later v venue is kept ordinal gone) among;
      never_withdrawn = λ ordinal leg whole among gone.
          not_both w later safe safe_later v venue is kept ordinal leg whole gone
          (still_accepted w later safe safe_later v venue is kept leg among);
    }
settled_at w later safe safe_later keeps v None is =
    let past = none_past w.venues v is in
    let none = slice_get_past w.desk.venues v (let same = safe.desks in omega arith) in
    record {
      withdrawn = λ ordinal gone. absurd (never w v is (rw none refl) ordinal Withdrawn (λ e. cc) gone);
      taken = λ ordinal gone. absurd (never w v is (rw none refl) ordinal Taken (λ e. cc) gone);
      never_accepted = λ ordinal leg whole gone. absurd (never w v is (rw none refl) ordinal Withdrawn (λ e. cc) gone);
      never_withdrawn = λ ordinal leg whole among gone.
          (let none : accepted w v ≡ [] = ap accepted_at is in
          let h = (subst (λ l. Contains l leg) none among).1 in
          omega arith);
    }

happen-append : (xs ys : List Event) (w : World) → happen (xs ++ ys) w ≡ happen ys (happen xs w)
happen-append [] ys w = refl
happen-append (e ∷ xs) ys w = happen-append xs ys (happens w e)

pub what_is_settled_stays : WhatIsSettledStays
what_is_settled_stays next max_number events more v is =
    let w = run next max_number events in
    let safe = safe_run events (opening next max_number) (safe_opening next max_number is.most_number) in
    subst (λ later. StaysSettled w later v) (sym (happen-append events more (opening next max_number)))
    (settled_at w (happen more w) safe (safe_run more w safe) (keeps_run more w safe) v (venue_in w v) refl)
