-- What is settled at a venue stays so over events and crashes.
use Rattle.std.proofs.Common.{◌≡◌, ◌≤◌, ◌+◌, ◌||◌, ◌⊎◌, ◌++◌, ℕ, zero, suc, Bool, true, false, not, nat_le, List, [], ◌∷◌, length, map, Option, Some, None, refl, sym, ap, subst, ◌∙◌, inl, inr, if◌then◌else◌, arith}
use Rattle.std.specs.Prelude.{slice_get}
use Rattle.std.specs.List.{Contains}
use Rattle.std.specs.Option.{option_map_or}
use Rattle.std.proofs.lemmas.Bool.{and_parts, leb-true}
use Rattle.std.proofs.lemmas.List.Elements.{Contains-append_left, Contains-append_right, Contains-push}
use Rattle.std.proofs.lemmas.Option.{same_Some, slice_get_within, slice_get_past}
use Rattle.leg.specs.Numbered.{numbered}
use Rattle.leg.specs.Growing.{Grew}
use Rattle.leg.proofs.Numbered.{numbered-append}
use Rattle.leg.specs.declared.leg.Leg.{Leg}
use Rattle.leg.specs.declared.leg_state.LegState.{LegState}
use Rattle.leg.specs.declared.leg_state.LegState.TheVariants.{Queued, Doubt, Taken, Withdrawn}
use Rattle.session_core.specs.Session.{SessionParts, is_connected, leg_state}
use Rattle.session_core.specs.Turn.{disconnected}
use Rattle.session_core.specs.Calling.{broken}
use Rattle.dialect.specs.declared.report.Report.{Report}
use Rattle.exchange_core.specs.Exchange.{accepted_by}
use Rattle.exchange_core.proofs.Entries.{chosen}
use Rattle.sweep_release.specs.Released.{released}
use Rattle.venue_line.proofs.PastLines.{IsPast}
use Rattle.venue_line.proofs.ForGood.{stays_settled}
use Rattle.schedule.specs.declared.event.Event.{Event}
use Rattle.schedule.specs.World.{World, VenueParts, venue_in, opening, state_of, state_left, released_to, accepted, made, reports_in, is_withdrawn_leg}
use Rattle.schedule.specs.Happening.{happens}
use Rattle.schedule.specs.LineOf.{line_at}
use Rattle.schedule.specs.SweepTheorem.{IsWithdrawn}
use Rattle.schedule.proofs.Grown.{grew-refl, grew-same, grew-trans}
use Rattle.schedule.proofs.Happened.{event_is_later}
use Rattle.schedule.proofs.Lines.{event_advances}
use Rattle.schedule.proofs.RunsSafely.{IsSafe}
use Rattle.schedule.proofs.OrderHolds.{withdrawn_at, withdrawn_of, holds_by, never as none_there, none_past}
use Rattle.schedule.proofs.LegNumbers.{one_ordinal}
use Rattle.schedule.proofs.GoneLegs.{passed, ordinal_of}
use Rattle.world_restart.specs.Journal.{Standing}
use Rattle.world_restart.specs.Start.{Day, Loss, may_lose, sweeps_kept, state_in, are_withdrawn, world_started, day_started}
use Rattle.world_restart.specs.Day.{DayEvent, opening_day, day_happens, day_happen, run_day}
use Rattle.world_restart.specs.Day.DayEvent.{Goes, Crash}
use Rattle.world_restart.specs.ForGood.{IsLegOf, StaysSettledOver, WhatIsSettledStaysOver}
use Rattle.world_restart.proofs.Places.{numbered-front, each_length}
use Rattle.world_restart.proofs.Starting.{Begins, begins, legs_kept, started_safe}
use Rattle.world_restart.proofs.DayHolds.{IsKeptDay, day_keeps, days_keep, day_kept}

-- what is handed on from moment to moment, at a venue
pub record Stays (w later : World) (v : ℕ) : Type 0 where
  withdrawn : (ordinal : ℕ) (leg : Leg) → IsLegOf w v ordinal leg → IsWithdrawn w v ordinal
      → IsLegOf later v ordinal leg × IsWithdrawn later v ordinal
  accepted_too : (ordinal : ℕ) (leg : Leg) → IsLegOf w v ordinal leg → Contains (accepted w v) leg
      → IsLegOf later v ordinal leg × Contains (accepted later v) leg
  pub reports : Grew (made w v) (made later v)

stays-refl : (w : World) (v : ℕ) → Stays w w v
stays-refl w v = record {
  withdrawn = λ ordinal leg is gone. (is, gone);
  accepted_too = λ ordinal leg is there. (is, there);
  reports = grew-refl (made w v);
}

stays-trans : (a b c : World) (v : ℕ) → Stays a b v → Stays b c v → Stays a c v
stays-trans a b c v first more = record {
  withdrawn = λ ordinal leg is gone.
      (let mid = first.withdrawn ordinal leg is gone in more.withdrawn ordinal leg mid.0 mid.1);
  accepted_too = λ ordinal leg is there.
      (let mid = first.accepted_too ordinal leg is there in more.accepted_too ordinal leg mid.0 mid.1);
  reports = grew-trans (made a v) (made b v) (made c v) first.reports more.reports;
}

-- the legs accepted at a venue
abbrev accepted_at : Option VenueParts → List Leg
accepted_at found = option_map_or (λ (venue : VenueParts). accepted_by venue.exchange) found []

-- and the reports made there
abbrev made_at : Option VenueParts → List Report
made_at found = option_map_or (λ (venue : VenueParts). reports_in venue.exchange.own) found []

-- at a venue that isn't there nothing is settled
module _ (w later : World) (v : ℕ) (safe : IsSafe w) (gone : venue_in w v ≡ None) where
  none_stays : Stays w later v
  none_stays =
      let past = none_past w.venues v gone in
      let none = slice_get_past w.desk.venues v (let same = safe.desks in omega arith) in
      record {
        withdrawn = λ ordinal leg is withdrawn.
            absurd (none_there w v gone (rw none refl) ordinal Withdrawn (λ e. cc) withdrawn);
        accepted_too = λ ordinal leg is there.
            (let none : accepted w v ≡ [] = ap accepted_at gone in
            let h = (subst (λ l. Contains l leg) none there).1 in
            absurd (omega arith));
        reports = subst (λ l. Grew l (made later v)) (sym (ap made_at gone)) (made later v, refl);
      }

-- an event
module _ (w : World) (e : Event) (safe : IsSafe w) (v : ℕ) (old : VenueParts) (there : venue_in w v ≡ Some old) where
  abbrev after : World
  after = happens w e

  there_stays : IsSafe (happens w e) → Stays w (happens w e) v
  there_stays next =
      (let now = (event_is_later w e).venue v old there in
      let p = passed w (happens w e) safe (event_advances w e) v now.0 now.1 in
      let one : p.old ≡ old = same_Some p.old old (sym p.there ∙ there) in
      let past = subst (λ x. IsPast (line_at w.desk v x) (line_at (happens w e).desk v now.0)) one p.past in
      let a = safe.lines v old there in
      let b = next.lines v now.0 now.1 in
      let stays = stays_settled (line_at w.desk v old) (line_at (happens w e).desk v now.0) past a b in
      let before : accepted w v ≡ accepted_by old.exchange = ap accepted_at there in
      let behind : accepted (happens w e) v ≡ accepted_by now.0.exchange = ap accepted_at now.1 in
      let more = now.2.exchange.accepted in
      record {
        withdrawn = λ ordinal leg is gone. (
          stays.released ordinal leg is,
          withdrawn_of (happens w e) v now.0 now.1 b.0 b.1 (next.orderly v now.0 now.1).clean ordinal
              (stays.withdrawn ordinal
              (withdrawn_at w v old there a.0 a.1 (safe.orderly v old there).clean ordinal gone)),
        );
        accepted_too = λ ordinal leg is among. (
          stays.released ordinal leg is,
          subst (λ l. Contains l leg) (sym (behind ∙ more.1))
              (Contains-append_left (accepted_by old.exchange) more.0 leg (subst (λ l. Contains l leg) before among)),
        );
        reports = subst (λ l. Grew l (made (happens w e) v)) (sym (ap made_at there))
            (subst (Grew (reports_in old.exchange.own)) (sym (ap made_at now.1)) now.2.exchange.made);
      })

event_stays : (w : World) (e : Event) → IsSafe w → IsSafe (happens w e) → (v : ℕ) (found : Option VenueParts)
    → venue_in w v ≡ found → Stays w (happens w e) v
event_stays w e safe next v None is = none_stays w (happens w e) v safe is
event_stays w e safe next v (Some old) is = there_stays w e safe v old is next

-- a crash. A leg that is withdrawn is so by the line that is kept last
withdrawn_by : (a b : Bool) → (not a || b) ≡ true → a ≡ true → b ≡ true
withdrawn_by true b either is = either
withdrawn_by false b either is = absurd cc

kept_too : (now kept : ℕ → Option LegState) (first k : ℕ) (legs : List Leg) (leg : Leg)
    → are_withdrawn now kept first legs ≡ true → slice_get legs k ≡ Some leg
    → is_withdrawn_leg (now (first + k)) ≡ true → is_withdrawn_leg (kept (first + k)) ≡ true
kept_too now kept first k [] leg all there gone = absurd cc
kept_too now kept first zero (x ∷ legs) leg all there gone =
    let at : first + 0 ≡ first = omega arith in
    let two = and_parts (not (is_withdrawn_leg (now first)) || is_withdrawn_leg (kept first))
    (are_withdrawn now kept (suc first) legs) all in
    ap (λ n. is_withdrawn_leg (kept n)) at
    ∙ withdrawn_by (is_withdrawn_leg (now first)) (is_withdrawn_leg (kept first)) two.0
    (ap (λ n. is_withdrawn_leg (now n)) (sym at) ∙ gone)
kept_too now kept first (suc k) (x ∷ legs) leg all there gone =
    let at : first + suc k ≡ suc first + k = omega arith in
    let two = and_parts (not (is_withdrawn_leg (now first)) || is_withdrawn_leg (kept first))
    (are_withdrawn now kept (suc first) legs) all in
    ap (λ n. is_withdrawn_leg (kept n)) at
    ∙ kept_too now kept (suc first) k legs leg two.1 there (ap (λ n. is_withdrawn_leg (now n)) (sym at) ∙ gone)

-- what that says of how the dispatcher stood
record WasWithdrawn (standing : Standing) (ordinal : ℕ) : Type 0 where
  left : ordinal ≤ standing.left
  gone : (leg_state standing.session ordinal ≡ None) ⊎ (leg_state standing.session ordinal ≡ Some Withdrawn)

gone_by : (state : Option LegState) → is_withdrawn_leg (Some (state_left state)) ≡ true
    → (state ≡ None) ⊎ (state ≡ Some Withdrawn)
gone_by None is = inl refl
gone_by (Some Withdrawn) is = inr refl
gone_by (Some Queued) is = absurd cc
gone_by (Some Doubt) is = absurd cc
gone_by (Some Taken) is = absurd cc

was_by : (standing : Standing) (ordinal : ℕ) (test : Bool) → nat_le ordinal standing.left ≡ test
    → is_withdrawn_leg (if test then Some (state_left (leg_state standing.session ordinal)) else Some Queued) ≡ true
    → WasWithdrawn standing ordinal
was_by standing ordinal true low gone =
    record { left = leb-true ordinal standing.left low; gone = gone_by (leg_state standing.session ordinal) gone }
was_by standing ordinal false low gone = absurd cc

-- a connection that breaks leaves the log
broken_state : (s : SessionParts) (ordinal : ℕ) → leg_state (broken s) ordinal ≡ leg_state s ordinal
broken_state s ordinal =
    chosen (λ (t : SessionParts). leg_state t ordinal ≡ leg_state s ordinal) (is_connected s.phase)
    (disconnected false s) s (λ on. refl) (λ off. refl)

module _ (day : Day) (loss : Loss) (is : IsKeptDay day) (may : may_lose day loss ≡ true) (v : ℕ) (old now : VenueParts)
    (there : venue_in day.world v ≡ Some old) (there_after : venue_in (world_started day loss) v ≡ Some now) where
  abbrev w : World
  w = day.world

  abbrev started : World
  started = world_started day loss

  abbrev legs : List Leg
  legs = released v (sweeps_kept day.world loss)

  b : Begins day loss v now
  b = begins day loss is.kept.safe is.count may v now there_after

  safe_started : IsSafe (world_started day loss)
  safe_started = started_safe day loss is.kept.safe is.count may is.journals

  was_there : (ordinal : ℕ) (leg : Leg) → IsLegOf day.world v ordinal leg → IsWithdrawn day.world v ordinal
      → WasWithdrawn b.kept.standing ordinal
  was_there zero leg whole gone = absurd cc
  was_there (suc k) leg whole gone =
      let at : suc k ≡ 1 + k = omega arith in
      let test = kept_too (state_of day.world v) (state_in b.kept.standing) 1 k (released_to day.world v) leg
      b.kept.withdrawal whole (ap (λ n. is_withdrawn_leg (state_of day.world v n)) (sym at) ∙ ap is_withdrawn_leg gone) in
      was_by b.kept.standing (suc k) (nat_le (suc k) b.kept.standing.left) refl
      (ap (λ n. is_withdrawn_leg (state_in b.kept.standing n)) at ∙ test)

  -- a leg that had left is kept
  leg_kept : (ordinal : ℕ) (leg : Leg) → IsLegOf day.world v ordinal leg → ordinal ≤ b.kept.standing.left
      → IsLegOf (world_started day loss) v ordinal leg
  leg_kept ordinal leg whole low =
      let grew = legs_kept day.world loss v in
      let within = b.kept.release in
      sym (numbered-front ordinal legs grew.0 (omega arith)) ∙ (ap (numbered ordinal) (sym grew.1) ∙ whole)

  withdrawn_kept : (ordinal : ℕ) → 1 ≤ ordinal → WasWithdrawn b.kept.standing ordinal
      → IsWithdrawn (world_started day loss) v ordinal
  withdrawn_kept ordinal from was =
      let line = safe_started.lines v now there_after in
      let within = b.kept.release in
      let left = b.left_is in
      let low = was.left in
      let state : leg_state now.session ordinal ≡ leg_state b.kept.standing.session ordinal =
      ap (λ (x : VenueParts). leg_state x.session ordinal) (sym b.now_is)
      ∙ broken_state b.kept.standing.session ordinal in
      withdrawn_of (world_started day loss) v now there_after line.0 line.1
      (safe_started.orderly v now there_after).clean ordinal
      (record {
        from = from;
        left = omega arith;
        gone = elim was.gone [ inl none ↦ inl (state ∙ none) | inr gone ↦ inr (state ∙ gone) ];
      })

  from_one : (ordinal : ℕ) (leg : Leg) → IsLegOf day.world v ordinal leg → 1 ≤ ordinal
  from_one zero leg whole = absurd cc
  from_one (suc k) leg whole = omega arith

  same_accepted : accepted (world_started day loss) v ≡ accepted day.world v
  same_accepted =
      let one : b.old ≡ old = same_Some b.old old (sym b.there ∙ there) in
      ap accepted_at there_after
      ∙ (ap (λ (x : VenueParts). accepted_by x.exchange) (sym b.now_is)
      ∙ (ap (λ (x : VenueParts). accepted_by x.exchange) one ∙ sym (ap accepted_at there)))

  same_made : made (world_started day loss) v ≡ made day.world v
  same_made =
      let one : b.old ≡ old = same_Some b.old old (sym b.there ∙ there) in
      ap made_at there_after
      ∙ (ap (λ (x : VenueParts). reports_in x.exchange.own) (sym b.now_is)
      ∙ (ap (λ (x : VenueParts). reports_in x.exchange.own) one ∙ sym (ap made_at there)))

  accepted_kept : (ordinal : ℕ) (leg : Leg) → IsLegOf day.world v ordinal leg → Contains (accepted day.world v) leg
      → IsLegOf (world_started day loss) v ordinal leg × Contains (accepted (world_started day loss) v) leg
  accepted_kept ordinal leg whole among =
      let later = subst (λ l. Contains l leg) (sym same_accepted) among in
      let h = holds_by (world_started day loss) v (venue_in (world_started day loss) v) refl safe_started in
      let o = ordinal_of (accepted (world_started day loss) v) h.ordinals
      (λ k. numbered k (released_to (world_started day loss) v)) leg h.order.released later in
      let grew = legs_kept day.world loss v in
      let at : numbered o.0 (released_to day.world v) ≡ Some leg =
      ap (numbered o.0) grew.1 ∙ numbered-append o.0 legs grew.0 leg o.2 in
      let same : o.0 ≡ ordinal = one_ordinal v day.world.desk.sweeps o.0 ordinal leg leg at whole refl in
      (subst (λ k. IsLegOf (world_started day loss) v k leg) same o.2, later)

  started_stays : Stays day.world (world_started day loss) v
  started_stays = record {
    withdrawn = λ ordinal leg whole gone.
        (let was = was_there ordinal leg whole gone in
        (leg_kept ordinal leg whole was.left, withdrawn_kept ordinal (from_one ordinal leg whole) was));
    accepted_too = accepted_kept;
    reports = grew-same (made day.world v) (made (world_started day loss) v) same_made;
  }

crash_stays : (day : Day) (loss : Loss) → IsKeptDay day → may_lose day loss ≡ true → (v : ℕ)
    (found after : Option VenueParts) → venue_in day.world v ≡ found → venue_in (world_started day loss) v ≡ after
    → Stays day.world (world_started day loss) v
crash_stays day loss is may v None after there there_after =
    none_stays day.world (world_started day loss) v is.kept.safe there
crash_stays day loss is may v (Some old) (Some now) there there_after =
    started_stays day loss is may v old now there there_after
crash_stays day loss is may v (Some old) None there there_after =
    let low = slice_get_within day.world.venues v old there in
    let past = none_past (world_started day loss).venues v there_after in
    let count : length (world_started day loss).venues ≡ length day.world.venues =
    each_length _ 0 day.world.venues in
    absurd (omega arith)

day_stays : (day : Day) (e : DayEvent) → IsKeptDay day → IsKeptDay (day_happens day e) → (v : ℕ)
    → Stays day.world (day_happens day e).world v
day_stays day (Goes event) is next v =
    event_stays day.world event is.kept.safe next.kept.safe v (venue_in day.world v) refl
day_stays day (Crash loss) is next v =
    chosen (λ (d : Day). Stays day.world d.world v) (may_lose day loss) (day_started day loss) day
    (λ may. crash_stays day loss is may v (venue_in day.world v) (venue_in (world_started day loss) v) refl refl)
    (λ may_not. stays-refl day.world v)

pub days_stay : (more : List DayEvent) (day : Day) → IsKeptDay day → (v : ℕ)
    → Stays day.world (day_happen more day).world v
days_stay [] day is v = stays-refl day.world v
days_stay (e ∷ more) day is v =
    let next = day_keeps day e is in
    stays-trans day.world (day_happens day e).world (day_happen more (day_happens day e)).world v
    (day_stays day e is next v) (days_stay more (day_happens day e) next v)

-- a leg isn't both withdrawn and accepted
not_both : (w : World) → IsSafe w → (v ordinal : ℕ) (leg : Leg) → IsLegOf w v ordinal leg → IsWithdrawn w v ordinal
    → Contains (accepted w v) leg → ⊥
not_both w safe v ordinal leg whole gone among =
    let h = holds_by w v (venue_in w v) refl safe in
    let o = ordinal_of (accepted w v) h.ordinals (λ k. numbered k (released_to w v)) leg h.order.released among in
    let same : ordinal ≡ o.0 = one_ordinal v w.desk.sweeps ordinal o.0 leg leg whole o.2 refl in
    h.gaps.withdrawn_is_missing ordinal gone (subst (Contains h.ordinals) (sym same) o.1)

-- the accepted leg of an ordinal
leg_of : (legs : List Leg) (ordinals : List ℕ) (f : ℕ → Option Leg) (ordinal : ℕ)
    → map (λ leg. Some leg) legs ≡ map f ordinals → Contains ordinals ordinal
    → (leg : Leg) × Contains legs leg × (f ordinal ≡ Some leg)
leg_of legs [] f ordinal same there = absurd (let h = there.1 in omega arith)
leg_of [] (o ∷ ordinals) f ordinal same there = absurd cc
leg_of (x ∷ legs) (o ∷ ordinals) f ordinal same (zero, low, is) =
    let first : Some x ≡ f o = cc in
    (x, Contains-append_left (x ∷ []) legs x (Contains-push [] x), ap f (sym is) ∙ sym first)
leg_of (x ∷ legs) (o ∷ ordinals) f ordinal same (suc k, low, is) =
    let more : map (λ y. Some y) legs ≡ map f ordinals = cc in
    let rest = leg_of legs ordinals f ordinal more (k, omega arith, is) in
    (rest.0, Contains-append_right (x ∷ []) legs rest.0 rest.1, rest.2)

settled_over : (w later : World) → IsSafe w → IsSafe later → (v : ℕ) → Stays w later v → StaysSettledOver w later v
settled_over w later safe next v stays = record {
  withdrawn = stays.withdrawn;
  still_accepted = stays.accepted_too;
  never_accepted = λ ordinal leg whole gone among.
      (let now = stays.withdrawn ordinal leg whole gone in not_both later next v ordinal leg now.0 now.1 among);
  never_withdrawn = never;
  taken = λ ordinal is gone.
      (let h = holds_by w v (venue_in w v) refl safe in
      let found = leg_of (accepted w v) h.ordinals (λ k. numbered k (released_to w v)) ordinal h.order.released
      (h.settled.taken_was_accepted ordinal is) in
      never ordinal found.0 found.2 found.1 gone);
}
  where
    never : (ordinal : ℕ) (leg : Leg) → IsLegOf w v ordinal leg → Contains (accepted w v) leg
        → IsWithdrawn later v ordinal → ⊥
    never ordinal leg whole among gone =
        let now = stays.accepted_too ordinal leg whole among in not_both later next v ordinal leg now.0 gone now.1

pub happen-append : (xs ys : List DayEvent) (day : Day) → day_happen (xs ++ ys) day ≡ day_happen ys (day_happen xs day)
happen-append [] ys day = refl
happen-append (e ∷ xs) ys day = happen-append xs ys (day_happens day e)

pub settled_stays_over : WhatIsSettledStaysOver
settled_stays_over next max_number events more v is =
    let day = run_day next max_number events in
    let kept = day_kept next max_number events is in
    let later = days_keep more day kept in
    subst (λ (d : Day). StaysSettledOver day.world d.world v)
    (sym (happen-append events more (opening_day (opening next max_number))))
    (settled_over day.world (day_happen more day).world kept.kept.safe later.kept.safe v (days_stay more day kept v))
