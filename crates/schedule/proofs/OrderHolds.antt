-- The order half of the sweep theorem, from what holds of the lines.
use Rattle.std.proofs.Common.{◌≡◌, ◌≤◌, ◌⊎◌, ℕ, zero, suc, Bool, true, false, nat_le, List, [], ◌∷◌, length, map, take, Option, Some, None, refl, sym, ap, ◌∙◌, inl, inr, if◌then◌else◌, arith}
use Rattle.std.specs.Prelude.{IfSome, slice_get}
use Rattle.std.specs.List.{Contains}
use Rattle.std.specs.Option.{option_map_or}
use Rattle.std.proofs.lemmas.Bool.Decides.{nat_tests}
use Rattle.std.proofs.lemmas.Option.{same_Some, slice_get_past}
use Rattle.leg.specs.declared.leg_state.LegState.{LegState}
use Rattle.leg.specs.declared.leg_state.LegState.TheVariants.{Queued, Doubt, Taken, Withdrawn}
use Rattle.dialect.specs.declared.note.Note.TheVariants as note
use Rattle.dialect.specs.declared.report.Report.{Report}
use Rattle.session_core.specs.Session.{leg_state}
use Rattle.venue_line.specs.DeliveredReports.{Given}
use Rattle.schedule.proofs.Clean.{IsClean, first_reports}
use Rattle.sweep_release.specs.Desk.{venue_at}
use Rattle.schedule.specs.Happening.{run}
use Rattle.schedule.specs.World.{World, VenueParts, opening, venue_in, of_venue, released_to, state_of, state_left, accepted, closed_at, given, made, reports_in}
use Rattle.schedule.specs.SweepTheorem.{IsWithdrawn, AreGiven, HoldsAt}
use Rattle.schedule.specs.OrderHalf.{TheVenueTheorem}
use Rattle.venue_line.specs.Line.{Line}
use Rattle.schedule.specs.LineOf.{line_at}
use Rattle.venue_line.specs.LineInvariant.{LineInvariant}
use Rattle.venue_line.specs.LineTheorem.{IsWithdrawnLeg, LogsOutFirst, AllSettled, LineHolds}
use Rattle.venue_line.proofs.LegStates.{found}
use Rattle.venue_line.proofs.LineGives.{line_holds}
use Rattle.schedule.proofs.RunsSafely.{IsSafe, safe_run, safe_opening}

-- the state of a leg, where the venue is found
abbrev state_by : ℕ → ℕ → ℕ → Option LegState → Option LegState
state_by released left n sent = if nat_le released n then None else
    (if nat_le (suc n) left then Some (state_left sent) else Some Queued)

left_tests : (released left n : ℕ) → suc n ≤ left → left ≤ released
    → (nat_le released n ≡ false) × (nat_le (suc n) left ≡ true)
left_tests released left n low within = (grind (arith, nat_tests), grind (arith, nat_tests))

state_left_by : (released left n : ℕ) (sent : Option LegState) → suc n ≤ left → left ≤ released
    → state_by released left n sent ≡ Some (state_left sent)
state_left_by released left n sent low within = let t = left_tests released left n low within in rw (t.0, t.1) refl

-- what a state other than queued tells
record Tells (left n : ℕ) (sent : Option LegState) (state : LegState) : Type 0 where
  low : suc n ≤ left
  is : state_left sent ≡ state

told_by_tests : (past gone : Bool) (left n : ℕ) (sent : Option LegState) (state : LegState) → nat_le (suc n) left ≡ gone
    → (state ≡ Queued → ⊥)
    → (if past then None else (if gone then Some (state_left sent) else Some Queued)) ≡ Some state
    → Tells left n sent state
told_by_tests true gone left n sent state test other is = absurd cc
told_by_tests false true left n sent state test other is =
    record { low = (let t = test in grind (arith, nat_tests)); is = same_Some (state_left sent) state is }
told_by_tests false false left n sent state test other is = absurd (other (sym (same_Some Queued state is)))

told : (released left n : ℕ) (sent : Option LegState) (state : LegState) → (state ≡ Queued → ⊥)
    → state_by released left n sent ≡ Some state → Tells left n sent state
told released left n sent state other is = told_by_tests (nat_le released n)
    (nat_le (suc n) left) left n sent state refl other is

gone_is : (sent : Option LegState) → state_left sent ≡ Withdrawn → (sent ≡ None) ⊎ (sent ≡ Some Withdrawn)
gone_is None is = inl refl
gone_is (Some state) is = inr (ap Some is)

some_is : (sent : Option LegState) (state : LegState) → (state ≡ Withdrawn → ⊥) → state_left sent ≡ state
    → sent ≡ Some state
some_is None state other is = absurd (other (sym is))
some_is (Some now) state other is = ap Some is

back_is : (sent : Option LegState) → (sent ≡ None) ⊎ (sent ≡ Some Withdrawn) → state_left sent ≡ Withdrawn
back_is sent (inl none) = ap state_left none
back_is sent (inr gone) = ap state_left gone

module _ (w : World) (v : ℕ) (venue : VenueParts) (there : venue_in w v ≡ Some venue)
    (i : LineInvariant (line_at w.desk v venue)) (g : Given (line_at w.desk v venue))
    (clean : IsClean venue.exchange.own) where
  abbrev line : Line
  line = line_at w.desk v venue

  ask : {A : Type 0} (default : A) (f : VenueParts → A) → of_venue w v default f ≡ f venue
  ask default f = ap (λ (o : Option VenueParts). option_map_or f o default) there

  state_is : (n : ℕ)
      → state_of w v (suc n) ≡ state_by (length (released_to w v)) (venue_at w.desk v).left n
      (leg_state venue.session (suc n))
  state_is n = ap (state_by (length (released_to w v)) (venue_at w.desk v).left n)
      (ask None (λ (x : VenueParts). leg_state x.session (suc n)))

  pub withdrawn_at : (ordinal : ℕ) → IsWithdrawn w v ordinal → IsWithdrawnLeg line ordinal
  withdrawn_at zero is = absurd cc
  withdrawn_at (suc n) is =
      let t = told (length (released_to w v)) (venue_at w.desk v).left n (leg_state venue.session (suc n)) Withdrawn
      (λ e. cc) (sym (state_is n) ∙ is) in
      record { from = omega arith; left = t.low; gone = gone_is (leg_state venue.session (suc n)) t.is }

  pub withdrawn_of : (ordinal : ℕ) → IsWithdrawnLeg line ordinal → IsWithdrawn w v ordinal
  withdrawn_of zero is = absurd (let h = is.from in omega arith)
  withdrawn_of (suc n) is =
      state_is n
      ∙ (state_left_by (length (released_to w v)) (venue_at w.desk v).left n
      (leg_state venue.session (suc n)) is.left i.copies.left_released
      ∙ ap Some (back_is (leg_state venue.session (suc n)) is.gone))

  pub sent_as : (ordinal : ℕ) (state : LegState) → (state ≡ Queued → ⊥) → (state ≡ Withdrawn → ⊥)
      → state_of w v ordinal ≡ Some state → leg_state venue.session ordinal ≡ Some state
  sent_as zero state not_queued not_gone is = absurd cc
  sent_as (suc n) state not_queued not_gone is =
      let t = told (length (released_to w v)) (venue_at w.desk v).left n
      (leg_state venue.session (suc n)) state not_queued (sym (state_is n) ∙ is) in
      some_is (leg_state venue.session (suc n)) state not_gone t.is

  pub sent_of : (ordinal : ℕ) (state : LegState) → leg_state venue.session ordinal ≡ Some state
      → state_of w v ordinal ≡ Some state
  sent_of zero state is =
      let f = found venue.session.log 0 state is in
      absurd (let l = (i.copies.sent_left f.number f.leg f.there).0 in let e = f.ordinal_is in omega arith)
  sent_of (suc n) state is =
      let f = found venue.session.log (suc n) state is in
      let low : suc n ≤ (venue_at w.desk v).left =
      (let l = (i.copies.sent_left f.number f.leg f.there).1 in let e = f.ordinal_is in omega arith) in
      state_is n
      ∙ (state_left_by (length (released_to w v)) (venue_at w.desk v).left n (leg_state venue.session (suc n)) low
      i.copies.left_released ∙ ap (λ sent. Some (state_left sent)) is)

  holds : LineHolds line
  holds = line_holds line i g

  reports : AreGiven w v
  reports =
      let h = holds in
      let first = first_reports venue.session.log venue.exchange.own h.reports.count clean in
      let all : given w v ≡ venue.given = ask [] (λ (x : VenueParts). x.given) in
      let made_by : made w v ≡ reports_in venue.exchange.own = ask [] (λ (x : VenueParts). reports_in x.exchange.own) in
      record {
        count = first.0;
        given = all
            ∙ (h.reports.given
            ∙ (first.1 ∙ ap (λ l. map (λ report. note.Report report) (take first.0 l)) (sym made_by)));
      }

  orders_hold : HoldsAt w v
  orders_hold =
      (let h = holds in
      let all : accepted w v ≡ line.exchange.intake.accepted =
      ask [] (λ (x : VenueParts). (line_at w.desk v x).exchange.intake.accepted) in
      let mark : closed_at w v ≡ line.exchange.intake.closed_at = ask None (λ (x : VenueParts). x.exchange.closed_at) in
      record {
        ordinals = h.ordinals;
        order = record { released = ap (map (λ leg. Some leg)) all ∙ h.released; in_order = h.in_order };
        gaps = record {
          missing_is_withdrawn = λ ordinal later from low there.
              elim (h.missing_is_withdrawn ordinal later from low there)
              [ inl is ↦ inl is | inr gone ↦ inr (withdrawn_of ordinal gone) ];
          withdrawn_is_missing = λ ordinal is there. h.withdrawn_is_missing ordinal (withdrawn_at ordinal is) there;
        };
        close = rw (mark, all) h.close;
        settled = record {
          taken_was_accepted = λ ordinal is. h.taken_was_accepted ordinal
              (sent_as ordinal Taken (λ e. cc) (λ e. cc) is);
          closed_no_doubt = doubts closed_at_line refl mark h.closed_no_doubt;
        };
        reports = reports;
      })
    where
      closed_at_line : Option ℕ
      closed_at_line = line.exchange.intake.closed_at

      -- our exchange never logs out first
      doubts : (m : Option ℕ) → m ≡ m → closed_at w v ≡ m
          → IfSome m (λ count. LogsOutFirst line ⊎ AllSettled line)
          → IfSome (closed_at w v) (λ count. (ordinal : ℕ) → state_of w v ordinal ≡ Some Doubt → ⊥)
      doubts None same is either = rw is tt
      doubts (Some count) same is (inl first) =
          absurd (let none : Contains [] venue.session.connection = first in let h = none.1 in omega arith)
      doubts (Some count) same is (inr none) =
          rw is (λ ordinal state. none ordinal (sent_as ordinal Doubt (λ e. cc) (λ e. cc) state))

none_taken : (xs : List Report) → take 0 xs ≡ []
none_taken [] = refl
none_taken (x ∷ xs) = refl

-- a venue that isn't there
module _ (w : World) (v : ℕ) (gone : venue_in w v ≡ None) (none_left : (venue_at w.desk v).left ≡ 0) where
  ask_none : {A : Type 0} (default : A) (f : VenueParts → A) → of_venue w v default f ≡ default
  ask_none default f = ap (λ (o : Option VenueParts). option_map_or f o default) gone

  pub never : (ordinal : ℕ) (state : LegState) → (state ≡ Queued → ⊥) → state_of w v ordinal ≡ Some state → ⊥
  never zero state other is = cc
  never (suc n) state other is =
      let t = told (length (released_to w v)) (venue_at w.desk v).left n
      (of_venue w v None (λ (x : VenueParts). leg_state x.session (suc n))) state other is in
      let low = t.low in
      omega arith

  nothing_holds : HoldsAt w v
  nothing_holds =
      (let all : accepted w v ≡ [] = ask_none [] _ in
      let mark : closed_at w v ≡ None = ask_none None _ in
      record {
        ordinals = [];
        order = record { released = ap (map (λ leg. Some leg)) all; in_order = λ k low. absurd (omega arith) };
        gaps = record {
          missing_is_withdrawn = λ ordinal later from low there. absurd (let h = there.1 in omega arith);
          withdrawn_is_missing = λ ordinal is there. (let h = there.1 in omega arith);
        };
        close = rw mark tt;
        settled =
            record {
              taken_was_accepted = λ ordinal is. absurd (never ordinal Taken (λ e. cc) is);
              closed_no_doubt =
                  rw mark tt;
            };
        reports =
            record {
              count = 0;
              given = ask_none [] _ ∙ sym
                  (ap (map (λ report. note.Report report)) (none_taken (made w v)));
            };
      })

pub none_past : (xs : List VenueParts) (k : ℕ) → slice_get xs k ≡ None → length xs ≤ k
none_past [] k is = omega arith
none_past (x ∷ xs) zero is = absurd cc
none_past (x ∷ xs) (suc k) is = (let rest = none_past xs k is in omega arith)

pub holds_by : (w : World) (v : ℕ) (found : Option VenueParts) → venue_in w v ≡ found → IsSafe w → HoldsAt w v
holds_by w v (Some venue) is safe = orders_hold w v venue is (safe.lines v venue is).0 (safe.lines v venue is).1
    (safe.orderly v venue is).clean
holds_by w v None is safe =
    nothing_holds w v is
    (let past = none_past w.venues v is in
    let none = slice_get_past w.desk.venues v (let same = safe.desks in omega arith) in
    rw none refl)

pub the_venue_theorem : TheVenueTheorem
the_venue_theorem next max_number events v is =
    holds_by (run next max_number events) v (venue_in (run next max_number events) v) refl
    (safe_run events (opening next max_number) (safe_opening next max_number is.most_number))
