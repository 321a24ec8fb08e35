-- What was accepted on a line stays so over restarts.
use Rattle.std.proofs.Common.{◌≡◌, ◌≤◌, ◌<◌, ◌⊎◌, ℕ, List, ◌++◌, length, Some, refl, sym, ap, subst, ◌∙◌, inl, inr, arith}
use Rattle.std.specs.List.{Contains}
use Rattle.leg.specs.Numbered.{numbered}
use Rattle.leg.specs.declared.leg.Leg.{Leg}
use Rattle.leg.specs.declared.leg_state.LegState.{LegState}
use Rattle.leg.specs.declared.leg_state.LegState.TheVariants.{Queued, Doubt, Taken, Withdrawn}
use Rattle.resend.specs.Log.{SentLeg}
use Rattle.resend.specs.Later.{IsLater}
use Rattle.session_core.specs.Session.{leg_state}
use Rattle.exchange_core.specs.Acceptance.{Carried}
use Rattle.venue_line.specs.Line.{Line, LineStep}
use Rattle.venue_line.specs.Copies.{IsLegAt}
use Rattle.venue_line.specs.LineTheorem.{LineHolds}
use Rattle.venue_line.proofs.GivenSteps.{Whole, whole_step}
use Rattle.venue_line.proofs.LineGives.{line_holds, accepted_of, is_accepted}
use Rattle.venue_line.proofs.OneOrder.{one_order}
use Rattle.venue_line.proofs.PastLines.{step_past}
use Rattle.venue_line.proofs.ForGood.{state_is, stays_settled}
use Rattle.venue_line.proofs.Leading.{past_last}
use Rattle.line_restart.specs.Lives.{Life, durable_line, killed_line, IsLife, restarted, Restarts, all_moments}
use Rattle.line_restart.specs.RestartTheorem.{IsReached}
use Rattle.line_restart.specs.OverRestarts.{StaysAccepted, WhatIsAcceptedStays}
use Rattle.line_restart.proofs.Cut.{kept_leg, reached_new}
use Rattle.line_restart.proofs.KnownLegs.{Known, known, broken_log, stays_withdrawn}
use Rattle.line_restart.proofs.Reached.{the_reached_theorem, reached_whole}
use Rattle.line_restart.proofs.Chained.{HandsOn, lives_pairs, none_needed, pairs_reached}

-- what is handed on from line to line
pub record Stays (a b : Line) : Type 0 where
  pub accepted : (ordinal : ℕ) (holds : LineHolds a) → Contains holds.ordinals ordinal
      → (later : LineHolds b) × Contains later.ordinals ordinal
  pub released : (ordinal : ℕ) (leg : Leg) (holds : LineHolds a) → Contains holds.ordinals ordinal
      → numbered ordinal a.released ≡ Some leg → numbered ordinal b.released ≡ Some leg

-- the durable line, the one when the dispatcher was killed, and that of the dispatcher that is started again
module _ (d k : Line) (kept forgotten : List Leg) (left : ℕ) (released : k.released ≡ kept ++ forgotten)
    (within : left ≤ length kept) (log : IsLater d.session.log k.session.log)
    (durable : Whole d) (killed : Whole k) (whole : Whole (restarted d k kept left)) where
  abbrev c : Line
  c = restarted d k kept left

  later : IsLater c.session.log k.session.log
  later = subst (λ l. IsLater l k.session.log) (sym (broken_log d.session)) log

  -- a leg whose number was passed
  passed : (number : ℕ) (leg : SentLeg) → IsLegAt k.session.log number leg → number < k.exchange.intake.expected
      → Known c.session.log number leg
  passed number leg at low =
      let most = whole.0.fences.expected_to in known c.session.log k.session.log number leg later (omega arith) at

  over_accepted : (ordinal : ℕ) (holds : LineHolds k) → Contains holds.ordinals ordinal
      → (after : LineHolds c) × Contains after.ordinals ordinal
  over_accepted ordinal holds there =
      let first = line_holds k killed.0 killed.1 in
      let was = accepted_of k killed.0 killed.1 ordinal (one_order k holds first ordinal there) in
      let below = killed.0.copies.taken_passed was.message was.taken in
      let n = passed was.message.number was.leg was.there below in
      elim (whole.0.fences.passed_or_withdrawn was.message.number n.leg n.there below) [
        | inl took ↦ (
          line_holds c whole.0 whole.1,
          subst (Contains (line_holds c whole.0 whole.1).ordinals) (sym n.later.ordinal ∙ was.same)
              (is_accepted c whole.0 whole.1 was.message.number n.leg n.there took),
        )
        | inr gone ↦
            absurd (killed.0.copies.withdrawn_not_taken was.leg was.message was.there
            (stays_withdrawn n.leg.state was.leg.state n.later.state gone) was.taken)
      ]

  over_released : (ordinal : ℕ) (leg : Leg) (holds : LineHolds k) → Contains holds.ordinals ordinal
      → numbered ordinal k.released ≡ Some leg → numbered ordinal kept ≡ Some leg
  over_released ordinal leg holds there is =
      let first = line_holds k killed.0 killed.1 in
      let was = accepted_of k killed.0 killed.1 ordinal (one_order k holds first ordinal there) in
      let below = killed.0.copies.taken_passed was.message was.taken in
      let n = passed was.message.number was.leg was.there below in
      let sent = whole.0.copies.sent_left was.message.number n.leg n.there in
      let to = sent.1 in
      let same = n.later.ordinal in
      let ordinal_is = was.same in
      kept_leg k.released kept forgotten released ordinal leg (omega arith) is

  pub restart_accepted : Stays k c
  restart_accepted = record { accepted = over_accepted; released = over_released }

-- one step
step_stays : (a b : Line) → LineStep a b → Whole a → Stays a b
step_stays a b step h =
    let s = stays_settled a b (step_past a b step) h (whole_step a b step h) in
    record { accepted = s.accepted; released = λ ordinal leg holds there is. s.released ordinal leg is }

-- several
stays-refl : (a : Line) → Stays a a
stays-refl a = record {
  accepted = λ ordinal holds there. (holds, there);
  released = λ ordinal leg holds there is. is;
}

stays-trans : (a b c : Line) → Stays a b → Stays b c → Stays a c
stays-trans a b c first more = record {
  accepted = λ ordinal holds there.
      (let later = first.accepted ordinal holds there in more.accepted ordinal later.0 later.1);
  released = λ ordinal leg holds there is.
      (let later = first.accepted ordinal holds there in
      more.released ordinal leg later.0 later.1 (first.released ordinal leg holds there is));
}

pub stays_hands_on : HandsOn Stays
stays_hands_on = record { same = stays-refl; trans = stays-trans; step = step_stays }

-- a leg that was accepted is in doubt or taken
state_by : (w : Line) (h : Whole w) (m : Carried) (leg : SentLeg) (state : LegState) → Contains h.0.taken m
    → IsLegAt w.session.log m.number leg → leg.state ≡ state
    → (leg.state ≡ Taken) ⊎ (leg.state ≡ Doubt)
state_by w h m leg Taken took at is = inl is
state_by w h m leg Doubt took at is = inr is
state_by w h m leg Withdrawn took at is = absurd (h.0.copies.withdrawn_not_taken leg m at is took)
state_by w h m leg Queued took at is = absurd (h.0.fences.never_queued m.number leg at is)

accepted_state : (w : Line) → Whole w → (ordinal : ℕ) (holds : LineHolds w) → Contains holds.ordinals ordinal
    → (leg_state w.session ordinal ≡ Some Taken) ⊎ (leg_state w.session ordinal ≡ Some Doubt)
accepted_state w h ordinal holds there =
    let first = line_holds w h.0 h.1 in
    let was = accepted_of w h.0 h.1 ordinal (one_order w holds first ordinal there) in
    let now : leg_state w.session ordinal ≡ Some was.leg.state =
    sym (ap (leg_state w.session) was.same) ∙ state_is w h.0 was.message.number was.leg was.there in
    elim (state_by w h was.message was.leg was.leg.state was.taken was.there refl) [
      | inl taken ↦ inl (now ∙ ap (λ s. Some s) taken)
      | inr doubt ↦ inr (now ∙ ap (λ s. Some s) doubt)
    ]

pub stays_accepted : (a b : Line) → Whole a → Whole b → Stays a b → StaysAccepted a b
stays_accepted a b before after s = record {
  released = s.released;
  known = λ ordinal holds there.
      (let later = s.accepted ordinal holds there in accepted_state b after ordinal later.0 later.1);
  taken = λ ordinal is.
      (let holds = line_holds a before.0 before.1 in
      let later = s.accepted ordinal holds (holds.taken_was_accepted ordinal is) in
      accepted_state b after ordinal later.0 later.1);
  accepted = s.accepted;
  never_withdrawn = λ ordinal holds there is.
      (let later = s.accepted ordinal holds there in later.0.withdrawn_is_missing ordinal is later.1);
}

-- over a restart
restart_stays : (life : Life) (next : Line) → IsLife life → Restarts life next → Whole (durable_line life)
    → Whole (killed_line life) → Whole next → Unit {0} → Stays (killed_line life) next
restart_stays life next is restart d k whole keeps =
    subst (Stays (killed_line life)) (sym restart.is)
    (restart_accepted (durable_line life) (killed_line life) restart.kept restart.forgotten restart.left
    restart.released restart.whole (past_last (durable_line life) life.lost is.more).later d k
    (subst Whole restart.is whole))

pub accepted_stays_over : WhatIsAcceptedStays
accepted_stays_over config first lives small new is =
    let start = subst (IsReached config) (sym new) (reached_new config) in
    pairs_reached config Stays StaysAccepted
    (λ a b before after s.
    stays_accepted a b (reached_whole config small a before) (reached_whole config small b after) s)
    (all_moments first lives) (the_reached_theorem config first lives new is)
    (lives_pairs Stays stays_hands_on config small (λ life next. Unit {0}) restart_stays first lives is
    (none_needed first lives) start)
