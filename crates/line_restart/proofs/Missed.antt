-- A leg that was withdrawn is never accepted later, though its withdrawal is lost: its order is of a connection that is
-- over. Where no withdrawal is lost it stays withdrawn.
use Rattle.std.proofs.Common.{◌≡◌, ◌≤◌, ◌<◌, ◌⊎◌, ℕ, List, ◌++◌, length, Option, Some, None, refl, sym, ap, subst, ◌∙◌, inl, inr, arith}
use Rattle.std.specs.Prelude.{false}
use Rattle.std.specs.List.{Contains}
use Rattle.std.proofs.lemmas.Bool.{cases_lt}
use Rattle.std.proofs.lemmas.List.Elements.{Contains-append_left}
use Rattle.leg.specs.Numbered.{numbered}
use Rattle.leg.specs.declared.leg.Leg.{Leg}
use Rattle.leg.specs.declared.leg_state.LegState.{LegState}
use Rattle.leg.specs.declared.leg_state.LegState.TheVariants.{Doubt, Withdrawn}
use Rattle.resend.specs.Log.{SentLeg, state_of}
use Rattle.resend.specs.Later.{IsLater}
use Rattle.session_core.specs.Session.{SessionParts, is_connected, next_out, leg_state}
use Rattle.session_core.specs.Turn.{disconnected}
use Rattle.session_core.specs.Calling.{broken}
use Rattle.session_core.proofs.Adding.{chosen}
use Rattle.exchange_core.specs.Acceptance.{Carried}
use Rattle.venue_line.specs.Line.{Line, LineStep}
use Rattle.venue_line.specs.Copies.{IsLegAt, IsOrder}
use Rattle.venue_line.specs.LineTheorem.{IsWithdrawnLeg, LineHolds}
use Rattle.venue_line.proofs.Logs.{numbered_within}
use Rattle.venue_line.proofs.LegStates.{found, has_state}
use Rattle.venue_line.proofs.GivenSteps.{Whole, whole_step}
use Rattle.venue_line.proofs.LineKept.{invariant_of}
use Rattle.venue_line.proofs.LineGives.{line_holds, accepted_of, is_accepted, same_number}
use Rattle.venue_line.proofs.OneOrder.{one_order, as_many}
use Rattle.venue_line.proofs.PastLines.{IsPast, step_past}
use Rattle.venue_line.proofs.ForGood.{state_is, gone_stays}
use Rattle.venue_line.proofs.Leading.{past_last}
use Rattle.line_restart.specs.Lives.{Life, durable_line, killed_line, IsLife, restarted, Restarts, all_moments}
use Rattle.line_restart.specs.RestartTheorem.{IsReached}
use Rattle.line_restart.specs.OverRestarts.{KeepsDrops, NeverAccepted, WhatIsWithdrawnIsNeverAccepted, KeepsWithdrawn, StaysWithdrawn, WhatIsWithdrawnStays}
use Rattle.line_restart.proofs.Cut.{kept_leg, reached_new}
use Rattle.line_restart.proofs.KnownLegs.{Known, known, broken_log, was_withdrawn}
use Rattle.line_restart.proofs.Reached.{the_reached_theorem, reached_holds}
use Rattle.line_restart.proofs.SameOrdinals.{no_other}
use Rattle.line_restart.proofs.WrittenSince.{WritesOn, writes_step, writes_last, Written, written_lines}
use Rattle.line_restart.proofs.Staying.{restart_accepted}
use Rattle.line_restart.proofs.Chained.{HandsOn, lives_pairs, pairs_reached}

-- the orders under a number are of connections that are over
abbrev AreOld : Line → ℕ → Type 0
AreOld w number =
    (m : Carried) → Contains w.to_exchange m → IsOrder m.content → m.number ≡ number
    → m.connection < w.exchange.intake.last

-- a leg that was sent and missed: the connections of its orders are over, and it wasn't accepted
pub record IsMissed (w : Line) (ordinal : ℕ) : Type 0 where
  pub number : ℕ
  pub leg : SentLeg
  pub there : IsLegAt w.session.log number leg
  pub same : leg.ordinal ≡ ordinal
  pub old : AreOld w number
  pub missing : (holds : LineHolds w) → Contains holds.ordinals ordinal → ⊥

-- a leg that is withdrawn, or was
abbrev pub IsOut : Line → ℕ → Type 0
IsOut w ordinal = IsWithdrawnLeg w ordinal ⊎ IsMissed w ordinal

pub out_missing : (w : Line) (ordinal : ℕ) → IsOut w ordinal → (holds : LineHolds w) → Contains holds.ordinals ordinal
    → ⊥
out_missing w ordinal (inl gone) holds there = holds.withdrawn_is_missing ordinal gone there
out_missing w ordinal (inr missed) holds there = missed.missing holds there

withdrawn_missed : (w : Line) → Whole w → (ordinal : ℕ) → IsWithdrawnLeg w ordinal
    → leg_state w.session ordinal ≡ Some Withdrawn → IsMissed w ordinal
withdrawn_missed w h ordinal is gone =
    let f = found w.session.log ordinal Withdrawn gone in
    record {
      number = f.number;
      leg = f.leg;
      there = f.there;
      same = f.ordinal_is;
      old = λ m there order under.
          h.0.copies.withdrawn_is_old f.leg m
          (subst (λ n. IsLegAt w.session.log n f.leg) (sym under) f.there) f.state_is there order;
      missing = λ holds there. holds.withdrawn_is_missing ordinal is there;
    }

-- what is handed on from line to line
pub record StaysOut (a b : Line) : Type 0 where
  pub out : (ordinal : ℕ) → IsOut a ordinal → IsOut b ordinal
  pub released : (ordinal : ℕ) (leg : Leg) → IsOut a ordinal → numbered ordinal a.released ≡ Some leg
      → numbered ordinal b.released ≡ Some leg

-- one step
missed_step : (a b : Line) → LineStep a b → Whole a → (ordinal : ℕ) → IsMissed a ordinal → IsMissed b ordinal
missed_step a b step h ordinal m =
    let after = whole_step a b step h in
    let past = step_past a b step in
    let writes = writes_step a b step in
    let still = past.accepted h.0 in
    let forward = still.forward in
    let now = past.later.sent m.number m.leg m.there in
    let within = numbered_within m.number a.session.log _ m.there in
    let to = within.1 in
    let before : (x : Carried) → Contains b.to_exchange x → IsOrder x.content → x.number ≡ m.number
    → x.connection < a.exchange.intake.last =
    λ x there order under. m.old x (writes.orders x there order (omega arith)) order under in
    record {
      number = m.number;
      leg = now.0;
      there = now.1;
      same = now.2.ordinal ∙ m.same;
      old = λ x there order under. (let low = before x there order under in omega arith);
      missing = λ holds there.
          (let i = invariant_of b still in
          let was = accepted_of b i after.1 ordinal (one_order b holds (line_holds b i after.1) ordinal there) in
          let at = same_number b i was.message.number m.number was.leg now.0 was.there now.1
          (was.same ∙ sym (now.2.ordinal ∙ m.same)) in
          elim (still.new was.message was.taken) [
            | inl old ↦
                m.missing (line_holds a h.0 h.1)
                (subst (Contains (line_holds a h.0 h.1).ordinals) m.same
                (is_accepted a h.0 h.1 m.number m.leg m.there
                (record { message = was.message; there = old; under = at })))
            | inr late ↦
                (let low = before was.message (i.copies.taken_written was.message was.taken)
                (i.copies.taken_order was.message was.taken) at in
                omega arith)
          ]);
    }

-- the durable line, the one when the dispatcher was killed, and that of the dispatcher that is started again
module _ (d k : Line) (kept forgotten : List Leg) (left : ℕ) (released : k.released ≡ kept ++ forgotten)
    (within : left ≤ length kept) (past : IsPast d k) (writes : WritesOn d k) (written : Written d k)
    (durable : Whole d) (killed : Whole k) (whole : Whole (restarted d k kept left)) where
  abbrev c : Line
  c = restarted d k kept left

  same_connection : (s : SessionParts) → (broken s).connection ≡ s.connection
  same_connection s =
      chosen (λ (t : SessionParts). t.connection ≡ s.connection) (is_connected s.phase) (disconnected false s) s
      (λ on. refl) (λ off. refl)

  -- a leg whose orders are of connections that are over is in the journal: the exchange knows of no connection since
  in_journal : (number : ℕ) (leg : SentLeg) → IsLegAt k.session.log number leg → AreOld k number
      → Known c.session.log number leg
  in_journal number leg at old =
      elim (cases_lt number (next_out d.session)) [
        | inl low ↦
            (let long = ap length (broken_log d.session) in
            known c.session.log k.session.log number leg
            (subst (λ l. IsLater l k.session.log) (sym (broken_log d.session)) past.later) (omega arith) at)
        | inr high ↦
            absurd (let order = writes.sent number leg at high in
            let over = old order.message order.there order.order order.under in
            let from = order.late in
            let last = whole.0.copies.last_known in
            let same = same_connection d.session in
            omega arith)
      ]

  -- the exchange accepted no other leg than when the dispatcher was killed
  still_missing : (ordinal : ℕ) → ((holds : LineHolds k) → Contains holds.ordinals ordinal → ⊥)
      → (holds : LineHolds c) → Contains holds.ordinals ordinal → ⊥
  still_missing ordinal missing holds there =
      let first = line_holds k killed.0 killed.1 in
      let stays = restart_accepted d k kept forgotten left released within past.later durable killed whole in
      missing first
      (no_other first.ordinals holds.ordinals first.in_order holds.in_order
      (λ o in_it. let later = stays.accepted o first in_it in one_order c later.0 holds o later.1)
      (as_many k first ∙ sym (as_many c holds)) ordinal there)

  over_missed : (ordinal : ℕ) → IsMissed k ordinal → IsMissed c ordinal
  over_missed ordinal m =
      let n = in_journal m.number m.leg m.there m.old in
      record {
        number = m.number;
        leg = n.leg;
        there = n.there;
        same = sym n.later.ordinal ∙ m.same;
        old = λ x there order under.
            m.old x
            (subst (λ to. Contains to x) (sym written.is) (Contains-append_left d.to_exchange written.more x there)) order
            under;
        missing = still_missing ordinal m.missing;
      }

  -- a leg that was dropped
  over_dropped : (ordinal : ℕ) → IsWithdrawnLeg k ordinal → leg_state k.session ordinal ≡ None → ordinal ≤ left
      → IsWithdrawnLeg c ordinal
  over_dropped ordinal is none low = record {
    from = is.from;
    left = low;
    gone = inl (unsent (leg_state c.session ordinal) refl);
  }
    where
      unsent : (state : Option LegState) → leg_state c.session ordinal ≡ state → leg_state c.session ordinal ≡ None
      unsent None now = now
      unsent (Some state) now =
          let f = found d.session.log ordinal state (sym (ap (state_of ordinal) (broken_log d.session)) ∙ now) in
          let l = past.later.sent f.number f.leg f.there in
          absurd (has_state k.session.log f.number l.0 l.1
          (ap (leg_state k.session) (l.2.ordinal ∙ f.ordinal_is) ∙ none))

  missed_left : (ordinal : ℕ) → IsMissed c ordinal → ordinal ≤ left
  missed_left ordinal m =
      let sent = whole.0.copies.sent_left m.number m.leg m.there in
      let low = sent.1 in
      let same = m.same in
      omega arith

  module _ (drops : (ordinal : ℕ) → IsWithdrawnLeg k ordinal → leg_state k.session ordinal ≡ None → ordinal ≤ left) where
    over_out : (ordinal : ℕ) → IsOut k ordinal → IsOut c ordinal
    over_out ordinal (inr missed) = inr (over_missed ordinal missed)
    over_out ordinal (inl is) =
        elim is.gone [
          | inl none ↦ inl (over_dropped ordinal is none (drops ordinal is none))
          | inr gone ↦ inr (over_missed ordinal (withdrawn_missed k killed ordinal is gone))
        ]

    left_out : (ordinal : ℕ) → IsOut c ordinal → ordinal ≤ left
    left_out ordinal (inl is) = is.left
    left_out ordinal (inr missed) = missed_left ordinal missed

    pub out_over : StaysOut k c
    out_over = record {
      out = over_out;
      released = λ ordinal leg is there. kept_leg k.released kept forgotten released ordinal leg (let low = left_out ordinal (over_out ordinal is) in omega arith) there;
    }

    -- where the session's withdrawals aren't lost either
    module _ (spared : (ordinal : ℕ) → leg_state k.session ordinal ≡ Some Withdrawn
        → leg_state d.session ordinal ≡ Some Doubt → ⊥) where
      over_gone : (ordinal : ℕ) → IsWithdrawnLeg k ordinal → leg_state k.session ordinal ≡ Some Withdrawn
          → IsWithdrawnLeg c ordinal
      over_gone ordinal is gone =
          let m = withdrawn_missed k killed ordinal is gone in
          let n = in_journal m.number m.leg m.there m.old in
          let same = sym n.later.ordinal ∙ m.same in
          let sent = whole.0.copies.sent_left m.number n.leg n.there in
          let here : leg_state c.session ordinal ≡ Some n.leg.state =
          ap (leg_state c.session) (sym same) ∙ state_is c whole.0 m.number n.leg n.there in
          let there : leg_state k.session ordinal ≡ Some m.leg.state =
          ap (leg_state k.session) (sym m.same) ∙ state_is k killed.0 m.number m.leg m.there in
          let state : m.leg.state ≡ Withdrawn = (let e = sym there ∙ gone in cc) in
          record {
            from = is.from;
            left = (let low = sent.1 in omega arith);
            gone = elim (was_withdrawn n.leg.state m.leg.state n.later.state state) [
              | inl withdrawn ↦ inr (here ∙ ap (λ s. Some s) withdrawn)
              | inr doubt ↦
                  absurd (spared ordinal gone
                  (sym (ap (state_of ordinal) (broken_log d.session)) ∙ (here ∙ ap (λ s. Some s) doubt)))
            ];
          }

      pub over_withdrawn : (ordinal : ℕ) → IsWithdrawnLeg k ordinal → IsWithdrawnLeg c ordinal
      over_withdrawn ordinal is =
          elim is.gone [
            | inl none ↦ over_dropped ordinal is none (drops ordinal is none)
            | inr gone ↦ over_gone ordinal is gone
          ]

-- a step and several
out_step : (a b : Line) → LineStep a b → Whole a → (ordinal : ℕ) → IsOut a ordinal → IsOut b ordinal
out_step a b step h ordinal (inl gone) =
    inl (gone_stays a b (step_past a b step) (whole_step a b step h).0 ordinal gone)
out_step a b step h ordinal (inr missed) = inr (missed_step a b step h ordinal missed)

pub out_hands_on : HandsOn StaysOut
out_hands_on = record {
  same = λ a. record { out = λ ordinal is. is; released = λ ordinal leg is there. there };
  trans = λ a b c first more. record {
    out = λ ordinal is. more.out ordinal (first.out ordinal is);
    released = λ ordinal leg is there.
        more.released ordinal leg (first.out ordinal is) (first.released ordinal leg is there);
  };
  step = λ a b step h. record {
    out = out_step a b step h;
    released = λ ordinal leg is there. (step_past a b step).released ordinal leg there;
  };
}

-- and that it is withdrawn
pub gone_hands_on : HandsOn StaysWithdrawn
gone_hands_on = record {
  same = λ a ordinal is. is;
  trans = λ a b c first more ordinal is. more ordinal (first ordinal is);
  step = λ a b step h ordinal is. gone_stays a b (step_past a b step) (whole_step a b step h).0 ordinal is;
}

pub never_accepted : (a b : Line) → LineHolds b → StaysOut a b → NeverAccepted a b
never_accepted a b after stays = record {
  released = λ ordinal leg is there. stays.released ordinal leg (inl is) there;
  accepted = λ ordinal holds is there. out_missing b ordinal (stays.out ordinal (inl is)) holds there;
  taken = λ ordinal is taken.
      out_missing b ordinal (stays.out ordinal (inl is)) after (after.taken_was_accepted ordinal taken);
}

module _ (life : Life) (next : Line) (is : IsLife life) (restart : Restarts life next)
    (durable : Whole (durable_line life)) (killed : Whole (killed_line life)) (whole : Whole next) where
  abbrev d : Line
  d = durable_line life

  abbrev k : Line
  k = killed_line life

  drops_kept : KeepsDrops life next → (ordinal : ℕ) → IsWithdrawnLeg k ordinal → leg_state k.session ordinal ≡ None
      → ordinal ≤ restart.left
  drops_kept keeps ordinal gone none =
      subst (λ (w : Line). ordinal ≤ w.left) restart.is (keeps ordinal gone none)

  restart_out : KeepsDrops life next → StaysOut k next
  restart_out keeps =
      subst (StaysOut k) (sym restart.is)
      (out_over d k restart.kept restart.forgotten restart.left restart.released restart.whole
      (past_last d life.lost is.more) (writes_last d life.lost is.more) (written_lines d life.lost is.more) durable killed
      (subst Whole restart.is whole) (drops_kept keeps))

  restart_gone : KeepsWithdrawn life next → StaysWithdrawn k next
  restart_gone keeps =
      subst (StaysWithdrawn k) (sym restart.is)
      (over_withdrawn d k restart.kept restart.forgotten restart.left restart.released restart.whole
      (past_last d life.lost is.more) (writes_last d life.lost is.more) (written_lines d life.lost is.more) durable killed
      (subst Whole restart.is whole) (drops_kept keeps.drops) keeps.spared)

pub never_accepted_over : WhatIsWithdrawnIsNeverAccepted
never_accepted_over config first lives small new is keeps =
    let start = subst (IsReached config) (sym new) (reached_new config) in
    pairs_reached config StaysOut NeverAccepted
    (λ a b before after out. never_accepted a b (reached_holds config small b after) out)
    (all_moments first lives) (the_reached_theorem config first lives new is)
    (lives_pairs StaysOut out_hands_on config small KeepsDrops restart_out first lives is keeps start)

pub withdrawn_stays_over : WhatIsWithdrawnStays
withdrawn_stays_over config first lives small new is keeps =
    lives_pairs StaysWithdrawn gone_hands_on config small KeepsWithdrawn restart_gone first lives is keeps
    (subst (IsReached config) (sym new) (reached_new config))
