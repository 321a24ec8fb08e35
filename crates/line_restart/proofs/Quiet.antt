-- A session that withdraws a leg writes something: so where nothing was written, no leg was withdrawn.
use Rattle.std.proofs.Common.{◌≡◌, ◌<◌, ℕ, Bool, true, false, not, ◌||◌, List, [], ◌∷◌, ◌++◌, Option, Some, None, refl, sym, ap, subst, inl, inr, if◌then◌else◌, arith}
use Rattle.std.specs.Prelude.{◌&&◌, nat_le}
use Rattle.std.specs.Prelude.{◌==◌}
use Rattle.std.proofs.lemmas.Bool.Decides.{nat_tests}
use Rattle.fix_tags.specs.Range.{is_range}
use Rattle.fix_tags.specs.declared.session_body.SessionBody.TheVariants.{Logon, ResendRequest}
use Rattle.leg.specs.declared.leg_state.LegState.TheVariants.{Withdrawn}
use Rattle.dialect.specs.Addressed.{is_for}
use Rattle.dialect.specs.Message.{is_logon}
use Rattle.dialect.specs.declared.message.Message.{Message}
use Rattle.dialect.specs.declared.content.Content.{Content}
use Rattle.dialect.specs.declared.content.Content.TheVariants.{Session}
use Rattle.resend.specs.declared.judged.Judged.{Judged}
use Rattle.resend.specs.declared.judged.Judged.TheVariants as judged
use Rattle.resend.specs.Judging.{judged}
use Rattle.resend.specs.Log.{Entry, SentLeg, GapFillParts, last_number, fill_for}
use Rattle.session_core.specs.declared.ended.Ended.{Ended}
use Rattle.session_core.specs.declared.ended.Ended.TheVariants as ended
use Rattle.session_core.specs.Session.{SessionParts, is_connected, is_logging_on, is_settling, is_logged_out, may_write}
use Rattle.session_core.specs.Turn.{Turn, quietly, puts_fence, writes_fence, asks, fills, settles_at, counts, ends, unless_ended}
use Rattle.session_core.specs.Receiving.{is_reset, counts_if, told_number, is_too_high, has_passed, is_forgotten, settles_told, asks_if, logon_row, filled_if, resend_while_settling, resend_later, resend_row, row, by_number, was_requested, asks_missing, received, hearing, receive}
use Rattle.session_core.specs.Onward.{may_withdraw}
use Rattle.session_core.proofs.Adding.{chosen}
use Rattle.session_core.proofs.Received.{receive_is_received}
use Rattle.session_core.specs.declared.phase.Phase.{Phase}
use Rattle.session_core.specs.declared.phase.Phase.TheVariants as phase
use Rattle.venue_line.specs.Copies.{IsLegAt, IsBeforeUp}
use Rattle.venue_line.proofs.Logs.{give_up_back}
use Rattle.line_restart.proofs.Early.{IsEarly}

-- a list with something behind it isn't empty
pub pushed : {A : Type 0} (xs : List A) (x : A) → xs ++ x ∷ [] ≡ [] → ⊥
pushed [] x is = cc
pushed (y ∷ xs) x is = cc

-- each leg that is withdrawn was so before
abbrev pub NoneSince : List Entry → List Entry → Type 0
NoneSince old new = (number : ℕ) (now : SentLeg) → IsLegAt new number now → now.state ≡ Withdrawn
    → (leg : SentLeg) × IsLegAt old number leg × (leg.ordinal ≡ now.ordinal) × (leg.state ≡ Withdrawn)

-- what a test that is true says
second_of : (a b c : Bool) → (a && b && c) ≡ true → b ≡ true
second_of true true c is = refl
second_of true false true is = absurd cc
second_of true false false is = absurd cc
second_of false b c is = absurd cc

both_true : (a b : Bool) → a ≡ true → b ≡ true → (a && b) ≡ false → ⊥
both_true true true x y is = cc
both_true true false x y is = cc
both_true false b x y is = cc

not_false : (b : Bool) → not b ≡ false → b ≡ true
not_false true is = refl
not_false false is = absurd cc

on_early : (now : Phase) → is_logging_on now ≡ true → IsBeforeUp now
on_early phase.LoggingOn is = tt
on_early now is = absurd cc

module _ (s : SessionParts) where
  -- where nothing is written, no leg is withdrawn
  abbrev pub Fine : Turn → Type 0
  Fine t = t.step.written ≡ [] → NoneSince s.log t.session.log

  abbrev Wrote : Turn → Type 0
  Wrote t = t.step.written ≡ [] → ⊥

  pub none_withdrawn : NoneSince s.log s.log
  none_withdrawn = λ number leg at is. (leg, at, refl, is)

  still_fence : (t : Turn) → Wrote t → Wrote (writes_fence t)
  still_fence t wrote =
      chosen Wrote (may_write t.session) (puts_fence t) t (λ on is. pushed t.step.written _ is) (λ off. wrote)

  fine_fence : (t : Turn) → Fine t → Fine (writes_fence t)
  fine_fence t fine =
      chosen Fine (may_write t.session) (puts_fence t) t (λ on is. absurd (pushed t.step.written _ is)) (λ off. fine)

  fine_asking : (t : Turn) → Fine t → Fine (asks t)
  fine_asking t fine =
      chosen Fine (may_write t.session) _ t (λ on is. absurd (pushed t.step.written _ is)) (λ off. fine)

  counted_if : (t : Turn) (o : Option Ended) → Fine t → Fine (unless_ended counts t o)
  counted_if t None fine = fine
  counted_if t (Some why) fine = fine

  fine_counts : (due : Bool) (t : Turn) → Fine t → Fine (counts_if due t)
  fine_counts due t fine =
      chosen Fine due (unless_ended counts t t.step.ended) t (λ on. counted_if t t.step.ended fine) (λ off. fine)

  missing_if : (t : Turn) (o : Option Ended) → Fine t
      → Fine (unless_ended (λ turn. if is_logged_out turn.session.phase || was_requested turn.session then turn else asks turn) t o)
  missing_if t None fine =
      chosen Fine (is_logged_out t.session.phase || was_requested t.session) t (asks t) (λ over. fine)
      (λ open_now. chosen Fine (may_write t.session) _ t (λ on is. absurd (pushed t.step.written _ is)) (λ off. fine))
  missing_if t (Some why) fine = fine

  pub fine_missing : (t : Turn) → Fine t → Fine (asks_missing t)
  fine_missing t fine = missing_if t t.step.ended fine

  fine_later : (o : Option GapFillParts) → Fine (resend_later o s)
  fine_later None = λ is. none_withdrawn
  fine_later (Some fill) = λ is. none_withdrawn

  wrote_resend : (begin last : ℕ) → is_range (last_number s.log) begin last ≡ true
      → Wrote (resend_while_settling s begin last)
  wrote_resend begin last range =
      chosen (λ o. Wrote (writes_fence (filled_if o (settles_at begin s))))
      (is_range (last_number s.log) begin last && nat_le begin (last_number s.log)) _ None
      (λ on. still_fence (fills _ (settles_at begin s)) (λ is. pushed [] _ is))
      (λ off. absurd
      (both_true (is_range (last_number s.log) begin last) (nat_le begin (last_number s.log)) range
      (second_of (nat_le 1 begin) (nat_le begin (last_number s.log)) (last == 0 || nat_le begin last) range) off))

  pub fine_resend : (begin last : ℕ) (due : Bool) → Fine (resend_row due s begin last)
  fine_resend begin last due =
      chosen Fine (not (is_range (last_number s.log) begin last)) (ends ended.BadResend s) _
      (λ bad is. none_withdrawn)
      (λ good. chosen Fine (is_settling s.phase && has_passed s begin) (ends ended.PeerForgot s) _
      (λ forgot is. none_withdrawn)
      (λ passed. fine_counts due _
      (chosen Fine (is_settling s.phase) (resend_while_settling s begin last)
      (resend_later (fill_for begin last s.settled s.log) s)
      (λ on is. absurd (wrote_resend begin last (not_false (is_range (last_number s.log) begin last) good) is))
      (λ off. fine_later (fill_for begin last s.settled s.log)))))

  module _ (early : IsEarly s) where
    -- the number told is above the Logon's, and so above each leg's
    settled_above : IsBeforeUp s.phase → (n : ℕ) → nat_le n s.current.logon_number ≡ false → Fine (settles_at n s)
    settled_above on n high = λ empty number now at gone.
        (let x = give_up_back n s.log number now at in
        elim (x.4 gone) [
          | inl was ↦ (x.0, x.1, sym x.2, was)
          | inr above ↦
              absurd (let low = early on number x.0 x.1 in
              let over : s.current.logon_number < n = grind (arith, nat_tests) in
              omega arith)
        ])

    fine_told : IsBeforeUp s.phase → (o : Option ℕ) → Fine (settles_told s o)
    fine_told on None = λ is. none_withdrawn
    fine_told on (Some n) =
        chosen Fine (nat_le n s.current.logon_number) _ (settles_at n s) (λ low is. absurd (pushed [] _ is))
        (λ high. settled_above on n high)

    fine_asked : (due : Bool) (t : Turn) → Fine t → Fine (asks_if (not due) t)
    fine_asked true t fine = fine
    fine_asked false t fine = fine_asking t fine

    pub fine_logon : (next : Option ℕ) (due : Bool) → Fine (logon_row due s next)
    fine_logon next due =
        chosen Fine (not (is_logging_on s.phase)) (ends ended.LogonAgain s) _ (λ again is. none_withdrawn)
        (λ first. chosen Fine (is_too_high s (told_number s next)) (ends ended.BadNextExpected s) _
        (λ high is. none_withdrawn)
        (λ low. chosen Fine (is_forgotten s (told_number s next)) (ends ended.PeerForgot s) _
        (λ forgot is. none_withdrawn)
        (λ passed. fine_fence (asks_if (not due) (counts_if due (settles_told s (told_number s next))))
        (fine_asked due (counts_if due (settles_told s (told_number s next)))
        (fine_counts due (settles_told s (told_number s next))
        (fine_told (on_early s.phase (not_false (is_logging_on s.phase) first)) (told_number s next)))))))

module _ (s : SessionParts) (m : Message) (early : IsEarly s) where
  abbrev h : SessionParts
  h = hearing s

  module _ (rows : (due : Bool) → Fine h (row due h m.number m.content)) where
    by_judged : (j : Judged) → Fine h (by_number h m j)
    by_judged judged.Due = rows true
    by_judged judged.Ahead = fine_missing h (row false h m.number m.content) (rows false)
    by_judged judged.Repeat = λ is. none_withdrawn h
    by_judged judged.TooLow = λ is. none_withdrawn h

    fine_received : Fine h (received h m)
    fine_received =
        chosen (Fine h) (not (is_for h.config m)) (ends ended.WrongComp h) _ (λ bad is. none_withdrawn h)
        (λ good. chosen (Fine h) (is_logging_on h.phase && not (is_logon m.content)) (ends ended.FirstNotLogon h) _
        (λ bad is. none_withdrawn h)
        (λ right. chosen (Fine h) (is_reset m.content) (ends ended.ResetRefused h) _ (λ bad is. none_withdrawn h)
        (λ onward. by_judged (judged h.expected m.number m.poss_dup))))

    walk : Fine s (receive s m)
    walk =
        chosen (Fine s) (is_connected s.phase) (received h m) (quietly s) (λ on. fine_received)
        (λ off is. none_withdrawn s)

  by_content : (content : Content) → m.content ≡ content → Fine s (receive s m)
  by_content (Session (Logon heart reset next)) is =
      walk (λ due. subst (λ c. Fine h (row due h m.number c)) (sym is) (fine_logon h early next due))
  by_content (Session (ResendRequest begin last)) is =
      walk (λ due. subst (λ c. Fine h (row due h m.number c)) (sym is) (fine_resend h begin last due))
  by_content content is = λ empty number now at gone.
      (now, ((receive_is_received s m).spares (ap (may_withdraw s) is)).settled number now at gone, refl, gone)

  pub receive_withdraws : Fine s (receive s m)
  receive_withdraws = by_content m.content refl
