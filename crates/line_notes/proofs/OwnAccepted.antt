-- What an exchange that keeps the rules carries under its own numbers, and what it may still refuse, is on legs that it
-- has accepted: every step of a line keeps that.
use Rattle.std.proofs.Common.{◌≡◌, ◌≤◌, suc, ℕ, List, ◌++◌, Option, Some, None, Result, Ok, Err, sym, ap, subst, ◌∙◌, inl, inr, arith}
use Rattle.std.specs.Prelude.{IfSome}
use Rattle.std.specs.List.{All, Contains}
use Rattle.std.proofs.lemmas.List.Elements.{All-contains, Contains-append_cases}
use Rattle.std.proofs.lemmas.Option.{same_Some}
use Rattle.fix_tags.specs.Config.{ConfigParts}
use Rattle.fix_tags.specs.declared.session_body.SessionBody.TheVariants.{Reject, BusinessReject}
use Rattle.leg.specs.declared.leg.Leg.{Leg}
use Rattle.dialect.specs.declared.fault.DialectFault.{DialectFault}
use Rattle.dialect.specs.declared.note.Note.{Note}
use Rattle.dialect.specs.declared.note.Note.TheVariants as note
use Rattle.dialect.specs.declared.content.Content.{Content}
use Rattle.dialect.specs.declared.content.Content.TheVariants.{Session, Order, ExecutionReport}
use Rattle.resend.specs.Log.{Entry, leg_of}
use Rattle.resend.specs.Later.{IsLater}
use Rattle.session_core.specs.Counting.{note_for, refusal_note}
use Rattle.exchange_core.specs.Acceptance.{Carried, RuleState, MayKeep, MayRefuse, May}
use Rattle.exchange_core.proofs.Forward.{moves_forward}
use Rattle.venue_line.specs.Line.{Line, new_line, LineStep, AreSteps}
use Rattle.venue_line.specs.Line as line
use Rattle.venue_line.specs.LineInvariant.{LineInvariant}
use Rattle.venue_line.specs.DeliveredReports.{Given}
use Rattle.venue_line.proofs.GivenLater.{note_later}
use Rattle.venue_line.proofs.GivenSteps.{Whole, whole_new, whole_step}
use Rattle.venue_line.proofs.PastLines.{step_past}
use Rattle.venue_line.proofs.Stepping.{steps_keep}
use Rattle.line_notes.specs.OnAccepted.{leg_named, IsOnAccepted}
use Rattle.line_notes.proofs.Accepting.{accepted_grew, order_accepted}

-- the note of a message, if it has one, is on one of these legs
abbrev pub NotesOn : List Entry → List Leg → Content → Type 0
NotesOn log legs content = (n : Note) → note_for log content ≡ Some n → IsOnAccepted legs n

pub record OwnAccepted (w : Line) : Type 0 where
  -- what own numbers carry is on accepted legs
  pub own : (content : Content) → Contains w.exchange.own (Some content)
      → NotesOn w.session.log w.exchange.intake.accepted content
  -- and so is a refusal of an order that may be refused
  pub refusable : (number : ℕ) → Contains w.exchange.refusable number
      → NotesOn w.session.log w.exchange.intake.accepted (Session (Reject number))

-- the exchange stands, and the session's log goes on
own_later : (a b : Line) → b.exchange ≡ a.exchange → IsLater a.session.log b.session.log → Given a → OwnAccepted a
    → OwnAccepted b
own_later a b same later g o = record {
  own = λ content there n is.
      (let old = subst (λ (x : RuleState). Contains x.own (Some content)) same there in
      let was = sym (note_later a.session.log b.session.log content later (g.names content old)) ∙ is in
      subst (λ (x : RuleState). IsOnAccepted x.intake.accepted n) (sym same) (o.own content old n was));
  refusable = λ number there n is.
      (let old = subst (λ (x : RuleState). Contains x.refusable number) same there in
      let was = sym (note_later a.session.log b.session.log (Session (Reject number)) later (g.refusable number old))
      ∙ is in
      subst (λ (x : RuleState). IsOnAccepted x.intake.accepted n) (sym same) (o.refusable number old n was));
}

-- the exchange takes a step
module _ (w : Line) (coming : Option Carried) (t : RuleState) (written : List Carried)
    (there : IfSome coming (Contains w.to_exchange)) (step : May w.exchange coming t written)
    (i : LineInvariant w) (o : OwnAccepted w) where
  on_more : (n : Note) → IsOnAccepted w.exchange.intake.accepted n → IsOnAccepted t.intake.accepted n
  on_more n is = record {
    id = is.id;
    on = is.on;
    accepted = accepted_grew w.exchange.intake.accepted t.intake.accepted is.id
        (moves_forward w.exchange.intake coming t.intake step.moves).accepted is.accepted;
  }

  -- the number of an order that was taken is that of a leg, which was accepted
  order_on : (m : Carried) (read : Result Leg DialectFault) → Contains w.to_exchange m → coming ≡ Some m
      → m.content ≡ Order read → t.intake.expected ≡ suc w.exchange.intake.expected
      → NotesOn w.session.log t.intake.accepted (Session (Reject m.number))
  order_on m (Err fault) in' came says passed = λ n is. absurd (i.copies.orders_read m fault in' says)
  order_on m (Ok leg) in' came says passed = λ n is.
      (let order = i.copies.orders_are_sent m leg in' says in
      let known = i.copies.sent_released m.number order.sent order.there in
      let one : known.leg ≡ leg = same_Some known.leg leg (sym known.whole ∙ order.whole) in
      let id : order.sent.id ≡ leg.id = sym known.same ∙ ap (λ (l : Leg). l.id) one in
      let noted : note.Refused order.sent.id ≡ n =
      same_Some _ n (sym (ap (λ (e : Option Entry). refusal_note (leg_of e)) order.there) ∙ is) in
      record {
        id = leg.id;
        on = ap leg_named (sym noted) ∙ ap (λ x. Some x) id;
        accepted = order_accepted w.exchange.intake m leg says coming t.intake came passed step.moves;
      })

  may_refuse : (number : ℕ) → MayRefuse w.exchange coming t number
      → NotesOn w.session.log t.intake.accepted (Session (Reject number))
  may_refuse number (inl old) = λ n is. on_more n (o.refusable number old n is)
  may_refuse number (inr (read, took, is)) =
      (let in' = subst (λ x. IfSome x (Contains w.to_exchange)) took.came there in
      subst (λ k. NotesOn w.session.log t.intake.accepted (Session (Reject k))) (took.due.number ∙ sym is)
      (order_on took.message read in' took.came took.says took.passed))

  keeps : (content : Content) → MayKeep w.exchange coming t (Some content)
      → NotesOn w.session.log t.intake.accepted content
  keeps (ExecutionReport (Ok report)) may = λ n is.
      (let noted : note.Report report ≡ n = same_Some _ n is in
      record { id = report.id; on = ap leg_named (sym noted); accepted = may })
  keeps (Session (Reject number)) may = may_refuse number may
  keeps (Session (BusinessReject (Some number))) may = may_refuse number may
  keeps (Session (BusinessReject None)) may = absurd may
  keeps content may = absurd may

  own_exchanged : OwnAccepted (record w { exchange = t; from_exchange = w.from_exchange ++ written })
  own_exchanged = record {
    own = λ content in'.
        elim (Contains-append_cases w.exchange.own step.own.0 (Some content)
        (subst (λ l. Contains l (Some content)) step.own.2 in')) [
          | inl old ↦ λ n is. on_more n (o.own content old n is)
          | inr new ↦
              keeps content (All-contains (MayKeep w.exchange coming t) step.own.0 (Some content) step.own.1 new)
        ];
    refusable = λ number in'.
        may_refuse number (All-contains (MayRefuse w.exchange coming t) t.refusable number step.refusable in');
  }

module _ (a b : Line) (step : LineStep a b) (h : Whole a) (o : OwnAccepted a) where
  stands : b.exchange ≡ a.exchange → OwnAccepted b
  stands same = own_later a b same (step_past a b step).later h.1 o

  by_step : LineStep a b → OwnAccepted b
  by_step (line.releases more is) = stands (ap (λ (w : Line). w.exchange) is)
  by_step (line.drops below is) = stands (ap (λ (w : Line). w.exchange) is)
  by_step (line.sends leg message session there sent is) = stands (ap (λ (w : Line). w.exchange) is)
  by_step (line.connects message session connected is) = stands (ap (λ (w : Line). w.exchange) is)
  by_step (line.receives m there on is) = stands (ap (λ (w : Line). w.exchange) is)
  by_step (line.hears m there is) = stands (ap (λ (w : Line). w.exchange) is)
  by_step (line.confirms is) = stands (ap (λ (w : Line). w.exchange) is)
  by_step (line.calls turn call is) = stands (ap (λ (w : Line). w.exchange) is)
  by_step (line.breaks is) = stands (ap (λ (w : Line). w.exchange) is)
  by_step (line.abandons is) = stands (ap (λ (w : Line). w.exchange) is)
  by_step (line.exchanges coming t written there may is) =
      subst OwnAccepted (sym is) (own_exchanged a coming t written there may h.0 o)

pub own_step : (a b : Line) → LineStep a b → Whole a → OwnAccepted a → OwnAccepted b
own_step a b step h o = by_step a b step h o step

pub own_new : (config : ConfigParts) → OwnAccepted (new_line config)
own_new config = record {
  own = λ content there. absurd (let h = there.1 in omega arith);
  refusable = λ number there. absurd (let h = there.1 in omega arith);
}

-- the two together
abbrev pub WholeNoted : Line → Type 0
WholeNoted w = Whole w × OwnAccepted w

pub noted_step : (a b : Line) → LineStep a b → WholeNoted a → WholeNoted b
noted_step a b step h = (whole_step a b step h.0, own_step a b step h.0 h.1)

pub noted_steps : (config : ConfigParts) (lines : List Line) → config.max_number ≤ 999999999
    → AreSteps (new_line config) lines → All WholeNoted lines
noted_steps config lines small steps =
    steps_keep WholeNoted noted_step (new_line config) lines steps (whole_new config small, own_new config)
