-- From a line to a later one: an order under a number that was spent before was written before, and the order of a leg
-- that was sent since is written in a connection that is no older.
use Rattle.std.proofs.Common.{◌≡◌, ◌≤◌, ◌<◌, ℕ, List, [], ◌∷◌, ◌++◌, length, Ok, refl, sym, ap, subst, ◌∙◌, inl, inr, append_assoc, length-append, arith}
use Rattle.std.specs.List.{Contains}
use Rattle.std.proofs.lemmas.List.{append-nil}
use Rattle.std.proofs.lemmas.List.Elements.{Contains-append_left, Contains-push, Contains-push_cases}
use Rattle.leg.specs.declared.leg.Leg.{Leg}
use Rattle.dialect.specs.declared.content.Content.{Content}
use Rattle.dialect.specs.declared.content.Content.TheVariants.{Order}
use Rattle.resend.specs.Log.{Entry, SentLeg, take_below}
use Rattle.resend.specs.Log.Entry.{Admin, Sent}
use Rattle.session_core.specs.Session.{next_out}
use Rattle.session_core.specs.Receiving.{receive}
use Rattle.exchange_core.specs.Acceptance.{Carried}
use Rattle.venue_line.specs.Line.{Line, in_connection_of, LineStep, AreSteps}
use Rattle.venue_line.specs.Line as line
use Rattle.venue_line.specs.Leading.{last_line, Leads}
use Rattle.venue_line.specs.Copies.{IsLegAt, IsOrder}
use Rattle.venue_line.proofs.Logs.{numbered_within, numbered-push, goes-refl, goes-trans, goes-admin, goes-take_below}
use Rattle.venue_line.proofs.Parts.{Parts, IsPlainAdmin}
use Rattle.venue_line.proofs.Stepping.{step_keeps}
use Rattle.venue_line.proofs.PastLines.{Goes, goes, goes_settled}
use Rattle.venue_line.proofs.Leading.{last_keeps}

-- the order of this number is written, in this connection or a later one
pub record HasOrder (from : ℕ) (to : List Carried) (number : ℕ) : Type 0 where
  pub message : Carried
  pub there : Contains to message
  pub order : IsOrder message.content
  pub under : message.number ≡ number
  pub late : from ≤ message.connection

pub record WritesOn (a b : Line) : Type 0 where
  pub next : next_out a.session ≤ next_out b.session
  pub connection : a.session.connection ≤ b.session.connection
  pub orders : (m : Carried) → Contains b.to_exchange m → IsOrder m.content → m.number < next_out a.session
      → Contains a.to_exchange m
  pub sent : (number : ℕ) (leg : SentLeg) → IsLegAt b.session.log number leg → next_out a.session ≤ number
      → HasOrder a.session.connection b.to_exchange number

plain_is_no_order : (content : Content) → IsPlainAdmin content → IsOrder content → ⊥
plain_is_no_order (Order read) plain order = plain
plain_is_no_order content plain order = order

still_written : (from number : ℕ) (to : List Carried) (m : Carried) → HasOrder from to number
    → HasOrder from (to ++ m ∷ []) number
still_written from number to m is = record {
  message = is.message;
  there = Contains-append_left to (m ∷ []) is.message is.there;
  order = is.order;
  under = is.under;
  late = is.late;
}

module _ (a b : Line) (w : WritesOn a b) where
  -- nothing is written
  unwritten : (c : Line) → c.to_exchange ≡ b.to_exchange → Goes b.session.log c.session.log
      → b.session.connection ≤ c.session.connection → WritesOn a c
  unwritten c same g on = record {
    next = (let first = w.next in let more = g.later.last in omega arith);
    connection = (let first = w.connection in omega arith);
    orders = λ m there order below. w.orders m (subst (λ to. Contains to m) same there) order below;
    sent = λ number now at above.
        (let old = g.back number now at in
        subst (λ to. HasOrder a.session.connection to number) (sym same) (w.sent number old.0 old.1 above));
  }

  -- a message that is no order is written
  no_order : (c : Line) (m : Carried) → (IsOrder m.content → ⊥) → c.to_exchange ≡ b.to_exchange ++ m ∷ []
      → Goes b.session.log c.session.log → b.session.connection ≤ c.session.connection
      → WritesOn a c
  no_order c m none more g on = record {
    next = (let first = w.next in let later = g.later.last in omega arith);
    connection = (let first = w.connection in omega arith);
    orders = λ x there order below.
        elim (Contains-push_cases b.to_exchange m x (subst (λ to. Contains to x) more there)) [
          | inl old ↦ w.orders x old order below
          | inr new ↦ absurd (none (subst (λ (f : Carried). IsOrder f.content) (sym new) order))
        ];
    sent = λ number now at above.
        (let old = g.back number now at in
        subst (λ to. HasOrder a.session.connection to number) (sym more)
        (still_written a.session.connection number b.to_exchange m (w.sent number old.0 old.1 above)));
  }

  -- the order of a leg is written
  order_written : (c : Line) (leg : Leg) (sent : SentLeg) → c.session.log ≡ b.session.log ++ Sent sent ∷ []
      → c.session.connection ≡ b.session.connection
      → c.to_exchange
      ≡ b.to_exchange
      ++ record { connection = b.session.connection; number = next_out b.session; content = Order (Ok leg) } ∷ []
      → WritesOn a c
  order_written c leg sent log on more =
      let m : Carried = record {
        connection = b.session.connection;
        number = next_out b.session;
        content = Order (Ok leg);
      } in
      let long = ap length log ∙ length-append b.session.log (Sent sent ∷ []) in
      record {
        next = (let first = w.next in omega arith);
        connection = (let first = w.connection in omega arith);
        orders = λ x there order below.
            elim (Contains-push_cases b.to_exchange m x (subst (λ to. Contains to x) more there)) [
              | inl old ↦ w.orders x old order below
              | inr new ↦
                  absurd (let first = w.next in let e = ap (λ (f : Carried). f.number) new in omega arith)
            ];
        sent = λ number now at above.
            subst (λ to. HasOrder a.session.connection to number) (sym more)
            (elim (numbered-push number b.session.log (Sent sent) (Sent now)
            (subst (λ l. IsLegAt l number now) log at)) [
              | inl old ↦
                  still_written a.session.connection number b.to_exchange m (w.sent number now old above)
              | inr new ↦
                  record {
                    message = m;
                    there = Contains-push b.to_exchange m;
                    order = tt;
                    under = sym new.0;
                    late = w.connection;
                  }
            ]);
      }

same_log : (log : List Entry) → Goes log log
same_log log = goes log log (goes-refl log)

more_admin : (log : List Entry) → Goes log (log ++ Admin ∷ [])
more_admin log = goes log _ (goes-admin log)

taken_below : (fence : ℕ) (log : List Entry) → Goes log (take_below fence log)
taken_below fence log = goes log _ (goes-take_below fence log)

parts : (a : Line) → Parts (WritesOn a)
parts a = record {
  calls = record {
    marks = λ b expected requested pending silent close_asked given j w.
        unwritten a b w _ refl (same_log b.session.log) (omega arith);
    waits = λ b waiting j w. unwritten a b w _ refl (same_log b.session.log) (omega arith);
    admin = λ b content plain may j w.
        no_order a b w _ _ (plain_is_no_order content plain) refl (more_admin b.session.log) (omega arith);
    fence = λ b may j w. no_order a b w _ _ (λ order. order) refl (more_admin b.session.log) (omega arith);
    fill_settled = λ b first new_number from forward below j w.
        no_order a b w _ _ (λ order. order) refl (same_log b.session.log) (omega arith);
    fill_sure = λ b first new_number sure forward below j w.
        no_order a b w _ _ (λ order. order) refl (same_log b.session.log) (omega arith);
    settles = λ b content told early heard says j w.
        unwritten a b w _ refl (goes_settled told b.session.log) (omega arith);
    settling = λ b early j w. unwritten a b w _ refl (same_log b.session.log) (omega arith);
    passes = λ b fence is j w. unwritten a b w _ refl (taken_below fence b.session.log) (omega arith);
    passes_up = λ b fence is settling j w. unwritten a b w _ refl (taken_below fence b.session.log) (omega arith);
    passes_out = λ b fence is last j w. unwritten a b w _ refl (taken_below fence b.session.log) (omega arith);
    passes_out_written = λ b fence is last may j w.
        no_order a b w _ _ (λ order. order) refl
        (goes b.session.log _ (goes-trans _ _ _ (goes-take_below fence b.session.log) (goes-admin _))) (omega arith);
    answers_logout = λ b heard on going may j w.
        no_order a b w _ _ (λ order. order) refl (more_admin b.session.log) (omega arith);
    ends = λ b is_over on j w. unwritten a b w _ refl (same_log b.session.log) (omega arith);
    abandons = λ b j w. unwritten a b w _ refl (same_log b.session.log) (omega arith);
    connects = λ b down may j w.
        no_order a b w _ _ (λ order. order) refl (more_admin b.session.log) (omega arith);
    closes = λ b up j w. unwritten a b w _ refl (same_log b.session.log) (omega arith);
    sends = λ b leg there up may j w. order_written a b w _ leg _ refl refl refl;
    releases = λ b more j w. unwritten a b w _ refl (same_log b.session.log) (omega arith);
    drops = λ b below j w. unwritten a b w _ refl (same_log b.session.log) (omega arith);
  };
  exchanges = λ b coming t written there step w. unwritten a b w _ refl (same_log b.session.log) (omega arith);
}

writes-refl : (a : Line) → WritesOn a a
writes-refl a = record {
  next = omega arith;
  connection = omega arith;
  orders = λ m there order below. there;
  sent = λ number leg at above.
      absurd (let within = numbered_within number a.session.log (Sent leg) at in omega (arith, within.1));
}

pub writes_step : (a b : Line) → LineStep a b → WritesOn a b
writes_step a b step = step_keeps (WritesOn a) (parts a) a b step (writes-refl a)

pub writes_last : (a : Line) (lines : List Line) → AreSteps a lines → WritesOn a (last_line a lines)
writes_last a lines steps =
    last_keeps (WritesOn a) (λ b c step w. step_keeps (WritesOn a) (parts a) b c step w) a lines steps (writes-refl a)

-- messages are only added
pub record Written (a b : Line) : Type 0 where
  pub more : List Carried
  pub is : b.to_exchange ≡ a.to_exchange ++ more

none_written : (a b : Line) → b.to_exchange ≡ a.to_exchange → Written a b
none_written a b same = record { more = []; is = same ∙ sym (append-nil a.to_exchange) }

pub written_step : (a b : Line) → LineStep a b → Written a b
written_step a b (line.releases more is) = none_written a b (ap (λ (w : Line). w.to_exchange) is)
written_step a b (line.drops below is) = none_written a b (ap (λ (w : Line). w.to_exchange) is)
written_step a b (line.sends leg message session there sent is) =
    record { more = in_connection_of session (message ∷ []); is = ap (λ (w : Line). w.to_exchange) is }
written_step a b (line.connects message session made is) =
    record { more = in_connection_of session (message ∷ []); is = ap (λ (w : Line). w.to_exchange) is }
written_step a b (line.receives m there on is) = record {
  more = in_connection_of (receive a.session m).session (receive a.session m).step.written;
  is = ap (λ (w : Line). w.to_exchange) is;
}
written_step a b (line.hears m there is) = record {
  more = in_connection_of (receive a.session m).session (receive a.session m).step.written;
  is = ap (λ (w : Line). w.to_exchange) is;
}
written_step a b (line.confirms is) = none_written a b (ap (λ (w : Line). w.to_exchange) is)
written_step a b (line.calls turn call is) =
    record { more = in_connection_of turn.session turn.step.written; is = ap (λ (w : Line). w.to_exchange) is }
written_step a b (line.breaks is) = none_written a b (ap (λ (w : Line). w.to_exchange) is)
written_step a b (line.abandons is) = none_written a b (ap (λ (w : Line). w.to_exchange) is)
written_step a b (line.exchanges coming t written there may is) = none_written a b (ap (λ (w : Line). w.to_exchange) is)

pub written_lines : (a : Line) (lines : List Line) → AreSteps a lines → Written a (last_line a lines)
written_lines a [] steps = none_written a a refl
written_lines a (b ∷ lines) steps =
    let first = written_step a b steps.0 in
    let rest = written_lines b lines steps.1 in
    record {
      more = first.more ++ rest.more;
      is = rest.is ∙ (ap (λ l. l ++ rest.more) first.is ∙ append_assoc a.to_exchange first.more rest.more);
    }

pub writes_leads : (a b : Line) → Leads a b → WritesOn a b
writes_leads a b leads = subst (WritesOn a) leads.last (writes_last a leads.lines leads.steps)

pub written_leads : (a b : Line) → Leads a b → Written a b
written_leads a b leads = subst (Written a) leads.last (written_lines a leads.lines leads.steps)
