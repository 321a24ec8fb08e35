-- Copies are kept by every part of a step.
use Rattle.std.proofs.Common.{◌≡◌, ◌≤◌, ◌<◌, ◌⊎◌, ◌||◌, ℕ, suc, Bool, List, [], ◌∷◌, ◌++◌, length, refl, sym, ap, subst, inl, inr, arith, length-append}
use Rattle.std.proofs.lemmas.List.Elements.{Contains-append_left, Contains-push_cases}
use Rattle.leg.proofs.Numbered.{numbered-append}
use Rattle.leg.specs.declared.leg.Leg.{Leg}
use Rattle.dialect.specs.declared.content.Content.{Content}
use Rattle.dialect.specs.declared.content.Content.TheVariants.{Session, Order}
use Rattle.fix_tags.specs.declared.session_body.SessionBody.TheVariants.{GapFill, Logout}
use Rattle.resend.specs.Log.{Entry}
use Rattle.session_core.specs.declared.phase.Phase.{Phase}
use Rattle.session_core.specs.declared.phase.Phase.TheVariants as phase
use Rattle.session_core.specs.Session.{SessionParts, is_logged_out, next_out}
use Rattle.session_core.specs.Turn.{spending, fenced, phase_after}
use Rattle.session_core.specs.Receiving.{passing}
use Rattle.session_core.specs.Calling.{connecting}
use Rattle.session_core.proofs.Adding.{chosen}
use Rattle.exchange_core.specs.Acceptance.{Carried}
use Rattle.venue_line.specs.Line.{Line}
use Rattle.venue_line.specs.Copies.{IsOrderOf, IsOrder, IsBeforeUp, Copies}
use Rattle.venue_line.proofs.Logs.{LogGoes, goes-refl, goes-admin, goes-take_below, goes-trans}
use Rattle.venue_line.proofs.Parts.{Calls, with_marks, framed, IsPlainAdmin, passed_into}
use Rattle.venue_line.proofs.CopiesPlain.{Plain, copies_plain}
use Rattle.venue_line.proofs.CopiesSent.{copies_sending}
use Rattle.venue_line.proofs.CopiesSettled.{copies_settles}

-- a step in the same connection that writes nothing
unwritten : (b : Line) (s : SessionParts) → LogGoes b.session.log s.log → s.connection ≡ b.session.connection
    → (IsBeforeUp s.phase → IsBeforeUp b.session.phase) → Plain b s b.to_exchange
unwritten b s log same before =
    record {
      log = log;
      back = λ m there. inl there;
      on = λ m there. there;
      connection = omega arith;
      before =
          λ early. inl (before early);
    }

-- a step that writes one message, which is no order
one_written : (b : Line) (s : SessionParts) (number : ℕ) (content : Content) → LogGoes b.session.log s.log
    → (IsOrder content → ⊥) → b.session.connection ≤ s.connection
    → (IsBeforeUp s.phase → IsBeforeUp b.session.phase ⊎ (b.session.connection < s.connection))
    → Plain b s (b.to_exchange ++ record { connection = s.connection; number = number; content = content } ∷ [])
one_written b s number content log other same before =
    (let frame : Carried = record { connection = s.connection; number = number; content = content } in
    record {
      log = log;
      back = λ m there.
          elim (Contains-push_cases b.to_exchange frame m there) [
            | inl old ↦ inl old
            | inr new ↦
                (let at : s.connection ≡ m.connection = ap (λ (f : Carried). f.connection) new in
                inr ((λ order. other (subst IsOrder (sym (ap (λ (f : Carried). f.content) new)) order)), omega arith))
          ];
      on = λ m there. Contains-append_left b.to_exchange (frame ∷ []) m there;
      connection = same;
      before = before;
    })

copies_framed : {taken : List Carried} (b : Line) (s : SessionParts) (number : ℕ) (content : Content)
    → LogGoes b.session.log s.log → (IsOrder content → ⊥) → b.session.connection ≤ s.connection
    → (IsBeforeUp s.phase → IsBeforeUp b.session.phase ⊎ (b.session.connection < s.connection)) → Copies taken b
    → Copies taken (framed number content s b)
copies_framed b s number content log other same before c =
    copies_plain b s _ b.given (one_written b s number content log other same before) c

copies_unwritten : {taken : List Carried} (b : Line) (s : SessionParts) → LogGoes b.session.log s.log
    → s.connection ≡ b.session.connection → (IsBeforeUp s.phase → IsBeforeUp b.session.phase) → Copies taken b
    → Copies taken (record b { session = s })
copies_unwritten b s log same before c = copies_plain b s b.to_exchange b.given (unwritten b s log same before) c

plain_is_no_order : (content : Content) → IsPlainAdmin content → IsOrder content → ⊥
plain_is_no_order (Order read) plain order = plain
plain_is_no_order content plain order = order

ended_is_up : (is_over : Bool) (now : Phase) → IsBeforeUp (phase_after is_over now) → ⊥
ended_is_up is_over now = chosen (λ p. IsBeforeUp p → ⊥) (is_over || is_logged_out now) phase.Closed phase.Down
    (λ over early. early) (λ down early. early)

released_more : (released more : List Leg) (log : List Entry) (number : ℕ) (leg : Leg)
    → IsOrderOf released log number leg → IsOrderOf (released ++ more) log number leg
released_more released more log number leg is =
    record { sent = is.sent; there = is.there; whole = numbered-append is.sent.ordinal released more leg is.whole }

copies_released : {taken : List Carried} (b : Line) (more : List Leg) → Copies taken b
    → Copies taken (record b { released = b.released ++ more })
copies_released b more c = record {
  numbering = c.numbering;
  sent_left = c.sent_left;
  sent_released = λ number leg is.
      (let r = c.sent_released number leg is in
      record { leg = r.leg; whole = numbered-append leg.ordinal b.released more r.leg r.whole; same = r.same });
  left_released = (let h = c.left_released in omega (arith, length-append b.released more));
  orders_are_sent = λ m leg there is. released_more b.released more b.session.log m.number leg
      (c.orders_are_sent m leg there is);
  orders_read = c.orders_read;
  accepted = c.accepted;
  taken_written = c.taken_written;
  taken_order = c.taken_order;
  taken_rise = c.taken_rise;
  taken_passed = c.taken_passed;
  written_before = c.written_before;
  orders_before = c.orders_before;
  live_is_last = c.live_is_last;
  last_known = c.last_known;
  answers_known = c.answers_known;
  tells = c.tells;
  own_carries = c.own_carries;
  withdrawn_not_taken = c.withdrawn_not_taken;
  withdrawn_is_old = c.withdrawn_is_old;
}

copies_dropped : {taken : List Carried} (b : Line) → suc b.left ≤ length b.released → Copies taken b
    → Copies taken (record b { left = suc b.left })
copies_dropped b below c = record {
  numbering = c.numbering;
  sent_left = λ number leg is. (let h = c.sent_left number leg is in (omega arith, omega arith));
  sent_released = c.sent_released;
  left_released = below;
  orders_are_sent = c.orders_are_sent;
  orders_read = c.orders_read;
  accepted = c.accepted;
  taken_written = c.taken_written;
  taken_order = c.taken_order;
  taken_rise = c.taken_rise;
  taken_passed = c.taken_passed;
  written_before = c.written_before;
  orders_before = c.orders_before;
  live_is_last = c.live_is_last;
  last_known = c.last_known;
  answers_known = c.answers_known;
  tells = c.tells;
  own_carries = c.own_carries;
  withdrawn_not_taken = c.withdrawn_not_taken;
  withdrawn_is_old = c.withdrawn_is_old;
}

pub copies_calls : (taken : List Carried) → Calls (λ b. Unit {0}) (Copies taken)
copies_calls taken = record {
  marks = λ b expected requested pending silent close_asked given j c.
      copies_plain b (with_marks expected requested pending silent close_asked b.session) b.to_exchange given
      (unwritten b _ (goes-refl b.session.log) refl (λ early. early)) c;
  waits = λ b waiting j c.
      copies_plain b b.session b.to_exchange b.given
      (unwritten b b.session (goes-refl b.session.log) refl (λ early. early)) c;
  admin = λ b content plain may j c. copies_framed b (spending b.session) (next_out b.session) content
      (goes-admin b.session.log) (plain_is_no_order content plain) (omega arith) (λ early. inl early) c;
  fence = λ b may j c. copies_framed b (spending (fenced b.session)) (next_out b.session) _ (goes-admin b.session.log)
      (λ order. order) (omega arith) (λ early. inl early) c;
  fill_settled = λ b first new_number from forward below j c. copies_framed b b.session first (Session (GapFill new_number))
      (goes-refl b.session.log) (λ order. order) (omega arith) (λ early. inl early) c;
  fill_sure = λ b first new_number sure forward below j c. copies_framed b b.session first (Session (GapFill new_number))
      (goes-refl b.session.log) (λ order. order) (omega arith) (λ early. inl early) c;
  settles = λ b content told early heard says j c. copies_settles b
      (record { connection = b.session.connection; number = heard.0; content = content }) told early heard.1 refl says
      c;
  settling = λ b early j c. copies_unwritten b _ (goes-refl b.session.log) refl
      (λ settling. subst IsBeforeUp (sym early) tt) c;
  passes = λ b fence is j c. copies_unwritten b (passing fence b.session) (goes-take_below fence b.session.log) refl
      (λ early. early) c;
  passes_up = λ b fence is settling j c. copies_unwritten b (passed_into fence phase.Up b.session)
      (goes-take_below fence b.session.log) refl (λ early. absurd early) c;
  passes_out = λ b fence is last j c. copies_unwritten b (passed_into fence phase.LoggedOut b.session)
      (goes-take_below fence b.session.log) refl (λ early. absurd early) c;
  passes_out_written = λ b fence is last may j c.
      copies_framed b (record (spending (passing fence b.session)) { phase = phase.LoggedOut }) _ (Session Logout)
      (goes-trans _ _ _ (goes-take_below fence b.session.log) (goes-admin _)) (λ order. order) (omega arith)
      (λ early. absurd early) c;
  answers_logout = λ b heard on going may j c.
      copies_framed b (record (spending b.session) { phase = phase.Closed }) (next_out b.session) (Session Logout)
      (goes-admin b.session.log) (λ order. order) (omega arith) (λ early. absurd early) c;
  ends = λ b is_over on j c. copies_unwritten b _ (goes-refl b.session.log) refl
      (λ early. absurd (ended_is_up is_over b.session.phase early)) c;
  abandons = λ b j c. copies_unwritten b _ (goes-refl b.session.log) refl (λ early. absurd early) c;
  connects = λ b down may j c. copies_framed b (connecting b.session) (next_out b.session) _ (goes-admin b.session.log)
      (λ order. order) (omega arith) (λ early. inr (omega arith)) c;
  closes = λ b up j c. copies_unwritten b _ (goes-refl b.session.log) refl (λ early. absurd early) c;
  sends = λ b leg there up may j c. copies_sending b leg there up c;
  releases = λ b more j c. copies_released b more c;
  drops = λ b below j c. copies_dropped b below c;
}

-- the first part of the invariant, by itself
pub HasCopies : Line → Type 0
HasCopies w = (taken : List Carried) × Copies taken w
