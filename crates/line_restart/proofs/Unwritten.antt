-- Where a session wrote nothing since the journal ended, no withdrawal is lost.
use Rattle.std.proofs.Common.{◌≡◌, ◌≤◌, ◌+◌, false, List, [], ◌∷◌, ◌++◌, length, map, refl, sym, ap, subst, ◌∙◌, inl, inr, append_assoc, length-append, arith}
use Rattle.std.proofs.lemmas.List.{append-nil}
use Rattle.leg.specs.Numbered.{numbered}
use Rattle.leg.specs.declared.leg_state.LegState.TheVariants.{Doubt, Withdrawn}
use Rattle.dialect.specs.declared.message.Message.{Message}
use Rattle.session_core.specs.Session.{SessionParts, is_connected, next_out, leg_state}
use Rattle.session_core.specs.Turn.{Turn, counting, with_pending, disconnected}
use Rattle.session_core.specs.Receiving.{receive, confirm}
use Rattle.session_core.specs.Calling.{broken, abandon}
use Rattle.session_core.specs.Onward.{OrUnchanged, IsCall, SpendsNumbers}
use Rattle.session_core.proofs.Adding.{chosen}
use Rattle.session_core.proofs.Called.{quiet_keeps, silent_keeps, close_keeps}
use Rattle.session_core.proofs.Received.{receive_is_received}
use Rattle.exchange_core.specs.Acceptance.{Carried}
use Rattle.venue_line.specs.Line.{Line, in_connection_of, IsCallOf, LineStep, AreSteps}
use Rattle.venue_line.specs.Line as line
use Rattle.venue_line.proofs.LegStates.{found}
use Rattle.venue_line.proofs.ForGood.{state_is}
use Rattle.venue_line.specs.Leading.{last_line}
use Rattle.line_restart.specs.Lives.{durable_line, killed_line}
use Rattle.line_restart.specs.OverRestarts.{AWithdrawalIsWritten}
use Rattle.line_restart.proofs.WrittenSince.{written_step, written_lines}
use Rattle.line_restart.proofs.Quiet.{NoneSince, receive_withdraws}
use Rattle.line_restart.proofs.Early.{IsEarly, early_step, early_reached}
use Rattle.line_restart.proofs.Reached.{reached_whole, durable_reached}

-- no leg is withdrawn, and no number spent
record Quiet (a b : SessionParts) : Type 0 where
  none : NoneSince a.log b.log
  next : next_out b ≡ next_out a
  config : b.config ≡ a.config

quiet_same : (a b : SessionParts) → b.log ≡ a.log → b.config ≡ a.config → Quiet a b
quiet_same a b same config = record {
  none = λ number leg at is. (leg, sym (ap (numbered number) same) ∙ at, refl, is);
  next = ap (λ l. length l + 1) same;
  config = config;
}

quiet-trans : (a b c : SessionParts) → Quiet a b → Quiet b c → Quiet a c
quiet-trans a b c first more = record {
  none = λ number now at gone.
      (let mid = more.none number now at gone in
      let old = first.none number mid.0 mid.1 mid.3 in
      (old.0, old.1, old.2 ∙ mid.2, old.3));
  next = more.next ∙ first.next;
  config = more.config ∙ first.config;
}

-- nothing was written
empty_map : {A B : Type 0} (f : A → B) (xs : List A) → map f xs ≡ [] → xs ≡ []
empty_map f [] is = refl
empty_map f (x ∷ xs) is = absurd cc

empty_of : {A : Type 0} (xs : List A) → length xs ≤ 0 → xs ≡ []
empty_of [] low = refl
empty_of (x ∷ xs) low = absurd (omega arith)

none_behind : {A : Type 0} (xs ys : List A) → xs ++ ys ≡ xs → ys ≡ []
none_behind xs ys is =
    empty_of ys (let a = sym (length-append xs ys) ∙ ap length is in omega arith)

nothing_written : (a : Line) (to : List Carried) (s : SessionParts) (written : List Message)
    → to ≡ a.to_exchange → to ≡ a.to_exchange ++ in_connection_of s written → written ≡ []
nothing_written a to s written same is =
    empty_map _ written (none_behind a.to_exchange (in_connection_of s written) (sym is ∙ same))

-- what is received
quiet_received : (s : SessionParts) (m : Message) → IsEarly s → (receive s m).step.written ≡ []
    → Quiet s (receive s m).session
quiet_received s m early empty =
    let r = receive_is_received s m in
    record {
      none = receive_withdraws s m early empty;
      next = spends (receive s m).step.written empty r.spends;
      config = r.onward.config;
    }
  where
    spends : (written : List Message) → written ≡ [] → SpendsNumbers s written (receive s m).session
        → next_out (receive s m).session ≡ next_out s
    spends [] is spent = spent
    spends (x ∷ written) is spent = absurd cc

quiet_confirm : (s : SessionParts) → Quiet s (confirm s)
quiet_confirm s =
    chosen (Quiet s) s.current.pending (with_pending false (counting s)) s
    (λ on. quiet_same s (with_pending false (counting s)) refl refl) (λ off. quiet_same s s refl refl)

quiet_broken : (s : SessionParts) → Quiet s (broken s)
quiet_broken s =
    chosen (Quiet s) (is_connected s.phase) (disconnected false s) s
    (λ on. quiet_same s (disconnected false s) refl refl) (λ off. quiet_same s s refl refl)

-- another call
quiet_call : (s : SessionParts) (turn : Turn) → IsCall s turn.step turn.session → turn.step.written ≡ []
    → Quiet s turn.session
quiet_call s turn call empty =
    let grew = call.keeps.added in
    let next = spends turn.step.written empty call.spends in
    let long = ap length grew.1 ∙ length-append s.log grew.0 in
    let none = empty_of grew.0 (omega arith) in
    quiet_same s turn.session (grew.1 ∙ (ap (λ l. s.log ++ l) none ∙ append-nil s.log)) call.keeps.onward.config
  where
    spends : (written : List Message) → written ≡ [] → SpendsNumbers s written turn.session
        → next_out turn.session ≡ next_out s
    spends [] is spent = spent
    spends (x ∷ written) is spent = absurd cc

called : (s : SessionParts) (turn : Turn) → IsCallOf s turn → IsCall s turn.step turn.session
called s turn (inl is) = subst (OrUnchanged s (IsCall s)) is (quiet_keeps s)
called s turn (inr (inl is)) = subst (OrUnchanged s (IsCall s)) is (silent_keeps s)
called s turn (inr (inr is)) = subst (OrUnchanged s (IsCall s)) is (close_keeps s)

-- one step
module _ (a b : Line) (early : IsEarly a.session) (same : b.to_exchange ≡ a.to_exchange) where
  to_quiet : (t : SessionParts) → b.session ≡ t → Quiet a.session t → Quiet a.session b.session
  to_quiet t is quiet_now = subst (Quiet a.session) (sym is) quiet_now

  as_before : b.session ≡ a.session → Quiet a.session b.session
  as_before is = to_quiet a.session is (quiet_same a.session a.session refl refl)

  never_pushed : (x : Carried) → b.to_exchange ≡ a.to_exchange ++ x ∷ [] → ⊥
  never_pushed x is = (let e = none_behind a.to_exchange (x ∷ []) (sym is ∙ same) in cc)

  quiet_step : LineStep a b → Quiet a.session b.session
  quiet_step (line.releases more is) = as_before (ap (λ (w : Line). w.session) is)
  quiet_step (line.drops below is) = as_before (ap (λ (w : Line). w.session) is)
  quiet_step (line.sends leg message session there sent is) =
      absurd (never_pushed _ (ap (λ (w : Line). w.to_exchange) is))
  quiet_step (line.connects message session made is) =
      absurd (never_pushed _ (ap (λ (w : Line). w.to_exchange) is))
  quiet_step (line.receives m there on is) =
      let t = receive a.session m in
      let empty = nothing_written a b.to_exchange t.session t.step.written same
      (ap (λ (w : Line). w.to_exchange) is) in
      to_quiet (confirm t.session) (ap (λ (w : Line). w.session) is)
      (quiet-trans a.session t.session (confirm t.session) (quiet_received a.session m early empty)
      (quiet_confirm t.session))
  quiet_step (line.hears m there is) =
      let t = receive a.session m in
      let empty = nothing_written a b.to_exchange t.session t.step.written same
      (ap (λ (w : Line). w.to_exchange) is) in
      to_quiet t.session (ap (λ (w : Line). w.session) is) (quiet_received a.session m early empty)
  quiet_step (line.confirms is) =
      to_quiet (confirm a.session) (ap (λ (w : Line). w.session) is) (quiet_confirm a.session)
  quiet_step (line.calls turn call is) =
      let empty = nothing_written a b.to_exchange turn.session turn.step.written same
      (ap (λ (w : Line). w.to_exchange) is) in
      to_quiet turn.session (ap (λ (w : Line). w.session) is)
      (quiet_call a.session turn (called a.session turn call) empty)
  quiet_step (line.breaks is) =
      to_quiet (broken a.session) (ap (λ (w : Line). w.session) is) (quiet_broken a.session)
  quiet_step (line.abandons is) =
      to_quiet (abandon a.session) (ap (λ (w : Line). w.session) is)
      (quiet_same a.session (abandon a.session) refl refl)
  quiet_step (line.exchanges coming t written there may is) = as_before (ap (λ (w : Line). w.session) is)

quiet_lines : (a : Line) (lines : List Line) → AreSteps a lines → IsEarly a.session
    → (last_line a lines).to_exchange ≡ a.to_exchange → Quiet a.session (last_line a lines).session
quiet_lines a [] steps early same = quiet_same a.session a.session refl refl
quiet_lines a (b ∷ lines) steps early same =
    let first = written_step a b steps.0 in
    let rest = written_lines b lines steps.1 in
    let all : a.to_exchange ++ (first.more ++ rest.more) ≡ a.to_exchange =
    sym (rest.is ∙ (ap (λ l. l ++ rest.more) first.is ∙ append_assoc a.to_exchange first.more rest.more)) ∙ same in
    let none = ap length (none_behind a.to_exchange (first.more ++ rest.more) all) in
    let long = length-append first.more rest.more in
    let one : first.more ≡ [] = empty_of first.more (omega arith) in
    let here : b.to_exchange ≡ a.to_exchange =
    first.is ∙ (ap (λ l. a.to_exchange ++ l) one ∙ append-nil a.to_exchange) in
    let now = quiet_step a b early here steps.0 in
    quiet-trans a.session b.session (last_line b lines).session now
    (quiet_lines b lines steps.1 (early_step a b steps.0 early) (same ∙ sym here))

pub a_withdrawal_is_written : AWithdrawalIsWritten
a_withdrawal_is_written config life small reached is same ordinal gone doubt =
    let d = durable_line life in
    let durable = durable_reached config life is reached in
    let whole = reached_whole config small d durable in
    let quiet_since = quiet_lines d life.lost is.more (early_reached config d durable) same in
    let f = found (killed_line life).session.log ordinal Withdrawn gone in
    let was = quiet_since.none f.number f.leg f.there f.state_is in
    let now = sym (ap (leg_state d.session) (was.2 ∙ f.ordinal_is)) ∙ state_is d whole.0 f.number was.0 was.1 in
    let e = sym now ∙ doubt in
    let same_state : was.0.state ≡ Doubt = cc in
    (let w : Withdrawn ≡ Doubt = sym was.3 ∙ same_state in cc)
