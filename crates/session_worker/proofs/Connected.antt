-- Whether there is a connection after a call, and what the reader then has.
use Rattle.std.proofs.Common.{◌≡◌, ℕ, Bool, true, false, true≢false, not, List, refl, sym, ap, subst, ◌∙◌, inl, inr, if◌then◌else◌}
use Rattle.std.specs.Prelude.{Option, Some, None}
use Rattle.leg.specs.declared.leg.Leg.{Leg}
use Rattle.fix_text.specs.Reading.{Stream, fed}
use Rattle.link.specs.Traffic.{Tells, Takes, GivesBytes, Stays}
use Rattle.session_core.specs.declared.ended.Ended.{Ended}
use Rattle.session_core.specs.declared.ended.Ended.TheVariants.{Malformed}
use Rattle.session_core.specs.declared.phase.Phase.{Phase}
use Rattle.session_core.specs.declared.phase.Phase.TheVariants.{Down, LoggingOn, Settling, Up, Closing, LoggedOut, Closed}
use Rattle.session_core.specs.declared.session_fault.SessionFault.TheVariants as fault
use Rattle.session_core.specs.Session.{SessionParts, is_connected, is_logged_out}
use Rattle.session_core.specs.Turn.{StepParts, disconnected, with_pending, counting}
use Rattle.session_core.specs.Receiving.{confirm}
use Rattle.session_core.specs.Calling.{SessionAnswer, refuses, quiet, silent, close, close_in, send_leg, send_in, malformed, broken, abandon}
use Rattle.session_core.proofs.Adding.{chosen}
use Rattle.session_worker.specs.Hearing.{Said, ReaderOn}
use Rattle.session_worker.specs.Linking.{SessionIoParts, IsHearing, MayGiveUp, TakesIn}
use Rattle.session_worker.proofs.Hearing.{on_stays, on_fed, on_takes}

-- a session whose connection is gone
not_on : (over : Bool) → is_connected (if over then Closed else Down) ≡ true → ⊥
not_on true e = true≢false (sym e)
not_on false e = true≢false (sym e)

pub gone : (s t : SessionParts) → t ≡ broken s → is_connected t.phase ≡ true → ⊥
gone s t is now =
    chosen (λ (u : SessionParts). is_connected u.phase ≡ true → ⊥) (is_connected s.phase) (disconnected false s) s
    (λ on on_after. not_on (is_logged_out s.phase) on_after) (λ off on_after. true≢false (sym on_after ∙ off))
    (subst (λ (u : SessionParts). is_connected u.phase ≡ true) is now)

pub gone_malformed : (s t : SessionParts) → t ≡ (malformed s).1 → is_connected t.phase ≡ true → ⊥
gone_malformed s t is now =
    chosen (λ (r : Option Ended × SessionParts). is_connected r.1.phase ≡ true → ⊥) (is_connected s.phase)
    (Some Malformed, disconnected false s) (None, s)
    (λ on on_after. not_on (is_logged_out s.phase) on_after) (λ off on_after. true≢false (sym on_after ∙ off))
    (subst (λ (u : SessionParts). is_connected u.phase ≡ true) is now)

pub gone_abandoned : (s t : SessionParts) → t ≡ abandon s → is_connected t.phase ≡ true → ⊥
gone_abandoned s t is now = true≢false (sym (subst (λ (u : SessionParts). is_connected u.phase ≡ true) is now))

-- one that has a connection after a call had it before
pub confirm_on : (s t : SessionParts) → t ≡ confirm s → is_connected t.phase ≡ true → is_connected s.phase ≡ true
confirm_on s t is now =
    chosen (λ (u : SessionParts). is_connected u.phase ≡ true → is_connected s.phase ≡ true) s.current.pending
    (with_pending false (counting s)) s (λ on on_after. on_after) (λ off on_after. on_after)
    (subst (λ (u : SessionParts). is_connected u.phase ≡ true) is now)

is_on : (b : Bool) → not b ≡ false → b ≡ true
is_on true e = refl
is_on false e = absurd (true≢false e)

pub quiet_on : (s : SessionParts) → is_connected (quiet s).1.phase ≡ true → is_connected s.phase ≡ true
quiet_on s =
    chosen (λ (a : SessionAnswer StepParts). is_connected a.1.phase ≡ true → is_connected s.phase ≡ true)
    (not (is_connected s.phase)) (refuses fault.NotConnected s) _ (λ off on_after. on_after)
    (λ on on_after. is_on (is_connected s.phase) on)

pub silent_on : (s : SessionParts) → is_connected (silent s).1.phase ≡ true → is_connected s.phase ≡ true
silent_on s =
    chosen (λ (a : SessionAnswer StepParts). is_connected a.1.phase ≡ true → is_connected s.phase ≡ true)
    (not (is_connected s.phase)) (refuses fault.NotConnected s) _ (λ off on_after. on_after)
    (λ on on_after. is_on (is_connected s.phase) on)

close_in_on : (s : SessionParts) (phase : Phase) → s.phase ≡ phase → is_connected (close_in phase s).1.phase ≡ true
    → is_connected s.phase ≡ true
close_in_on s Down is now = now
close_in_on s Closed is now = now
close_in_on s Up is now = ap is_connected is
close_in_on s LoggingOn is now = ap is_connected is
close_in_on s Settling is now = ap is_connected is
close_in_on s Closing is now = ap is_connected is
close_in_on s LoggedOut is now = ap is_connected is

pub close_on : (s : SessionParts) → is_connected (close s).1.phase ≡ true → is_connected s.phase ≡ true
close_on s = close_in_on s s.phase refl

send_in_on : (s : SessionParts) (ordinal : ℕ) (leg : Leg) (phase : Phase) → s.phase ≡ phase
    → is_connected (send_in phase s ordinal leg).1.phase ≡ true → is_connected s.phase ≡ true
send_in_on s ordinal leg Down is now = now
send_in_on s ordinal leg Closed is now = now
send_in_on s ordinal leg Up is now = ap is_connected is
send_in_on s ordinal leg LoggingOn is now = ap is_connected is
send_in_on s ordinal leg Settling is now = ap is_connected is
send_in_on s ordinal leg Closing is now = ap is_connected is
send_in_on s ordinal leg LoggedOut is now = ap is_connected is

pub send_on : (s : SessionParts) (ordinal : ℕ) (leg : Leg) → is_connected (send_leg s ordinal leg).1.phase ≡ true
    → is_connected s.phase ≡ true
send_on s ordinal leg = send_in_on s ordinal leg s.phase refl

-- what the reader has stays so where no byte was read
pub hearing_same : (said : Said) (x y : SessionIoParts) → (is_connected y.session.phase ≡ true → is_connected x.session.phase ≡ true)
    → Tells x.wire y.wire Stays → y.stream ≡ x.stream → IsHearing said x → IsHearing said y
hearing_same said x y back stays stream hearing =
    λ on. subst (λ (z : Stream). ReaderOn said y.wire z) (sym stream)
    (on_stays said x.wire y.wire x.stream (hearing (back on)) stays)

pub hearing_takes : (said : Said) (bytes : List ℕ) (x y : SessionIoParts)
    → (is_connected y.session.phase ≡ true → is_connected x.session.phase ≡ true) → Tells x.wire y.wire (Takes bytes)
    → y.stream ≡ x.stream → IsHearing said x → IsHearing said y
hearing_takes said bytes x y back takes stream hearing =
    λ on. subst (λ (z : Stream). ReaderOn said y.wire z) (sym stream)
    (on_takes said bytes x.wire y.wire x.stream (hearing (back on)) takes)

pub hearing_gone : (said : Said) (y : SessionIoParts) → (is_connected y.session.phase ≡ true → ⊥) → IsHearing said y
hearing_gone said y off = λ on. absurd (off on)

-- bytes that were read were handed to the reader, or else the connection was given up
pub fed_breaks : (bytes : List ℕ) (x y : SessionIoParts) → TakesIn bytes x y → MayGiveUp x y
fed_breaks bytes x y (inl all) = inl (all.0, all.2)
fed_breaks bytes x y (inr over) = inr over

pub hearing_fed : (said : Said) (bytes : List ℕ) (x m y : SessionIoParts) → m.session ≡ x.session → m.stream ≡ x.stream
    → Tells x.wire m.wire (GivesBytes bytes) → TakesIn bytes m y → Tells m.wire y.wire Stays → IsHearing said x → IsHearing said y
hearing_fed said bytes x m y session stream gives (inl all) stays hearing =
    λ on. on_stays said m.wire y.wire y.stream
    (subst (λ (z : Stream). ReaderOn said m.wire z) (sym (all.1 ∙ ap (λ (z : Stream). fed z bytes) stream))
    (on_fed said bytes x.wire m.wire x.stream
    (hearing (subst (λ (s : SessionParts). is_connected s.phase ≡ true) (all.0 ∙ session) on)) gives)) stays
hearing_fed said bytes x m y session stream gives (inr over) stays hearing = hearing_gone said y (gone m.session y.session over.0)
