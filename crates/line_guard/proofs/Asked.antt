-- Before the session is up, an exchange that keeps the rules has told no number in the present connection that it had
-- passed.
use Rattle.std.proofs.Common.{◌≡◌, ◌≤◌, ◌<◌, ◌&&◌, suc, ℕ, Bool, true, false, nat_le, List, ◌++◌, Option, Some, None, Ok, Err, refl, sym, ap, subst, ◌∙◌, inl, inr, arith, if◌then◌else◌}
use Rattle.std.specs.Option.{option_map_or}
use Rattle.std.specs.List.{All, Contains}
use Rattle.std.proofs.lemmas.Bool.Decides.{nat_tests}
use Rattle.std.proofs.lemmas.List.Elements.{All-cons, All-contains, All-weaker, Contains-append_cases}
use Rattle.fix_tags.specs.Config.{ConfigParts}
use Rattle.fix_tags.specs.declared.session_body.SessionBody.TheVariants.{Logon, Heartbeat, ResendRequest}
use Rattle.dialect.specs.declared.content.Content.{Content}
use Rattle.dialect.specs.declared.content.Content.TheVariants.{Session}
use Rattle.dialect.specs.declared.message.Message.{Message}
use Rattle.resend.specs.Log.Entry.{Admin}
use Rattle.session_core.specs.declared.phase.Phase.{Phase}
use Rattle.session_core.specs.declared.phase.Phase.TheVariants as phase
use Rattle.session_core.specs.declared.session_fault.SessionFault.TheVariants as fault
use Rattle.session_core.specs.Session.{SessionParts, is_settling, is_logging_on, may_write}
use Rattle.session_core.specs.Turn.{fence_id}
use Rattle.session_core.specs.Receiving.{told_number, has_passed, is_forgotten, receive, confirm}
use Rattle.session_core.specs.Calling.{SessionAnswer, refuses, connect_in, sending, broken, abandon}
use Rattle.session_core.specs.Onward.{forgets}
use Rattle.session_core.proofs.Adding.{chosen}
use Rattle.session_core.proofs.Forgotten.{only_forgetting_ends_so}
use Rattle.exchange_core.specs.Acceptance.{Carried, RuleState, MayWrite, May}
use Rattle.exchange_core.specs.Keeping.{carried}
use Rattle.exchange_core.proofs.Forward.{moves_forward}
use Rattle.venue_line.specs.Line.{Line, new_line, LineStep, AreSteps}
use Rattle.venue_line.specs.Line as line
use Rattle.venue_line.specs.Copies.{IsBeforeUp, told_by}
use Rattle.venue_line.specs.LineInvariant.{LineInvariant}
use Rattle.venue_line.proofs.Kept.{own_kept, written_tells}
use Rattle.venue_line.proofs.Logs.{numbered_within}
use Rattle.venue_line.proofs.CopiesSent.{sent_is}
use Rattle.venue_line.proofs.Stepping.{steps_keep}
use Rattle.venue_line.proofs.LineKept.{invariant_new, invariant_step}
use Rattle.venue_line.proofs.Leading.{leads_keep}
use Rattle.line_restart.specs.Lives.{all_moments}
use Rattle.line_restart.specs.RestartTheorem.{IsReached}
use Rattle.line_restart.proofs.Reached.{the_reached_theorem}
use Rattle.line_guard.specs.Guard.{MeetsNoGuard, TheGuardCostsNothing, TheGuardOverRestarts}
use Rattle.line_guard.proofs.SettledStays.{Plain, Goes, call_plain, broken_plain, abandon_plain, confirm_plain, receive_goes}

-- the exchange has passed the settled number, and told no number at or below it
abbrev AskedOf : SessionParts → RuleState → List Carried → Type 0
AskedOf s x from = (s.settled < x.intake.expected)
    × ((m : Carried) (told : ℕ) → IsBeforeUp s.phase → Contains from m → m.connection ≡ s.connection
    → told_by m.content ≡ Some told → s.settled < told)

abbrev pub Asked : Line → Type 0
Asked w = AskedOf w.session w.exchange w.from_exchange

by_plain : (s t : SessionParts) (x : RuleState) (from : List Carried) → Plain s t → AskedOf s x from → AskedOf t x from
by_plain s t x from is asked = (
  (let h = asked.0 in omega (arith, is.1)),
  λ m told early there here says.
      (let h = asked.1 m told (is.2 early) there (here ∙ is.0) says in omega (arith, is.1)),
)

module _ (a : Line) (i : LineInvariant a) (asked : Asked a) where
  x : RuleState
  x = a.exchange

  -- an answered fence was passed
  fence_passed : (m : Message) (fence : ℕ) → Contains a.from_exchange (carried a.session.connection m)
      → Contains a.session.current.fences fence → m.content ≡ Session (Heartbeat (Some (fence_id fence)))
      → fence < a.exchange.intake.expected
  fence_passed m fence there written says =
      let few = (numbered_within fence a.session.log Admin (i.fences.fences_are_admin fence written)).1 in
      let small = i.fences.next_small in
      i.fences.answers_passed (carried a.session.connection m) fence there says (omega arith)

  by_goes : (m : Message) (t : SessionParts) → Contains a.from_exchange (carried a.session.connection m)
      → Goes a.session m.content t → AskedOf t a.exchange a.from_exchange
  by_goes m t there is = (
    elim is.2 [
      | inl same ↦ (let h = asked.0 in omega (arith, same))
      | inr by ↦ (let h = fence_passed m by.fence there by.there by.says in omega (arith, by.same))
    ],
    λ n told early in' here says.
        (let e = is.1 early in let h = asked.1 n told e.0 in' (here ∙ is.0) says in omega (arith, e.1)),
  )

  -- nothing was written in a connection that begins
  abbrev After : {X : Type 0} → SessionAnswer X → Type 0
  After (Ok said, t) = AskedOf t a.exchange a.from_exchange
  After (Err fault, t) = Unit {0}

  connected : (now : Phase) → After (connect_in now a.session)
  connected phase.Down =
      chosen After (may_write a.session) _ (refuses fault.NumbersSpent a.session)
      (λ may. (
        asked.0,
        λ m told early there here says.
            absurd (elim (i.copies.answers_known m there) [
              | inl known ↦ (let last = i.copies.last_known in omega (arith, here, known))
              | inr out ↦ (let e = sym (ap told_by out) ∙ says in cc)
            ]),
      ))
      (λ spent. tt)
  connected phase.Closed = tt
  connected phase.LoggingOn = tt
  connected phase.Settling = tt
  connected phase.Up = tt
  connected phase.Closing = tt
  connected phase.LoggedOut = tt

  -- what the exchange tells is what it expects
  tells_now : (coming : Option Carried) (t : RuleState) (written : List Carried) → May a.exchange coming t written
      → (m : Carried) (told : ℕ) → Contains written m → told_by m.content ≡ Some told
      → told ≡ t.intake.expected
  tells_now coming t written step m told there says =
      written_tells a.exchange coming t m told
      (own_kept a.exchange coming t written step i.copies.own_carries)
      (All-contains (MayWrite a.exchange coming t) written m step.writes there) says

  exchanged : (coming : Option Carried) (t : RuleState) (written : List Carried) → May a.exchange coming t written
      → AskedOf a.session t (a.from_exchange ++ written)
  exchanged coming t written step =
      let forth = (moves_forward a.exchange.intake coming t.intake step.moves).expected in
      let now = asked.0 in (
        omega arith,
        λ m told early there here says.
            elim (Contains-append_cases a.from_exchange written m there) [
              | inl old ↦ asked.1 m told early old here says
              | inr new ↦ (let e = tells_now coming t written step m told new says in omega arith)
            ],
      )

  asked_to : (b : Line) → LineStep a b → Asked b
  asked_to b (line.releases more is) = subst Asked (sym is) asked
  asked_to b (line.drops below is) = subst Asked (sym is) asked
  asked_to b (line.sends leg message session there sent is) =
      let made = (sent_is a.session (suc a.left) leg message session sent).after_is in
      let up = (sent_is a.session (suc a.left) leg message session sent).up in
      subst Asked (sym is)
      (subst (λ s. AskedOf s a.exchange a.from_exchange) (sym made)
      (by_plain a.session (sending a.session (suc a.left) leg) a.exchange a.from_exchange (refl, refl, λ e. e) asked))
  asked_to b (line.connects message session connects is) =
      subst Asked (sym is) (subst After connects (connected a.session.phase))
  asked_to b (line.receives m there on is) =
      subst Asked (sym is)
      (by_plain (receive a.session m).session (confirm (receive a.session m).session) a.exchange a.from_exchange
      (confirm_plain (receive a.session m).session)
      (by_goes m (receive a.session m).session there (receive_goes a.session m)))
  asked_to b (line.hears m there is) =
      subst Asked (sym is) (by_goes m (receive a.session m).session there (receive_goes a.session m))
  asked_to b (line.confirms is) =
      subst Asked (sym is)
      (by_plain a.session (confirm a.session) a.exchange a.from_exchange (confirm_plain a.session) asked)
  asked_to b (line.calls turn call is) =
      subst Asked (sym is)
      (by_plain a.session turn.session a.exchange a.from_exchange (call_plain a.session turn call) asked)
  asked_to b (line.breaks is) =
      subst Asked (sym is)
      (by_plain a.session (broken a.session) a.exchange a.from_exchange (broken_plain a.session) asked)
  asked_to b (line.abandons is) =
      subst Asked (sym is)
      (by_plain a.session (abandon a.session) a.exchange a.from_exchange (abandon_plain a.session) asked)
  asked_to b (line.exchanges coming t written there may is) = subst Asked (sym is) (exchanged coming t written may)

-- with the invariant
abbrev Both : Line → Type 0
Both w = LineInvariant w × Asked w

both_step : (a b : Line) → LineStep a b → Both a → Both b
both_step a b step h = (invariant_step a b step h.0, asked_to a h.0 h.1 b step)

both_new : (config : ConfigParts) → config.max_number ≤ 999999999 → Both (new_line config)
both_new config small = (invariant_new config small, (omega arith, λ m told early there here says. absurd early))

-- so it forgets nothing
and_false : (a b : Bool) → (a ≡ true → b ≡ false) → (a && b) ≡ false
and_false true b off = off refl
and_false false b off = refl

settling_early : (now : Phase) → is_settling now ≡ true → IsBeforeUp now
settling_early phase.Settling is = tt
settling_early phase.Down is = absurd cc
settling_early phase.LoggingOn is = absurd cc
settling_early phase.Up is = absurd cc
settling_early phase.Closing is = absurd cc
settling_early phase.LoggedOut is = absurd cc
settling_early phase.Closed is = absurd cc

logging_early : (now : Phase) → is_logging_on now ≡ true → IsBeforeUp now
logging_early phase.LoggingOn is = tt
logging_early phase.Down is = absurd cc
logging_early phase.Settling is = absurd cc
logging_early phase.Up is = absurd cc
logging_early phase.Closing is = absurd cc
logging_early phase.LoggedOut is = absurd cc
logging_early phase.Closed is = absurd cc

not_below : (n settled : ℕ) → settled < n → nat_le n settled ≡ false
not_below n settled above = by_test (nat_le n settled) refl
  where
    by_test : (b : Bool) → nat_le n settled ≡ b → b ≡ false
    by_test false is = refl
    by_test true is = absurd (let low : n ≤ settled = grind (arith, nat_tests, is) in omega arith)

module _ (w : Line) (asked : Asked w) where
  above : (m : Carried) (told : ℕ) → IsBeforeUp w.session.phase → Contains w.from_exchange m
      → m.connection ≡ w.session.connection → told_by m.content ≡ Some told → w.session.settled < told
  above = asked.1

  not_told : (o : Option ℕ) → ((n : ℕ) → o ≡ Some n → w.session.settled < n) → is_forgotten w.session o ≡ false
  not_told None high = refl
  not_told (Some n) high = not_below n w.session.settled (high n refl)

  told_is : (b : Bool) (next : Option ℕ) (n : ℕ) → (if b then next else None) ≡ Some n → next ≡ Some n
  told_is true next n is = is
  told_is false next n is = absurd cc

  none_forgets : (number : ℕ) (content : Content)
      → Contains w.from_exchange
      (record { connection = w.session.connection; number = number; content = content })
      → forgets w.session content ≡ false
  none_forgets number (Session (ResendRequest begin last)) there =
      and_false (is_settling w.session.phase) (has_passed w.session begin)
      (λ on. not_below begin w.session.settled
      (above (record {
        connection = w.session.connection;
        number = number;
        content = Session (ResendRequest begin last);
      }) begin (settling_early w.session.phase on) there refl refl))
  none_forgets number (Session (Logon heart reset next)) there =
      and_false (is_logging_on w.session.phase) (is_forgotten w.session (told_number w.session next))
      (λ on. not_told (told_number w.session next)
      (λ n told. above (record {
        connection = w.session.connection;
        number = number;
        content = Session (Logon heart reset next);
      }) n (logging_early w.session.phase on) there refl (told_is w.session.config.has_next next n told)))
  none_forgets number content there = refl

  no_guard : MeetsNoGuard w
  no_guard m there = record {
    forgets_none = none_forgets m.number m.content there;
    ends_none = λ ended.
        (let e = sym (only_forgetting_ends_so w.session m ended) ∙ none_forgets m.number m.content there in cc);
  }

none_of : (w : Line) → Both w → MeetsNoGuard w
none_of w both = no_guard w both.1

pub the_guard_costs_nothing : TheGuardCostsNothing
the_guard_costs_nothing config lines small steps =
    All-weaker Both MeetsNoGuard none_of lines
    (steps_keep Both both_step (new_line config) lines steps (both_new config small))

pub the_guard_over_restarts : TheGuardOverRestarts
the_guard_over_restarts config first lives small new is =
    All-weaker (IsReached config) MeetsNoGuard
    (λ w r. none_of w (leads_keep Both both_step (new_line config) w r (both_new config small)))
    (all_moments first lives) (the_reached_theorem config first lives new is)
