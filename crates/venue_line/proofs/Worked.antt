-- Steps of worked lines: those of an exchange that keeps the rules, and those of the session.
use Rattle.std.specs.Fmt.{digits}
use Rattle.std.proofs.Common.{◌≡◌, ◌≤◌, ◌<◌, ℕ, suc, List, [], ◌∷◌, ◌++◌, Option, Some, None, Ok, Err, refl, sym, ap, subst, ◌∙◌, inl, inr, arith}
use Rattle.std.specs.Prelude.{max, true, false}
use Rattle.std.specs.List.{All, Contains}
use Rattle.std.proofs.lemmas.List.{append-nil}
use Rattle.std.proofs.lemmas.List.Elements.{All-cons, All-nil, All-contains_itself, All-weaker}
use Rattle.leg.specs.Numbered.{numbered}
use Rattle.leg.specs.declared.leg.Leg.{Leg}
use Rattle.dialect.specs.declared.content.Content.{Content}
use Rattle.exchange_core.specs.Acceptance.{Carried, Intake, RuleState, rule_opening, MayMove, MayAnswer, MayRefuse, MayRefuseOther, MayKeep, MayWrite, MayBeUnasked, IsNewLogon, IsDue, May, passed_at}
use Rattle.exchange_core.specs.Acceptance as rules
use Rattle.dialect.specs.declared.message.Message.{Message}
use Rattle.session_core.specs.Session.{is_connected}
use Rattle.session_core.specs.Turn.{StepParts}
use Rattle.session_core.specs.Calling.{SessionAnswer, connect, send_leg, close}
use Rattle.session_core.specs.Example.{config, from_b}
use Rattle.exchange_core.specs.Keeping.{carried}
use Rattle.venue_line.specs.Line.{Line, new_line, LineStep, AreSteps}
use Rattle.venue_line.specs.Line as line
use Rattle.venue_line.specs.Worked.{logon, fence, answer, order, asks, fill, standing, after_said, after_asked, connecting, sending, closing, breaking, receiving, exchanging, two, releasing, logging_on, logon_taken, settling, fence_taken, till_up}

-- an exchange that stands so
abbrev pub stood : Intake → List (Option Content) → RuleState
stood intake own = record {
  intake = intake;
  tests = [];
  refusable = [];
  others = [];
  own = own;
  unasked = [];
}

-- a step of the exchange at a message that comes, by which these own numbers more are used, and none but asked Logouts
-- are written
module _ (s : RuleState) (m : Carried) (intake : Intake) (own : List (Option Content)) where
  abbrev pub after : RuleState
  after = record (stood intake own) { unasked = s.unasked }

  pub step : (more : List (Option Content)) (written : List Carried) → MayMove s.intake (Some m) intake
      → All (MayKeep s (Some m) after) more → own ≡ s.own ++ more → All (MayWrite s (Some m) after) written
      → May s (Some m) after written
  step more written moves keeps grows writes = record {
    moves = moves;
    tests = All-nil (MayAnswer s (Some m) after);
    refusable = All-nil (MayRefuse s (Some m) after);
    others = All-nil (MayRefuseOther s (Some m));
    own = (more, keeps, grows);
    writes = writes;
    unasked = All-contains_itself s.unasked;
    only = All-weaker (Contains s.unasked) (MayBeUnasked s written) (λ connection old. inl old) s.unasked
        (All-contains_itself s.unasked);
  }

  -- own numbers that carry nothing, one or two
  pub no_more : All (MayKeep s (Some m) after) []
  no_more = All-nil (MayKeep s (Some m) after)

  pub plain : All (MayKeep s (Some m) after) (None ∷ [])
  plain = All-cons (MayKeep s (Some m) after) None [] tt no_more

  pub plain_two : All (MayKeep s (Some m) after) (None ∷ None ∷ [])
  plain_two = All-cons (MayKeep s (Some m) after) None (None ∷ []) tt plain

  -- what it writes
  pub nothing : All (MayWrite s (Some m) after) []
  nothing = All-nil (MayWrite s (Some m) after)

  pub says : (x : Carried) (xs : List Carried) → MayWrite s (Some m) after x → All (MayWrite s (Some m) after) xs
      → All (MayWrite s (Some m) after) (x ∷ xs)
  says x xs may more = All-cons (MayWrite s (Some m) after) x xs may more

-- a Logon of a new connection
pub new_logon : (s : Intake) (connection number : ℕ) → s.last < connection → s.expected ≤ number
    → IsNewLogon s (logon connection number)
new_logon s connection number newer above =
    record { heart = 30; reset = false; next = None; says = refl; newer = newer; number = above }

-- a Logon that is taken, and answered under the next own number
pub logs_on : (s t : Intake) (own : List (Option Content)) (connection number used : ℕ) → s.last < connection
    → s.expected ≤ number
    → t ≡ record s { expected = passed_at number s.expected; live = Some connection; last = connection }
    → 1 ≤ connection → connection ≤ t.last → numbered used (own ++ None ∷ []) ≡ Some None
    → May (stood s own) (Some (logon connection number)) (stood t (own ++ None ∷ [])) (logon connection used ∷ [])
logs_on s t own connection number used newer above after from to under =
    let m = logon connection number in
    let more = own ++ None ∷ [] in
    step (stood s own) m t more (None ∷ []) (logon connection used ∷ [])
    (rules.takes m refl (rules.new_logon (new_logon s connection number newer above) after)) (plain (stood s own) m t more)
    refl
    (says (stood s own) m t more (logon connection used) [] (record { from = from; to = inl to; content = inr (under, tt) })
    (nothing (stood s own) m t more))

-- a Logon that is above the expected number, which is then asked for
pub asks_for : (s t : Intake) (own : List (Option Content)) (connection number used : ℕ) → s.last < connection
    → s.expected ≤ number
    → t ≡ record s { expected = passed_at number s.expected; live = Some connection; last = connection }
    → 1 ≤ connection → connection ≤ t.last → numbered used (own ++ None ∷ None ∷ []) ≡ Some None
    → numbered (suc used) (own ++ None ∷ None ∷ []) ≡ Some None
    → May (stood s own) (Some (logon connection number)) (stood t (own ++ None ∷ None ∷ []))
    (logon connection used ∷ asks connection (suc used) t.expected ∷ [])
asks_for s t own connection number used newer above after from to first second =
    let m = logon connection number in
    let more = own ++ None ∷ None ∷ [] in
    let asked = asks connection (suc used) t.expected in
    step (stood s own) m t more (None ∷ None ∷ []) (logon connection used ∷ asked ∷ [])
    (rules.takes m refl (rules.new_logon (new_logon s connection number newer above) after))
    (plain_two (stood s own) m t more) refl
    (says (stood s own) m t more (logon connection used) (asked ∷ [])
    (record { from = from; to = inl to; content = inr (first, tt) })
    (says (stood s own) m t more asked [] (record { from = from; to = inl to; content = inr (second, refl) })
    (nothing (stood s own) m t more)))

-- a gap fill in its turn is taken
pub passes_over : (s t : Intake) (own : List (Option Content)) (connection number new_number : ℕ) (written : List Carried)
    → s.live ≡ Some connection → number ≡ s.expected → t ≡ record s { expected = max s.expected new_number }
    → All (MayWrite (stood s own) (Some (fill connection number new_number)) (stood t own)) written
    → May (stood s own) (Some (fill connection number new_number)) (stood t own) written
passes_over s t own connection number new_number written live due after writes =
    let m = fill connection number new_number in
    step (stood s own) m t own [] written
    (rules.takes m refl (rules.fill (record { live = live; number = due }) new_number refl after))
    (no_more (stood s own) m t own) (sym (append-nil own)) writes

-- a fence in its turn is answered, under the next own number
pub answers : (s : Intake) (own : List (Option Content)) (connection number used : ℕ) → s.live ≡ Some connection
    → number ≡ s.expected → 1 ≤ connection → connection ≤ s.last → numbered used (own ++ None ∷ []) ≡ Some None
    → May (stood s own) (Some (fence connection number))
    (stood (record s { expected = suc s.expected }) (own ++ None ∷ [])) (answer connection used number ∷ [])
answers s own connection number used live due from to under =
    let m = fence connection number in
    let t = record s { expected = suc s.expected } in
    let is_due : IsDue s m = record { live = live; number = due } in
    step (stood s own) m t (own ++ None ∷ []) (None ∷ []) (answer connection used number ∷ [])
    (rules.takes m refl (rules.other is_due tt refl)) (plain (stood s own) m t (own ++ None ∷ [])) refl
    (says (stood s own) m t (own ++ None ∷ []) (answer connection used number) []
    (record {
      from = from;
      to = inl to;
      content = inr (under, inr (record { message = m; came = refl; due = is_due; says = refl; passed = refl }));
    }) (nothing (stood s own) m t (own ++ None ∷ [])))

-- an order in its turn is accepted, and nothing is said
pub accepts : (s : Intake) (own : List (Option Content)) (connection number : ℕ) (leg : Leg)
    → s.live ≡ Some connection → number ≡ s.expected
    → (more : List (Option Content)) (written : List Carried)
    → All (MayKeep (stood s own) (Some (order connection number leg))
    (stood (record s { expected = suc s.expected; accepted = s.accepted ++ leg ∷ [] }) (own ++ more))) more
    → All (MayWrite (stood s own) (Some (order connection number leg))
    (stood (record s { expected = suc s.expected; accepted = s.accepted ++ leg ∷ [] }) (own ++ more))) written
    → May (stood s own) (Some (order connection number leg))
    (stood (record s { expected = suc s.expected; accepted = s.accepted ++ leg ∷ [] }) (own ++ more)) written
accepts s own connection number leg live due more written keeps writes =
    let m = order connection number leg in
    let t = record s { expected = suc s.expected; accepted = s.accepted ++ leg ∷ [] } in
    step (stood s own) m t (own ++ more) more written
    (rules.takes m refl (rules.order (record { live = live; number = due }) leg refl refl)) keeps refl writes

-- the session's steps
abbrev pub IsSaid : SessionAnswer Message → Type 0
IsSaid (Ok message, s) = Unit {0}
IsSaid (Err fault, s) = ⊥

abbrev pub IsAsked : SessionAnswer StepParts → Type 0
IsAsked (Ok step, s) = Unit {0}
IsAsked (Err fault, s) = ⊥

connects_by : (a : Line) (answer : SessionAnswer Message) → connect a.session ≡ answer → IsSaid answer
    → LineStep a (after_said a answer)
connects_by a (Ok message, s) is said = line.connects message s is refl
connects_by a (Err fault, s) is said = absurd said

pub connects : (a : Line) → IsSaid (connect a.session) → LineStep a (connecting a)
connects a said = connects_by a (connect a.session) refl said

sends_by : (a : Line) (leg : Leg) (answer : SessionAnswer Message) → numbered (suc a.left) a.released ≡ Some leg
    → send_leg a.session (suc a.left) leg ≡ answer → IsSaid answer
    → LineStep a (record (after_said a answer) { left = suc a.left })
sends_by a leg (Ok message, s) there is said = line.sends leg message s there is refl
sends_by a leg (Err fault, s) there is said = absurd said

pub sends : (a : Line) (ordinal : ℕ) (leg : Leg) → suc a.left ≡ ordinal → numbered ordinal a.released ≡ Some leg
    → IsSaid (send_leg a.session ordinal leg)
    → LineStep a (sending ordinal leg a)
sends a ordinal leg same there said =
    subst (λ o. LineStep a (sending o leg a)) same
    (sends_by a leg (send_leg a.session (suc a.left) leg) (ap (λ o. numbered o a.released) same ∙ there) refl
    (subst (λ o. IsSaid (send_leg a.session o leg)) (sym same) said))

closes_by : (a : Line) (answer : SessionAnswer StepParts) → close a.session ≡ answer → IsAsked answer
    → LineStep a (after_asked a answer)
closes_by a (Ok step, s) is asked =
    line.calls (record { step = step; session = s }) (inr (inr is)) refl
closes_by a (Err fault, s) is asked = absurd asked

pub closes : (a : Line) → IsAsked (close a.session) → LineStep a (closing a)
closes a asked = closes_by a (close a.session) refl asked

pub breaks : (a : Line) → LineStep a (breaking a)
breaks a = line.breaks refl

pub receives : (a : Line) (m : Carried) → Contains a.from_exchange (carried a.session.connection (from_b m.number m.content))
    → is_connected a.session.phase ≡ true → LineStep a (receiving m a)
receives a m there on = line.receives (from_b m.number m.content) there on refl

pub exchanges : (a : Line) (m : Carried) (t : RuleState) (written : List Carried) → Contains a.to_exchange m
    → May a.exchange (Some m) t written → LineStep a (exchanging t written a)
exchanges a m t written there may = line.exchanges (Some m) t written there may refl

-- till the session is up
pub takes_logon : May rule_opening (Some (logon 1 1)) (standing 1 2 [] (None ∷ [])) (logon 1 1 ∷ [])
takes_logon =
    logs_on rule_opening.intake (standing 1 2 [] (None ∷ [])).intake [] 1 1 1 (omega arith) (omega arith) refl (omega arith)
    (omega arith) refl

pub takes_fence : May (standing 1 2 [] (None ∷ [])) (Some (fence 1 2)) (standing 1 3 [] two) (answer 1 2 2 ∷ [])
takes_fence =
    answers (standing 1 2 [] (None ∷ [])).intake (None ∷ []) 1 2 2 refl refl (omega arith) (omega arith) refl

pub steps_up : (legs : List Leg) → AreSteps (new_line config) (till_up legs)
unfolding digits
steps_up legs = (
  line.releases legs refl,
  (
    connects (releasing legs) tt,
    (
      exchanges (logging_on legs) (logon 1 1) (standing 1 2 [] (None ∷ [])) (logon 1 1 ∷ []) (0, omega arith, refl)
          takes_logon,
      (
        receives (logon_taken legs) (logon 1 1) (0, omega arith, refl) refl,
        (
          exchanges (settling legs) (fence 1 2) (standing 1 3 [] two) (answer 1 2 2 ∷ []) (1, omega arith, refl)
              takes_fence,
          (receives (fence_taken legs) (answer 1 2 2) (1, omega arith, refl) refl, tt),
        ),
      ),
    ),
  ),
)
