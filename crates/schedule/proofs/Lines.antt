-- Every event of the world is a step of one line, or of none.
use Rattle.std.proofs.Common.{◌≡◌, ◌==◌, ◌<◌, ◌⊎◌, ◌+◌, ◌&&◌, ℕ, zero, suc, List, [], ◌∷◌, ◌++◌, length, map, drop, Option, Some, None, Result, Ok, Err, refl, sym, ap, subst, ◌∙◌, inl, inr, arith}
use Rattle.std.specs.Prelude.{slice_get, slice_set}
use Rattle.std.specs.List.{Contains}
use Rattle.std.specs.Option.{option_map_or}
use Rattle.std.proofs.lemmas.Bool.{and_parts, cases_eq}
use Rattle.std.proofs.lemmas.Bool.Decides.{nat_tests}
use Rattle.std.proofs.lemmas.List.{append-nil, map-append}
use Rattle.std.proofs.lemmas.Option.{same_Some, slice_get_within}
use Rattle.leg.specs.Numbered.{numbered}
use Rattle.leg.specs.declared.leg.Leg.{Leg}
use Rattle.leg.specs.declared.placed_leg.PlacedLeg.{PlacedLeg}
use Rattle.leg.specs.declared.sweep.Routed.{Routed}
use Rattle.dialect.specs.declared.fault.DialectFault.{DialectFault}
use Rattle.dialect.specs.declared.message.Message.{Message}
use Rattle.dialect.specs.declared.content.Content.TheVariants.{Order}
use Rattle.dialect.specs.declared.outgoing.Outgoing.{Outgoing}
use Rattle.session_core.specs.declared.session_fault.SessionFault.TheVariants.{NotDown, Closed, NumbersSpent, OutOfMemory, NotUp, OrdinalNotGreater, NotConnected}
use Rattle.session_core.specs.Session.{SessionParts, is_connected}
use Rattle.session_core.specs.Turn.{StepParts}
use Rattle.session_core.specs.Receiving.{receive, confirm}
use Rattle.session_core.specs.Calling.{SessionAnswer, connect, send_leg, quiet, silent, close, broken, abandon}
use Rattle.exchange_core.specs.Acceptance.{Carried}
use Rattle.exchange_core.specs.Keeping.{carried, written_in, rule_state, into, IsLastLive, IsAct}
use Rattle.exchange_core.specs.Exchange.{ExchangeParts, live_connection, take, drop_connection}
use Rattle.exchange_core.specs.Acts.{ActAnswer}
use Rattle.exchange_core.proofs.Entries.{chosen}
use Rattle.exchange_core.proofs.Answers.{take_answers}
use Rattle.exchange_core.proofs.ActsKeep.{trade_keeps, cancel_rest_keeps, reject_keeps, bust_keeps, test_keeps, drop_keeps}
use Rattle.share_ledger.specs.Book.{BookAnswer, open_sweep}
use Rattle.sweep_release.specs.declared.receipt.Receipt.{Receipt}
use Rattle.sweep_release.specs.declared.release_fault.ReleaseFault.{ReleaseFault}
use Rattle.sweep_release.specs.Released.{released, legs_to}
use Rattle.sweep_release.specs.Desk.{DeskParts, DeskVenue, venue_at, placed_legs, gate_of, is_up, is_shut, one_left, with_gate, gate_up, gate_up_from, gate_down, shut, leave, leave_first, drop_next, with_sweep, release_unless, release_refusal}
use Rattle.sweep_release.specs.declared.gate.Gate.{Gate}
use Rattle.sweep_release.specs.declared.gate.Gate.TheVariants.{Up, Down, Shut}
use Rattle.sweep_release.specs.declared.gate_fault.GateFault.{GateFault}
use Rattle.sweep_release.specs.declared.gate_fault.GateFault.TheVariants.{NotDrained}
use Rattle.sweep_release.specs.Desk as desk
use Rattle.sweep_release.specs.Place.{place_after, place_in_book}
use Rattle.sweep_release.proofs.Venues.{left-with_gate, left-one_left}
use Rattle.sweep_release.proofs.Released.{released-push}
use Rattle.schedule.specs.declared.act.Act.{Act}
use Rattle.schedule.specs.declared.act.Act.TheVariants as act
use Rattle.schedule.specs.declared.event.Event.{Event}
use Rattle.schedule.specs.declared.event.Event.TheVariants as event
use Rattle.schedule.specs.World.{World, VenueParts, Frame, venue_in}
use Rattle.venue_line.specs.Line.{noted}
use Rattle.schedule.specs.Happening.{with_venue, in_connection, messages_of, session_wrote, exchange_wrote, exchange_did, is_session_up, desk_and_book, released_world, dropped_world, sent_world, taken_world, may_connect, connected_world, to_exchange, session_turn, to_dispatcher, act_of, acted_world, called_world, closed_world, connects, takes, goes_up, happens}
use Rattle.venue_line.specs.Line.{Line, LineStep, IsCallOf}
use Rattle.venue_line.specs.Line as line
use Rattle.schedule.specs.LineOf.{frame_carried, line_at}
use Rattle.schedule.proofs.Orderly.{IsOrderly, take_orderly, act_orderly, drop_orderly}
use Rattle.schedule.proofs.Grown.{slice_get-set_other, length-slice_set}
use Rattle.venue_line.proofs.Kept.{numbered_contains}
use Rattle.venue_line.proofs.LineGives.{contains_map}
use Rattle.schedule.proofs.DeskKeeps.{Keeps, keeps-refl, gate_up_keeps, gate_down_keeps, shut_keeps, leave_first_keeps}

-- one step, or none
abbrev pub Steps : Line → Line → Type 0
Steps a b = (b ≡ a) ⊎ LineStep a b

-- every order that was written can be read
abbrev pub AreRead : VenueParts → Type 0
AreRead venue =
    (m : Carried) (fault : DialectFault) → Contains (map frame_carried venue.to_exchange) m
    → m.content ≡ Order (Err fault) → ⊥

-- a venue after an event, and the one that it comes from
pub record Comes (w after : World) (v : ℕ) (now : VenueParts) : Type 0 where
  pub old : VenueParts
  pub there : venue_in w v ≡ Some old
  pub steps : IsLastLive old.exchange → v < length w.desk.venues
      → Steps (line_at w.desk v old) (line_at after.desk v now)
  pub orderly : AreRead old → IsOrderly old.exchange → IsOrderly now.exchange

pub record Advances (w after : World) : Type 0 where
  pub desks : length after.desk.venues ≡ length w.desk.venues
  pub venues : length after.venues ≡ length w.venues
  pub comes : (v : ℕ) (now : VenueParts) → venue_in after v ≡ Some now → Comes w after v now

advances-refl : (w : World) → Advances w w
advances-refl w =
    record {
      desks = refl;
      venues = refl;
      comes = λ v now there.
          record { old = now; there = there; steps = λ sound low. inl refl; orderly = λ read c. c };
    }

pub set_there : {A : Type 0} (xs : List A) (v : ℕ) (old now : A) → slice_get xs v ≡ Some old
    → slice_get (slice_set xs v now) v ≡ Some now
set_there [] v old now is = absurd cc
set_there (x ∷ xs) zero old now is = refl
set_there (x ∷ xs) (suc v) old now is = set_there xs v old now is

pub set_same : {A : Type 0} (xs : List A) (v : ℕ) (old : A) → slice_get xs v ≡ Some old → slice_set xs v old ≡ xs
set_same [] v old is = refl
set_same (x ∷ xs) zero old is = ap (λ y. y ∷ xs) (sym (same_Some x old is))
set_same (x ∷ xs) (suc v) old is = ap (λ ys. x ∷ ys) (set_same xs v old is)

venue_same : (before after : DeskParts) (u : ℕ) → slice_get after.venues u ≡ slice_get before.venues u
    → venue_at after u ≡ venue_at before u
venue_same before after u same = rw same refl

line_same : (before after : DeskParts) (u : ℕ) (venue : VenueParts) → after.sweeps ≡ before.sweeps
    → slice_get after.venues u ≡ slice_get before.venues u → line_at after u venue ≡ line_at before u venue
line_same before after u venue sweeps same =
    let gone : (venue_at after u).left ≡ (venue_at before u).left =
    ap (λ (v : DeskVenue). v.left) (venue_same before after u same) in
    rw (sweeps, gone) refl

-- what happens at a venue
at_line : (w : World) (v : ℕ) (venue : VenueParts) → venue_in w v ≡ Some venue → (after : World) (now : VenueParts)
    → Keeps v w.desk after.desk → after.venues ≡ slice_set w.venues v now
    → (AreRead venue → IsOrderly venue.exchange → IsOrderly now.exchange)
    → (IsLastLive venue.exchange → v < length w.desk.venues → Steps (line_at w.desk v venue) (line_at after.desk v now))
    → Advances w after
at_line w v venue there after now keeps set clean steps = record {
  desks = keeps.count;
  venues = ap (λ (l : List VenueParts). length l) set ∙ length-slice_set w.venues v now;
  comes = λ u other in'.
      (let got : slice_get (slice_set w.venues v now) u ≡ Some other =
      subst (λ (l : List VenueParts). slice_get l u ≡ Some other) set in' in
      elim (cases_eq v u) [
        | inl same ↦
            (let same_now : now ≡ other = same_Some now other
            (sym (set_there w.venues v venue now there)
            ∙ (ap (λ k. slice_get (slice_set w.venues v now) k) same ∙ got)) in
            subst (λ k. Comes w after k other) same
            (record {
              old = venue;
              there = there;
              steps =
                  λ sound low. subst (λ x. Steps (line_at w.desk v venue) (line_at after.desk v x)) same_now
                  (steps sound low);
              orderly = λ read c. subst (λ (x : VenueParts). IsOrderly x.exchange) same_now
                  (clean read c);
            }))
        | inr differs ↦
            record {
              old = other;
              there = sym (slice_get-set_other w.venues v u now differs) ∙ got;
              steps = λ sound low. inl (line_same w.desk after.desk u other keeps.sweeps (keeps.others u differs));
              orderly = λ read c. c;
            }
      ]);
}

-- what happens at the desk alone
at_desk : (w : World) (v : ℕ) (venue : VenueParts) → venue_in w v ≡ Some venue → (after : World)
    → Keeps v w.desk after.desk → after.venues ≡ w.venues
    → (v < length w.desk.venues → Steps (line_at w.desk v venue) (line_at after.desk v venue)) → Advances w after
at_desk w v venue there after keeps same steps =
    at_line w v venue there after venue keeps (same ∙ sym (set_same w.venues v venue there)) (λ read c. c)
    (λ sound low. steps low)

-- what is written, as it is carried
carried_all : (connection : ℕ) (messages : List Message)
    → map frame_carried (in_connection connection messages) ≡ map (carried connection) messages
carried_all connection [] = refl
carried_all connection (m ∷ messages) = ap (λ l. carried connection m ∷ l) (carried_all connection messages)

carried_more : (frames : List Frame) (connection : ℕ) (messages : List Message)
    → map frame_carried (frames ++ in_connection connection messages) ≡ map frame_carried frames
    ++ map (carried connection) messages
carried_more frames connection messages = map-append frame_carried frames (in_connection connection messages)
    ∙ ap (λ l. map frame_carried frames ++ l) (carried_all connection messages)

-- what an exchange wrote, as it is carried
written_all : (connection : ℕ) (written : List Outgoing)
    → map (carried connection) (messages_of written) ≡ map (written_in connection) written
written_all connection [] = refl
written_all connection (out ∷ written) = ap (λ l. carried connection out.message ∷ l) (written_all connection written)

written_more : (frames : List Frame) (connection : ℕ) (written : List Outgoing)
    → map frame_carried (frames ++ in_connection connection (messages_of written)) ≡ map frame_carried frames
    ++ map (written_in connection) written
written_more frames connection written =
    carried_more frames connection (messages_of written)
    ∙ ap (λ l. map frame_carried frames ++ l) (written_all connection written)

-- how many left, where a gate is turned
pub left-gate_up_from : (v : ℕ) (gate : Gate) (d : DeskParts)
    → (venue_at (gate_up_from gate d v).1 v).left ≡ (venue_at d v).left
left-gate_up_from v Up d = refl
left-gate_up_from v Shut d = refl
left-gate_up_from v Down d =
    chosen (λ (r : Result (Unit {0}) GateFault × DeskParts). (venue_at r.1 v).left ≡ (venue_at d v).left)
    (desk.placed d v == 0) (Ok tt, with_gate v Up d) (Err NotDrained, d)
    (λ drained. left-with_gate v v Up d) (λ not_drained. refl)

pub left-gate_down : (v : ℕ) (d : DeskParts) → (venue_at (gate_down d v) v).left ≡ (venue_at d v).left
left-gate_down v d = chosen (λ (x : DeskParts). (venue_at x v).left ≡ (venue_at d v).left) (is_up (gate_of d v))
    (with_gate v Down d) d (λ up. left-with_gate v v Down d) (λ not_up. refl)

pub left-shut : (v : ℕ) (d : DeskParts) → (venue_at (shut d v) v).left ≡ (venue_at d v).left
left-shut v d = chosen (λ (x : DeskParts). (venue_at x v).left ≡ (venue_at d v).left) (is_shut (gate_of d v)) d
    (with_gate v Shut d) (λ is. refl) (λ is_not. left-with_gate v v Shut d)

same_left : (before after : DeskParts) (v : ℕ) (venue : VenueParts) → after.sweeps ≡ before.sweeps
    → (venue_at after v).left ≡ (venue_at before v).left → line_at after v venue ≡ line_at before v venue
same_left before after v venue sweeps left = rw (sweeps, left) refl

-- the next leg, of those that are placed
pub numbered-drop : (n : ℕ) (xs : List Leg) (x : Leg) (rest : List Leg) → drop n xs ≡ x ∷ rest
    → numbered (suc n) xs ≡ Some x
numbered-drop zero [] x rest is = absurd cc
numbered-drop zero (first ∷ xs) x rest is = (let e : first ≡ x = cc in ap Some e)
numbered-drop (suc n) [] x rest is = absurd cc
numbered-drop (suc n) (first ∷ xs) x rest is = numbered-drop n xs x rest is

module _ (w : World) (v : ℕ) (venue : VenueParts) (there : venue_in w v ≡ Some venue) where
  abbrev here : Line
  here = line_at w.desk v venue

  up_step : Advances w (goes_up w v venue)
  up_step =
      chosen (Advances w) (is_session_up venue.session.phase) (record w { desk = (gate_up w.desk v).1 }) w
      (λ up. at_desk w v venue there _ (gate_up_keeps v w.desk) refl
      (λ low. inl
      (same_left w.desk (gate_up w.desk v).1 v venue (gate_up_keeps v w.desk).sweeps
      (left-gate_up_from v (gate_of w.desk v) w.desk))))
      (λ not_up. advances-refl w)

  down_step : Advances w (record w { desk = gate_down w.desk v })
  down_step = at_desk w v venue there _ (gate_down_keeps v w.desk) refl
      (λ low. inl
      (same_left w.desk (gate_down w.desk v) v venue (gate_down_keeps v w.desk).sweeps (left-gate_down v w.desk)))

  one_left_is : v < length w.desk.venues → (venue_at (one_left v w.desk) v).left ≡ suc (venue_at w.desk v).left
  one_left_is low = let e = left-one_left v w.desk low in omega arith

  -- a leg leaves and isn't sent
  drops_step : (leg : Leg) (rest : List Leg) → placed_legs w.desk v ≡ leg ∷ rest → (after : World)
      → after.desk ≡ one_left v w.desk → after.venues ≡ w.venues → Advances w after
  drops_step leg rest first after desk_is venues_is =
      at_desk w v venue there after (subst (Keeps v w.desk) (sym desk_is) (leave_first_keeps v (leg ∷ rest) w.desk))
      venues_is
      (λ low.
      let next = numbered-drop (venue_at w.desk v).left (released v w.desk.sweeps) leg rest first in
      inr (line.drops (slice_get_within (released v w.desk.sweeps) (venue_at w.desk v).left leg next)
      (ap (λ d. line_at d v venue) desk_is ∙ (let e = one_left_is low in rw e refl))))

  dropped_step : (legs : List Leg) → placed_legs w.desk v ≡ legs
      → Advances w (dropped_world w (leave_first legs w.desk v))
  dropped_step [] first = advances-refl w
  dropped_step (leg ∷ rest) first = drops_step leg rest first _ refl refl

  drop_step : Advances w (dropped_world w (drop_next w.desk v))
  drop_step =
      chosen (λ (r : Option PlacedLeg × DeskParts). Advances w (dropped_world w r)) (is_up (gate_of w.desk v))
      (None, w.desk) (leave w.desk v)
      (λ up. advances-refl w) (λ not_up. dropped_step (placed_legs w.desk v) refl)

  sent_step : (leg : Leg) (rest : List Leg) → placed_legs w.desk v ≡ leg ∷ rest → (answer : SessionAnswer Message)
      → send_leg venue.session ((venue_at w.desk v).left + 1) leg ≡ answer
      → Advances w (sent_world w (one_left v w.desk) v venue leg.id answer)
  sent_step leg rest first (Err NumbersSpent, session) is = drops_step leg rest first _ refl refl
  sent_step leg rest first (Err NotDown, session) is = advances-refl w
  sent_step leg rest first (Err Closed, session) is = advances-refl w
  sent_step leg rest first (Err OutOfMemory, session) is = advances-refl w
  sent_step leg rest first (Err NotUp, session) is = advances-refl w
  sent_step leg rest first (Err OrdinalNotGreater, session) is = advances-refl w
  sent_step leg rest first (Err NotConnected, session) is = advances-refl w
  sent_step leg rest first (Ok message, session) is =
      at_line w v venue there _ (session_wrote session (message ∷ []) venue)
      (leave_first_keeps v (leg ∷ rest) w.desk) refl
      (λ read c. c)
      (λ sound low.
      let next = numbered-drop (venue_at w.desk v).left (released v w.desk.sweeps) leg rest first in
      let one : (venue_at w.desk v).left + 1 ≡ suc (venue_at w.desk v).left = omega arith in
      inr (line.sends leg message session next
      (subst (λ o. send_leg venue.session o leg ≡ (Ok message, session)) one is)
      (let e = one_left_is low in let f = carried_more venue.to_exchange session.connection (message ∷ []) in
      rw (e, f) refl)))

  taken_step : (legs : List Leg) → placed_legs w.desk v ≡ legs
      → Advances w (taken_world w v venue (leave_first legs w.desk v))
  taken_step [] first = advances-refl w
  taken_step (leg ∷ rest) first = sent_step leg rest first
      (send_leg venue.session ((venue_at w.desk v).left + 1) leg) refl

  take_step : Advances w (takes w v venue)
  take_step =
      chosen (Advances w) (is_session_up venue.session.phase) (taken_world w v venue (desk.take w.desk v)) w
      (λ up.
      chosen (λ (r : Option PlacedLeg × DeskParts). Advances w (taken_world w v venue r)) (is_up (gate_of w.desk v))
      (leave w.desk v) (None, w.desk)
      (λ gate. taken_step (placed_legs w.desk v) refl) (λ gate. advances-refl w))
      (λ not_up. advances-refl w)

  -- a step at the venue alone
  at_venue_step : (after : World) (now : VenueParts) → after.desk ≡ w.desk → after.venues ≡ slice_set w.venues v now
      → (AreRead venue → IsOrderly venue.exchange → IsOrderly now.exchange)
      → (IsLastLive venue.exchange → Steps here (line_at w.desk v now)) → Advances w after
  at_venue_step after now desk_is set clean steps =
      at_line w v venue there after now (subst (Keeps v w.desk) (sym desk_is) (keeps-refl v w.desk)) set clean
      (λ sound low. subst (λ d. Steps here (line_at d v now)) (sym desk_is) (steps sound))

  wrote_line : (session : SessionParts) (messages : List Message)
      → line_at w.desk v (session_wrote session messages venue)
      ≡ record here { session = session; to_exchange = here.to_exchange ++ map (carried session.connection) messages }
  wrote_line session messages = let e = carried_more venue.to_exchange session.connection messages in rw e refl

  connected_step : (answer : SessionAnswer Message) → connect venue.session ≡ answer
      → Advances w (connected_world w v venue answer)
  connected_step (Err fault, session) is = advances-refl w
  connected_step (Ok message, session) is =
      at_venue_step _ (session_wrote session (message ∷ []) venue) refl refl
      (λ read c. c)
      (λ sound. inr (line.connects message session is (wrote_line session (message ∷ []))))

  connect_step : Advances w (connects w v venue)
  connect_step = chosen (Advances w) (may_connect w.desk v) (connected_world w v venue (connect venue.session)) w
      (λ may. connected_step (connect venue.session) refl) (λ may_not. advances-refl w)

  to_exchange_step : (number : ℕ) (found : Option Frame) → numbered number venue.to_exchange ≡ found
      → Advances w (to_exchange w v venue found)
  to_exchange_step number None is = advances-refl w
  to_exchange_step number (Some frame) is_there =
      (let a = take venue.exchange frame.connection frame.message in
      at_venue_step _ (exchange_wrote frame.connection a.0 a.1 venue) refl refl
      (λ read c. take_orderly venue.exchange c frame.connection frame.message
      (λ fault is. read (frame_carried frame) fault
      (contains_map frame_carried venue.to_exchange frame (numbered_contains number venue.to_exchange frame is_there))
      is))
      (λ sound.
      let answer = take_answers venue.exchange frame.connection frame.message sound in
      inr (line.exchanges (Some (frame_carried frame)) (rule_state a.1) (map (written_in frame.connection) a.0)
      (contains_map frame_carried venue.to_exchange frame (numbered_contains number venue.to_exchange frame is_there))
      answer.allowed
      (let e = written_more venue.from_exchange frame.connection a.0 in rw e refl))))

  to_dispatcher_step : (number : ℕ) (found : Option Frame) → numbered number venue.from_exchange ≡ found
      → Advances w (to_dispatcher w v venue found)
  to_dispatcher_step number None is = advances-refl w
  to_dispatcher_step number (Some frame) is =
      chosen (Advances w) (is_connected venue.session.phase && frame.connection == venue.session.connection)
      (session_turn w v venue (receive venue.session frame.message)) w
      (λ both.
      let two = and_parts (is_connected venue.session.phase) (frame.connection == venue.session.connection) both in
      let same : frame.connection ≡ venue.session.connection = (let t = two.1 in grind (arith, nat_tests)) in
      let turn = receive venue.session frame.message in
      at_venue_step _
      (record (session_wrote turn.session turn.step.written venue) {
        session = confirm turn.session;
        given =
            venue.given ++ noted turn.step.note;
      }) refl refl
      (λ read c. c)
      (λ sound.
      inr (line.receives frame.message
      (subst (λ c. Contains here.from_exchange (carried c frame.message)) same
      (contains_map frame_carried venue.from_exchange frame (numbered_contains number venue.from_exchange frame is)))
      two.0
      (let e = carried_more venue.to_exchange turn.session.connection turn.step.written in rw e refl))))
      (λ old. advances-refl w)

  called_step : (answer : SessionAnswer StepParts)
      → ((step : StepParts) (session : SessionParts) → answer ≡ (Ok step, session)
      → IsCallOf venue.session (record { step = step; session = session }))
      → Advances w (called_world w v venue answer)
  called_step (Err fault, session) calls = advances-refl w
  called_step (Ok step, session) calls =
      at_venue_step _ (session_wrote session step.written venue) refl refl
      (λ read c. c)
      (λ sound. inr
      (line.calls (record { step = step; session = session }) (calls step session refl)
      (wrote_line session step.written)))

  quiet_step : Advances w (called_world w v venue (quiet venue.session))
  quiet_step = called_step (quiet venue.session) (λ step session is. inl is)

  silent_step : Advances w (called_world w v venue (silent venue.session))
  silent_step = called_step (silent venue.session) (λ step session is. inr (inl is))

  -- the gate is shut with it
  shut_line : (now : VenueParts) → line_at (shut w.desk v) v now ≡ line_at w.desk v now
  shut_line now = same_left w.desk (shut w.desk v) v now (shut_keeps v w.desk).sweeps (left-shut v w.desk)

  closed_step : (answer : SessionAnswer StepParts) → close venue.session ≡ answer
      → Advances w (closed_world w v venue answer)
  closed_step (Err fault, session) is = advances-refl w
  closed_step (Ok step, session) is =
      at_line w v venue there _ (session_wrote session step.written venue) (shut_keeps v w.desk) refl
      (λ read c. c)
      (λ sound low.
      inr (line.calls (record { step = step; session = session }) (inr (inr is))
      (shut_line (session_wrote session step.written venue) ∙ wrote_line session step.written)))

  abandon_step : Advances w
      (with_venue (record w { desk = shut w.desk v }) v (record venue { session = abandon venue.session }))
  abandon_step =
      at_line w v venue there _ (record venue { session = abandon venue.session }) (shut_keeps v w.desk) refl
      (λ read c. c)
      (λ sound low. inr (line.abandons (shut_line (record venue { session = abandon venue.session }))))

  break_step : Advances w (with_venue w v (record venue { session = broken venue.session }))
  break_step = at_venue_step _ (record venue { session = broken venue.session }) refl refl (λ read c. c)
      (λ sound. inr (line.breaks refl))

  exchange_break_step : Advances w (with_venue w v (record venue { exchange = drop_connection venue.exchange }))
  exchange_break_step =
      at_venue_step _ (record venue { exchange = drop_connection venue.exchange }) refl refl
      (λ read c. drop_orderly venue.exchange c)
      (λ sound.
      inr (line.exchanges None (rule_state (drop_connection venue.exchange)) [] tt (drop_keeps venue.exchange)
      (let e = append-nil (map frame_carried venue.from_exchange) in rw e refl)))

act_keeps : (a : Act) (x : ExchangeParts) → IsLastLive x → IsAct x (act_of a x)
act_keeps (act.Trade order shares px) x sound = trade_keeps x order shares px sound
act_keeps (act.CancelRest order) x sound = cancel_rest_keeps x order sound
act_keeps (act.Reject order) x sound = reject_keeps x order sound
act_keeps (act.Bust order which) x sound = bust_keeps x order which sound
act_keeps act.Test x sound = test_keeps x sound

-- what an act writes goes into the live connection
did_line : (d : DeskParts) (v : ℕ) (venue : VenueParts) (live : Option ℕ) (written : List Outgoing)
    (exchange : ExchangeParts)
    → line_at d v (exchange_did live written exchange venue)
    ≡ record (line_at d v venue) {
      exchange = rule_state exchange;
      from_exchange = map frame_carried venue.from_exchange ++ into live written;
    }
did_line d v venue None written exchange = let e = append-nil (map frame_carried venue.from_exchange) in rw e refl
did_line d v venue (Some connection) written exchange = let e = written_more venue.from_exchange connection written in
    rw e refl

did_orderly : (venue : VenueParts) (live : Option ℕ) (written : List Outgoing) (exchange : ExchangeParts)
    → IsOrderly exchange
    → IsOrderly (exchange_did live written exchange venue).exchange
did_orderly venue None written exchange clean = clean
did_orderly venue (Some connection) written exchange clean = clean

acted_step : (w : World) (v : ℕ) (venue : VenueParts) → venue_in w v ≡ Some venue → (answer : ActAnswer)
    → (IsLastLive venue.exchange → IsAct venue.exchange answer) → (IsOrderly venue.exchange → IsOrderly answer.1)
    → Advances w (acted_world w v venue answer)
acted_step w v venue there (Err fault, exchange) keeps clean = advances-refl w
acted_step w v venue there (Ok written, exchange) keeps clean =
    at_venue_step w v venue there _ (exchange_did (live_connection venue.exchange) written exchange venue) refl refl
    (λ read c. did_orderly venue (live_connection venue.exchange) written exchange (clean c))
    (λ sound.
    inr (line.exchanges None (rule_state exchange) (into (live_connection venue.exchange) written) tt
    (keeps sound).allowed
    (did_line w.desk v venue (live_connection venue.exchange) written exchange)))

-- Release
released_more : (w after : World) (legs : List Routed)
    → after.desk ≡ record w.desk { sweeps = w.desk.sweeps ++ legs ∷ [] } → after.venues ≡ w.venues → Advances w after
released_more w after legs is same = record {
  desks = ap (λ (d : DeskParts). length d.venues) is;
  venues = ap (λ (l : List VenueParts). length l) same;
  comes = λ v now there.
      record {
        old = now;
        there = subst (λ (l : List VenueParts). slice_get l v ≡ Some now) same there;
        steps = λ sound low.
            inr (line.releases (legs_to v (length w.desk.sweeps + 1) 1 legs)
            (ap (λ d. line_at d v now) is ∙ (let e = released-push v w.desk.sweeps legs in rw e refl)));
        orderly = λ read c. c;
      };
}

placed_step : (w : World) (legs : List Routed) (receipt : Receipt) (answer : BookAnswer)
    → Advances w (released_world w (place_in_book (desk_and_book w) receipt (with_sweep legs w.desk) answer).1)
placed_step w legs receipt (Ok done, book) = released_more w _ legs refl refl
placed_step w legs receipt (Err fault, book) = advances-refl w

release_step : (w : World) (legs : List Routed) (refusal : Option ReleaseFault)
    → Advances w (released_world w (place_after (desk_and_book w) legs (release_unless refusal w.desk legs)).1)
release_step w legs (Some fault) = advances-refl w
release_step w legs None = placed_step w legs _ (open_sweep w.book _ legs)

-- each event
at_found : (w : World) (f : VenueParts → World) (found : Option VenueParts)
    → ((venue : VenueParts) → found ≡ Some venue → Advances w (f venue)) → Advances w (option_map_or f found w)
at_found w f None step = advances-refl w
at_found w f (Some venue) step = step venue refl

pub event_advances : (w : World) (e : Event) → Advances w (happens w e)
event_advances w (event.Release sweep) = release_step w sweep.legs (release_refusal w.desk sweep.legs)
event_advances w (event.GateUp v) = at_found w _ (venue_in w v) (λ venue there. up_step w v venue there)
event_advances w (event.GateDown v) = at_found w _ (venue_in w v) (λ venue there. down_step w v venue there)
event_advances w (event.Drop v) = at_found w _ (venue_in w v) (λ venue there. drop_step w v venue there)
event_advances w (event.Take v) = at_found w _ (venue_in w v) (λ venue there. take_step w v venue there)
event_advances w (event.Connect v) = at_found w _ (venue_in w v) (λ venue there. connect_step w v venue there)
event_advances w (event.ToExchange v frame) = at_found w _ (venue_in w v)
    (λ venue there. to_exchange_step w v venue there frame (numbered frame venue.to_exchange) refl)
event_advances w (event.ToDispatcher v frame) = at_found w _ (venue_in w v)
    (λ venue there. to_dispatcher_step w v venue there frame (numbered frame venue.from_exchange) refl)
event_advances w (event.Break v) = at_found w _ (venue_in w v) (λ venue there. break_step w v venue there)
event_advances w (event.ExchangeBreak v) = at_found w _ (venue_in w v)
    (λ venue there. exchange_break_step w v venue there)
event_advances w (event.Act v act) = at_found w _ (venue_in w v)
    (λ venue there. acted_step w v venue there (act_of act venue.exchange) (act_keeps act venue.exchange)
    (λ c. act_orderly venue.exchange c act))
event_advances w (event.Quiet v) = at_found w _ (venue_in w v) (λ venue there. quiet_step w v venue there)
event_advances w (event.Silent v) = at_found w _ (venue_in w v) (λ venue there. silent_step w v venue there)
event_advances w (event.Close v) = at_found w _ (venue_in w v)
    (λ venue there. closed_step w v venue there (close venue.session) refl)
event_advances w (event.Abandon v) = at_found w _ (venue_in w v) (λ venue there. abandon_step w v venue there)
