-- What an event does to the exchange of each venue: it stays where the event is the dispatcher's or another venue's.
use Rattle.std.proofs.Common.{◌≡◌, ◌==◌, ◌≤◌, ◌&&◌, ◌++◌, ℕ, true, List, [], ◌∷◌, length, map, max, Option, Some, None, Ok, Err, nat_le, refl, sym, ap, subst, ◌∙◌, inl, inr, arith}
use Rattle.std.specs.Prelude.{slice_get, slice_set}
use Rattle.std.specs.Option.{option_map_or}
use Rattle.std.proofs.lemmas.Bool.{cases_eq, eq-eqb, le-leb}
use Rattle.std.proofs.lemmas.List.{append-nil, map-append}
use Rattle.std.proofs.lemmas.Option.{same_Some}
use Rattle.leg.specs.LegId.{LegIdParts}
use Rattle.leg.specs.Numbered.{numbered}
use Rattle.leg.specs.declared.placed_leg.PlacedLeg.{PlacedLeg}
use Rattle.dialect.specs.declared.message.Message.{Message}
use Rattle.dialect.specs.declared.outgoing.Outgoing.{Outgoing}
use Rattle.session_core.specs.declared.session_fault.SessionFault.TheVariants.{NotDown, Closed, NumbersSpent, OutOfMemory, NotUp, OrdinalNotGreater, NotConnected}
use Rattle.session_core.specs.Session.{is_connected}
use Rattle.session_core.specs.Turn.{StepParts}
use Rattle.session_core.specs.Receiving.{receive}
use Rattle.session_core.specs.Calling.{SessionAnswer, connect, send_leg, quiet, silent, close}
use Rattle.exchange_core.specs.Acceptance.{May}
use Rattle.exchange_core.specs.Keeping.{carried, written_in, rule_state, into, IsLastLive, IsAct}
use Rattle.exchange_core.specs.Exchange.{ExchangeParts, live_connection, take, drop_connection}
use Rattle.exchange_core.specs.Acts.{ActAnswer}
use Rattle.exchange_core.proofs.Entries.{chosen}
use Rattle.exchange_core.proofs.Answers.{take_answers}
use Rattle.exchange_core.proofs.ActsKeep.{trade_keeps, cancel_rest_keeps, reject_keeps, bust_keeps, test_keeps, drop_keeps}
use Rattle.sweep_release.specs.Desk.{DeskParts, drop_next}
use Rattle.sweep_release.specs.Desk as desk
use Rattle.schedule.specs.declared.act.Act.{Act}
use Rattle.schedule.specs.declared.act.Act.TheVariants as act
use Rattle.schedule.specs.declared.event.Event.{Event}
use Rattle.schedule.specs.declared.event.Event.TheVariants as event
use Rattle.schedule.specs.World.{World, VenueParts, Frame, venue_in}
use Rattle.schedule.specs.Happening.{with_venue, exchange_wrote, in_connection, messages_of, dropped_world, sent_world, taken_world, connected_world, to_exchange, exchange_did, session_turn, to_dispatcher, acted_world, act_of, called_world, closed_world, may_connect, is_session_up, happens}
use Rattle.schedule.specs.Growing.{named}
use Rattle.schedule.specs.LineOf.{frame_carried}
use Rattle.schedule.proofs.Grown.{slice_get-set_other}
use Rattle.schedule.proofs.Happened.{others_untouched}
use Rattle.schedule.proofs.Lines.{set_there}
use Rattle.world_restart.specs.Journal.{reached_by, reached_at}
use Rattle.world_restart.proofs.Aside.{ExchangeGoes, still, alone, takes}
use Rattle.world_restart.proofs.Places.{numbered_low}

-- the exchanges stay as they are
record Alike (w after : World) : Type 0 where
  same : (v : ℕ) (old now : VenueParts) → venue_in w v ≡ Some old → venue_in after v ≡ Some now
      → (now.exchange ≡ old.exchange) × (now.from_exchange ≡ old.from_exchange)

alike_parts : (old now : VenueParts) → now ≡ old
    → (now.exchange ≡ old.exchange) × (now.from_exchange ≡ old.from_exchange)
alike_parts old now same = (ap (λ (x : VenueParts). x.exchange) same, ap (λ (x : VenueParts). x.from_exchange) same)

alike_venues : (w after : World) → after.venues ≡ w.venues → Alike w after
alike_venues w after same = record {
  same = λ v old now there is.
      alike_parts old now
      (same_Some now old (sym is ∙ (ap (λ (l : List VenueParts). slice_get l v) same ∙ there)));
}

alike-refl : (w : World) → Alike w w
alike-refl w = alike_venues w w refl

module _ (w : World) (v : ℕ) (venue : VenueParts) (there : venue_in w v ≡ Some venue) where
  alike_set : (after : World) (now : VenueParts) → after.venues ≡ slice_set w.venues v now
      → now.exchange ≡ venue.exchange → now.from_exchange ≡ venue.from_exchange → Alike w after
  alike_set after now set exchange from = record { same = other_or_this }
    where
      other_or_this : (u : ℕ) (old other : VenueParts) → venue_in w u ≡ Some old → venue_in after u ≡ Some other
          → (other.exchange ≡ old.exchange) × (other.from_exchange ≡ old.from_exchange)
      other_or_this u old other in' is =
          elim (cases_eq v u) [
            | inl at ↦
                (let here : slice_get after.venues v ≡ Some now =
                ap (λ (l : List VenueParts). slice_get l v) set ∙ set_there w.venues v venue now there in
                let one : other ≡ now =
                same_Some other now (sym is ∙ (ap (slice_get after.venues) (sym at) ∙ here)) in
                let was : venue ≡ old = same_Some venue old (sym there ∙ (ap (venue_in w) at ∙ in')) in (
                  ap (λ (x : VenueParts). x.exchange) one ∙ (exchange ∙ ap (λ (x : VenueParts). x.exchange) was),
                  ap (λ (x : VenueParts). x.from_exchange) one
                      ∙ (from ∙ ap (λ (x : VenueParts). x.from_exchange) was),
                ))
            | inr differs ↦
                alike_parts old other
                (same_Some other old
                (sym is ∙ (ap (λ (l : List VenueParts). slice_get l u) set
                ∙ (slice_get-set_other w.venues v u now differs ∙ in'))))
          ]

  -- a leg leaves
  dropped_alike : (r : Option PlacedLeg × DeskParts) → Alike w (dropped_world w r)
  dropped_alike (None, d) = alike-refl w
  dropped_alike (Some placed, d) = alike_venues w _ refl

  sent_alike : (d : DeskParts) (id : LegIdParts) (answer : SessionAnswer Message)
      → Alike w (sent_world w d v venue id answer)
  sent_alike d id (Ok message, s) = alike_set _ _ refl refl refl
  sent_alike d id (Err NumbersSpent, s) = alike_venues w _ refl
  sent_alike d id (Err NotDown, s) = alike-refl w
  sent_alike d id (Err Closed, s) = alike-refl w
  sent_alike d id (Err OutOfMemory, s) = alike-refl w
  sent_alike d id (Err NotUp, s) = alike-refl w
  sent_alike d id (Err OrdinalNotGreater, s) = alike-refl w
  sent_alike d id (Err NotConnected, s) = alike-refl w

  taken_alike : (r : Option PlacedLeg × DeskParts) → Alike w (taken_world w v venue r)
  taken_alike (None, d) = alike-refl w
  taken_alike (Some placed, d) = sent_alike d placed.leg.id (send_leg venue.session placed.ordinal placed.leg)

  -- the calls of the session
  connected_alike : (answer : SessionAnswer Message) → Alike w (connected_world w v venue answer)
  connected_alike (Ok message, s) = alike_set _ _ refl refl refl
  connected_alike (Err fault, s) = alike-refl w

  called_alike : (answer : SessionAnswer StepParts) → Alike w (called_world w v venue answer)
  called_alike (Ok step, s) = alike_set _ _ refl refl refl
  called_alike (Err fault, s) = alike-refl w

  closed_alike : (answer : SessionAnswer StepParts) → Alike w (closed_world w v venue answer)
  closed_alike (Ok step, s) = alike_set _ _ refl refl refl
  closed_alike (Err fault, s) = alike-refl w

  to_dispatcher_alike : (found : Option Frame) → Alike w (to_dispatcher w v venue found)
  to_dispatcher_alike None = alike-refl w
  to_dispatcher_alike (Some frame) =
      chosen (Alike w) (is_connected venue.session.phase && frame.connection == venue.session.connection)
      (session_turn w v venue (receive venue.session frame.message)) w
      (λ on. alike_set _ _ refl refl refl) (λ old. alike-refl w)

alike_found : (w : World) (f : VenueParts → World) (found : Option VenueParts)
    → ((venue : VenueParts) → found ≡ Some venue → Alike w (f venue)) → Alike w (option_map_or f found w)
alike_found w f None step = alike-refl w
alike_found w f (Some venue) step = step venue refl

-- the exchange's own events
goes_by : (old now : VenueParts) (reached : ℕ)
    → (now.exchange ≡ old.exchange) × (now.from_exchange ≡ old.from_exchange) → ExchangeGoes old now reached
goes_by old now reached same = still same.0 same.1

goes-refl : (v : ℕ) (w : World) (old now : VenueParts) (reached : ℕ) → venue_in w v ≡ Some old
    → venue_in w v ≡ Some now → ExchangeGoes old now reached
goes-refl v w old now reached there is = goes_by old now reached ((alike-refl w).same v old now there is)

-- what was written, as it is carried
written_all : (connection : ℕ) (written : List Outgoing)
    → map frame_carried (in_connection connection (messages_of written)) ≡ map (written_in connection) written
written_all connection [] = refl
written_all connection (out ∷ written) =
    ap (λ l. carried connection out.message ∷ l) (written_all connection written)

written_more : (frames : List Frame) (connection : ℕ) (written : List Outgoing)
    → map frame_carried (frames ++ in_connection connection (messages_of written))
    ≡ map frame_carried frames ++ map (written_in connection) written
written_more frames connection written =
    map-append frame_carried frames (in_connection connection (messages_of written))
    ∙ ap (λ l. map frame_carried frames ++ l) (written_all connection written)

did_from : (venue : VenueParts) (live : Option ℕ) (written : List Outgoing) (exchange : ExchangeParts)
    → map frame_carried (exchange_did live written exchange venue).from_exchange
    ≡ map frame_carried venue.from_exchange ++ into live written
did_from venue None written exchange = sym (append-nil (map frame_carried venue.from_exchange))
did_from venue (Some connection) written exchange = written_more venue.from_exchange connection written

did_exchange : (venue : VenueParts) (live : Option ℕ) (written : List Outgoing) (exchange : ExchangeParts)
    → (exchange_did live written exchange venue).exchange ≡ exchange
did_exchange venue None written exchange = refl
did_exchange venue (Some connection) written exchange = refl

act_keeps : (a : Act) (x : ExchangeParts) → IsLastLive x → IsAct x (act_of a x)
act_keeps (act.Trade order shares px) x sound = trade_keeps x order shares px sound
act_keeps (act.CancelRest order) x sound = cancel_rest_keeps x order sound
act_keeps (act.Reject order) x sound = reject_keeps x order sound
act_keeps (act.Bust order which) x sound = bust_keeps x order which sound
act_keeps act.Test x sound = test_keeps x sound

-- how the exchange of a venue goes on to another world
record Goes (v : ℕ) (old : VenueParts) (reached : ℕ) (after : World) : Type 0 where
  goes : (now : VenueParts) → venue_in after v ≡ Some now → ExchangeGoes old now reached

module _ (w : World) (v : ℕ) (old : VenueParts) (there : venue_in w v ≡ Some old) (reached : ℕ) where
  goes_nowhere : Goes v old reached w
  goes_nowhere = record { goes = λ now is. goes-refl v w old now reached there is }

  goes_set : (now : VenueParts) → ExchangeGoes old now reached → (after : World)
      → after.venues ≡ slice_set w.venues v now → Goes v old reached after
  goes_set now on after set =
      let here : slice_get after.venues v ≡ Some now =
      ap (λ (l : List VenueParts). slice_get l v) set ∙ set_there w.venues v old now there in
      record {
        goes = λ other is.
            subst (λ x. ExchangeGoes old x reached) (same_Some now other (sym here ∙ is)) on;
      }

  to_exchange_goes : IsLastLive old.exchange → (number : ℕ) (found : Option Frame)
      → numbered number old.to_exchange ≡ found → (number ≤ length old.to_exchange → number ≤ reached)
      → Goes v old reached (to_exchange w v old found)
  to_exchange_goes sound number None is below = goes_nowhere
  to_exchange_goes sound number (Some frame) is below =
      let a = take old.exchange frame.connection frame.message in
      let answer = take_answers old.exchange frame.connection frame.message sound in
      goes_set (exchange_wrote frame.connection a.0 a.1 old)
      (takes number frame (map (written_in frame.connection) a.0) is
      (below (numbered_low number old.to_exchange frame is).1) answer.allowed
      (written_more old.from_exchange frame.connection a.0)) _ refl

  acted_goes : (answer : ActAnswer) → IsAct old.exchange answer → Goes v old reached (acted_world w v old answer)
  acted_goes (Err fault, exchange) keeps = goes_nowhere
  acted_goes (Ok written, exchange) keeps =
      let live = live_connection old.exchange in
      goes_set (exchange_did live written exchange old)
      (alone (into live written)
      (subst (λ x. May (rule_state old.exchange) None (rule_state x) (into live written))
      (sym (did_exchange old live written exchange)) keeps.allowed)
      (did_from old live written exchange)) _ refl

  break_goes : Goes v old reached (with_venue w v (record old { exchange = drop_connection old.exchange }))
  break_goes =
      goes_set (record old { exchange = drop_connection old.exchange })
      (alone [] (drop_keeps old.exchange) (sym (append-nil (map frame_carried old.from_exchange)))) _ refl

at_found : (w : World) (v : ℕ) (old : VenueParts) → venue_in w v ≡ Some old → (P : World → Type 0)
    → (f : VenueParts → World) → P (f old) → P (option_map_or f (venue_in w v) w)
at_found w v old there P f is =
    subst (λ (o : Option VenueParts). P (option_map_or f o w)) (sym there) is

-- at another venue
goes_elsewhere : (w : World) (e : Event) (at v : ℕ) → named e ≡ Some at → (at ≡ v → ⊥) → (old now : VenueParts)
    → venue_in w v ≡ Some old → venue_in (happens w e) v ≡ Some now → (reached : ℕ) → ExchangeGoes old now reached
goes_elsewhere w e at v names differs old now there is reached =
    let untouched = others_untouched w e v (λ same. differs (same_Some at v (sym names ∙ same))) in
    goes_by old now reached
    (alike_parts old now (same_Some now old (sym is ∙ (untouched.venue ∙ there))))

-- a frame that comes is reached
reached_there : (w : World) (v : ℕ) (old : VenueParts) → venue_in w v ≡ Some old → (at frame reached : ℕ) → at ≡ v
    → frame ≤ length old.to_exchange → frame ≤ reached_at w (event.ToExchange at frame) v reached
reached_there w v old there at frame reached same low =
    let here : (at == v) ≡ true = eq-eqb at v same in
    let written : nat_le frame (length old.to_exchange) ≡ true = le-leb frame (length old.to_exchange) low in
    rw (here, there, written) (omega arith)

reached_by_grows : (frame reached : ℕ) (venue : VenueParts) → reached ≤ reached_by frame reached venue
reached_by_grows frame reached venue =
    chosen (λ n. reached ≤ n) (nat_le frame (length venue.to_exchange)) (max reached frame) reached
    (λ is. omega arith) (λ isnt. omega arith)

reached_found : (frame reached : ℕ) (found : Option VenueParts)
    → reached ≤ option_map_or (reached_by frame reached) found reached
reached_found frame reached None = omega arith
reached_found frame reached (Some venue) = reached_by_grows frame reached venue

pub reached_grows : (w : World) (e : Event) (v reached : ℕ) → reached ≤ reached_at w e v reached
reached_grows w (event.ToExchange at frame) v reached =
    chosen (λ n. reached ≤ n) (at == v) (option_map_or (reached_by frame reached) (venue_in w v) reached) reached
    (λ is. reached_found frame reached (venue_in w v)) (λ isnt. omega arith)
reached_grows w (event.Release sweep) v reached = omega arith
reached_grows w (event.GateUp at) v reached = omega arith
reached_grows w (event.GateDown at) v reached = omega arith
reached_grows w (event.Drop at) v reached = omega arith
reached_grows w (event.Take at) v reached = omega arith
reached_grows w (event.Connect at) v reached = omega arith
reached_grows w (event.ToDispatcher at frame) v reached = omega arith
reached_grows w (event.Break at) v reached = omega arith
reached_grows w (event.ExchangeBreak at) v reached = omega arith
reached_grows w (event.Act at act) v reached = omega arith
reached_grows w (event.Quiet at) v reached = omega arith
reached_grows w (event.Silent at) v reached = omega arith
reached_grows w (event.Close at) v reached = omega arith
reached_grows w (event.Abandon at) v reached = omega arith

-- each event
module _ (w : World) (v : ℕ) (old now : VenueParts) (there : venue_in w v ≡ Some old) (reached : ℕ)
    (sound : IsLastLive old.exchange) where
  by_alike : (after : World) → Alike w after → venue_in after v ≡ Some now → (r : ℕ) → ExchangeGoes old now r
  by_alike after alike is r = goes_by old now r (alike.same v old now there is)

  pub event_goes : (e : Event) → venue_in (happens w e) v ≡ Some now
      → ExchangeGoes old now (reached_at w e v reached)
  event_goes (event.Release sweep) is = by_alike (happens w (event.Release sweep)) (alike_venues w _ refl) is reached
  event_goes (event.GateUp at) is =
      by_alike (happens w (event.GateUp at))
      (alike_found w _ (venue_in w at)
      (λ venue found.
      chosen (Alike w) (is_session_up venue.session.phase) _ w (λ up. alike_venues w _ refl)
      (λ not_up. alike-refl w))) is reached
  event_goes (event.GateDown at) is =
      by_alike (happens w (event.GateDown at)) (alike_found w _ (venue_in w at) (λ venue found. alike_venues w _ refl))
      is reached
  event_goes (event.Drop at) is =
      by_alike (happens w (event.Drop at))
      (alike_found w _ (venue_in w at) (λ venue found. dropped_alike w at venue found (drop_next w.desk at))) is reached
  event_goes (event.Take at) is =
      by_alike (happens w (event.Take at))
      (alike_found w _ (venue_in w at)
      (λ venue found.
      chosen (Alike w) (is_session_up venue.session.phase) _ w
      (λ up. taken_alike w at venue found (desk.take w.desk at)) (λ not_up. alike-refl w))) is reached
  event_goes (event.Connect at) is =
      by_alike (happens w (event.Connect at))
      (alike_found w _ (venue_in w at)
      (λ venue found.
      chosen (Alike w) (may_connect w.desk at) _ w
      (λ may. connected_alike w at venue found (connect venue.session)) (λ may_not. alike-refl w))) is reached
  event_goes (event.ToDispatcher at frame) is =
      by_alike (happens w (event.ToDispatcher at frame))
      (alike_found w _ (venue_in w at)
      (λ venue found. to_dispatcher_alike w at venue found (numbered frame venue.from_exchange))) is reached
  event_goes (event.Break at) is =
      by_alike (happens w (event.Break at))
      (alike_found w _ (venue_in w at) (λ venue found. alike_set w at venue found _ _ refl refl refl)) is reached
  event_goes (event.Quiet at) is =
      by_alike (happens w (event.Quiet at))
      (alike_found w _ (venue_in w at) (λ venue found. called_alike w at venue found (quiet venue.session))) is reached
  event_goes (event.Silent at) is =
      by_alike (happens w (event.Silent at))
      (alike_found w _ (venue_in w at) (λ venue found. called_alike w at venue found (silent venue.session))) is
      reached
  event_goes (event.Close at) is =
      by_alike (happens w (event.Close at))
      (alike_found w _ (venue_in w at) (λ venue found. closed_alike w at venue found (close venue.session))) is reached
  event_goes (event.Abandon at) is =
      by_alike (happens w (event.Abandon at))
      (alike_found w _ (venue_in w at) (λ venue found. alike_set w at venue found _ _ refl refl refl)) is reached
  event_goes (event.ToExchange at frame) is =
      elim (cases_eq at v) [
        | inl same ↦
            (let r = reached_at w (event.ToExchange at frame) v reached in
            let low : frame ≤ length old.to_exchange → frame ≤ r =
            λ within. reached_there w v old there at frame reached same within in
            (at_found w v old there (Goes v old r)
            (λ venue. to_exchange w v venue (numbered frame venue.to_exchange))
            (to_exchange_goes w v old there r sound frame (numbered frame old.to_exchange) refl low)).goes now
            (subst (λ k. venue_in (happens w (event.ToExchange k frame)) v ≡ Some now) same is))
        | inr differs ↦
            goes_elsewhere w (event.ToExchange at frame) at v refl differs old now there is _
      ]
  event_goes (event.ExchangeBreak at) is =
      elim (cases_eq at v) [
        | inl same ↦
            (at_found w v old there (Goes v old reached)
            (λ venue. with_venue w v (record venue { exchange = drop_connection venue.exchange }))
            (break_goes w v old there reached)).goes now
            (subst (λ k. venue_in (happens w (event.ExchangeBreak k)) v ≡ Some now) same is)
        | inr differs ↦ goes_elsewhere w (event.ExchangeBreak at) at v refl differs old now there is reached
      ]
  event_goes (event.Act at act) is =
      elim (cases_eq at v) [
        | inl same ↦
            (at_found w v old there (Goes v old reached)
            (λ venue. acted_world w v venue (act_of act venue.exchange))
            (acted_goes w v old there reached (act_of act old.exchange) (act_keeps act old.exchange sound))).goes now
            (subst (λ k. venue_in (happens w (event.Act k act)) v ≡ Some now) same is)
        | inr differs ↦ goes_elsewhere w (event.Act at act) at v refl differs old now there is reached
      ]
