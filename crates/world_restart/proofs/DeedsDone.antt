-- The last line of a venue's journal tells how the dispatcher stands there, and an event's deed makes the next line.
use Rattle.std.proofs.Common.{◌≡◌, ◌==◌, ◌&&◌, ◌<◌, ◌+◌, ℕ, Bool, true, false, List, [], ◌∷◌, length, Option, Some, None, Result, Ok, Err, refl, sym, ap, subst, ◌∙◌, inl, inr, if◌then◌else◌, arith}
use Rattle.std.specs.Prelude.{IfSome, slice_get, slice_set, unwrap_or}
use Rattle.std.specs.Option.{option_map_or}
use Rattle.std.proofs.lemmas.Bool.{cases_eq, eq-eqb, ne_eqb}
use Rattle.std.proofs.lemmas.Option.{same_Some, slice_get_within}
use Rattle.leg.specs.Numbered.{numbered}
use Rattle.leg.specs.declared.leg.Leg.{Leg}
use Rattle.leg.specs.declared.placed_leg.PlacedLeg.{PlacedLeg}
use Rattle.dialect.specs.declared.message.Message.{Message}
use Rattle.dialect.specs.declared.note.Note.{Note}
use Rattle.dialect.specs.declared.outgoing.Outgoing.{Outgoing}
use Rattle.session_core.specs.declared.session_fault.SessionFault.TheVariants.{NotDown, NumbersSpent, OutOfMemory, NotUp, OrdinalNotGreater, NotConnected}
use Rattle.session_core.specs.declared.session_fault.SessionFault.TheVariants as fault
use Rattle.session_core.specs.Session.{SessionParts, is_connected}
use Rattle.session_core.specs.Turn.{StepParts}
use Rattle.session_core.specs.Receiving.{receive}
use Rattle.session_core.specs.Calling.{SessionAnswer, connect, send_leg, quiet, silent, close, broken, abandon}
use Rattle.exchange_core.specs.Exchange.{ExchangeParts, live_connection, take, drop_connection}
use Rattle.exchange_core.specs.Acts.{ActAnswer}
use Rattle.exchange_core.proofs.Entries.{chosen}
use Rattle.sweep_release.specs.declared.gate.Gate.{Gate}
use Rattle.sweep_release.specs.declared.gate.Gate.TheVariants.{Up, Down, Shut}
use Rattle.sweep_release.specs.declared.gate_fault.GateFault.{GateFault}
use Rattle.sweep_release.specs.declared.gate_fault.GateFault.TheVariants.{NotDrained}
use Rattle.sweep_release.specs.Desk.{DeskParts, DeskVenue, venue_at, placed_legs, gate_of, is_up, is_shut, one_left, with_gate, gate_up, gate_up_from, gate_down, shut, leave, leave_first, drop_next}
use Rattle.sweep_release.specs.Desk as desk
use Rattle.sweep_release.proofs.Venues.{venue_at-this, left-one_left, gate_of-one_left}
use Rattle.schedule.specs.declared.event.Event.{Event}
use Rattle.schedule.specs.declared.event.Event.TheVariants as event
use Rattle.schedule.specs.World.{World, VenueParts, Frame, venue_in, opening}
use Rattle.schedule.specs.Happening.{with_venue, session_wrote, exchange_wrote, exchange_did, dropped_world, sent_world, taken_world, connected_world, to_exchange, session_turn, to_dispatcher, acted_world, act_of, called_world, closed_world, may_connect, is_session_up, goes_up, takes, connects, happens}
use Rattle.schedule.specs.Growing.{named}
use Rattle.schedule.specs.SweepTheorem.{IsOpening}
use Rattle.schedule.proofs.Happened.{others_untouched, event_is_later}
use Rattle.schedule.proofs.Lines.{set_there, event_advances, left-gate_up_from, left-gate_down, left-shut}
use Rattle.schedule.proofs.RunsSafely.{IsSafe}
use Rattle.world_restart.specs.Journal.{Standing, Journal, standing_at, new_journal, add_line, with_line, writes_at, reached_at, journal_after}
use Rattle.world_restart.specs.Start.{Day, Loss, may_lose, lines_kept, world_started, journal_started, day_started}
use Rattle.world_restart.specs.Day.{DayEvent, opening_day, after_event, day_happens, day_happen, run_day}
use Rattle.world_restart.specs.Day.DayEvent.{Goes, Crash}
use Rattle.world_restart.specs.Deeds.Deed.{Nothing, Dropped, Connected, Abandoned, Received}
use Rattle.world_restart.specs.Deeds.{Deed, drop_deed, sent_deed, take_deed, frame_deed, deed_of, said_again, sent_again, called_again, closed_again, again, GoesByDeeds, TheDeedsGiveTheLines}
use Rattle.world_restart.proofs.Places.{each_of, get_within}
use Rattle.world_restart.proofs.DayHolds.{IsKeptDay, day_keeps, day_opening}

-- a standing by its parts
standing_is : {left more : ℕ} {is_shut now : Bool} {session s : SessionParts} {to t : List Frame} {given g : List Note}
    → left ≡ more → is_shut ≡ now → session ≡ s → to ≡ t → given ≡ g
    → ◌≡◌ {A = Standing}
    (record { left = left; is_shut = is_shut; session = session; to_exchange = to; given = given })
    (record { left = more; is_shut = now; session = s; to_exchange = t; given = g })
standing_is left gate session to given = λ i. record {
  left = left i;
  is_shut = gate i;
  session = session i;
  to_exchange = to i;
  given = given i;
}

-- whether a gate is shut
shut_up : (gate : Gate) → is_up gate ≡ true → is_shut gate ≡ false
shut_up Up is = refl
shut_up Down is = absurd cc
shut_up Shut is = absurd cc

module _ (v : ℕ) (d : DeskParts) (low : v < length d.venues) where
  gate_put : (gate : Gate) → gate_of (with_gate v gate d) v ≡ gate
  gate_put gate =
      ap (λ (x : DeskVenue). x.gate) (venue_at-this v (record { gate = gate; left = (venue_at d v).left }) d low)

  shut-gate_up : (gate : Gate) → gate_of d v ≡ gate
      → is_shut (gate_of (gate_up_from gate d v).1 v) ≡ is_shut (gate_of d v)
  shut-gate_up Up is = refl
  shut-gate_up Shut is = refl
  shut-gate_up Down is =
      chosen (λ (r : Result (Unit {0}) GateFault × DeskParts). is_shut (gate_of r.1 v) ≡ is_shut (gate_of d v))
      (desk.placed d v == 0) (Ok tt, with_gate v Up d) (Err NotDrained, d)
      (λ drained. ap is_shut (gate_put Up) ∙ sym (ap is_shut is)) (λ not_drained. refl)

  shut-gate_down : is_shut (gate_of (gate_down d v) v) ≡ is_shut (gate_of d v)
  shut-gate_down =
      chosen (λ (x : DeskParts). is_shut (gate_of x v) ≡ is_shut (gate_of d v)) (is_up (gate_of d v))
      (with_gate v Down d) d (λ up. ap is_shut (gate_put Down) ∙ sym (shut_up (gate_of d v) up)) (λ not_up. refl)

  shut-shut : is_shut (gate_of (shut d v) v) ≡ true
  shut-shut =
      chosen (λ (x : DeskParts). is_shut (gate_of x v) ≡ true) (is_shut (gate_of d v)) d (with_gate v Shut d)
      (λ is. is) (λ isnt. ap is_shut (gate_put Shut))

-- a venue of a desk, if it is found
abbrev venue_by : Option DeskVenue → DeskVenue
venue_by found = unwrap_or {T = DeskVenue} found (record { gate = Shut; left = 0 })

-- how the dispatcher stands at a venue in another world
pub record Leads (v : ℕ) (after : World) (s : Standing) : Type 0 where
  pub to : (now : VenueParts) → venue_in after v ≡ Some now → standing_at after v now ≡ s

-- of two worlds and two standings, those of a test
both_chosen : (v : ℕ) (b : Bool) (x y : World) (of : Deed → Standing) (deed other : Deed)
    → (b ≡ true → Leads v x (of deed)) → (b ≡ false → Leads v y (of other))
    → Leads v (if b then x else y) (of (if b then deed else other))
both_chosen v true x y of deed other holds fails = holds refl
both_chosen v false x y of deed other holds fails = fails refl

when : (v : ℕ) (after : World) (b : Bool) (s t : Standing) → b ≡ true → Leads v after s
    → Leads v after (if b then s else t)
when v after true s t is leads = leads
when v after false s t is leads = absurd cc

unless : (v : ℕ) (after : World) (b : Bool) (s t : Standing) → b ≡ false → Leads v after t
    → Leads v after (if b then s else t)
unless v after false s t is leads = leads
unless v after true s t is leads = absurd cc

module _ (w : World) (v : ℕ) (old : VenueParts) (there : venue_in w v ≡ Some old)
    (low : v < length w.desk.venues) where
  abbrev s : Standing
  s = standing_at w v old

  leads_same : (after : World) (t : Standing) → after.venues ≡ w.venues → standing_at after v old ≡ t
      → Leads v after t
  leads_same after t same is = record {
    to = λ now there'.
        (let one : old ≡ now =
        same_Some old now (sym there ∙ (ap (λ (l : List VenueParts). slice_get l v) (sym same) ∙ there')) in
        ap (standing_at after v) (sym one) ∙ is);
  }

  leads_set : (after : World) (now : VenueParts) (t : Standing) → after.venues ≡ slice_set w.venues v now
      → standing_at after v now ≡ t → Leads v after t
  leads_set after now t set is = record {
    to = λ other there'.
        (let here : slice_get after.venues v ≡ Some now =
        ap (λ (l : List VenueParts). slice_get l v) set ∙ set_there w.venues v old now there in
        let one : now ≡ other = same_Some now other (sym here ∙ there') in
        ap (standing_at after v) (sym one) ∙ is);
  }

  stays : Leads v w (standing_at w v old)
  stays = leads_same w (standing_at w v old) refl refl

  -- the gates
  up_leads : Leads v (goes_up w v old) (standing_at w v old)
  up_leads =
      chosen (λ x. Leads v x (standing_at w v old)) (is_session_up old.session.phase)
      (record w { desk = (gate_up w.desk v).1 }) w
      (λ up.
      leads_same _ (standing_at w v old) refl
      (standing_is (left-gate_up_from v (gate_of w.desk v) w.desk)
      (shut-gate_up v w.desk low (gate_of w.desk v) refl) refl refl refl))
      (λ not_up. stays)

  down_leads : Leads v (record w { desk = gate_down w.desk v }) (standing_at w v old)
  down_leads =
      leads_same _ (standing_at w v old) refl
      (standing_is (left-gate_down v w.desk) (shut-gate_down v w.desk low) refl refl refl)

  -- the exchange's events
  taken_leads : (found : Option Frame) → Leads v (to_exchange w v old found) (standing_at w v old)
  taken_leads None = stays
  taken_leads (Some frame) =
      let a = take old.exchange frame.connection frame.message in
      leads_set _ (exchange_wrote frame.connection a.0 a.1 old) (standing_at w v old) refl refl

  dropped_leads : Leads v (with_venue w v (record old { exchange = drop_connection old.exchange }))
      (standing_at w v old)
  dropped_leads =
      leads_set _ (record old { exchange = drop_connection old.exchange }) (standing_at w v old) refl refl

  did_stands : (live : Option ℕ) (written : List Outgoing) (exchange : ExchangeParts) (after : World)
      → after.desk ≡ w.desk
      → standing_at after v (exchange_did live written exchange old) ≡ standing_at w v old
  did_stands None written exchange after same = ap (λ d. standing_at (record w { desk = d }) v old) same
  did_stands (Some connection) written exchange after same =
      ap (λ d. standing_at (record w { desk = d }) v old) same

  acted_leads : (answer : ActAnswer) → Leads v (acted_world w v old answer) (standing_at w v old)
  acted_leads (Err fault, exchange) = stays
  acted_leads (Ok written, exchange) =
      let live = live_connection old.exchange in
      leads_set _ (exchange_did live written exchange old) (standing_at w v old) refl
      (did_stands live written exchange (acted_world w v old (Ok written, exchange)) refl)

  -- a leg leaves
  one_leaves : (after : World) (t : Standing) → after.venues ≡ w.venues → after.desk ≡ one_left v w.desk
      → t ≡ again (standing_at w v old) Dropped → Leads v after t
  one_leaves after t same desk_is is =
      leads_same after t same
      (ap (λ d. standing_at (record w { desk = d }) v old) desk_is
      ∙ (standing_is (left-one_left v w.desk low) (ap is_shut (gate_of-one_left v v w.desk)) refl refl refl
      ∙ sym is))

  drop_by : (legs : List Leg)
      → Leads v (dropped_world w (leave_first legs w.desk v))
      (again (standing_at w v old) (drop_deed (leave_first legs w.desk v).0))
  drop_by [] = stays
  drop_by (leg ∷ legs) = one_leaves _ _ refl refl refl

  drop_leads : Leads v (dropped_world w (drop_next w.desk v))
      (again (standing_at w v old) (drop_deed (drop_next w.desk v).0))
  drop_leads =
      chosen
      (λ (r : Option PlacedLeg × DeskParts). Leads v (dropped_world w r)
      (again (standing_at w v old) (drop_deed r.0))) (is_up (gate_of w.desk v)) (None, w.desk) (leave w.desk v)
      (λ up. stays) (λ not_up. drop_by (placed_legs w.desk v))

  sent_leads : (placed : PlacedLeg) (answer : SessionAnswer Message)
      → send_leg old.session placed.ordinal placed.leg ≡ answer
      → Leads v (sent_world w (one_left v w.desk) v old placed.leg.id answer)
      (again (standing_at w v old) (sent_deed placed answer))
  sent_leads placed (Ok message, session) is =
      leads_set _ (session_wrote session (message ∷ []) old) _ refl
      (standing_is (left-one_left v w.desk low) (ap is_shut (gate_of-one_left v v w.desk)) refl refl refl
      ∙ sym (ap (sent_again (standing_at w v old)) is))
  sent_leads placed (Err NumbersSpent, session) is = one_leaves _ _ refl refl refl
  sent_leads placed (Err NotDown, session) is = stays
  sent_leads placed (Err fault.Closed, session) is = stays
  sent_leads placed (Err OutOfMemory, session) is = stays
  sent_leads placed (Err NotUp, session) is = stays
  sent_leads placed (Err OrdinalNotGreater, session) is = stays
  sent_leads placed (Err NotConnected, session) is = stays

  take_by : (legs : List Leg)
      → Leads v (taken_world w v old (leave_first legs w.desk v))
      (again (standing_at w v old) (take_deed old.session (leave_first legs w.desk v).0))
  take_by [] = stays
  take_by (leg ∷ legs) =
      sent_leads (record { ordinal = (venue_at w.desk v).left + 1; leg = leg })
      (send_leg old.session ((venue_at w.desk v).left + 1) leg) refl

  take_leads : Leads v (takes w v old)
      (again (standing_at w v old)
      (if is_session_up old.session.phase then take_deed old.session (desk.take w.desk v).0 else Nothing))
  take_leads =
      both_chosen v (is_session_up old.session.phase) (taken_world w v old (desk.take w.desk v)) w
      (again (standing_at w v old)) (take_deed old.session (desk.take w.desk v).0) Nothing
      (λ up.
      chosen
      (λ (r : Option PlacedLeg × DeskParts). Leads v (taken_world w v old r)
      (again (standing_at w v old) (take_deed old.session r.0))) (is_up (gate_of w.desk v)) (leave w.desk v)
      (None, w.desk)
      (λ gate. take_by (placed_legs w.desk v)) (λ gate. stays))
      (λ not_up. stays)

  -- the session
  connected_leads : (answer : SessionAnswer Message)
      → Leads v (connected_world w v old answer) (said_again (standing_at w v old) answer)
  connected_leads (Ok message, session) =
      leads_set _ (session_wrote session (message ∷ []) old) _ refl refl
  connected_leads (Err fault, session) = stays

  connect_leads : Leads v (connects w v old)
      (again (standing_at w v old) (if may_connect w.desk v then Connected else Nothing))
  connect_leads =
      both_chosen v (may_connect w.desk v) (connected_world w v old (connect old.session)) w
      (again (standing_at w v old)) Connected Nothing (λ may. connected_leads (connect old.session))
      (λ may_not. stays)

  called_leads : (answer : SessionAnswer StepParts)
      → Leads v (called_world w v old answer) (called_again (standing_at w v old) answer)
  called_leads (Ok step, session) = leads_set _ (session_wrote session step.written old) _ refl refl
  called_leads (Err fault, session) = stays

  closed_leads : (answer : SessionAnswer StepParts)
      → Leads v (closed_world w v old answer) (closed_again (standing_at w v old) answer)
  closed_leads (Ok step, session) =
      leads_set _ (session_wrote session step.written old) _ refl
      (standing_is (left-shut v w.desk) (shut-shut v w.desk low) refl refl refl)
  closed_leads (Err fault, session) = stays

  frame_leads : (found : Option Frame)
      → Leads v (to_dispatcher w v old found) (again (standing_at w v old) (frame_deed old.session found))
  frame_leads None = stays
  frame_leads (Some frame) =
      let turn = receive old.session frame.message in
      both_chosen v (is_connected old.session.phase && frame.connection == old.session.connection)
      (session_turn w v old turn) w (again (standing_at w v old)) (Received frame.message) Nothing
      (λ on. leads_set _ _ _ refl refl) (λ off. stays)

  -- an event at another venue, or at none
  elsewhere : (e : Event) → (named e ≡ Some v → ⊥) → Leads v (happens w e) (standing_at w v old)
  elsewhere e other =
      let untouched = others_untouched w e v other in
      record {
        to = λ now there'.
            (let one : now ≡ old = same_Some now old (sym there' ∙ (untouched.venue ∙ there)) in
            let desk_is : venue_at (happens w e).desk v ≡ venue_at w.desk v =
            ap venue_by untouched.desk in
            ap (standing_at (happens w e) v) one
            ∙ standing_is (ap (λ (x : DeskVenue). x.left) desk_is)
            (ap (λ (x : DeskVenue). is_shut x.gate) desk_is) refl refl refl);
      }

  abbrev Made : Event → Type 0
  Made e = Leads v (happens w e)
      (if writes_at e v then again (standing_at w v old) (deed_of w e old) else standing_at w v old)

  found : (f : VenueParts → World) (t : Standing) → Leads v (f old) t
      → Leads v (option_map_or f (venue_in w v) w) t
  found f t leads = subst (λ (o : Option VenueParts). Leads v (option_map_or f o w) t) (sym there) leads

  -- a deed here, or an event elsewhere
  deed_here : (e : Event) → writes_at e v ≡ true
      → Leads v (happens w e) (again (standing_at w v old) (deed_of w e old)) → Made e
  deed_here e is leads = when v (happens w e) (writes_at e v) _ _ is leads

  deed_elsewhere : (e : Event) (at : ℕ) → named e ≡ Some at → (at ≡ v → ⊥) → writes_at e v ≡ false → Made e
  deed_elsewhere e at names differs is =
      unless v (happens w e) (writes_at e v) _ _ is
      (elsewhere e (λ same. differs (same_Some at v (sym names ∙ same))))

  same_place : (v == v) ≡ true
  same_place = eq-eqb v v refl

  abandon_leads : Leads v
      (with_venue (record w { desk = shut w.desk v }) v (record old { session = abandon old.session }))
      (again (standing_at w v old) Abandoned)
  abandon_leads =
      leads_set _ (record old { session = abandon old.session }) _ refl
      (standing_is (left-shut v w.desk) (shut-shut v w.desk low) refl refl refl)

  event_made : (e : Event) → Made e
  event_made (event.Release sweep) = elsewhere (event.Release sweep) (λ same. cc)
  event_made (event.GateUp at) =
      elim (cases_eq at v) [
        | inl same ↦ subst (λ k. Made (event.GateUp k)) (sym same)
            (found (goes_up w v) _ up_leads)
        | inr differs ↦ elsewhere (event.GateUp at) (λ same. differs (same_Some at v same))
      ]
  event_made (event.GateDown at) =
      elim (cases_eq at v) [
        | inl same ↦ subst (λ k. Made (event.GateDown k)) (sym same)
            (found (λ venue. record w { desk = gate_down w.desk v }) _ down_leads)
        | inr differs ↦ elsewhere (event.GateDown at) (λ same. differs (same_Some at v same))
      ]
  event_made (event.ToExchange at frame) =
      elim (cases_eq at v) [
        | inl same ↦ subst (λ k. Made (event.ToExchange k frame)) (sym same)
            (found (λ venue. to_exchange w v venue (numbered frame venue.to_exchange)) _ (taken_leads (numbered frame old.to_exchange)))
        | inr differs ↦ elsewhere (event.ToExchange at frame) (λ same. differs (same_Some at v same))
      ]
  event_made (event.ExchangeBreak at) =
      elim (cases_eq at v) [
        | inl same ↦ subst (λ k. Made (event.ExchangeBreak k)) (sym same)
            (found (λ venue. with_venue w v (record venue { exchange = drop_connection venue.exchange })) _ dropped_leads)
        | inr differs ↦ elsewhere (event.ExchangeBreak at) (λ same. differs (same_Some at v same))
      ]
  event_made (event.Act at act) =
      elim (cases_eq at v) [
        | inl same ↦ subst (λ k. Made (event.Act k act)) (sym same)
            (found (λ venue. acted_world w v venue (act_of act venue.exchange)) _ (acted_leads (act_of act old.exchange)))
        | inr differs ↦ elsewhere (event.Act at act) (λ same. differs (same_Some at v same))
      ]
  event_made (event.Drop at) =
      elim (cases_eq at v) [
        | inl same ↦ subst (λ k. Made (event.Drop k)) (sym same)
            (deed_here (event.Drop v) same_place (found (λ venue. dropped_world w (drop_next w.desk v)) _ drop_leads))
        | inr differs ↦ deed_elsewhere (event.Drop at) at refl differs (ne_eqb at v differs)
      ]
  event_made (event.Take at) =
      elim (cases_eq at v) [
        | inl same ↦ subst (λ k. Made (event.Take k)) (sym same)
            (deed_here (event.Take v) same_place (found (takes w v) _ take_leads))
        | inr differs ↦ deed_elsewhere (event.Take at) at refl differs (ne_eqb at v differs)
      ]
  event_made (event.Connect at) =
      elim (cases_eq at v) [
        | inl same ↦ subst (λ k. Made (event.Connect k)) (sym same)
            (deed_here (event.Connect v) same_place (found (connects w v) _ connect_leads))
        | inr differs ↦ deed_elsewhere (event.Connect at) at refl differs (ne_eqb at v differs)
      ]
  event_made (event.ToDispatcher at frame) =
      elim (cases_eq at v) [
        | inl same ↦ subst (λ k. Made (event.ToDispatcher k frame)) (sym same)
            (deed_here (event.ToDispatcher v frame) same_place (found (λ venue. to_dispatcher w v venue (numbered frame venue.from_exchange)) _ (frame_leads (numbered frame old.from_exchange))))
        | inr differs ↦ deed_elsewhere (event.ToDispatcher at frame) at refl differs (ne_eqb at v differs)
      ]
  event_made (event.Break at) =
      elim (cases_eq at v) [
        | inl same ↦ subst (λ k. Made (event.Break k)) (sym same)
            (deed_here (event.Break v) same_place (found (λ venue. with_venue w v (record venue { session = broken venue.session })) _ (leads_set _ (record old { session = broken old.session }) _ refl refl)))
        | inr differs ↦ deed_elsewhere (event.Break at) at refl differs (ne_eqb at v differs)
      ]
  event_made (event.Quiet at) =
      elim (cases_eq at v) [
        | inl same ↦ subst (λ k. Made (event.Quiet k)) (sym same)
            (deed_here (event.Quiet v) same_place (found (λ venue. called_world w v venue (quiet venue.session)) _ (called_leads (quiet old.session))))
        | inr differs ↦ deed_elsewhere (event.Quiet at) at refl differs (ne_eqb at v differs)
      ]
  event_made (event.Silent at) =
      elim (cases_eq at v) [
        | inl same ↦ subst (λ k. Made (event.Silent k)) (sym same)
            (deed_here (event.Silent v) same_place (found (λ venue. called_world w v venue (silent venue.session)) _ (called_leads (silent old.session))))
        | inr differs ↦ deed_elsewhere (event.Silent at) at refl differs (ne_eqb at v differs)
      ]
  event_made (event.Close at) =
      elim (cases_eq at v) [
        | inl same ↦ subst (λ k. Made (event.Close k)) (sym same)
            (deed_here (event.Close v) same_place (found (λ venue. closed_world w v venue (close venue.session)) _ (closed_leads (close old.session))))
        | inr differs ↦ deed_elsewhere (event.Close at) at refl differs (ne_eqb at v differs)
      ]
  event_made (event.Abandon at) =
      elim (cases_eq at v) [
        | inl same ↦ subst (λ k. Made (event.Abandon k)) (sym same)
            (deed_here (event.Abandon v) same_place (found (λ venue. with_venue (record w { desk = shut w.desk v }) v (record venue { session = abandon venue.session })) _ abandon_leads))
        | inr differs ↦ deed_elsewhere (event.Abandon at) at refl differs (ne_eqb at v differs)
      ]

-- the lines of a journal after an event
lines_by : (b : Bool) (x y : Journal) (s : Standing) (lines : List Standing) → (b ≡ true → x.lines ≡ s ∷ lines)
    → y.lines ≡ lines → (let j : Journal = if b then x else y in j.lines) ≡ (if b then s ∷ lines else lines)
lines_by true x y s lines added same = added refl
lines_by false x y s lines added same = same

chosen_true : (b : Bool) (x y : Standing) → b ≡ true → (if b then x else y) ≡ x
chosen_true true x y is = refl
chosen_true false x y is = absurd cc

first_by : (b : Bool) (x s : Standing) (lines : List Standing) → slice_get lines 0 ≡ Some s
    → slice_get (if b then x ∷ lines else lines) 0 ≡ Some (if b then x else s)
first_by true x s lines is = refl
first_by false x s lines is = is

module _ (w : World) (e : Event) (v : ℕ) (old now : VenueParts) (there : venue_in w v ≡ Some old)
    (there_after : venue_in (happens w e) v ≡ Some now) (low : v < length w.desk.venues) where
  abbrev made : Standing
  made = again (standing_at w v old) (deed_of w e old)

  now_is : standing_at (happens w e) v now ≡ (if writes_at e v then made else standing_at w v old)
  now_is = (event_made w v old there low e).to now there_after

  pub lines_after : (journal : Journal)
      → (journal_after w (happens w e) e v journal).lines
      ≡ (if writes_at e v then made ∷ journal.lines else journal.lines)
  lines_after journal =
      let heard : Journal = record journal { reached = reached_at w e v journal.reached } in
      lines_by (writes_at e v) (add_line (happens w e) v heard) heard made journal.lines
      (λ writes.
      ap (λ (o : Option VenueParts).
      (let j : Journal = option_map_or (with_line (happens w e) v heard) o heard in j.lines)) there_after
      ∙ ap (λ s. s ∷ journal.lines) (now_is ∙ chosen_true (writes_at e v) made (standing_at w v old) writes))
      refl

  pub last_after : (journal : Journal) → slice_get journal.lines 0 ≡ Some (standing_at w v old)
      → slice_get (journal_after w (happens w e) e v journal).lines 0 ≡ Some (standing_at (happens w e) v now)
  last_after journal last =
      ap (λ l. slice_get l 0) (lines_after journal)
      ∙ (first_by (writes_at e v) made (standing_at w v old) journal.lines last ∙ ap (λ s. Some s) (sym now_is))

-- the last line of each journal tells how the dispatcher stands
record LastIsNow (day : Day) : Type 0 where
  last : (v : ℕ) (venue : VenueParts) (journal : Journal) → venue_in day.world v ≡ Some venue
      → slice_get day.journals v ≡ Some journal → slice_get journal.lines 0 ≡ Some (standing_at day.world v venue)

low_in : (w : World) → IsSafe w → (v : ℕ) (venue : VenueParts) → venue_in w v ≡ Some venue → v < length w.desk.venues
low_in w safe v venue there = (let h = slice_get_within w.venues v venue there in let same = safe.desks in omega arith)

last_event : (day : Day) (e : Event) → IsKeptDay day → LastIsNow day → LastIsNow (after_event day e)
last_event day e kept last = record {
  last = λ v now journal there_after at.
      (let w = day.world in
      let from = each_of (journal_after w (happens w e) e) v day.journals journal at in
      let comes = (event_advances w e).comes v now there_after in
      let low = low_in w kept.kept.safe v comes.old comes.there in
      subst (λ (j : Journal). slice_get j.lines 0 ≡ Some (standing_at (happens w e) v now)) from.2
      (last_after w e v comes.old now comes.there there_after low from.0
      (last.last v comes.old from.0 comes.there from.1)));
}

last_start : (day : Day) (loss : Loss) → LastIsNow (day_started day loss)
last_start day loss = record {
  last = λ v now journal there at.
      (let w = world_started day loss in
      let from = each_of (journal_started w loss) v day.journals journal at in
      let kept : Journal = record from.0 { lines = lines_kept loss v from.0 } in
      subst (λ (j : Journal). slice_get j.lines 0 ≡ Some (standing_at w v now)) from.2
      (ap (λ (o : Option VenueParts).
      (let j : Journal = option_map_or (with_line w v kept) o kept in slice_get j.lines 0)) there));
}

last_day : (day : Day) (e : DayEvent) → IsKeptDay day → LastIsNow day → LastIsNow (day_happens day e)
last_day day (Goes event) kept last = last_event day event kept last
last_day day (Crash loss) kept last =
    chosen LastIsNow (may_lose day loss) (day_started day loss) day (λ may. last_start day loss) (λ may_not. last)

record IsTold (day : Day) : Type 0 where
  kept : IsKeptDay day
  last : LastIsNow day

told_days : (events : List DayEvent) (day : Day) → IsTold day → IsTold (day_happen events day)
told_days [] day is = is
told_days (e ∷ events) day is =
    told_days events (day_happens day e)
    (record { kept = day_keeps day e is.kept; last = last_day day e is.kept is.last })

told_opening : (next : List Bool) (max_number : ℕ) → IsOpening next max_number
    → IsTold (opening_day (opening next max_number))
told_opening next max_number is =
    let w = opening next max_number in
    record {
      kept = day_opening next max_number is.most_number;
      last = record {
        last = λ v venue journal there at.
            (let from = each_of (new_journal w) v w.venues journal at in
            let one : from.0 ≡ venue = same_Some from.0 venue (sym from.1 ∙ there) in
            subst (λ (j : Journal). slice_get j.lines 0 ≡ Some (standing_at w v venue))
            (ap (new_journal w v) (sym one) ∙ from.2) refl);
      };
    }

goes_at : (day : Day) → IsTold day → (e : Event) (v : ℕ) (found : Option VenueParts) → venue_in day.world v ≡ found
    → IfSome found (GoesByDeeds day e v)
goes_at day told e v None there = tt
goes_at day told e v (Some old) there =
    let w = day.world in
    let within = slice_get_within w.venues v old there in
    let count = told.kept.count in
    let journal = get_within day.journals v (omega arith) in
    let later = (event_is_later w e).venue v old there in
    record {
      journal = journal.0;
      there = journal.1;
      last = told.last.last v old journal.0 there journal.1;
      goes = lines_after w e v old later.0 there later.1 (low_in w told.kept.kept.safe v old there) journal.0;
    }

pub deeds_give_the_lines : TheDeedsGiveTheLines
deeds_give_the_lines next max_number events e v is =
    let day = run_day next max_number events in
    goes_at day (told_days events (opening_day (opening next max_number)) (told_opening next max_number is)) e v
    (venue_in day.world v) refl
