-- Why nothing comes of an event, where nothing does.
use Rattle.std.specs.Prelude.{ℕ, Bool, false, not, List, [], ◌∷◌, ◌++◌, codes, decimal, ◌==◌, Option, Some, None, if◌then◌else◌}
use Rattle.leg.specs.Numbered.{numbered}
use Rattle.session_core.specs.declared.phase.Phase.{Phase}
use Rattle.session_core.specs.Session.{is_connected}
use Rattle.sweep_release.specs.Desk.{is_up, gate_of}
use Rattle.schedule.specs.declared.act.Act.{Act}
use Rattle.schedule.specs.declared.act.Act.TheVariants as act
use Rattle.schedule.specs.declared.event.Event.{Event}
use Rattle.schedule.specs.declared.event.Event.TheVariants as event
use Rattle.schedule.specs.World.{World, Frame, of_venue}
use Rattle.schedule.specs.Happening.{is_session_up}
use Rattle.event_text.specs.declared.idle.Idle.{Idle}
use Rattle.event_text.specs.declared.idle.Idle.TheVariants.{SessionNotUp, NotConnected, NotLoggedOn, SilentOnce, CloseAsked, SessionClosed, GateUp, GateNotUp, NothingPlaced, LegsPlaced, NoFrame, OldConnection, ToSession, NoneThere, AnotherThere, ToExchange, NoExchange}

-- how far the session of a venue has come, and whether it is up, and connected
abbrev pub phase_of : World → ℕ → Option Phase
phase_of w v = of_venue w v None (λ venue. Some venue.session.phase)

abbrev pub is_up_in : Option Phase → Bool
is_up_in None = false
is_up_in (Some phase) = is_session_up phase

abbrev pub is_connected_in : Option Phase → Bool
is_connected_in None = false
is_connected_in (Some phase) = is_connected phase

abbrev pub of_gate_up : World → ℕ → Option Idle
of_gate_up w v =
    if not (is_up_in (phase_of w v)) then Some SessionNotUp
    else (if is_up (gate_of w.desk v) then Some GateUp else None)

abbrev pub of_drop : World → ℕ → Option Idle
of_drop w v = if is_up (gate_of w.desk v) then Some GateUp else Some NothingPlaced

abbrev pub of_take : World → ℕ → Option Idle
of_take w v =
    if not (is_up_in (phase_of w v)) then Some SessionNotUp
    else (if is_up (gate_of w.desk v) then Some NothingPlaced else Some GateNotUp)

abbrev pub of_connect : World → ℕ → Option Idle
of_connect w v = if is_up (gate_of w.desk v) then Some GateUp else Some LegsPlaced

-- the connection of the last frame that an exchange wrote
abbrev pub last_of : List Frame → Option ℕ
last_of [] = None
last_of (frame ∷ []) = Some frame.connection
last_of (frame ∷ next ∷ frames) = last_of (next ∷ frames)

-- a message of this number, by the connection that the exchange wrote into last
abbrev pub in_connection : Option ℕ → ℕ → ℕ → ℕ → Idle
in_connection None connection number expected = NoneThere connection
in_connection (Some last) connection number expected =
    if connection == last then ToExchange connection number expected else AnotherThere connection last

abbrev pub of_frame_to : List Frame → ℕ → Option Frame → Idle
of_frame_to from expected None = NoFrame
of_frame_to from expected (Some frame) = in_connection (last_of from) frame.connection frame.message.number expected

abbrev pub of_frame_from : Bool → ℕ → ℕ → Option Frame → Idle
of_frame_from connected connection expected None = NoFrame
of_frame_from connected connection expected (Some frame) =
    if not connected then NotConnected
    else (if frame.connection == connection
    then ToSession frame.message.number expected
    else OldConnection frame.connection)

abbrev pub of_act : Act → Option Idle
of_act act.Test = Some NoExchange
of_act other = None

-- why nothing comes of an event in a world, where a call's refusal doesn't say so
abbrev pub idle_of : World → Event → Option Idle
idle_of w (event.Release sweep) = None
idle_of w (event.GateUp v) = of_gate_up w v
idle_of w (event.GateDown v) = Some GateNotUp
idle_of w (event.Drop v) = of_drop w v
idle_of w (event.Take v) = of_take w v
idle_of w (event.Connect v) = of_connect w v
idle_of w (event.ToExchange v frame) =
    Some (of_frame_to (of_venue w v [] (λ venue. venue.from_exchange))
    (of_venue w v 0 (λ venue. venue.exchange.expected))
    (numbered frame (of_venue w v [] (λ venue. venue.to_exchange))))
idle_of w (event.ToDispatcher v frame) =
    Some (of_frame_from (is_connected_in (phase_of w v)) (of_venue w v 0 (λ venue. venue.session.connection))
    (of_venue w v 0 (λ venue. venue.session.expected))
    (numbered frame (of_venue w v [] (λ venue. venue.from_exchange))))
idle_of w (event.Break v) = Some NotConnected
idle_of w (event.ExchangeBreak v) = Some NoExchange
idle_of w (event.Act v act) = of_act act
idle_of w (event.Quiet v) = Some NotLoggedOn
idle_of w (event.Silent v) = Some SilentOnce
idle_of w (event.Close v) = Some CloseAsked
idle_of w (event.Abandon v) = Some SessionClosed

-- what the exchange didn't take: of the number that it expects, in a connection that is over, or of another number
abbrev pub dropped_text : ℕ → ℕ → ℕ → List ℕ
dropped_text connection number expected =
    if number == expected
    then codes "dropped: connection " ++ decimal connection ++ codes " is over at the exchange"
    else codes "dropped: number " ++ (decimal number ++ (codes ", the exchange expects " ++ decimal expected))

-- in words, by what session and exchange expect after the event
abbrev pub idle_text : ℕ → ℕ → Idle → List ℕ
idle_text session exchange SessionNotUp = codes "not possible: the session isn't up"
idle_text session exchange NotConnected = codes "not possible: the session isn't connected"
idle_text session exchange NotLoggedOn = codes "not possible: the session isn't logged on"
idle_text session exchange SilentOnce = codes "the session ends its connection if it hears nothing again"
idle_text session exchange CloseAsked = codes "the session was to close before"
idle_text session exchange SessionClosed = codes "the session was closed before"
idle_text session exchange GateUp = codes "not possible: the gate is up"
idle_text session exchange GateNotUp = codes "not possible: the gate isn't up"
idle_text session exchange NothingPlaced = codes "not possible: nothing is placed"
idle_text session exchange LegsPlaced = codes "not possible: legs are placed"
idle_text session exchange NoFrame = codes "not possible: no such frame"
idle_text session exchange (OldConnection connection) =
    codes "not possible: a frame of connection " ++ decimal connection ++ codes ", which is over"
idle_text session exchange (ToSession number expected) =
    if session == expected
    then codes "dropped: number " ++ (decimal number ++ (codes ", the session expects " ++ decimal expected))
    else codes "the session took number " ++ decimal number
idle_text session exchange (NoneThere connection) =
    codes "dropped: connection " ++ decimal connection ++ codes ", the exchange has had none"
idle_text session exchange (AnotherThere connection last) =
    codes "dropped: connection " ++ (decimal connection ++ (codes ", the exchange's is " ++ decimal last))
idle_text session exchange (ToExchange connection number expected) =
    if exchange == expected
    then dropped_text connection number expected
    else codes "the exchange took number " ++ decimal number
idle_text session exchange NoExchange = codes "the exchange has no connection"
