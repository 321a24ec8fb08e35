-- What an event tells, besides the world after it: the number of a sweep that was placed, a call's refusal, the book's
-- answer to a note, and why the session ended its connection.
use Rattle.std.specs.Prelude.{ℕ, Option, Some, None, Result, Ok, Err, if◌then◌else◌}
use Rattle.std.specs.Option.{option_map}
use Rattle.leg.specs.Numbered.{numbered}
use Rattle.leg.specs.declared.placed_leg.PlacedLeg.{PlacedLeg}
use Rattle.exchange_core.specs.declared.exchange_fault.ExchangeFault.{ExchangeFault}
use Rattle.session_core.specs.declared.ended.Ended.{Ended}
use Rattle.session_core.specs.declared.session_fault.SessionFault.{SessionFault}
use Rattle.session_core.specs.Turn.{Turn, StepParts}
use Rattle.session_core.specs.Calling.{SessionAnswer, connect, send_leg, quiet, silent, close}
use Rattle.share_ledger.specs.Book.{answer_to}
use Rattle.sweep_release.specs.declared.gate_fault.GateFault.{GateFault}
use Rattle.sweep_release.specs.declared.receipt.Receipt.{Receipt}
use Rattle.sweep_release.specs.declared.release_fault.ReleaseFault.{ReleaseFault}
use Rattle.sweep_release.specs.Desk.{gate_up}
use Rattle.sweep_release.specs.Place.{place}
use Rattle.schedule.specs.declared.event.Event.{Event}
use Rattle.schedule.specs.declared.event.Event.TheVariants as event
use Rattle.schedule.specs.World.{World, VenueParts, of_venue}
use Rattle.schedule.specs.Happening.{desk_and_book, is_session_up, may_connect, act_of, withdrawn_in}
use Rattle.replay.specs.declared.refusal.Refusal.TheVariants.{Release, Gate, Session, Exchange}
use Rattle.replay.specs.declared.event_outcome.EventOutcome.{EventOutcome}
use Rattle.venue_replay.specs.Ending.{ending_of, refusal_of}
use Rattle.venue_replay.specs.Hearing.{turn_on}
use Rattle.venue_replay.specs.Taking.{leg_to_send}

abbrev pub nothing_told : EventOutcome
nothing_told = record { placed = None; refused = None; answer = None; ended = None }

-- by what a call answered
abbrev pub by_release : Result Receipt ReleaseFault → EventOutcome
by_release (Ok receipt) = record nothing_told { placed = Some receipt.number }
by_release (Err fault) = record nothing_told { refused = Some (Release fault) }

abbrev pub by_gate : Result (Unit {0}) GateFault → EventOutcome
by_gate (Ok done) = nothing_told
by_gate (Err fault) = record nothing_told { refused = Some (Gate fault) }

abbrev pub by_session : Option SessionFault → EventOutcome
by_session None = nothing_told
by_session (Some fault) = record nothing_told { refused = Some (Session fault) }

abbrev pub by_exchange : Option ExchangeFault → EventOutcome
by_exchange None = nothing_told
by_exchange (Some fault) = record nothing_told { refused = Some (Exchange fault) }

abbrev pub by_silence : Result (Option Ended) SessionFault → EventOutcome
by_silence (Ok ended) = record nothing_told { ended = ended }
by_silence (Err fault) = by_session (Some fault)

-- the session's refusal of the leg that is to be sent
abbrev pub told_of_leg : VenueParts → Option PlacedLeg → EventOutcome
told_of_leg venue None = nothing_told
told_of_leg venue (Some placed) = by_session (refusal_of (send_leg venue.session placed.ordinal placed.leg))

-- of the session's turn on a frame: the book withdraws what the step names before it takes the note
abbrev pub told_by : World → ℕ → Option Turn → EventOutcome
told_by w v None = nothing_told
told_by w v (Some turn) = record nothing_told {
  answer = option_map (answer_to (withdrawn_in w.book turn.step.withdrawn) v) turn.step.note;
  ended = turn.step.ended;
}

-- a call that isn't made tells nothing
abbrev pub told : World → Event → EventOutcome
told w (event.Release sweep) = by_release (place (desk_and_book w) sweep.legs).0
told w (event.GateUp v) =
    of_venue w v nothing_told
    (λ venue. if is_session_up venue.session.phase then by_gate (gate_up w.desk v).0 else nothing_told)
told w (event.Take v) = of_venue w v nothing_told (λ venue. told_of_leg venue (leg_to_send w v))
told w (event.Connect v) =
    of_venue w v nothing_told
    (λ venue. if may_connect w.desk v then by_session (refusal_of (connect venue.session)) else nothing_told)
told w (event.ToDispatcher v frame) =
    of_venue w v nothing_told (λ venue. told_by w v (turn_on venue (numbered frame venue.from_exchange)))
told w (event.Act v act) = of_venue w v nothing_told (λ venue. by_exchange (refusal_of (act_of act venue.exchange)))
told w (event.Quiet v) = of_venue w v nothing_told (λ venue. by_session (refusal_of (quiet venue.session)))
told w (event.Silent v) = of_venue w v nothing_told (λ venue. by_silence (ending_of (silent venue.session)))
told w (event.Close v) = of_venue w v nothing_told (λ venue. by_session (refusal_of (close venue.session)))
told w other = nothing_told
