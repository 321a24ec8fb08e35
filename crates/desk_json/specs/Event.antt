-- What is told to who follows the day, as a stream of events (HTML Standard, "Server-sent events").
use Rattle.std.specs.Prelude.{ℕ, List, ◌++◌, codes, decimal}
use Rattle.json.specs.Print.{quoted}
use Rattle.desk_json.specs.declared.event.Audit.{Audit}
use Rattle.desk_json.specs.declared.event.Audit.TheVariants.{Whole, Failed}
use Rattle.desk_json.specs.declared.event.Event.{Event}
use Rattle.desk_json.specs.declared.event.Event.TheVariants as event
use Rattle.desk_json.specs.Executions.{execution_json}
use Rattle.desk_json.specs.Outcome.{closing_json, refusal_json}
use Rattle.desk_json.specs.Sweeps.{day_json, sweep_json}
use Rattle.desk_json.specs.Venues.{venue_json}

-- as `{"audit":"ok"}`
abbrev pub audit_json : Audit → List ℕ
audit_json Whole = codes "{\"audit\":\"ok\"}"
audit_json (Failed found) = codes "{\"audit\":" ++ quoted found ++ codes "}"

-- the event's name, its JSON and an empty line; the id of an execution's is its number, behind which a client may go on
abbrev pub event_text : Event → List ℕ
event_text (event.Sweep parts) = codes "event: sweep\ndata: " ++ sweep_json parts ++ codes "\n\n"
event_text (event.Execution execution) =
    codes "id: " ++ decimal execution.number ++ codes "\nevent: execution\ndata: " ++ execution_json execution
    ++ codes "\n\n"
event_text (event.Venue venue) = codes "event: venue\ndata: " ++ venue_json venue ++ codes "\n\n"
event_text (event.Refused refusal) = codes "event: refused\ndata: " ++ refusal_json refusal ++ codes "\n\n"
event_text event.RefusedAtClose = codes "event: refused\ndata: " ++ closing_json ++ codes "\n\n"
event_text (event.Day day) = codes "event: day\ndata: " ++ day_json day ++ codes "\n\n"
event_text (event.Closed audit) = codes "event: closed\ndata: " ++ audit_json audit ++ codes "\n\n"
