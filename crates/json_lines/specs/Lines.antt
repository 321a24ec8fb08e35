-- The lines of a desk's day in JSON, an object each.
use Rattle.std.specs.Prelude.{ℕ, List, [], ◌++◌, codes, decimal}
use Rattle.json.specs.Print.{quoted}
use Rattle.leg.specs.LegId.{LegIdParts, leg_id_text}
use Rattle.desk_answers.specs.declared.answer.Answer.{Answer}
use Rattle.desk_answers.specs.declared.answer.Answer.TheVariants as answer
use Rattle.sweep_text.specs.declared.line_fault.LineFault.{LineFault}
use Rattle.sweep_text.specs.Fault.{fault_text}
use Rattle.desk_news.specs.Cause.{cause_text}
use Rattle.desk_news.specs.declared.cause.Cause.{Cause}
use Rattle.desk_news.specs.declared.venue_state.VenueState.{VenueState}
use Rattle.desk_news.specs.declared.venue_state.VenueState.TheVariants.{Dialled, Up, Down, Unreachable, Closed}
use Rattle.desk_news.specs.declared.news.News.{News}
use Rattle.desk_news.specs.declared.news.News.TheVariants as news
use Rattle.desk_news.specs.declared.status.Status.{Status}
use Rattle.desk_news.specs.declared.status.Status.TheVariants as status
use Rattle.desk_news.specs.declared.status.VenueStatus.{VenueStatus}
use Rattle.desk_news.specs.declared.day_totals.DayTotals.{DayTotals}
use Rattle.desk_executions.specs.declared.counts.UnbookedStatus.{UnbookedStatus}
use Rattle.desk_json.specs.Executions.{unbooked_json}
use Rattle.desk_json.specs.Outcome.{closing_json, outcome_json, refusal_json}
use Rattle.desk_json.specs.declared.outcome.Outcome.TheVariants as outcome
use Rattle.desk_json.specs.Parted.{parted}
use Rattle.desk_json.specs.Sweeps.{sweep_json, day_json}

-- as `{"placed":12,"shares":150}`
abbrev pub placed_json : ℕ → ℕ → List ℕ
placed_json sweep shares =
    codes "{\"placed\":" ++ decimal sweep ++ codes ",\"shares\":" ++ decimal shares ++ codes "}"

-- as `{"bad_line":7,"fault":"no venue ARCA2"}`
abbrev pub bad_line_json : ℕ → LineFault → List ℕ
bad_line_json number fault =
    codes "{\"bad_line\":" ++ decimal number ++ codes ",\"fault\":" ++ quoted (fault_text fault) ++ codes "}"

-- the answer to a line
abbrev pub answer_json : Answer → List ℕ
answer_json (answer.Placed sweep shares) = placed_json sweep shares
answer_json (answer.Again sweep shares) = outcome_json (outcome.Again sweep shares)
answer_json (answer.Refused why) = refusal_json why
answer_json answer.Closing = closing_json
answer_json (answer.BadLine number fault) = bad_line_json number fault

-- why a connection ended, as `"state":"down","why":"it was silent (E10)"`
abbrev pub ended_json : List ℕ → Cause → List ℕ
ended_json word cause = codes "\"state\":\"" ++ word ++ codes "\",\"why\":" ++ quoted (cause_text cause)

-- why a dial failed, and in how many seconds the next one is tried
abbrev pub unreachable_json : List ℕ → ℕ → List ℕ
unreachable_json why seconds =
    codes "\"state\":\"unreachable\",\"why\":" ++ quoted why ++ codes ",\"next_s\":" ++ decimal seconds

-- how a venue stands, as it stands in an object
abbrev pub state_json : VenueState → List ℕ
state_json Dialled = codes "\"state\":\"dialled\""
state_json Up = codes "\"state\":\"up\""
state_json (Down cause) = ended_json (codes "down") cause
state_json (Unreachable why seconds) = unreachable_json why seconds
state_json (Closed cause) = ended_json (codes "closed") cause

-- as `{"venue":"ARCA","state":"up"}`
abbrev pub venue_json : List ℕ → VenueState → List ℕ
venue_json venue state = codes "{\"venue\":\"" ++ venue ++ codes "\"," ++ state_json state ++ codes "}"

-- as `{"contradicted":"ARCA","legs":1}`
abbrev pub contradicted_json : List ℕ → ℕ → List ℕ
contradicted_json venue legs =
    codes "{\"contradicted\":\"" ++ venue ++ codes "\",\"legs\":" ++ decimal legs ++ codes "}"

-- a change
abbrev pub news_json : News → List ℕ
news_json (news.Sweep parts) = sweep_json parts
news_json (news.Venue venue state) = venue_json venue state
news_json (news.Contradicted venue legs) = contradicted_json venue legs

-- the counts of a venue: its legs, the lines that its log lost, and its contradictions
unfoldable pub counts_json : VenueStatus → List ℕ
counts_json row =
    codes "\"unsent\":" ++ decimal row.unsent ++ codes ",\"doubt\":" ++ decimal row.doubt ++ codes ",\"lost\":"
    ++ decimal row.lost ++ codes ",\"contradicted\":" ++ decimal row.contradicted

-- as `{"status":{"venue":"ARCA","unsent":3,"doubt":2,"lost":0,"contradicted":0,"state":"up"}}`
abbrev pub venue_status_json : VenueStatus → List ℕ
venue_status_json row =
    codes "{\"status\":{\"venue\":\"" ++ row.venue ++ codes "\"," ++ counts_json row ++ codes ","
    ++ state_json row.state ++ codes "}}"

-- a line of what `status` is answered
abbrev pub status_json : Status → List ℕ
status_json (status.Venue row) = venue_status_json row
status_json (status.Sweep parts) = codes "{\"status\":" ++ sweep_json parts ++ codes "}"

-- how much of what a venue said the book didn't take, as `{"status":{"unbooked":"NYSE","counts":{..}}}`
abbrev pub unbooked_line : UnbookedStatus → List ℕ
unbooked_line row =
    codes "{\"status\":{\"unbooked\":\"" ++ row.venue ++ codes "\",\"counts\":" ++ unbooked_json row.counts
    ++ codes "}}"

-- a leg's number, in quotes
abbrev pub leg_json : LegIdParts → List ℕ
leg_json id = codes "\"" ++ leg_id_text id ++ codes "\""

-- the legs of a venue that stay in doubt, as `{"doubt":"ARCA","legs":["S3L1","S4L2"]}`
abbrev pub doubt_json : List ℕ → List LegIdParts → List ℕ
doubt_json venue ids = codes "{\"doubt\":\"" ++ venue ++ codes "\",\"legs\":[" ++ parted leg_json [] ids ++ codes "]}"

-- the shares of a day, as `{"day":{"placed":300,"resolved":250,"open":50}}`
abbrev pub totals_json : DayTotals → List ℕ
totals_json totals = codes "{\"day\":" ++ day_json totals ++ codes "}"
