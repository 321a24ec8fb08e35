-- The metrics of venues, in Prometheus' text.
use Rattle.std.specs.Prelude.{ℕ, List, [], ◌∷◌, ◌++◌, codes, decimal, if◌then◌else◌}
use Rattle.std.specs.Str.{bytes_eq}
use Rattle.desk_news.specs.declared.venue_state.VenueState.{VenueState}
use Rattle.desk_news.specs.declared.venue_state.VenueState.TheVariants.{Dialled, Up, Down, Unreachable, Closed}
use Rattle.desk_json.specs.declared.standing.VenueRow.{VenueRow}
use Rattle.desk_json.specs.declared.standing.OrderWaits.{OrderWaits}
use Rattle.desk_json.specs.declared.standing.WaitCount.{WaitCount}
use Rattle.desk_json.specs.Venues.{accepted}
use Rattle.desk_http.specs.declared.venue_metric.VenueMetric.{VenueMetric}
use Rattle.desk_http.specs.declared.venue_metric.VenueMetric.TheVariants.{State, Legs, Unbooked, Contradicted, LinesLost, Connections, FailedDials, Messages, Bytes, Waits}
use Rattle.desk_http.specs.MetricText.{metric_head, seconds_text}

-- the name of a metric
abbrev pub venue_name : VenueMetric → List ℕ
venue_name State = codes "dispatch_venue_state"
venue_name Legs = codes "dispatch_legs"
venue_name Unbooked = codes "dispatch_unbooked_reports_total"
venue_name Contradicted = codes "dispatch_contradicted_legs_total"
venue_name LinesLost = codes "dispatch_log_lines_lost_total"
venue_name Connections = codes "dispatch_connections_total"
venue_name FailedDials = codes "dispatch_failed_dials_total"
venue_name Messages = codes "dispatch_messages_total"
venue_name Bytes = codes "dispatch_bytes_total"
venue_name Waits = codes "dispatch_order_wait_seconds"

-- what it is, in words
abbrev pub venue_help : VenueMetric → List ℕ
venue_help State = codes "Whether the venue is in this state: 1 or 0."
venue_help Legs = codes "Legs of the venue, by their state."
venue_help Unbooked = codes "Reports of the venue that the book didn't take."
venue_help Contradicted = codes "Legs that the venue reported on and showed later not to have."
venue_help LinesLost = codes "Lines that the log of the venue lost."
venue_help Connections = codes "Connections to the venue in this day."
venue_help FailedDials = codes "Dials of the venue that failed."
venue_help Messages = codes "Messages to and from the venue."
venue_help Bytes = codes "Bytes to and from the venue."
venue_help Waits = codes "How long an order waited to be written."

-- its type
abbrev pub venue_kind : VenueMetric → List ℕ
venue_kind State = codes "gauge"
venue_kind Legs = codes "gauge"
venue_kind Unbooked = codes "counter"
venue_kind Contradicted = codes "counter"
venue_kind LinesLost = codes "counter"
venue_kind Connections = codes "counter"
venue_kind FailedDials = codes "counter"
venue_kind Messages = codes "counter"
venue_kind Bytes = codes "counter"
venue_kind Waits = codes "histogram"

-- the word of a venue's state
abbrev pub state_word : VenueState → List ℕ
state_word Dialled = codes "dialled"
state_word Up = codes "up"
state_word (Down cause) = codes "down"
state_word (Unreachable why seconds) = codes "unreachable"
state_word (Closed cause) = codes "closed"

-- a sample of a venue, as `dispatch_legs{venue="NYSE",state="doubt"} 2`
unfoldable pub venue_sample : List ℕ → List ℕ → List ℕ → ℕ → List ℕ
venue_sample metric venue label value =
    metric ++ codes "{venue=\"" ++ venue ++ codes "\"" ++ label ++ codes "} " ++ decimal value ++ codes "\n"

-- 1 where the word of a venue's state is this one, and else 0
abbrev pub state_value : List ℕ → List ℕ → ℕ
state_value said word = if bytes_eq said word then 1 else 0

-- whether a venue, whose state has this word, is in the state of that one, as
-- `dispatch_venue_state{venue="NYSE",state="up"} 1`
unfoldable pub state_sample : List ℕ → List ℕ → List ℕ → List ℕ
state_sample venue said word =
    codes "dispatch_venue_state{venue=\"" ++ venue ++ codes "\",state=\"" ++ word ++ codes "\"} "
    ++ decimal (state_value said word) ++ codes "\n"

-- a sample of each state: 1 at the one that the venue is in, and 0 at the others
abbrev pub states_samples : List ℕ → List ℕ → List ℕ
states_samples venue said =
    state_sample venue said (codes "dialled") ++ state_sample venue said (codes "up")
    ++ state_sample venue said (codes "down") ++ state_sample venue said (codes "unreachable")
    ++ state_sample venue said (codes "closed")

-- the samples of a venue's legs
abbrev pub legs_samples : VenueRow → List ℕ
legs_samples row =
    venue_sample (codes "dispatch_legs") row.status.venue (codes ",state=\"queued\"") row.status.unsent
    ++ venue_sample (codes "dispatch_legs") row.status.venue (codes ",state=\"doubt\"") row.status.doubt
    ++ venue_sample (codes "dispatch_legs") row.status.venue (codes ",state=\"settled\"") row.settled
    ++ venue_sample (codes "dispatch_legs") row.status.venue (codes ",state=\"accepted\"") (accepted row)
    ++ venue_sample (codes "dispatch_legs") row.status.venue (codes ",state=\"withdrawn\"") row.withdrawn

-- the samples of what the book didn't take of a venue
abbrev pub unbooked_samples : VenueRow → List ℕ
unbooked_samples row =
    venue_sample (codes "dispatch_unbooked_reports_total") row.status.venue (codes ",kind=\"duplicate\"")
    row.unbooked.duplicates
    ++ venue_sample (codes "dispatch_unbooked_reports_total") row.status.venue (codes ",kind=\"overfill\"")
    row.unbooked.overfills
    ++ venue_sample (codes "dispatch_unbooked_reports_total") row.status.venue (codes ",kind=\"stray\"")
    row.unbooked.strays
    ++ venue_sample (codes "dispatch_unbooked_reports_total") row.status.venue (codes ",kind=\"unread\"")
    row.unbooked.unread

-- the samples of what went both ways
abbrev pub ways_samples : List ℕ → List ℕ → ℕ → ℕ → List ℕ
ways_samples metric venue sent received =
    venue_sample metric venue (codes ",way=\"sent\"") sent
    ++ venue_sample metric venue (codes ",way=\"received\"") received

-- how many orders waited at most so long, as `dispatch_order_wait_seconds_bucket{venue="NYSE",le="0.000050"} 3`
unfoldable pub wait_sample : List ℕ → WaitCount → List ℕ
wait_sample venue wait =
    codes "dispatch_order_wait_seconds_bucket{venue=\"" ++ venue ++ codes "\",le=\"" ++ seconds_text wait.most
    ++ codes "\"} " ++ decimal wait.count ++ codes "\n"

-- and each of these
abbrev pub wait_samples : List ℕ → List WaitCount → List ℕ
wait_samples venue [] = []
wait_samples venue (wait ∷ waits) = wait_sample venue wait ++ wait_samples venue waits

-- how long they waited in all, as `dispatch_order_wait_seconds_sum{venue="NYSE"} 0.000200`
unfoldable pub sum_sample : List ℕ → ℕ → List ℕ
sum_sample venue micros =
    codes "dispatch_order_wait_seconds_sum{venue=\"" ++ venue ++ codes "\"} " ++ seconds_text micros ++ codes "\n"

-- how many waited at most how long, however long, and how long in all
unfoldable pub waits_samples : List ℕ → OrderWaits → List ℕ
waits_samples venue waits =
    wait_samples venue waits.within.items
    ++ venue_sample (codes "dispatch_order_wait_seconds_bucket") venue (codes ",le=\"+Inf\"") waits.count
    ++ sum_sample venue waits.micros
    ++ venue_sample (codes "dispatch_order_wait_seconds_count") venue [] waits.count

-- the samples of a metric at a venue
abbrev pub samples : VenueMetric → VenueRow → List ℕ
samples State row = states_samples row.status.venue (state_word row.status.state)
samples Legs row = legs_samples row
samples Unbooked row = unbooked_samples row
samples Contradicted row =
    venue_sample (codes "dispatch_contradicted_legs_total") row.status.venue [] row.status.contradicted
samples LinesLost row = venue_sample (codes "dispatch_log_lines_lost_total") row.status.venue [] row.status.lost
samples Connections row = venue_sample (codes "dispatch_connections_total") row.status.venue [] row.connections
samples FailedDials row = venue_sample (codes "dispatch_failed_dials_total") row.status.venue [] row.refused_dials
samples Messages row =
    ways_samples (codes "dispatch_messages_total") row.status.venue row.messages_sent row.messages_received
samples Bytes row = ways_samples (codes "dispatch_bytes_total") row.status.venue row.bytes_sent row.bytes_received
samples Waits row = waits_samples row.status.venue row.waits

-- the samples of a metric at each venue
abbrev pub samples_at_each : VenueMetric → List VenueRow → List ℕ
samples_at_each metric [] = []
samples_at_each metric (row ∷ rows) = samples metric row ++ samples_at_each metric rows

-- a metric of venues: what it is, its type, and its samples
unfoldable pub metric_text : VenueMetric → List VenueRow → List ℕ
metric_text metric rows =
    metric_head (venue_name metric) (venue_help metric) (venue_kind metric) ++ samples_at_each metric rows

-- each metric of venues
unfoldable pub venues_text : List VenueRow → List ℕ
venues_text rows =
    metric_text State rows ++ metric_text Legs rows ++ metric_text Unbooked rows ++ metric_text Contradicted rows
    ++ metric_text LinesLost rows ++ metric_text Connections rows ++ metric_text FailedDials rows
    ++ metric_text Messages rows ++ metric_text Bytes rows ++ metric_text Waits rows
