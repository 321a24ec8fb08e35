-- The day as Prometheus' text (its exposition format 0.0.4): what a metric is and its type, and then all its samples.
use Rattle.std.specs.Prelude.{ℕ, List, [], ◌++◌, Option, Some, None, codes, decimal}
use Rattle.leg.specs.declared.totals.Totals.{Totals}
use Rattle.desk_json.specs.declared.standing.VenueRow.{VenueRow}
use Rattle.desk_http.specs.declared.day_sums.DaySums.{DaySums}
use Rattle.desk_http.specs.declared.process_use.ProcessUse.{ProcessUse}
use Rattle.desk_http.specs.declared.refusal_counts.RefusalCounts.{RefusalCounts}
use Rattle.desk_http.specs.declared.run.Run.{Run}
use Rattle.desk_http.specs.MetricText.{metric_head, seconds_text}
use Rattle.desk_http.specs.VenueMetric.{venues_text}

-- a sample: its name, with its labels, and its value
unfoldable pub sample : List ℕ → ℕ → List ℕ
sample name value = name ++ codes " " ++ decimal value ++ codes "\n"

-- the program's version
unfoldable pub build_text : List ℕ
build_text =
    metric_head (codes "dispatch_build_info") (codes "The program's version, as the label of a 1.") (codes "gauge")
    ++ sample (codes "dispatch_build_info{version=\"1.0.0\"}") 1

-- when the run began to serve, in microseconds since 1970-01-01 UTC
unfoldable pub begun_text : ℕ → List ℕ
begun_text micros =
    metric_head (codes "process_start_time_seconds")
    (codes "When the program began to serve, in seconds since 1970-01-01 UTC.") (codes "gauge")
    ++ codes "process_start_time_seconds " ++ seconds_text micros ++ codes "\n"

-- the processor time of the program so far, in microseconds
unfoldable pub cpu_text : ℕ → List ℕ
cpu_text micros =
    metric_head (codes "process_cpu_seconds_total") (codes "Processor time of the program so far, in seconds.")
    (codes "counter")
    ++ codes "process_cpu_seconds_total " ++ seconds_text micros ++ codes "\n"

-- its resident memory, in bytes
unfoldable pub resident_text : ℕ → List ℕ
resident_text bytes =
    metric_head (codes "process_resident_memory_bytes") (codes "Resident memory of the program, in bytes.")
    (codes "gauge")
    ++ sample (codes "process_resident_memory_bytes") bytes

-- all memory that it has mapped, in bytes
unfoldable pub mapped_text : ℕ → List ℕ
mapped_text bytes =
    metric_head (codes "process_virtual_memory_bytes") (codes "Memory that the program has mapped, in bytes.")
    (codes "gauge")
    ++ sample (codes "process_virtual_memory_bytes") bytes

-- what the process uses, if the system says it
abbrev pub use_text : Option ProcessUse → List ℕ
use_text None = []
use_text (Some used) = cpu_text used.cpu ++ resident_text used.resident ++ mapped_text used.mapped

-- how many sweeps were placed
unfoldable pub sweeps_text : ℕ → List ℕ
sweeps_text sweeps =
    metric_head (codes "dispatch_sweeps_placed_total") (codes "Sweeps that were placed.") (codes "counter")
    ++ sample (codes "dispatch_sweeps_placed_total") sweeps

-- how many sweeps were refused with a code, as `dispatch_sweeps_refused_total{code="R04"} 3`
unfoldable pub refused_sample : List ℕ → ℕ → List ℕ
refused_sample code count =
    codes "dispatch_sweeps_refused_total{code=\"" ++ code ++ codes "\"} " ++ decimal count ++ codes "\n"

-- how many sweeps were refused for their legs and venues
unfoldable pub refused_legs : RefusalCounts → List ℕ
refused_legs counts =
    refused_sample (codes "R01") counts.no_legs ++ refused_sample (codes "R02") counts.too_many_legs
    ++ refused_sample (codes "R03") counts.unknown_venue ++ refused_sample (codes "R04") counts.gate_down
    ++ refused_sample (codes "R05") counts.backlog_full

-- how many sweeps were refused for the desk
unfoldable pub refused_desk : RefusalCounts → List ℕ
refused_desk counts =
    refused_sample (codes "R06") counts.sweeps_spent ++ refused_sample (codes "R07") counts.out_of_memory
    ++ refused_sample (codes "R08") counts.wrong_book ++ refused_sample (codes "R09") counts.other_legs
    ++ refused_sample (codes "R10") counts.no_reference

-- how many sweeps were refused for a limit
unfoldable pub refused_limits : RefusalCounts → List ℕ
refused_limits counts =
    refused_sample (codes "R11") counts.leg_shares ++ refused_sample (codes "R12") counts.leg_dollars
    ++ refused_sample (codes "R13") counts.sweep_dollars ++ refused_sample (codes "R14") counts.day_dollars
    ++ refused_sample (codes "R15") counts.other_symbol

-- how many sweeps were refused, by their codes
unfoldable pub refusals_text : RefusalCounts → List ℕ
refusals_text counts =
    metric_head (codes "dispatch_sweeps_refused_total") (codes "Sweeps that were refused, by the answer's code.")
    (codes "counter")
    ++ refused_legs counts ++ refused_desk counts ++ refused_limits counts
    ++ refused_sample (codes "closing") counts.closing

-- the shares of all sweeps that were placed
unfoldable pub placed_text : ℕ → List ℕ
placed_text placed =
    metric_head (codes "dispatch_shares_placed_total") (codes "The shares of all sweeps that were placed.")
    (codes "counter")
    ++ sample (codes "dispatch_shares_placed_total") placed

-- what became of them
unfoldable pub parts_text : Totals → List ℕ
parts_text parts =
    metric_head (codes "dispatch_shares") (codes "What became of the shares that were placed.") (codes "gauge")
    ++ sample (codes "dispatch_shares{part=\"filled\"}") parts.filled
    ++ sample (codes "dispatch_shares{part=\"busted\"}") parts.busted
    ++ sample (codes "dispatch_shares{part=\"cancelled\"}") parts.cancelled
    ++ sample (codes "dispatch_shares{part=\"withdrawn\"}") parts.withdrawn
    ++ sample (codes "dispatch_shares{part=\"open\"}") parts.still_open

-- how many wrong tokens came
unfoldable pub wrong_tokens_text : ℕ → List ℕ
wrong_tokens_text count =
    metric_head (codes "dispatch_wrong_tokens_total") (codes "Requests with a token that is nobody's.")
    (codes "counter")
    ++ sample (codes "dispatch_wrong_tokens_total") count

-- the program's version, when it began to serve, what it uses, the day's sweeps, those that were refused, the day's
-- shares, the wrong tokens, and what is told of each venue
unfoldable pub metrics_text : Run → Option ProcessUse → DaySums → RefusalCounts → ℕ → List VenueRow → List ℕ
metrics_text run used sums refusals wrong_tokens venues =
    build_text ++ begun_text run.begun ++ use_text used ++ sweeps_text sums.sweeps ++ refusals_text refusals
    ++ placed_text sums.placed ++ parts_text sums.parts ++ wrong_tokens_text wrong_tokens ++ venues_text venues
