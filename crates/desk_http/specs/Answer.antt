-- What a call is answered, over what the day says.
use Rattle.std.specs.Prelude.{◌≡◌, ◌⊎◌, ℕ, ◌==◌, Bool, List, drop, length, Option, Some, None, Result, Ok, Err, codes, if◌then◌else◌}
use Rattle.std.specs.Str.{bytes_eq}
use Rattle.percent_encoding.specs.Percent.{percent_decode}
use Rattle.sweep_refs.specs.Ref.{ref_of}
use Rattle.sweep_refs.specs.declared.submission.Submission.{Submission}
use Rattle.sweep_text.specs.Legs.{and_then, or_fault, result_map}
use Rattle.desk_json.specs.declared.outcome.Outcome.{Outcome}
use Rattle.desk_json.specs.declared.outcome.Outcome.TheVariants as outcome
use Rattle.desk_json.specs.declared.standing.ExecutionsPage.{ExecutionsPage}
use Rattle.desk_json.specs.declared.standing.SweepLegs.{SweepLegs}
use Rattle.desk_json.specs.declared.standing.SweepsPage.{SweepsPage}
use Rattle.desk_json.specs.declared.standing.VenueRow.{VenueRow}
use Rattle.desk_json.specs.declared.sweep_fault.BodyFault.{BodyFault}
use Rattle.desk_json.specs.declared.sweep_fault.BodyFault.TheVariants.{BadKey, TwoReferences}
use Rattle.desk_json.specs.Executions.{executions_json}
use Rattle.desk_json.specs.FaultJson.{body_fault_json, said_json}
use Rattle.desk_json.specs.Legs.{legs_json}
use Rattle.desk_json.specs.Outcome.{outcome_json}
use Rattle.desk_json.specs.Sweep.{BodySays}
use Rattle.desk_json.specs.Sweeps.{sweeps_json}
use Rattle.desk_json.specs.Venues.{venues_json}
use Rattle.desk_http.specs.declared.day_sums.DaySums.{DaySums}
use Rattle.desk_http.specs.declared.process_use.ProcessUse.{ProcessUse}
use Rattle.desk_http.specs.declared.refusal_counts.RefusalCounts.{RefusalCounts}
use Rattle.desk_http.specs.declared.reply.Kind.TheVariants.{Json, Metrics}
use Rattle.desk_http.specs.declared.reply.Reply.{Reply}
use Rattle.desk_http.specs.declared.run.Run.{Run}
use Rattle.desk_http.specs.declared.status.Status.{Status}
use Rattle.desk_http.specs.declared.stopped.Stopped.{Stopped}
use Rattle.desk_http.specs.declared.status.Status.TheVariants as status
use Rattle.desk_http.specs.Metrics.{metrics_text}
use Rattle.desk_http.specs.Parts.{parts_at}
use Rattle.desk_http.specs.Reply.{IsReply}
use Rattle.desk_http.specs.Stopped.{resumed_json, stopped_json}

-- 201 where a sweep was placed, 200 where it was placed before, 409 where it was refused
abbrev pub outcome_status : Outcome → Status
outcome_status (outcome.Placed sweep shares) = status.Created
outcome_status (outcome.Again sweep shares) = status.Ok
outcome_status (outcome.Refused refusal) = status.Conflict
outcome_status outcome.Closing = status.Conflict

-- the sweep was handed in by this user, and the answer is what became of it
pub record Placed {S : Type 0} (places : S → Submission → Option ℕ → Outcome → S → Type 0) (old : S)
    (submission : Submission) (by : Option ℕ) (reply : Reply) (new : S) : Type 0 where
  pub said : Outcome
  pub by_the_day : places old submission by said new
  pub answer : IsReply reply (outcome_status said) Json (outcome_json said)

-- the key of a head, read: none where the head has none
abbrev pub key_in : List ℕ → Result (Option (List ℕ)) BodyFault
key_in key = if length key == 0 then Ok None else result_map Some (or_fault BadKey (ref_of key))

-- one reference of the two that head and body may have: where both have one, they have to be the same
abbrev pub one_of : Option (List ℕ) → Option (List ℕ) → Result (Option (List ℕ)) BodyFault
one_of None reference = Ok reference
one_of (Some key) None = Ok (Some key)
one_of (Some key) (Some reference) = if bytes_eq key reference then Ok (Some key) else Err TwoReferences

-- the sweep of a body under the key of the head
abbrev pub keyed : List ℕ → Submission → Result Submission BodyFault
keyed key submission =
    and_then (key_in key) (λ head. and_then (one_of head submission.reference) (λ reference.
    Ok (record submission { reference = reference })))

-- body and head ask for this sweep, or have this fault
pub record Asks (names : List (List ℕ)) (body key : List ℕ) (asked : Result Submission BodyFault) : Type 0 where
  pub in_body : Result Submission BodyFault
  pub read : BodySays names body in_body
  pub asked_is : asked ≡ and_then in_body (keyed key)

-- they ask for a sweep, which was handed in by this user
pub record HandedIn {S : Type 0} (names : List (List ℕ)) (places : S → Submission → Option ℕ → Outcome → S → Type 0)
    (body key : List ℕ) (by : Option ℕ) (old : S) (reply : Reply) (new : S) : Type 0 where
  pub submission : Submission
  pub asks : Asks names body key (Ok submission)
  pub placed : Placed places old submission by reply new

-- they have a fault, the day was asked nothing, and the answer is the fault
pub record NoSweep {S : Type 0} (names : List (List ℕ)) (body key : List ℕ) (old : S) (reply : Reply) (new : S)
    : Type 0 where
  pub fault : BodyFault
  pub asks : Asks names body key (Err fault)
  pub unasked : new ≡ old
  pub answer : IsReply reply status.BadRequest Json (body_fault_json fault)

-- a body is handed in by this user under the key of its head, or one of them has a fault
abbrev pub Handles : {S : Type 0} → List (List ℕ) → (S → Submission → Option ℕ → Outcome → S → Type 0) → List ℕ
    → List ℕ → Option ℕ → S → Reply → S → Type 0
Handles names places body key by old reply new =
    HandedIn names places body key by old reply new ⊎ NoSweep names body key old reply new

-- the answer is the page of sweeps that the day said
pub record ShowsSweeps {S : Type 0} (pages : S → ℕ → ℕ → SweepsPage → S → Type 0) (after most : ℕ) (old : S)
    (reply : Reply) (new : S) : Type 0 where
  pub said : SweepsPage
  pub by_the_day : pages old after most said new
  pub answer : IsReply reply status.Ok Json (sweeps_json said)

-- the answer is the legs that the day said, or that there is no such sweep
abbrev pub IsLegs : Reply → Option SweepLegs → Type 0
IsLegs reply None = IsReply reply status.NotFound Json (said_json (codes "no such sweep"))
IsLegs reply (Some legs) = IsReply reply status.Ok Json (legs_json legs)

pub record ShowsLegs {S : Type 0} (shows : S → ℕ → Option SweepLegs → S → Type 0) (number : ℕ) (old : S)
    (reply : Reply) (new : S) : Type 0 where
  pub said : Option SweepLegs
  pub by_the_day : shows old number said new
  pub answer : IsLegs reply said

-- the reference that a target's query asks for, behind its `ref=`
abbrev pub ref_asked : List ℕ → Option (List ℕ)
ref_asked target = ref_of (percent_decode (drop 4 (parts_at 63 target).1))

-- the answer is that there is no such sweep, or the legs that the day said of the one that was found
abbrev pub ShowsFound : {S : Type 0} → (S → ℕ → Option SweepLegs → S → Type 0) → Option ℕ → S → Reply → S → Type 0
ShowsFound shows None old reply new = IsLegs reply None × (new ≡ old)
ShowsFound shows (Some number) old reply new = ShowsLegs shows number old reply new

-- the same, of the sweep that the day finds under a reference; under a text that is no reference there is none
abbrev pub Finds : {S : Type 0} → (S → List ℕ → Option ℕ → Type 0) → (S → ℕ → Option SweepLegs → S → Type 0)
    → Option (List ℕ) → S → Reply → S → Type 0
Finds finds shows None old reply new = IsLegs reply None × (new ≡ old)
Finds finds shows (Some reference) old reply new =
    (number : Option ℕ) × finds old reference number × ShowsFound shows number old reply new

-- the answer is the page of executions that the day said
pub record ShowsExecutions {S : Type 0} (reports : S → ℕ → ℕ → ExecutionsPage → S → Type 0) (after most : ℕ) (old : S)
    (reply : Reply) (new : S) : Type 0 where
  pub said : ExecutionsPage
  pub by_the_day : reports old after most said new
  pub answer : IsReply reply status.Ok Json (executions_json said)

-- the answer is the venues that the day said
pub record ShowsVenues {S : Type 0} (lists : S → List VenueRow → S → Type 0) (old : S) (reply : Reply) (new : S)
    : Type 0 where
  pub said : List VenueRow
  pub by_the_day : lists old said new
  pub answer : IsReply reply status.Ok Json (venues_json said)

-- the day was closed by this user, and that is the answer
pub record Closes {S : Type 0} (closes : S → Option ℕ → S → Type 0) (by : Option ℕ) (old : S) (reply : Reply) (new : S)
    : Type 0 where
  pub by_the_day : closes old by new
  pub answer : IsReply reply status.Accepted Json (codes "{\"closing\":true}")

-- the desk was halted by this user, and the answer is what came of it; the same of a resume
pub record Halts {S : Type 0} (halts : S → Option ℕ → Stopped → S → Type 0) (by : Option ℕ) (old : S) (reply : Reply)
    (new : S) : Type 0 where
  pub came : Stopped
  pub by_the_day : halts old by came new
  pub answer : IsReply reply status.Ok Json (stopped_json came)

pub record Resumes {S : Type 0} (resumes : S → Option ℕ → Bool → S → Type 0) (by : Option ℕ) (old : S) (reply : Reply)
    (new : S) : Type 0 where
  pub is_kept : Bool
  pub by_the_day : resumes old by is_kept new
  pub answer : IsReply reply status.Ok Json (resumed_json is_kept)

-- the answer is the metrics of this run and of what the day said: of its venues, and then of its sums, of what it
-- refused, of the wrong tokens that came, and of what the process uses
pub record ShowsMetrics {S : Type 0} (lists : S → List VenueRow → S → Type 0) (sums_up : S → DaySums → S → Type 0)
    (refuses : S → RefusalCounts → Type 0) (guesses : S → ℕ → Type 0) (uses : S → Option ProcessUse → Type 0)
    (run : Run) (old : S) (reply : Reply) (new : S) : Type 0 where
  pub venues : List VenueRow
  pub meanwhile : S
  pub venues_by_the_day : lists old venues meanwhile
  pub sums : DaySums
  pub sums_by_the_day : sums_up meanwhile sums new
  pub refusals : RefusalCounts
  pub refusals_by_the_day : refuses new refusals
  pub wrong_tokens : ℕ
  pub guesses_by_the_day : guesses new wrong_tokens
  pub used : Option ProcessUse
  pub uses_by_the_day : uses new used
  pub answer : IsReply reply status.Ok Metrics (metrics_text run used sums refusals wrong_tokens venues)
