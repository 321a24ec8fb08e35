-- What a start tells, and the same in JSON.
use Rattle.std.specs.Prelude.{◌≡◌, ℕ, ◌-◌, List, [], ◌∷◌, ◌++◌, codes, decimal, length, map, sum_by, Some}
use Rattle.desk_json.specs.Parted.{parted}
use Rattle.resend.specs.Window.{window}
use Rattle.session_core.specs.Session.{next_out}
use Rattle.sweep_refs.specs.declared.submission.Submission.{Submission}
use Rattle.session_worker.specs.Restoring.{StartParts}
use Rattle.day_restart.specs.declared.desk_past.Placed.{Placed}
use Rattle.day_restart.specs.declared.told.Restored.{Restored}
use Rattle.day_restart.specs.declared.told.VenueRestored.{VenueRestored}
use Rattle.day_restart.specs.Restored.{entries_of, legs_in, restored_desk, shares_in, up_to_most}

-- how the session of a venue of this name stands, and those of several
abbrev pub venue_row : List ℕ → StartParts → VenueRestored
venue_row name start = record {
  venue = name;
  next_out = next_out start.session;
  next_in = start.session.expected;
  doubt = length (window start.session.log);
}

abbrev pub venue_rows : List (List ℕ) → List StartParts → List VenueRestored
venue_rows (name ∷ names) (start ∷ starts) = venue_row name start ∷ venue_rows names starts
venue_rows _ _ = []

-- what is told of so many sweeps with so many legs, where the workers of venues of these names begin with this
pub record IsToldOf (names : List (List ℕ)) (starts : List StartParts) (sweeps legs : ℕ) (told : Restored)
    : Type 0 where
  pub told_sweeps : told.sweeps ≡ sweeps
  pub told_legs : told.legs ≡ legs
  pub executions : told.executions ≡ up_to_most (sum_by (λ s. s.counted) starts)
  pub venues : told.venues.items ≡ venue_rows names starts
  pub withdrawn : told.withdrawn ≡ legs - up_to_most (sum_by (λ s. length s.took.taken) starts)

-- of a day of venues of these names: the references, the shares and what is told are of the sweeps that the desk's
-- lines say were placed, and of the starts
pub record TellsDay (names lines venues : List (List ℕ)) (refs : List Placed) (shares : ℕ) (starts : List StartParts)
    (told : Restored) : Type 0 where
  pub submissions : List Submission
  pub said : restored_desk names lines ≡ Some submissions
  pub entries : map (λ p. (p.reference, p.placement)) refs ≡ entries_of submissions
  pub shares_are : shares ≡ up_to_most (shares_in submissions)
  pub said_of : IsToldOf venues starts (length submissions) (up_to_most (legs_in submissions)) told

abbrev pub venue_json : VenueRestored → List ℕ
venue_json v = codes "{\"venue\":\"" ++ v.venue ++ codes "\",\"out\":" ++ decimal v.next_out
    ++ codes ",\"in\":" ++ decimal v.next_in ++ codes ",\"doubt\":" ++ decimal v.doubt ++ codes "}"

-- the counts, up to the venues; what was withdrawn, behind them; and the whole
abbrev pub counts_json : Restored → List ℕ
counts_json told = codes "{\"restored\":{\"sweeps\":" ++ decimal told.sweeps ++ codes ",\"legs\":"
    ++ decimal told.legs ++ codes ",\"executions\":" ++ decimal told.executions ++ codes ",\"venues\":["

abbrev pub withdrawn_json : ℕ → List ℕ
withdrawn_json withdrawn = codes "],\"withdrawn\":" ++ decimal withdrawn ++ codes "}}"

abbrev pub restored_json : Restored → List ℕ
restored_json told = counts_json told ++ parted venue_json [] told.venues.items ++ withdrawn_json told.withdrawn
