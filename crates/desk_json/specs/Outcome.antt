-- What a sweep that is handed in is answered, in JSON.
use Rattle.std.specs.Prelude.{ℕ, List, ◌++◌, Option, Some, None, codes, decimal}
use Rattle.desk_answers.specs.declared.answer.Refusal.{Refusal}
use Rattle.desk_answers.specs.declared.answer.Refusal.TheVariants.{NoLegs, TooManyLegs, UnknownVenue, GateDown, BacklogFull, SweepsSpent, OutOfMemory, WrongBook, OtherLegs, NoReference, OverLimit}
use Rattle.order_limits.specs.Over.{over_code, over_text}
use Rattle.desk_json.specs.declared.outcome.Outcome.{Outcome}
use Rattle.desk_json.specs.declared.outcome.Outcome.TheVariants.{Placed, Again, Refused, Closing}

-- the end of a refusal, with the venue that is to blame, if one is
abbrev pub venue_json : Option (List ℕ) → List ℕ
venue_json None = codes "\"}"
venue_json (Some venue) = codes "\",\"venue\":\"" ++ venue ++ codes "\"}"

-- why a sweep isn't placed; a venue that is to blame is named
abbrev pub refusal_json : Refusal → List ℕ
refusal_json NoLegs = codes "{\"refused\":\"R01\",\"text\":\"it has no legs\"}"
refusal_json TooManyLegs = codes "{\"refused\":\"R02\",\"text\":\"it has more than 32 legs\"}"
refusal_json UnknownVenue = codes "{\"refused\":\"R03\",\"text\":\"a leg is for no venue of the desk\"}"
refusal_json (GateDown venue) =
    codes "{\"refused\":\"R04\",\"text\":\"its gate is down\",\"venue\":\"" ++ venue ++ codes "\"}"
refusal_json (BacklogFull venue) =
    codes "{\"refused\":\"R05\",\"text\":\"its backlog is full\",\"venue\":\"" ++ venue ++ codes "\"}"
refusal_json SweepsSpent = codes "{\"refused\":\"R06\",\"text\":\"the numbers of sweeps are spent\"}"
refusal_json OutOfMemory = codes "{\"refused\":\"R07\",\"text\":\"out of memory\"}"
refusal_json WrongBook = codes "{\"refused\":\"R08\",\"text\":\"the book isn't the desk's\"}"
refusal_json OtherLegs = codes "{\"refused\":\"R09\",\"text\":\"its reference is another sweep's\"}"
refusal_json NoReference = codes "{\"refused\":\"R10\",\"text\":\"it has no reference\"}"
refusal_json (OverLimit venue over) =
    codes "{\"refused\":\"" ++ over_code over ++ codes "\",\"text\":\"" ++ over_text over ++ venue_json venue

-- the refusal of a day that is closing
abbrev pub closing_json : List ℕ
closing_json = codes "{\"refused\":\"closing\",\"text\":\"the day is closing\"}"

-- as `{"placed":12,"shares":150}`, with `"again":true` where it was placed before, or the refusal
abbrev pub outcome_json : Outcome → List ℕ
outcome_json (Placed sweep shares) =
    codes "{\"placed\":" ++ decimal sweep ++ codes ",\"shares\":" ++ decimal shares ++ codes "}"
outcome_json (Again sweep shares) =
    codes "{\"placed\":" ++ decimal sweep ++ codes ",\"shares\":" ++ decimal shares ++ codes ",\"again\":true}"
outcome_json (Refused refusal) = refusal_json refusal
outcome_json Closing = closing_json
