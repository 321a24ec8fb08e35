-- What a person who halts or pauses is answered.
use Rattle.std.specs.Prelude.{ℕ, List, ◌++◌, codes}
use Rattle.desk_talk.specs.declared.hold_answer.HoldAnswer.{HoldAnswer}
use Rattle.desk_talk.specs.declared.hold_answer.HoldAnswer.TheVariants as answer

abbrev pub hold_text : HoldAnswer → List ℕ
hold_text answer.Halted = codes "halted"
hold_text answer.Resumed = codes "resumed"
hold_text (answer.Paused venue) = codes "paused " ++ venue.now
hold_text (answer.Unpaused venue) = codes "resumed " ++ venue.now
hold_text (answer.Halting venue) = codes "halting: " ++ venue.now ++ codes " hasn't stopped yet"
hold_text (answer.Pausing venue) = codes "pausing: " ++ venue.now ++ codes " hasn't stopped yet"
hold_text answer.HaltedUnkept = codes "halted, but a restart isn't: can't write the file halted"
hold_text answer.ResumedUnkept = codes "resumed, but a restart isn't: can't write the file halted"

-- the same as an object of JSON; a venue's name has no byte that JSON writes otherwise
abbrev pub hold_json : HoldAnswer → List ℕ
hold_json answer.Halted = codes "{\"halted\":true}"
hold_json answer.Resumed = codes "{\"resumed\":true}"
hold_json (answer.Paused venue) = codes "{\"paused\":\"" ++ venue.now ++ codes "\"}"
hold_json (answer.Unpaused venue) = codes "{\"resumed\":\"" ++ venue.now ++ codes "\"}"
hold_json (answer.Halting venue) = codes "{\"halting\":\"" ++ venue.now ++ codes "\"}"
hold_json (answer.Pausing venue) = codes "{\"pausing\":\"" ++ venue.now ++ codes "\"}"
hold_json answer.HaltedUnkept = codes "{\"halted\":true,\"kept\":false}"
hold_json answer.ResumedUnkept = codes "{\"resumed\":true,\"kept\":false}"
