-- Executions with the names of their venues.
use Rattle.std.specs.Prelude.{ℕ, List, Option, option_map, slice_get}
use Rattle.desk_executions.specs.declared.execution.Execution.{Execution}
use Rattle.day_executions.specs.declared.lent.SaidNote.{SaidNote}

-- what was heard with the name of its venue, if there is one at its place
abbrev pub execution_of : List (List ℕ) → SaidNote → Option Execution
execution_of names said =
    option_map (λ name. record {
      number = said.note.number;
      venue = name;
      note = said.note.heard.note;
      answer = said.note.heard.answer;
      words = said.words;
    }) (slice_get names said.note.heard.venue)
