-- What the book didn't take in a day.
use Rattle.std.specs.Prelude.{ℕ, List, filter_map, map}
use Rattle.desk_executions.specs.declared.execution.Execution.{Execution}
use Rattle.exec_collector.specs.Unbooked.{CountedParts}
use Rattle.day_executions.specs.Executions.{said_by, untaken_behind}
use Rattle.day_executions.specs.Named.{execution_of}
use Rattle.report_words.specs.declared.report_words.ReportWords.{ReportWords}

-- all that this book didn't take, by the list beside it, each with its words and the name of its venue
abbrev pub unbooked_in : List (List ℕ) → CountedParts → List ReportWords → List Execution
unbooked_in names counted words =
    filter_map (execution_of names)
    (map (said_by words) (untaken_behind 0 counted.book.entries counted.unbooked))
