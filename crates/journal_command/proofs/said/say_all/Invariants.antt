use Rattle.std.proofs.Common.{map}
use Rattle.std.specs.Prelude.{string_bytes}
use Rattle.journal_command.specs.Judged.{Says}
use Rattle.journal_command.proofs.said.say_all.Given as goal

abbrev pub invariant-loop-name : goal.invariant-loop-name
invariant-loop-name g l = Says l.request.tells_lines (map (λ j. (string_bytes j.0, j.1)) l.journals.entries)
    (map (λ j. (string_bytes j.0, j.1)) l.name-iterator) l.said.text.items l.said.is_broken
