use Rattle.std.proofs.Common.{drop}
use Rattle.check_command.proofs.DayJudged.{ToldSoFar}
use Rattle.check_command.specs.DayRead.{all_sentences}
use Rattle.check_command.specs.Sentences.{day_read}
use Rattle.check_command.proofs.sentences.judge_day.Given as goal

abbrev pub invariant-loop-place : goal.invariant-loop-place
invariant-loop-place g l =
    ToldSoFar l.printing.is_json (day_read l.printing l.day l.desk) (drop l.place all_sentences)
    (g.W.Write.contents l.initial.out) (g.W.Write.contents l.out) l.is_broken
