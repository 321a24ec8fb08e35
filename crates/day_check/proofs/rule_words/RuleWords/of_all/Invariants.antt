use Rattle.std.proofs.Common.{◌≡◌, length}
use Rattle.day_check.proofs.rule_words.RuleWords.of_all.Given as goal

abbrev pub invariant-loop-place : goal.invariant-loop-place
invariant-loop-place l = length l.words ≡ 22
