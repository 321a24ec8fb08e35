use Rattle.std.proofs.Common.{ℕ, List, sym, ap, ◌∙◌, subst, arith}
use Rattle.std.specs.Prelude.{Err}
use Rattle.fix_tags.specs.Stamp.{stamp_read}
use Rattle.journal_words.specs.Reading.{ReadsDeed, behind_space}
use Rattle.journal_words.proofs.Faults.{other_fault}
use Rattle.journal_words.proofs.read.read_other.Goals as goal

pub returns-in-Err : goal.returns-in-Err
returns-in-Err c fields =
    other_fault c.args.line.now c.in-Some.stamp c.in-Err.fault fields (omega arith)
    (sym (c.in-Some.ensures ∙ ap stamp_read c.split_at.ensures.front))
    (subst (λ (rest : List ℕ). ReadsDeed (behind_space rest) (Err c.in-Err.fault) fields) c.split_at.ensures.back
    (c.in-Err.ensures fields))
