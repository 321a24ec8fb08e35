use Rattle.std.proofs.Common.{ℕ, sym, ap, ◌∙◌, if◌then◌else◌}
use Rattle.share_ledger.specs.Entries.{is_same_leg}
use Rattle.exec_collector.specs.Day.{added, disputed_at, disputed_by, shares_told}
use Rattle.exec_collector.proofs.Disputing.{none_added, not_disputed, told_by, untold}
use Rattle.exec_collector.proofs.disputed.Disputed.hear.Goals as goal

pub returns-then-not-is_disputed : goal.returns-then-not-is_disputed
returns-then-not-is_disputed c = λ id.
    none_added (disputed_at c.args.self.now id) (disputed_by id c.args.note.now c.args.answer)
    (not_disputed id c.args.note.now c.args.answer (sym c.is_disputed.ensures ∙ c.if-not-is_disputed.true))

pub returns-in-Report : goal.returns-in-Report
returns-in-Report c = λ id.
    c.add.ensures id
    ∙ (ap (λ (n : ℕ). added (disputed_at c.args.self.now id) (if is_same_leg c.in-Report.report.id id then n else 0))
    c.shares_of_kind.ensures
    ∙ sym (ap (added (disputed_at c.args.self.now id))
    (told_by id c.args.note.now c.args.answer c.in-Report.report
    (sym c.is_disputed.ensures ∙ c.if-not-is_disputed.false) c.in-Report.is)))

pub returns-in-Refused : goal.returns-in-Refused
returns-in-Refused c = λ id.
    none_added (disputed_at c.args.self.now id) (disputed_by id c.args.note.now c.args.answer)
    (untold id c.args.note.now c.args.answer (ap (shares_told id) c.in-Refused.is))

pub returns-in-Unread : goal.returns-in-Unread
returns-in-Unread c = λ id.
    none_added (disputed_at c.args.self.now id) (disputed_by id c.args.note.now c.args.answer)
    (untold id c.args.note.now c.args.answer (ap (shares_told id) c.in-Unread.is))
