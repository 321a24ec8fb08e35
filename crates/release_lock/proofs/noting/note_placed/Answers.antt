use Rattle.std.proofs.Common.{[], ◌∷◌}
use Rattle.journal_words.specs.Desk.{desk_text}
use Rattle.journal_words.specs.Desk.DeskSaid.{Places}
use Rattle.kept_link.proofs.Lines.{lines_one, lines_on}
use Rattle.release_lock.proofs.noting.note_placed.Goals as goal

pub returns-clause-told : goal.returns-clause-told
returns-clause-told g c =
    let line = desk_text c.args.asked.now.stamp (Places c.args.number c.args.asked.now.line.now) in
    let before = g.J.Telling.told c.args.journal.now in
    let told = g.J.Telling.told c.tell_placed.new.journal in
    let kept = g.J.Telling.told c.keep.new.journal in
    lines_on (line ∷ []) [] before told kept (lines_one line before told c.tell_placed.ensures) c.keep.ensures.told
