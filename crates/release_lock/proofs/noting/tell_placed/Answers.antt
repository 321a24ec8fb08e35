use Rattle.std.proofs.Common.{refl, ◌∙◌}
use Rattle.journal_words.specs.Desk.{desk_text}
use Rattle.journal_words.specs.Desk.DeskSaid.{Places}
use Rattle.kept_link.proofs.Lines.{line_from}
use Rattle.release_lock.proofs.noting.tell_placed.Goals as goal

pub loop-init : goal.loop-init
loop-init g c = refl

pub loop-preserved : goal.loop-preserved
loop-preserved g c = c.in-Err.ensures ∙ c.loop.invariant

pub returns-in-Ok : goal.returns-in-Ok
returns-in-Ok g c =
    line_from (desk_text c.args.asked.now.stamp (Places c.args.number c.args.asked.now.line.now))
    (g.J.Telling.told c.args.journal.now) (g.J.Telling.told c.loop.journal) (g.J.Telling.told c.tell_desk.new.self)
    c.loop.invariant c.in-Ok.ensures
