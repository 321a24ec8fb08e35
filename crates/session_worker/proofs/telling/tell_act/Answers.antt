use Rattle.std.proofs.Common.{refl, ◌∙◌}
use Rattle.journal_words.specs.Deed.{timed}
use Rattle.journal_words.specs.Deed.DeedSaid.{Acts}
use Rattle.journal_words.specs.Words.{deed_line}
use Rattle.session_worker.proofs.Spoken.{stays_here}
use Rattle.session_worker.proofs.Speech.{stays_on}
use Rattle.session_worker.proofs.Told.{line_from}
use Rattle.session_worker.proofs.telling.tell_act.Goals as goal

pub loop-init : goal.loop-init
loop-init g c = (refl, stays_here _)

pub loop-preserved : goal.loop-preserved
loop-preserved g c = (c.in-Err.ensures ∙ c.loop.invariant.0, stays_on _ _ _ c.loop.invariant.1 c.wait.ensures.wire)

pub returns-in-Ok-clause-told : goal.returns-in-Ok-clause-told
returns-in-Ok-clause-told g c =
    line_from (deed_line (timed c.args.stamp.now (Acts c.args.act)))
    (g.J.Telling.told c.args.journal.now) (g.J.Telling.told c.loop.journal) (g.J.Telling.told c.tell_act.new.self)
    c.loop.invariant.0 c.in-Ok.ensures

pub returns-in-Ok-clause-wire : goal.returns-in-Ok-clause-wire
returns-in-Ok-clause-wire g c = c.loop.invariant.1
