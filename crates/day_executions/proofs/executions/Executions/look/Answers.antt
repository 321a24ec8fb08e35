use Rattle.std.proofs.Common.{map, ap, ◌∙◌}
use Rattle.day_executions.specs.Executions.{IsHeard, said_by}
use Rattle.day_executions.proofs.Indexing.{index_end}
use Rattle.day_executions.proofs.Lending.{as_many_places}
use Rattle.day_executions.proofs.Now.{all_said}
use Rattle.day_executions.proofs.executions.Executions.look.Goals as goal

pub returns-clause-lent : goal.returns-clause-lent
returns-clause-lent c = λ index.
    let looked = c.look_on.new.self in
    let are = index_end looked.entries looked.items looked.places.items c.args.history.now c.args.unbooked.now
    (c.in_ok-look_on.ensures.index index) (c.in_ok-look_on.ensures.end c.if-branch.false) in
    record {
      notes = c.in_ok-notes.ensures
          ∙ ap (map (said_by c.args.words.now)) (c.in_ok-heard.ensures.notes are);
      last = c.len.ensures ∙ looked.places.ok.0 ∙ as_many_places looked.places.items c.args.history.now c.args.unbooked.now are;
    }

pub returns-clause-told : goal.returns-clause-told
returns-clause-told c =
    all_said IsHeard c.args.history.now c.args.unbooked.now c.args.words.now c.in_ok-heard.heard.items
    c.in_ok-notes.notes.items c.in_ok-notes.ensures c.in_ok-heard.ensures.told
