use Rattle.std.proofs.Common.{List, map, ap, ◌∙◌}
use Rattle.std.proofs.lemmas.Result.{IfOk-weaker}
use Rattle.share_ledger.specs.declared.book_entry.BookEntry.{BookEntry}
use Rattle.exec_collector.specs.Unbooked.{CountedParts}
use Rattle.day_executions.specs.Executions.{IsIndex, said_by, untaken_behind}
use Rattle.day_executions.proofs.Calls.{begins, nothing_looked}
use Rattle.day_executions.proofs.Indexing.{index_end}
use Rattle.day_executions.proofs.executions.all_untaken.Goals as goal

pub returns : goal.returns
returns c =
    let history = c.history-history.result.now in
    let unbooked = c.args.unbooked.now in
    let day : CountedParts = record { book = c.args.book.now; unbooked = unbooked } in
    let new = c.new-executions.result in
    let index : IsIndex new.entries new.items new.places.items history unbooked =
    begins new.entries new.items new.places.items history c.args.book.now.entries unbooked c.new-executions.ensures.0
    c.new-executions.ensures.1 c.new-executions.ensures.2 c.history-history.ensures (nothing_looked day c.requires) in
    let looked = c.look_to_end.new.self in
    let are = index_end looked.entries looked.items looked.places.items history unbooked
    (c.in_ok-look_to_end.ensures.index index) c.in_ok-look_to_end.ensures.end in
    IfOk-weaker c.with_words.result _ _
    (λ said is. is ∙ ap (map (said_by c.args.words.now))
    (c.in_ok-notes.ensures.notes are ∙ ap (λ (l : List BookEntry). untaken_behind 0 l unbooked) c.history-history.ensures))
    c.with_words.ensures
