use Rattle.std.proofs.Common.{◌≡◌, Some, rules}
use Rattle.journal_log.specs.Head.{head_words}
use Rattle.journal_command.proofs.Logs.{files_of, stop_keeps}
use Rattle.journal_command.proofs.log.log_venue.Goals as goal

pub returns-in-Err : goal.returns-in-Err
returns-in-Err g c =
    let words : c.in_ok-found.found.words ≡ Some (head_words c.in-Some.head) = search rules in
    let files = files_of c.in_ok-found.found c.in_ok-found.ensures in
    stop_keeps files.0 c.in_ok-found.found c.in-Some.head _ (g.W.Write.contents c.args.out.now)
    (g.W.Write.contents c.print_log.new.out) c.in-Err.why c.stop_fault.result
    (record { are = files.1; words = words }) c.lines.ensures c.in-Err.ensures c.stop_fault.ensures
