use Rattle.check_command.proofs.LogsRead.{log_read}
use Rattle.check_command.proofs.logs.check_path.Goals as goal

pub returns : goal.returns
returns g c =
    log_read c.args.request.now c.args.is_of_day c.printing-printing.result c.args.path.now
    (g.W.Write.contents c.args.out.now)
    (g.W.Write.contents c.print_log.new.out) (g.W.Write.contents c.check_exactly.new.out) c.in_ok-first.first
    _ c.in_ok-is_other.is_other c.printing-printing.ensures.style c.printing-printing.ensures.path c.printing-printing.ensures.is_json
    c.in_ok-first.ensures c.exact_of-by.ensures c.in_ok-is_other.ensures
