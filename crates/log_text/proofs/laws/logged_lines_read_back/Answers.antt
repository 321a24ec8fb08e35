use Rattle.std.proofs.Common.{arith}
use Rattle.log_text.proofs.LineBack.{logged_line_back}
use Rattle.log_text.proofs.laws.logged_lines_read_back.Goals as goal

pub returns : goal.returns
returns c line logged_so =
    logged_line_back c.args.stamp.now c.args.direction c.args.message.now line c.year-year.ensures.within
    (λ k. omega (arith, c.type_inv.message k)) logged_so
