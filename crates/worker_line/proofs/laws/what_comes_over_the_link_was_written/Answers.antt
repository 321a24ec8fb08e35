use Rattle.worker_line.proofs.Coming.{the_wire_theorem}
use Rattle.worker_line.proofs.laws.what_comes_over_the_link_was_written.Goals as goal

pub returns : goal.returns
returns g c =
    let d = c.args.dialect.now in
    the_wire_theorem (g.D.Dialect.wording d) (g.met.D.Dialect.is_wording d)
