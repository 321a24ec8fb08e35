use Rattle.worker_line.proofs.DayByBytes.{the_day_by_bytes}
use Rattle.worker_line.proofs.laws.every_venue_of_an_audited_day_is_safe_by_its_bytes.Goals as goal

pub returns : goal.returns
returns g c =
    let d = c.args.dialect.now in
    the_day_by_bytes (g.D.Dialect.wording d) (g.met.D.Dialect.is_wording d)
