use Rattle.worker_restart.proofs.ByBytes.{the_day_by_bytes_over_lives}
use Rattle.worker_restart.proofs.laws.every_venue_of_an_audited_day_of_several_lives_is_safe_by_its_bytes.Goals as goal

pub returns : goal.returns
returns g c =
    let d = c.args.dialect.now in
    the_day_by_bytes_over_lives (g.D.Dialect.wording d) (g.met.D.Dialect.is_wording d)
