use Rattle.worker_line.proofs.Frames.{the_frames_theorem}
use Rattle.worker_line.proofs.laws.what_is_read_was_written.Goals as goal

pub returns : goal.returns
returns g c =
    let d = c.args.dialect.now in
    the_frames_theorem (g.D.Dialect.wording d) (g.met.D.Dialect.is_wording d)
