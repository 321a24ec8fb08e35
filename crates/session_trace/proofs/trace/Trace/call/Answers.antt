use Rattle.session_trace.proofs.Going.{goes_call}
use Rattle.session_trace.proofs.trace.Trace.call.Goals as goal

pub returns : goal.returns
returns g c =
    goes_call (g.D.Dialect.wording c.args.dialect.now) c.args.self.now c.make.new.self c.args.call.now c.make.result
    c.requires c.make.ensures
