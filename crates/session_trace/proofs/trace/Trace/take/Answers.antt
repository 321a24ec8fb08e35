use Rattle.session_trace.proofs.Going.{goes_received}
use Rattle.session_trace.proofs.trace.Trace.take.Goals as goal

pub returns-in-Received : goal.returns-in-Received
returns-in-Received g c =
    rw c.in-Received.is
    (goes_received (g.D.Dialect.wording c.args.dialect.now) c.args.self.now c.receive.new.self c.in-Received.frame
    c.receive.result c.receive.ensures)
