use Rattle.dialect.specs.Wording.{Wording}
use Rattle.session_trace.proofs.Going.{goes_then, goes_broken}
use Rattle.session_trace.proofs.trace.Trace.spend.Goals as goal

pub returns : goal.returns
returns g c =
    let w : Wording = g.D.Dialect.wording c.args.dialect.now in
    goes_then w c.args.self.now c.call.new.self c.break_off.new.self c.in_ok-call.ensures
    (goes_broken w c.call.new.self c.break_off.new.self c.break_off.ensures.session c.break_off.ensures.due
    c.break_off.ensures.unheard)
