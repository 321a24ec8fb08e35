use Rattle.std.proofs.Common.{refl}
use Rattle.session_core.specs.Calling.{silent}
use Rattle.session_core.specs.declared.session_call.SessionCall.TheVariants as call
use Rattle.journal_log.proofs.Given.{call_writes}
use Rattle.journal_log.proofs.logged_session.LoggedSession.act.Goals as goal

pub returns-in-Silenced-clause-writes : goal.returns-in-Silenced-clause-writes
returns-in-Silenced-clause-writes g c =
    rw c.in-Silenced.is
    (call_writes (g.D.Dialect.wording c.args.dialect.now) c.args.stamp.now c.args.self.now c.silent.new.self call.Silent
    (silent c.args.self.now) c.silent.result c.frames_of-in-Silenced.result refl (rw (← c.self.view_is) c.silent.ensures.gives) c.frames_of-in-Silenced.ensures.frames
    c.frames_of-in-Silenced.ensures.value)
