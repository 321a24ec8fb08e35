use Rattle.resend.proofs.out_log.OutLog.last_ordinal.Goals as goal

pub returns : goal.returns
returns c = rw (← c.self.view_is) c.self.invariant.0.ordinal_is
