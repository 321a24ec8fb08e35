use Rattle.std.proofs.Common.{◌+◌, refl, arith}
use Rattle.exchange_core.proofs.Resending.{one_writable, one_resent, closing_writable, closed_all, one_some, closing_some}
use Rattle.exchange_core.proofs.resend.resend.Goals as goal

pub resend_one-requires : goal.resend_one-requires
resend_one-requires g c =
    one_writable (g.D.Dialect.wording c.args.dialect.now).encoding
    c.args.stamp.now c.args.config.now c.args.begin c.args.own.now c.loop-entry.entry-index c.loop-entry.run
    c.loop-entry.number c.args.frames.now.items c.loop-entry.frames.items
    c.entry-item.result c.loop-entry.invariant c.loop-entry-test.true c.entry-item.is c.requires.writable

pub loop-entry-preserved : goal.loop-entry-preserved
loop-entry-preserved g c =
    one_resent (g.D.Dialect.wording c.args.dialect.now).encoding
    c.args.stamp.now c.args.config.now c.args.begin c.args.own.now c.loop-entry.entry-index c.loop-entry.run
    c.loop-entry.number c.args.frames.now.items c.loop-entry.frames.items
    c.entry-item.result (c.loop-entry.entry-index + 1) c.in_ok-run.run' (c.loop-entry.number + 1)
    c.resend_one.new.frames.items c.loop-entry.invariant c.loop-entry-test.true c.entry-item.is
    c.in_ok-run.ensures.written refl c.in_ok-run.ensures.run refl

pub close_run-requires : goal.close_run-requires
close_run-requires g c =
    closing_writable (g.D.Dialect.wording c.args.dialect.now).encoding
    c.args.stamp.now c.args.config.now c.args.begin c.args.own.now c.loop-entry.entry-index c.loop-entry.run
    c.loop-entry.number c.args.frames.now.items c.loop-entry.frames.items
    c.loop-entry.invariant (omega (arith, c.loop-entry-test.false, c.loop-entry.auto.entry-index-end))
    c.requires.writable

pub returns-clause-written : goal.returns-clause-written
returns-clause-written g c =
    closed_all (g.D.Dialect.wording c.args.dialect.now).encoding
    c.args.stamp.now c.args.config.now c.args.begin c.args.own.now c.loop-entry.entry-index c.loop-entry.run
    c.loop-entry.number c.args.frames.now.items c.loop-entry.frames.items
    c.close_run.new.frames.items c.close_run.result c.loop-entry.invariant
    (omega (arith, c.loop-entry-test.false, c.loop-entry.auto.entry-index-end)) c.close_run.ensures.written

pub returns-clause-some : goal.returns-clause-some
returns-clause-some g c =
    closing_some (g.D.Dialect.wording c.args.dialect.now).encoding
    c.args.stamp.now c.args.config.now c.args.begin c.args.own.now c.loop-entry.entry-index c.loop-entry.run
    c.loop-entry.number c.args.frames.now.items c.loop-entry.frames.items
    c.close_run.result c.loop-entry.invariant
    (omega (arith, c.loop-entry-test.false, c.loop-entry.auto.entry-index-end)) c.close_run.ensures.some

pub returns-in_err-run-clause-some : goal.returns-in_err-run-clause-some
returns-in_err-run-clause-some g c =
    one_some (g.D.Dialect.wording c.args.dialect.now).encoding
    c.args.stamp.now c.args.config.now c.args.begin c.args.own.now c.loop-entry.entry-index c.loop-entry.run
    c.loop-entry.number c.args.frames.now.items c.loop-entry.frames.items
    c.entry-item.result c.from_residual.result c.loop-entry.invariant c.loop-entry-test.true c.entry-item.is
    c.in_err-run.ensures.some
