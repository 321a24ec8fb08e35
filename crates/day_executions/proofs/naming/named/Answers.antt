use Rattle.std.proofs.Common.{sym, ◌∙◌}
use Rattle.day_executions.specs.Named.{execution_of}
use Rattle.day_executions.proofs.OneNamed.{named_more, named_same}
use Rattle.day_executions.proofs.naming.named.Goals as goal

pub loop-note-preserved-in-Continue-1 : goal.loop-note-preserved-in-Continue-1
loop-note-preserved-in-Continue-1 c =
    named_more (execution_of c.args.names.now) c.loop-note.yielded c.in-Some.note c.in-Some-execution_of.execution
    c.loop-note.executions.items _ c.loop-note.invariant (sym c.execution_of.ensures ∙ c.in-Some-execution_of.is)
    c.in_ok-push.ensures.items

pub loop-note-preserved : goal.loop-note-preserved
loop-note-preserved c =
    named_same (execution_of c.args.names.now) c.loop-note.yielded c.in-Some.note c.loop-note.executions.items
    c.loop-note.invariant (sym c.execution_of.ensures ∙ c.in_default.is)
