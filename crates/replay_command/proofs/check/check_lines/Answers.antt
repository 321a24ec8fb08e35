use Rattle.std.proofs.Common.{rules, ◌≡◌, Bool, ◌∷◌, Result, Err, sym, ap, subst, ◌∙◌}
use Rattle.std.specs.Prelude.{IfSome}
use Rattle.schedule.specs.Script.{lines_of}
use Rattle.script.specs.DayScript.{bad_line}
use Rattle.replay_command.specs.Stream.{Checks, ReadsLine}
use Rattle.replay_command.specs.declared.fault.CommandFault.{CommandFault}
use Rattle.replay_command.proofs.InputRuns.{check_ended, check_fails, check_goes_on}
use Rattle.replay_command.proofs.check.check_lines.Goals as goal

pub returns-then-not-branch : goal.returns-then-not-branch
returns-then-not-branch g c =
    let left = g.R.Read.remaining c.loop-number.input in
    let behind = g.R.Read.remaining c.read_line.new.input in
    let read = c.read_line.new.buffer.items in
    let reads = subst (λ (b : Bool). IfSome left (ReadsLine b read behind)) c.if-not-branch.true c.in_ok-read_line.ensures.line in
    check_ended c.args.venues c.loop-number.number c.args.first left behind (g.R.Read.remaining c.args.input.now) read reads
    c.loop-number.invariant

pub returns-in_err-event_of_line : goal.returns-in_err-event_of_line
returns-in_err-event_of_line g c =
    let left = g.R.Read.remaining c.loop-number.input in
    let behind = g.R.Read.remaining c.read_line.new.input in
    let read = c.read_line.new.buffer.items in
    let reads = subst (λ (b : Bool). IfSome left (ReadsLine b read behind)) c.if-not-branch.false c.in_ok-read_line.ensures.line in
    let fails = check_fails c.args.venues c.loop-number.number c.args.first left behind (g.R.Read.remaining c.args.input.now)
    read c.first_line.result.0.now (lines_of c.first_line.result.1.now) c.in_err-event_of_line.field-0.0 reads
    (ap lines_of (sym c.deref.ensures.value) ∙ c.first_line.ensures.lines) c.in_err-event_of_line.ensures c.loop-number.invariant in
    let same : Err c.in_err-event_of_line.field-0.0 ≡ c.from_residual-in_err-event_of_line.result = search rules in
    subst (λ (r : Result (Unit {0}) CommandFault). IfSome (g.R.Read.remaining c.args.input.now)
    (λ bytes. Checks r (bad_line c.args.venues c.args.first (lines_of bytes)))) same fails

pub loop-number-preserved : goal.loop-number-preserved
loop-number-preserved g c =
    let left = g.R.Read.remaining c.loop-number.input in
    let behind = g.R.Read.remaining c.read_line.new.input in
    let read = c.read_line.new.buffer.items in
    let reads = subst (λ (b : Bool). IfSome left (ReadsLine b read behind)) c.if-not-branch.false c.in_ok-read_line.ensures.line in
    check_goes_on c.args.venues c.loop-number.number c.args.first left behind (g.R.Read.remaining c.args.input.now) read
    c.first_line.result.0.now (lines_of c.first_line.result.1.now) c.in_ok-event_of_line.field-0 reads
    (ap lines_of (sym c.deref.ensures.value) ∙ c.first_line.ensures.lines) c.in_ok-event_of_line.ensures c.loop-number.invariant
