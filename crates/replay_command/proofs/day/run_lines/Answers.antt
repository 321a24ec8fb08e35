use Rattle.std.proofs.Common.{rules, arith, refl, ◌≡◌, ◌≤◌, Bool, ◌∷◌, Result, Ok, Err, sym, ap, subst, ◌∙◌}
use Rattle.std.specs.Prelude.{IfSome}
use Rattle.schedule.specs.Script.{lines_of}
use Rattle.world_restart.specs.Start.{Day}
use Rattle.replay_command.specs.Days.{lines_end}
use Rattle.replay_command.specs.Days.Ending.{Over}
use Rattle.replay_command.specs.Stream.{ReadsLine, RunsTo}
use Rattle.replay_command.specs.declared.fault.CommandFault.{CommandFault}
use Rattle.replay_command.specs.Steps.{Told, dawn}
use Rattle.replay_command.proofs.StepsPrinted.{LeftToPrint, all_to_print, printed_all, prints_on}
use Rattle.replay_command.proofs.InputRuns.{LeftToRun, all_left, ended, goes_on, run_fails}
use Rattle.replay_command.proofs.day.run_lines.Goals as goal

pub loop-number-init : goal.loop-number-init
loop-number-init g c =
    let left = g.R.Read.remaining c.args.input.now in
    let out = g.W.Write.contents c.args.out.now in
    let told = dawn c.args.day in
    record {
      left = subst (λ (t : Told). LeftToRun c.args.venues left c.args.first t.day left c.args.first c.args.day)
          (sym c.in_ok-course.ensures) (all_left c.args.venues c.args.first c.args.day left);
      count = subst (λ (t : Told). t.events ≤ c.args.first) (sym c.in_ok-course.ensures) (omega arith);
      prints = λ on. subst (λ (t : Told). LeftToPrint c.args.venues left c.args.first t out left c.args.first told out)
          (sym c.in_ok-course.ensures) (all_to_print c.args.venues c.args.first told left out);
      kept = λ off. refl;
    }

pub returns-then-not-branch-clause-day : goal.returns-then-not-branch-clause-day
returns-then-not-branch-clause-day g c =
    let left = g.R.Read.remaining c.loop-number.input in
    let behind = g.R.Read.remaining c.read_line.new.input in
    let read = c.read_line.new.buffer.items in
    let reads = subst (λ (b : Bool). IfSome left (ReadsLine b read behind)) c.if-not-branch.true c.in_ok-read_line.ensures.line in
    let all = ended c.args.steps c.args.venues c.loop-number.number c.args.first left behind
    (g.R.Read.remaining c.args.input.now) read c.loop-number.course.day c.args.day reads c.loop-number.invariant.left in
    subst (λ (d : Day). IfSome (g.R.Read.remaining c.args.input.now)
    (λ bytes. RunsTo c.args.steps (Ok d) (lines_end c.args.venues c.args.first (lines_of bytes) (Over c.args.day))))
    (sym (ap (λ (t : Told). t.day) c.course.view_is)) all

pub returns-in_err-run_line-clause-day : goal.returns-in_err-run_line-clause-day
returns-in_err-run_line-clause-day g c =
    let left = g.R.Read.remaining c.loop-number.input in
    let behind = g.R.Read.remaining c.read_line.new.input in
    let read = c.read_line.new.buffer.items in
    let reads = subst (λ (b : Bool). IfSome left (ReadsLine b read behind)) c.if-not-branch.false c.in_ok-read_line.ensures.line in
    let fails = run_fails c.args.steps c.args.venues c.loop-number.number c.args.first left behind
    (g.R.Read.remaining c.args.input.now) read c.first_line.result.0.now (lines_of c.first_line.result.1.now)
    c.loop-number.course.day c.run_line.new.course.day c.args.day c.in_err-run_line.field-0.0 reads
    (ap lines_of (sym c.deref.ensures.value) ∙ c.first_line.ensures.lines) c.in_err-run_line.ensures.runs
    c.loop-number.invariant.left in
    let same : Err c.in_err-run_line.field-0.0 ≡ c.from_residual-in_err-run_line.result = search rules in
    subst (λ (r : Result Day CommandFault). IfSome (g.R.Read.remaining c.args.input.now)
    (λ bytes. RunsTo c.args.steps r (lines_end c.args.venues c.args.first (lines_of bytes) (Over c.args.day)))) same fails

pub loop-number-preserved : goal.loop-number-preserved
loop-number-preserved g c =
    let left = g.R.Read.remaining c.loop-number.input in
    let behind = g.R.Read.remaining c.read_line.new.input in
    let read = c.read_line.new.buffer.items in
    let reads = subst (λ (b : Bool). IfSome left (ReadsLine b read behind)) c.if-not-branch.false c.in_ok-read_line.ensures.line in
    record {
      left = goes_on c.args.steps c.args.venues c.loop-number.number c.args.first left behind
          (g.R.Read.remaining c.args.input.now) read c.first_line.result.0.now (lines_of c.first_line.result.1.now)
          c.loop-number.course.day c.run_line.new.course.day c.args.day reads
          (ap lines_of (sym c.deref.ensures.value) ∙ c.first_line.ensures.lines) c.in_ok-run_line.ensures.runs
          c.loop-number.invariant.left;
      count = omega (arith, c.in_ok-run_line.ensures.count, c.loop-number.invariant.count);
      prints = λ on. prints_on c.args.venues c.loop-number.number c.args.first left behind
          (g.R.Read.remaining c.args.input.now) (g.W.Write.contents c.args.out.now) (g.W.Write.contents c.loop-number.out)
          (g.W.Write.contents c.run_line.new.out) read c.first_line.result.0.now (lines_of c.first_line.result.1.now)
          c.loop-number.course c.run_line.new.course (dawn c.args.day) reads
          (ap lines_of (sym c.deref.ensures.value) ∙ c.first_line.ensures.lines) (c.in_ok-run_line.ensures.prints on)
          (c.loop-number.invariant.prints on);
      kept = λ off. c.in_ok-run_line.ensures.kept off ∙ c.loop-number.invariant.kept off;
    }

pub returns-then-not-branch-clause-prints : goal.returns-then-not-branch-clause-prints
returns-then-not-branch-clause-prints g c on =
    let left = g.R.Read.remaining c.loop-number.input in
    let behind = g.R.Read.remaining c.read_line.new.input in
    let read = c.read_line.new.buffer.items in
    let reads = subst (λ (b : Bool). IfSome left (ReadsLine b read behind)) c.if-not-branch.true c.in_ok-read_line.ensures.line in
    printed_all c.args.venues c.loop-number.number c.args.first left behind (g.R.Read.remaining c.args.input.now)
    (g.W.Write.contents c.args.out.now) (g.W.Write.contents c.loop-number.out) read c.loop-number.course (dawn c.args.day) reads
    (c.loop-number.invariant.prints on)
