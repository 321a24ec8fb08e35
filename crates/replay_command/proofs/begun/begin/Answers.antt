use Rattle.std.proofs.Common.{◌≡◌, ◌+◌, Bool, ◌∷◌, refl, sym, ap, subst, ◌∙◌}
use Rattle.std.specs.Prelude.{IfSome}
use Rattle.schedule.specs.Script.{lines_of}
use Rattle.replay_command.specs.Stream.{ReadsLine}
use Rattle.replay_command.proofs.InputBegins.{bad, found, passed_over}
use Rattle.replay_command.proofs.begun.begin.Goals as goal

pub loop-number-preserved : goal.loop-number-preserved
loop-number-preserved g c =
    let left = g.R.Read.remaining c.loop-number.input in
    let behind = g.R.Read.remaining c.read_line.new.input in
    let read = c.read_line.new.buffer.items in
    let reads = subst (λ (b : Bool). IfSome left (ReadsLine b read behind)) c.if-not-branch.false c.in_ok-read_line.ensures.line in
    passed_over c.loop-number.number left behind (g.R.Read.remaining c.args.input.now) read c.first_line.result.0.now
    (lines_of c.first_line.result.1.now) reads (ap lines_of (sym c.deref.ensures.value) ∙ c.first_line.ensures.lines)
    (sym c.is_passed_over.ensures ∙ c.if-is_passed_over.true) c.loop-number.invariant

pub returns-in_default : goal.returns-in_default
returns-in_default g c =
    let left = g.R.Read.remaining c.loop-number.input in
    let behind = g.R.Read.remaining c.read_line.new.input in
    let read = c.read_line.new.buffer.items in
    let reads = subst (λ (b : Bool). IfSome left (ReadsLine b read behind)) c.if-not-branch.false c.in_ok-read_line.ensures.line in
    bad c.loop-number.number left behind (g.R.Read.remaining c.args.input.now) read c.first_line.result.0.now
    (lines_of c.first_line.result.1.now) reads (ap lines_of (sym c.deref.ensures.value) ∙ c.first_line.ensures.lines)
    (sym c.is_passed_over.ensures ∙ c.if-is_passed_over.false) (sym c.in_default.ensures) c.loop-number.invariant

pub returns-in-loop-number : goal.returns-in-loop-number
returns-in-loop-number g c =
    let left = g.R.Read.remaining c.loop-number.input in
    let behind = g.R.Read.remaining c.read_line.new.input in
    let read = c.read_line.new.buffer.items in
    let reads = subst (λ (b : Bool). IfSome left (ReadsLine b read behind)) c.if-not-branch.false c.in_ok-read_line.ensures.line in
    found c.loop-number.number left behind (g.R.Read.remaining c.args.input.now) read c.first_line.result.0.now
    (lines_of c.first_line.result.1.now) _ reads (ap lines_of (sym c.deref.ensures.value) ∙ c.first_line.ensures.lines)
    (sym c.is_passed_over.ensures ∙ c.if-is_passed_over.false) (sym c.in-Some.ensures) refl c.loop-number.invariant
