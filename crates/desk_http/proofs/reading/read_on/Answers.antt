use Rattle.std.proofs.Common.{subst, arith}
use Rattle.desk_http.specs.Reading.{asked_of}
use Rattle.desk_http.proofs.Steps.{FoundAt, head_came, step_found}
use Rattle.desk_http.proofs.reading.read_on.Goals as goal

pub returns-in_ok-step-in-Head-clause-came : goal.returns-in_ok-step-in-Head-clause-came
returns-in_ok-step-in-Head-clause-came c =
    let s = c.args.server.now in
    let new = c.read.new.self in
    let input = c.args.input.now in
    let spans = c.read.new.headers in
    let read = c.in-Ok.read in
    let kept = asked_of c.args.draft.now.request in
    let stays = c.args.draft.now.stays in
    let long = c.read.auto.headers in
    let found = subst (λ e. FoundAt s.reading input spans new read.consumed kept stays e) c.in-Head.is
    (step_found s new input spans read kept stays (omega (arith, long)) c.requires c.in-Ok.ensures.ok) in
    head_came s new input spans read.consumed c.in-Head.head kept stays c.take_head.new.self
    c.in_ok-step-in-Head.step found c.in_ok-step-in-Head.ensures

pub returns-in-End-clause-came : goal.returns-in-End-clause-came
returns-in-End-clause-came c =
    let s = c.args.server.now in
    let new = c.read.new.self in
    let input = c.args.input.now in
    let spans = c.read.new.headers in
    let read = c.in-Ok.read in
    let kept = asked_of c.args.draft.now.request in
    let stays = c.args.draft.now.stays in
    let long = c.read.auto.headers in
    subst (λ e. FoundAt s.reading input spans new read.consumed kept stays e) c.in-End.is
    (step_found s new input spans read kept stays (omega (arith, long)) c.requires c.in-Ok.ensures.ok)
