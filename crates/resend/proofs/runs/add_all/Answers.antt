use Rattle.std.proofs.Common.{◌+◌, ◌≤◌, add-one, ap, ◌∙◌, arith}
use Rattle.resend.specs.declared.sent.Sent.{Sent}
use Rattle.resend.proofs.Joining.{added_kept}
use Rattle.resend.proofs.RunsKept.{added_next}
use Rattle.resend.proofs.SettledRuns.{as_settled}
use Rattle.resend.proofs.runs.add_all.Goals as goal

pub loop-sent-preserved : goal.loop-sent-preserved
loop-sent-preserved c =
    let i = c.loop-sent.sent-index in
    let number = ap (λ (sent : Sent). sent.number) c.sent-item.is in
    let ends = c.requires.ends i c.sent-item.result c.loop-sent-test.true in
    let le : c.sent-item.result.number + 1 ≤ 18446744073709551615 = omega (arith, number, ends) in
    record {
      items = c.add.ensures.items ∙ added_next c.args.state i (i + 1) c.args.sents.now c.sent-item.result c.args.runs.now.items c.loop-sent.runs.items (add-one i) c.loop-sent-test.true c.sent-item.is c.loop-sent.invariant.items;
      kept = rw c.add.ensures.items (added_kept (as_settled c.args.state c.sent-item.result) c.loop-sent.runs.items le c.loop-sent.invariant.kept);
      len = omega (arith, c.loop-sent.invariant.len, c.add.ensures.len);
      capacity = c.add.ensures.capacity ∙ c.loop-sent.invariant.capacity;
    }
