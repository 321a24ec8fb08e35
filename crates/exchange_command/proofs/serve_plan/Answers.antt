use Rattle.std.proofs.Common.{◌∙◌}
use Rattle.exchange_command.proofs.SaidBefore.{said_before}
use Rattle.exchange_command.proofs.serve_plan.Goals as goal

pub returns : goal.returns
returns g c =
    said_before _ _ _ c.args.plan _ c.serve_clients.result (c.deref.ensures.value ∙ c.in_ok-listening_text.ensures)
    c.in_ok-print.ensures.ok c.serve_clients.ensures
