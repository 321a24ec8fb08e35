use Rattle.desk_serve.proofs.page.Page.executions.Goals as goal

pub returns : goal.returns
returns g c = record { lent = c.in_ok-lent.lent; now = c.in_ok-lent.ensures; told = c.in_ok-page.ensures }
