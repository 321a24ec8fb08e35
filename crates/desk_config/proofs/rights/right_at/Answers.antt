use Rattle.std.proofs.Common.{◌+◌, ap, ◌∙◌}
use Rattle.desk_config.specs.Rights.{right_at, right_found}
use Rattle.desk_config.proofs.rights.right_at.Goals as goal

pub returns-in-Some : goal.returns-in-Some
unfolding right_at
returns-in-Some c =
    c.next_right.ensures ∙ ap (right_found c.args.rights (c.args.index + 1)) c.in-Some.ensures
