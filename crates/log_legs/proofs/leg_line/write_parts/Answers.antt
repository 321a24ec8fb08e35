use Rattle.std.proofs.Common.{◌∙◌}
use Rattle.std.proofs.lemmas.List.{append_assoc}
use Rattle.log_legs.proofs.leg_line.write_parts.Goals as goal

pub returns : goal.returns
returns c = c.in_ok-write.ensures.bytes ∙ simp append_assoc
