use Rattle.std.proofs.Common.{append_assoc}
use Rattle.journal_command.proofs.text.damaged_text.Goals as goal

pub returns : goal.returns
returns c = rw c.into_bytes.ensures.value (simp append_assoc c.in_ok-text.ensures.ok)
