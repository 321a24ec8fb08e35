use Rattle.std.proofs.Common.{append_assoc}
use Rattle.journal_folder.proofs.head.head_line.Goals as goal

pub returns : goal.returns
returns c = rw c.into_bytes.ensures.value (simp append_assoc c.in_ok-line.ensures.ok)
