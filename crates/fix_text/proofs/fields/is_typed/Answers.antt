use Rattle.fix_text.proofs.Typed.{typed_by_front}
use Rattle.fix_text.proofs.fields.is_typed.Goals as goal

pub returns : goal.returns
returns c = rw c.starts_with.ensures.value (typed_by_front c.args.body.now)
