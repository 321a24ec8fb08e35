use Rattle.dressed_link.proofs.Keeping.{put_between}
use Rattle.dressed_link.proofs.laws.fields_are_put_between.Goals as goal

pub returns : goal.returns
returns c = put_between
