use Rattle.std.proofs.Common.{rules}
use Rattle.log_rules.proofs.TextKeys.{text_put}
use Rattle.log_rules.proofs.text_places.TextPlaces.set.Goals as goal

pub returns : goal.returns
returns c = text_put c.args.self.now.by_text c.insert-put.new.self c.args.text _ (search rules)
