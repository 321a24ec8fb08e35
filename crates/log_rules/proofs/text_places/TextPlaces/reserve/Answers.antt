use Rattle.log_rules.proofs.TextKeys.{texts_alike}
use Rattle.log_rules.proofs.text_places.TextPlaces.reserve.Goals as goal

pub returns-clause-same : goal.returns-clause-same
returns-clause-same c = texts_alike c.args.self.now.by_text c.reserve.new.self c.reserve.ensures.entries.2
