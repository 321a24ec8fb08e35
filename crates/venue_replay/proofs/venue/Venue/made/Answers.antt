use Rattle.std.proofs.Common.{◌∙◌, ap}
use Rattle.schedule.specs.World.{VenueParts, reports_in}
use Rattle.venue_replay.proofs.Reports.{reports_same}
use Rattle.venue_replay.proofs.venue.Venue.made.Goals as goal

pub returns : goal.returns
returns g c =
    c.reports.ensures
    ∙ (reports_same c.self.inside.exchange.own ∙ ap (λ (v : VenueParts). reports_in v.exchange.own) c.self.view_is)
