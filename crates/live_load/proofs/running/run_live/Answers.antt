use Rattle.std.proofs.Common.{List, length, ap, subst, ◌∙◌}
use Rattle.std.specs.Prelude.{IfOk}
use Rattle.desk_config.specs.declared.venue.Venue.{Venue}
use Rattle.live_load.specs.Told.{IsLiveDay}
use Rattle.live_load.proofs.VenuesMade.{venues_count}
use Rattle.live_load.proofs.running.run_live.Goals as goal

pub named_day-requires-clause-venues : goal.named_day-requires-clause-venues
named_day-requires-clause-venues g c κs within =
    ap length c.as_slice.ensures.value ∙ (ap length c.in-Some.ensures ∙ venues_count c.args.plan.venues)

pub returns-clause-day : goal.returns-clause-day
returns-clause-day g c =
    subst (λ (venues : List Venue). IfOk c.named_day.result (IsLiveDay venues))
    (c.as_slice.ensures.value ∙ c.in-Some.ensures) c.named_day.ensures.day
