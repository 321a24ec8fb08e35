-- How venues and sweeps stand, as `status` is answered.
use Rattle.std.specs.Prelude.{ℕ, List, [], ◌++◌, ◌==◌, codes, decimal, if◌then◌else◌}
use Rattle.desk_news.specs.declared.status.Status.{Status}
use Rattle.desk_news.specs.declared.status.Status.TheVariants.{Venue, Sweep}
use Rattle.desk_news.specs.declared.status.VenueStatus.{VenueStatus}
use Rattle.desk_news.specs.Paid.{paid_sweep_text}
use Rattle.desk_news.specs.Venue.{state_text}

-- the legs on which an exchange contradicted itself, where there are some
abbrev pub contradicted_text : ℕ → List ℕ
contradicted_text legs = if legs == 0 then [] else codes " contradicted " ++ decimal legs

-- as `venue ARCA unsent 3 doubt 2 lost 0 down: it was silent (E10)`
abbrev pub venue_status_text : VenueStatus → List ℕ
venue_status_text status =
    codes "venue " ++ status.venue ++ codes " unsent " ++ decimal status.unsent ++ codes " doubt "
    ++ decimal status.doubt ++ codes " lost " ++ decimal status.lost ++ contradicted_text status.contradicted
    ++ codes " " ++ state_text status.state

-- the line begins with `status`, so that it is never taken for news
abbrev pub status_text : Status → List ℕ
status_text (Venue status) = codes "status " ++ venue_status_text status
status_text (Sweep sweep) = codes "status " ++ paid_sweep_text sweep
