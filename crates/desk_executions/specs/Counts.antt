-- How much of what a venue said the book didn't take.
use Rattle.std.specs.Prelude.{ℕ, List, ◌++◌, codes, decimal}
use Rattle.desk_executions.specs.declared.counts.UnbookedStatus.{UnbookedStatus}

-- as `status unbooked NYSE duplicate 0 overfill 1 stray 2 unread 0`
abbrev pub unbooked_text : UnbookedStatus → List ℕ
unbooked_text status =
    codes "status unbooked " ++ status.venue ++ codes " duplicate " ++ decimal status.counts.duplicates
    ++ codes " overfill " ++ decimal status.counts.overfills ++ codes " stray " ++ decimal status.counts.strays
    ++ codes " unread " ++ decimal status.counts.unread
