-- How many notes of a venue the book didn't take.
use Rattle.std.specs.Prelude.{◌≡◌, ℕ, Bool, true, false, List, length, filter, Option, Some, None, ◌==◌, if◌then◌else◌}
use Rattle.desk_executions.specs.declared.counts.UnbookedCounts.{UnbookedCounts}
use Rattle.desk_executions.specs.declared.untaken.Untaken.{Untaken}
use Rattle.desk_executions.specs.declared.untaken.Untaken.TheVariants.{Duplicate, Overfill, Stray, Unread}
use Rattle.desk_executions.specs.Untaken.{untaken}
use Rattle.exec_collector.specs.Resolved.{Replays}
use Rattle.exec_collector.specs.Unbooked.{CountedParts, IsListOf}
use Rattle.exec_collector.specs.declared.unbooked.Unbooked.{Unbooked}

-- whether two reasons are the same
abbrev pub is_same : Untaken → Untaken → Bool
is_same Duplicate Duplicate = true
is_same Overfill Overfill = true
is_same Stray Stray = true
is_same Unread Unread = true
is_same one other = false

-- whether a note wasn't taken for this reason, where that is why it wasn't, if it wasn't
abbrev pub is_why : Untaken → Option Untaken → Bool
is_why why None = false
is_why why (Some other) = is_same why other

-- whether a note of a venue wasn't taken for this reason
abbrev pub is_for : ℕ → Untaken → Unbooked → Bool
is_for venue why item = if item.venue == venue then is_why why (untaken item.note item.answer) else false

-- how many weren't
abbrev pub untaken_count : ℕ → Untaken → List Unbooked → ℕ
untaken_count venue why unbooked = length (filter (is_for venue why) unbooked)

-- these are the counts of a venue, by the reason
pub record AreCountsOf (venue : ℕ) (unbooked : List Unbooked) (counts : UnbookedCounts) : Type 0 where
  pub duplicates : counts.duplicates ≡ untaken_count venue Duplicate unbooked
  pub overfills : counts.overfills ≡ untaken_count venue Overfill unbooked
  pub strays : counts.strays ≡ untaken_count venue Stray unbooked
  pub unread : counts.unread ≡ untaken_count venue Unread unbooked

-- these are the counts of a venue by the list of a book that replays
pub record AreCounts (venue : ℕ) (counts : UnbookedCounts) : Type 0 where
  pub day : CountedParts
  pub replays : Replays day.book
  pub list : IsListOf day.book day.unbooked
  pub are : AreCountsOf venue day.unbooked counts
