-- The log of a venue, with where things stand in it.
use Rattle.std.specs.Prelude.{ℕ, Bool, true, false, [], List, Option, Some, None, length, slice_get}
use Rattle.message_log.specs.declared.direction.Direction.{Direction}
use Rattle.log_legs.specs.Legs.{LegsParts, WatchParts, new_watch, watched, watched_unread}
use Rattle.log_rules.specs.Checker.{verdicts}
use Rattle.log_rules.specs.declared.entry.Entry.{Entry}
use Rattle.log_rules.specs.declared.verdict.Verdict.{Verdict}
use Rattle.log_rules.specs.declared.verdict.Verdict.TheVariants.{Broken, Again}
use Rattle.log_rules.specs.declared.moment.Moment.{Moment}
use Rattle.day_rules.specs.Lines.{first_line, noted_line, noted_moment}
use Rattle.day_rules.specs.declared.notes.Notes.{Notes}

-- where and when each order was first sent, and the first line that breaks each of these rules
pub record NotesParts : Type 0 where
  pub orders : List ℕ
  pub moments : List Moment
  pub sent_once : Option ℕ
  pub one_use : Option ℕ
  pub known_order : Option ℕ
  pub not_withdrawn : Option ℕ
  pub sums_add_up : Option ℕ

abbrev pub notes_parts : Notes → NotesParts
notes_parts n = record {
  orders = n.orders.items;
  moments = n.moments.items;
  sent_once = n.sent_once;
  one_use = n.one_use;
  known_order = n.known_order;
  not_withdrawn = n.not_withdrawn;
  sums_add_up = n.sums_add_up;
}

abbrev pub no_notes : NotesParts
no_notes = record {
  orders = [];
  moments = [];
  sent_once = None;
  one_use = None;
  known_order = None;
  not_withdrawn = None;
  sums_add_up = None;
}

abbrev pub is_broken : Option Verdict → Bool
is_broken (Some Broken) = true
is_broken verdict = false

-- whether the rule at a place is broken, of the verdicts on all rules
abbrev pub breaks : List Verdict → ℕ → Bool
breaks said place = is_broken (slice_get said place)

abbrev pub is_unmet : Option Verdict → Bool
is_unmet (Some Broken) = true
is_unmet (Some Again) = true
is_unmet verdict = false

-- whether the rule at a place is broken, also where it is told as broken again
abbrev pub fails : List Verdict → ℕ → Bool
fails said place = is_unmet (slice_get said place)

-- behind the line of a number, logged at this moment, of which this is said, and so many orders
abbrev pub noted : ℕ → Moment → List Verdict → ℕ → NotesParts → NotesParts
noted number moment said count n = record {
  orders = noted_line number count n.orders;
  moments = noted_moment moment count n.moments;
  sent_once = first_line (breaks said 2) number n.sent_once;
  one_use = first_line (breaks said 10) number n.one_use;
  known_order = first_line (fails said 11) number n.known_order;
  not_withdrawn = first_line (breaks said 12) number n.not_withdrawn;
  sums_add_up = first_line (breaks said 13) number n.sums_add_up;
}

-- what is known behind the log's messages, and where things stand
pub record VenueParts : Type 0 where
  pub watch : WatchParts
  pub notes : NotesParts

-- before any message
abbrev pub new_venue : Option LegsParts → VenueParts
new_venue legs = record { watch = new_watch legs; notes = no_notes }

-- behind a message, in the line of a number
abbrev pub venue_heard : ℕ → Entry → VenueParts → VenueParts
venue_heard number e v = record {
  watch = watched v.watch e;
  notes = noted number e.moment (verdicts v.watch.checker e) (length (watched v.watch e).checker.ledger.orders) v.notes;
}

-- behind a message that can't be read
abbrev pub venue_unread : Direction → List ℕ → VenueParts → VenueParts
venue_unread direction bytes v = record v { watch = watched_unread direction bytes v.watch }
