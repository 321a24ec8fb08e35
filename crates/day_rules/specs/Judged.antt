-- What the logs of a day say of the sentences of the sweep theorem.
use Rattle.std.specs.Prelude.{ℕ, zero, suc, List, Option, Some, None, option_and_then, option_map, is_some, slice_get, length, if◌then◌else◌}
use Rattle.std.specs.Option.{option_or}
use Rattle.day_rules.specs.DeskDay.{DeskParts}
use Rattle.day_rules.specs.Lines.{earlier}
use Rattle.day_rules.specs.Orders.{first_failing, in_order_at, is_settled_at, taken_upto}
use Rattle.day_rules.specs.Sweeps.{is_ended, is_even_at}
use Rattle.day_rules.specs.VenueDay.{VenueParts}
use Rattle.day_rules.specs.declared.judged.Place.{Place}
use Rattle.day_rules.specs.declared.judged.Place.TheVariants.{OfDesk, OfVenue}
use Rattle.day_rules.specs.declared.judged.SentenceVerdict.{SentenceVerdict}
use Rattle.day_rules.specs.declared.judged.SentenceVerdict.TheVariants.{Holds, BrokenAt, Unjudged}
use Rattle.day_rules.specs.declared.sentence.Sentence.{Sentence}
use Rattle.day_rules.specs.declared.sentence.Sentence.TheVariants as sentence

abbrev pub order_count : VenueParts → ℕ
order_count v = length v.watch.checker.ledger.orders

-- where the order at a place was first sent
abbrev pub order_line : VenueParts → Option ℕ → Option ℕ
order_line v place = option_and_then (slice_get v.notes.orders) place

-- Order: the first order that isn't a leg released to the venue, behind the leg of the order before it; or that is
-- sent again
abbrev pub order_broken : DeskParts → ℕ → VenueParts → Option ℕ
order_broken d venue v =
    earlier (order_line v (first_failing (in_order_at d venue v) (order_count v))) v.notes.sent_once

-- Gaps: the first order in doubt before one that was taken, or report on a withdrawn one
abbrev pub gaps_broken : VenueParts → Option ℕ
gaps_broken v =
    earlier (order_line v (first_failing (is_settled_at v.watch) (taken_upto v.watch (order_count v))))
    v.notes.not_withdrawn

-- Settled: the first order in doubt, once both sides logged out
abbrev pub settled_broken : VenueParts → Option ℕ
settled_broken v =
    if is_ended v.watch.close then order_line v (first_failing (is_settled_at v.watch) (order_count v)) else None

-- the first line of a venue's log that breaks a sentence
abbrev pub broken_line : DeskParts → ℕ → Sentence → VenueParts → Option ℕ
broken_line d venue sentence.Placed v = None
broken_line d venue sentence.Order v = order_broken d venue v
broken_line d venue sentence.Gaps v = gaps_broken v
broken_line d venue sentence.Close v = order_line v v.watch.late
broken_line d venue sentence.Settled v = settled_broken v
broken_line d venue sentence.Reports v = earlier v.notes.known_order v.notes.one_use
broken_line d venue sentence.Shares v = v.notes.sums_add_up

abbrev pub line_at : DeskParts → Sentence → ℕ → Option VenueParts → Option ℕ
line_at d says venue None = None
line_at d says venue (Some v) = broken_line d venue says v

abbrev pub found_with : Option Place → ℕ → Option ℕ → Option Place
found_with (Some place) venue line = Some place
found_with None venue None = None
found_with None venue (Some line) = Some (OfVenue venue line)

-- where the first of so many logs that breaks a sentence does so
abbrev pub first_place : DeskParts → Sentence → List VenueParts → ℕ → Option Place
first_place d says venues zero = None
first_place d says venues (suc n) =
    found_with (first_place d says venues n) n (line_at d says n (slice_get venues n))

-- where a log of a venue breaks it
abbrev pub venue_place : DeskParts → Sentence → List VenueParts → Option Place
venue_place d says venues = first_place d says venues (length venues)

-- Shares: where the first sweep was placed whose parts aren't its legs
abbrev pub uneven_line : DeskParts → List VenueParts → Option ℕ
uneven_line d venues =
    option_and_then (slice_get d.placed)
    (first_failing (is_even_at venues d.intake.sweeps) (length d.intake.sweeps))

abbrev pub shares_place : DeskParts → List VenueParts → Option Place
shares_place d venues =
    option_or (venue_place d sentence.Shares venues) (option_map OfDesk (uneven_line d venues))

abbrev pub verdict_at : Option Place → SentenceVerdict
verdict_at None = Holds
verdict_at (Some place) = BrokenAt place

-- what can't be judged where it isn't known which legs were released
abbrev pub unless_unfit : DeskParts → SentenceVerdict → SentenceVerdict
unless_unfit d said = if is_some d.unfit then Unjudged else said

-- what the logs of a desk's lines and of its venues say of a sentence
abbrev pub judged : DeskParts → List VenueParts → Sentence → SentenceVerdict
judged d venues sentence.Placed = verdict_at (option_map OfDesk d.unfit)
judged d venues sentence.Order = unless_unfit d (verdict_at (venue_place d sentence.Order venues))
judged d venues sentence.Shares = unless_unfit d (verdict_at (shares_place d venues))
judged d venues says = verdict_at (venue_place d says venues)
