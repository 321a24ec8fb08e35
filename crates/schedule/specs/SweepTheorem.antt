-- The sweep theorem, as a statement: what holds of the world after every list of events.
use Rattle.std.specs.Prelude.{◌≡◌, ◌≤◌, ◌<◌, ◌⊎◌, ◌+◌, ℕ, Bool, List, length, map, filter, Some, IfSome, [], ◌∷◌, take, suc, if◌then◌else◌}
use Rattle.std.specs.List.{Contains, list_any}
use Rattle.std.specs.List.Sorted.{IsStrictlyIncreasing}
use Rattle.leg.specs.LegId.{LegIdParts}
use Rattle.leg.specs.Numbered.{numbered}
use Rattle.leg.specs.Split.{SplitParts}
use Rattle.leg.specs.declared.sweep.Routed.{Routed}
use Rattle.leg.specs.declared.leg_state.LegState.TheVariants.{Doubt, Taken, Withdrawn}
use Rattle.leg.specs.declared.totals.Totals.{Totals}
use Rattle.dialect.specs.declared.note.Note.{Note}
use Rattle.dialect.specs.declared.note.Note.TheVariants as note
use Rattle.share_ledger.specs.Entries.{sweep_shares, is_same_leg, is_about}
use Rattle.share_ledger.specs.Shares.{move_of, parts_of}
use Rattle.share_ledger.specs.declared.booked_leg.BookedLeg.{BookedLeg}
use Rattle.share_ledger.specs.Book.{booked_from, totals_of}
use Rattle.schedule.specs.declared.event.Event.{Event}
use Rattle.schedule.specs.World.{World, accepted, released_to, state_of, withdrawn_ids, totals, closed_at, given, made}
use Rattle.schedule.specs.Happening.{run}

-- a leg that was released to the venue under this ordinal was withdrawn
abbrev pub IsWithdrawn : World → ℕ → ℕ → Type 0
IsWithdrawn w v ordinal = state_of w v ordinal ≡ Some Withdrawn

-- Order: the accepted legs are legs released to the venue, in release order and none twice. These are their ordinals
pub record IsOrder (w : World) (v : ℕ) (ordinals : List ℕ) : Type 0 where
  pub released : map (λ leg. Some leg) (accepted w v) ≡ map (λ ordinal. numbered ordinal (released_to w v)) ordinals
  pub in_order : IsStrictlyIncreasing ordinals

-- Gaps: the legs missing before the last accepted one are exactly those withdrawn, and no withdrawn leg is accepted
pub record AreGaps (w : World) (v : ℕ) (ordinals : List ℕ) : Type 0 where
  pub missing_is_withdrawn : (ordinal later : ℕ) → 1 ≤ ordinal → ordinal < later → Contains ordinals later
      → Contains ordinals ordinal ⊎ IsWithdrawn w v ordinal
  pub withdrawn_is_missing : (ordinal : ℕ) → IsWithdrawn w v ordinal → Contains ordinals ordinal → ⊥

-- Close: nothing is accepted after the exchange took the session's Logout
abbrev pub IsClose : World → ℕ → Type 0
IsClose w v = IfSome (closed_at w v) (λ count. count ≡ length (accepted w v))

-- Settled: a leg that is taken was accepted, and once the exchange took the session's Logout no leg is in doubt
pub record IsSettled (w : World) (v : ℕ) (ordinals : List ℕ) : Type 0 where
  pub taken_was_accepted : (ordinal : ℕ) → state_of w v ordinal ≡ Some Taken → Contains ordinals ordinal
  pub closed_no_doubt : IfSome (closed_at w v) (λ count. (ordinal : ℕ) → state_of w v ordinal ≡ Some Doubt → ⊥)

-- Reports: the notes handed to the book are the exchange's first reports, each once and in order
pub record AreGiven (w : World) (v : ℕ) : Type 0 where
  pub count : ℕ
  pub given : given w v ≡ map (λ report. note.Report report) (take count (made w v))

-- what holds of a venue
pub record HoldsAt (w : World) (v : ℕ) : Type 0 where
  pub ordinals : List ℕ
  pub order : IsOrder w v ordinals
  pub gaps : AreGaps w v ordinals
  pub close : IsClose w v
  pub settled : IsSettled w v ordinals
  pub reports : AreGiven w v

-- the shares of the legs of a sweep that were withdrawn, the first of them having this place
abbrev pub withdrawn_of : World → ℕ → ℕ → List Routed → ℕ
withdrawn_of w number place [] = 0
withdrawn_of w number place (routed ∷ legs) =
    (if list_any (is_same_leg (record { sweep = number; place = place })) (withdrawn_ids w routed.venue)
    then routed.terms.shares
    else 0) + withdrawn_of w number (suc place) legs

-- the notes given on a leg by its venue, in order
abbrev pub given_on : World → ℕ → LegIdParts → List Note
given_on w v id = filter (is_about id) (given w v)

-- the share rule of a leg: what exactly the notes given on it make of its shares, and its withdrawal if there was one
abbrev pub parts_by_rule : World → LegIdParts → Routed → SplitParts
parts_by_rule w id routed =
    parts_of routed.terms.shares
    (list_any (is_same_leg id) (withdrawn_ids w routed.venue))
    (map move_of (given_on w routed.venue id))

-- so it is of each leg of a sweep, the first of them having this place
abbrev pub legs_by_rule : World → ℕ → ℕ → List Routed → List BookedLeg
legs_by_rule w number place [] = []
legs_by_rule w number place (routed ∷ legs) =
    record {
      venue = routed.venue;
      parts = parts_by_rule w (record { sweep = number; place = place }) routed;
    } ∷ legs_by_rule w number (suc place) legs

-- Shares: the parts of each sweep add up to its legs. In the book each leg is as the share rule says, so that each part
-- of the sweep is the sum of theirs; and the withdrawn part is that of the legs that were withdrawn
abbrev pub parts_sum : Totals → ℕ
parts_sum t = t.filled + t.busted + t.cancelled + t.withdrawn + t.still_open

pub record AddsUp (w : World) (number : ℕ) (legs : List Routed) : Type 0 where
  pub parts : Totals
  pub totals : totals w number ≡ Some parts
  pub sum : parts_sum parts ≡ sweep_shares legs
  pub each_leg : booked_from w.book number 1 legs ≡ legs_by_rule w number 1 legs
  pub each_part : parts ≡ totals_of (legs_by_rule w number 1 legs)
  pub withdrawn : parts.withdrawn ≡ withdrawn_of w number 1 legs

-- what holds of a world
pub record HoldsOf (w : World) : Type 0 where
  pub venue : (v : ℕ) → HoldsAt w v
  pub sweep : (number : ℕ) → IfSome (numbered number w.desk.sweeps) (AddsUp w number)

-- a world of up to 16 venues, in which no message has the number max_number
pub record IsOpening (next : List Bool) (max_number : ℕ) : Type 0 where
  pub least_venues : 1 ≤ length next
  pub most_venues : length next ≤ 16
  pub least_number : 16 ≤ max_number
  pub most_number : max_number ≤ 999999999

-- for every list of releases, deliveries, losses, repeats, disconnects and resends
abbrev pub TheSweepTheorem : Type 0
TheSweepTheorem =
    (next : List Bool) (max_number : ℕ) (events : List Event) → IsOpening next max_number
    → HoldsOf (run next max_number events)
