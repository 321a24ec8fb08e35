-- The sweep theorem, from what holds of each venue, the sums of each sweep, and the share rule of each leg.
use Rattle.std.proofs.Common.{◌≡◌, ◌≤◌, ℕ, Bool, List, [], ◌∷◌, Option, Some, None, refl, sym, ap, ◌∙◌}
use Rattle.std.specs.Prelude.{IfSome, slice_get, option_map}
use Rattle.std.proofs.lemmas.Option.{same_Some, slice_get-map}
use Rattle.leg.specs.Numbered.{numbered}
use Rattle.leg.specs.declared.sweep.Routed.{Routed}
use Rattle.leg.specs.declared.totals.Totals.{Totals}
use Rattle.share_ledger.specs.Book.{booked_from, totals_of}
use Rattle.schedule.specs.declared.event.Event.{Event}
use Rattle.schedule.specs.World.{World, opening, new_venue, venue_in}
use Rattle.schedule.specs.Happening.{happens, happen, run}
use Rattle.schedule.specs.SweepSums.{SumsUp}
use Rattle.schedule.specs.SweepTheorem.{AddsUp, TheSweepTheorem}
use Rattle.schedule.proofs.Books.{totals_are, the_sums}
use Rattle.schedule.proofs.Lines.{event_advances}
use Rattle.schedule.proofs.RunsSafely.{IsSafe, safe_after, safe_opening}
use Rattle.schedule.proofs.OrderHolds.{holds_by}
use Rattle.schedule.proofs.BookFollows.{BookFollows, follows_event, follows_opening}
use Rattle.schedule.proofs.BookedNotes.{given_at, event_notes}
use Rattle.schedule.proofs.NotesMove.{IsBooked, booked_after}
use Rattle.schedule.proofs.ShareRule.{each_leg_ruled}
use Rattle.schedule.proofs.SweepParts.{withdrawn_part}

-- what is kept of a world: its lines are safe, the book has as withdrawn what was withdrawn, and has the notes given
record IsKept (w : World) : Type 0 where
  safe : IsSafe w
  follows : BookFollows w
  booked : IsBooked w

kept_run : (events : List Event) (w : World) → IsKept w → IsKept (happen events w)
kept_run [] w kept = kept
kept_run (e ∷ events) w kept =
    let after = happens w e in
    let next = safe_after w after (event_advances w e) kept.safe in
    let follows = follows_event w e kept.safe next kept.follows in
    kept_run events after
    (record {
      safe = next;
      follows = follows;
      booked = booked_after w after kept.safe next kept.follows follows (event_notes w e) kept.booked;
    })

-- in the opening world no venue has given a note
given_by : (max_number : ℕ) (found : Option Bool) → given_at (option_map (new_venue max_number) found) ≡ []
given_by max_number None = refl
given_by max_number (Some has_next) = refl

kept_opening : (next : List Bool) (max_number : ℕ) → max_number ≤ 999999999 → IsKept (opening next max_number)
kept_opening next max_number most = record {
  safe = safe_opening next max_number most;
  follows = follows_opening next max_number;
  booked = λ v.
      sym (ap given_at (slice_get-map (new_venue max_number) next v) ∙ given_by max_number (slice_get next v));
}

adds_up : (w : World) → IsKept w → (number : ℕ) (legs : List Routed)
    → numbered number w.desk.sweeps ≡ Some legs → SumsUp w number legs
    → AddsUp w number legs
adds_up w kept number legs there sums =
    let same : sums.parts ≡ totals_of (booked_from w.book number 1 legs) =
    same_Some sums.parts (totals_of (booked_from w.book number 1 legs))
    (sym sums.totals ∙ totals_are w number legs kept.follows.sweeps there) in
    let ruled = each_leg_ruled w kept.safe kept.follows kept.booked number legs there in
    record {
      parts = sums.parts;
      totals = sums.totals;
      sum = sums.sum;
      each_leg = ruled;
      each_part = same ∙ ap totals_of ruled;
      withdrawn = ap (λ (t : Totals). t.withdrawn) same ∙ withdrawn_part w kept.safe kept.follows number legs there;
    }

sweep_by : (w : World) → IsKept w → (number : ℕ)
    → ((legs : List Routed) → numbered number w.desk.sweeps ≡ Some legs → SumsUp w number legs)
    → (found : Option (List Routed)) → numbered number w.desk.sweeps ≡ found
    → IfSome (numbered number w.desk.sweeps) (AddsUp w number)
sweep_by w kept number sums None is = rw is tt
sweep_by w kept number sums (Some legs) is = rw is (adds_up w kept number legs is (sums legs is))

pub the_sweep_theorem : TheSweepTheorem
the_sweep_theorem next max_number events is =
    let w = run next max_number events in
    let kept = kept_run events (opening next max_number) (kept_opening next max_number is.most_number) in
    record {
      venue = λ v. holds_by w v (venue_in w v) refl kept.safe;
      sweep = λ number.
          sweep_by w kept number (λ legs there. the_sums next max_number events number legs there)
          (numbered number w.desk.sweeps) refl;
    }
