-- The sweep theorem over restarts: what is kept of a world is kept by every event, and by every crash.
use Rattle.std.proofs.Common.{◌≡◌, ◌≤◌, ◌++◌, ℕ, Bool, true, List, [], ◌∷◌, length, map, Option, Some, None, refl, sym, ap, subst, ◌∙◌}
use Rattle.std.specs.Prelude.{IfSome, slice_get, option_map}
use Rattle.std.proofs.lemmas.Option.{same_Some, slice_get-map}
use Rattle.std.proofs.lemmas.List.{length-map}
use Rattle.leg.specs.Numbered.{numbered}
use Rattle.leg.specs.declared.sweep.Routed.{Routed}
use Rattle.leg.specs.declared.totals.Totals.{Totals}
use Rattle.exchange_core.proofs.Entries.{chosen}
use Rattle.share_ledger.specs.declared.book_entry.BookEntry.{BookEntry}
use Rattle.share_ledger.specs.Entries.{sweep_shares, opened}
use Rattle.share_ledger.specs.Book.{BookParts, new_book, replay, booked_from, totals_of, totals_shares}
use Rattle.share_ledger.specs.Book as book
use Rattle.share_ledger.proofs.Adding.{totals_add_up}
use Rattle.share_ledger.proofs.Outcomes.{replay-append}
use Rattle.schedule.specs.declared.event.Event.{Event}
use Rattle.schedule.specs.World.{World, VenueParts, opening, new_venue, venue_in}
use Rattle.schedule.specs.Happening.{happens, happen}
use Rattle.schedule.specs.SweepSums.{SumsUp}
use Rattle.schedule.specs.SweepTheorem.{HoldsOf, AddsUp, IsOpening}
use Rattle.schedule.proofs.Books.{totals_are, event_books}
use Rattle.schedule.proofs.Happened.{event_is_later}
use Rattle.schedule.proofs.Lines.{event_advances}
use Rattle.schedule.proofs.RunsSafely.{IsSafe, safe_after, safe_opening}
use Rattle.schedule.proofs.OrderHolds.{holds_by}
use Rattle.schedule.proofs.BookFollows.{BookFollows, follows_event, follows_opening}
use Rattle.schedule.proofs.BookedNotes.{given_at, event_notes}
use Rattle.schedule.proofs.NotesMove.{IsBooked, booked_after}
use Rattle.schedule.proofs.ShareRule.{each_leg_ruled}
use Rattle.schedule.proofs.SweepParts.{withdrawn_part}
use Rattle.world_restart.specs.Journal.{Journal, new_journal, journal_after}
use Rattle.world_restart.specs.Start.{Day, Loss, may_lose, sweeps_kept, book_entries, world_started, day_started}
use Rattle.world_restart.specs.Day.{DayEvent, opening_day, after_event, day_happens, day_happen, run_day}
use Rattle.world_restart.specs.Day.DayEvent.{Goes, Crash}
use Rattle.world_restart.specs.RestartTheorem.{TheSweepTheoremOverRestarts, ADayWithoutACrash}
use Rattle.world_restart.proofs.Places.{each_of, each_length}
use Rattle.world_restart.proofs.Journals.{IsJournal, new_is, journal_goes}
use Rattle.world_restart.proofs.Sweeps.{AllFit, all_fit, fit_take}
use Rattle.world_restart.proofs.Rebuilt.{rebuilt_booked, rebuilt_follows}
use Rattle.world_restart.proofs.Starting.{started_safe, started_journal}

-- what is kept of a world: its lines are safe, the book is made by calls, has as withdrawn what was withdrawn, and has
-- the notes given
pub record IsKept (w : World) : Type 0 where
  pub safe : IsSafe w
  pub follows : BookFollows w
  pub booked : IsBooked w
  pub calls : List BookEntry
  pub made : w.book ≡ replay (new_book (length w.venues)) calls

-- and of a day: its journals too
pub record IsKeptDay (day : Day) : Type 0 where
  pub kept : IsKept day.world
  pub count : length day.journals ≡ length day.world.venues
  pub journals : (v : ℕ) (venue : VenueParts) (journal : Journal) → venue_in day.world v ≡ Some venue
      → slice_get day.journals v ≡ Some journal → IsJournal day.world v venue journal

-- an event
kept_event : (w : World) (e : Event) → IsKept w → IsKept (happens w e)
kept_event w e kept =
    let after = happens w e in
    let next = safe_after w after (event_advances w e) kept.safe in
    let follows = follows_event w e kept.safe next kept.follows in
    let made = event_books w e kept.follows.sweeps in
    let count = (event_is_later w e).venues in
    record {
      safe = next;
      follows = follows;
      booked = booked_after w after kept.safe next kept.follows follows (event_notes w e) kept.booked;
      calls = kept.calls ++ made.calls;
      made = made.replayed
          ∙ (ap (λ b. replay b made.calls) kept.made
          ∙ (sym (replay-append (new_book (length w.venues)) kept.calls made.calls)
          ∙ ap (λ n. replay (new_book n) (kept.calls ++ made.calls)) (sym count)));
    }

day_event : (day : Day) (e : Event) → IsKeptDay day → IsKeptDay (after_event day e)
day_event day e is =
    let w = day.world in
    let after = happens w e in
    let kept = kept_event w e is.kept in
    record {
      kept = kept;
      count = each_length (journal_after w after e) 0 day.journals ∙ (is.count ∙ sym (event_is_later w e).venues);
      journals = λ v now journal there at.
          (let from = each_of (journal_after w after e) v day.journals journal at in
          let comes = (event_advances w e).comes v now there in
          subst (IsJournal after v now) from.2
          (journal_goes w e is.kept.safe kept.safe v comes.old now comes.there there from.0
          (is.journals v comes.old from.0 comes.there from.1)));
    }

-- a crash
kept_start : (day : Day) (loss : Loss) → may_lose day loss ≡ true → IsKeptDay day → IsKept (world_started day loss)
kept_start day loss may is =
    let w = day.world in
    let after = world_started day loss in
    let safe = started_safe day loss is.kept.safe is.count may is.journals in
    let all : AllFit (length w.venues) [] w.desk.sweeps =
    subst (AllFit (length w.venues) []) (ap (λ (b : BookParts). opened b.entries) (sym is.kept.made) ∙ is.kept.follows.sweeps)
    (all_fit (length w.venues) is.kept.calls) in
    let fit : AllFit (length after.venues) [] after.desk.sweeps =
    subst (λ n. AllFit n [] (sweeps_kept w loss)) (sym (each_length _ 0 w.venues))
    (fit_take (length w.venues) [] _ w.desk.sweeps all) in
    record {
      safe = safe;
      follows = rebuilt_follows after safe fit refl;
      booked = rebuilt_booked after safe fit refl;
      calls = book_entries after;
      made = refl;
    }

day_crash : (day : Day) (loss : Loss) → may_lose day loss ≡ true → IsKeptDay day → IsKeptDay (day_started day loss)
day_crash day loss may is = record {
  kept = kept_start day loss may is;
  count = each_length _ 0 day.journals ∙ (is.count ∙ sym (each_length _ 0 day.world.venues));
  journals = λ v now journal there at.
      started_journal day loss is.kept.safe is.count may is.journals v now there journal at;
}

pub day_keeps : (day : Day) (e : DayEvent) → IsKeptDay day → IsKeptDay (day_happens day e)
day_keeps day (Goes event) is = day_event day event is
day_keeps day (Crash loss) is =
    chosen IsKeptDay (may_lose day loss) (day_started day loss) day (λ may. day_crash day loss may is) (λ may_not. is)

pub days_keep : (events : List DayEvent) (day : Day) → IsKeptDay day → IsKeptDay (day_happen events day)
days_keep [] day is = is
days_keep (e ∷ events) day is = days_keep events (day_happens day e) (day_keeps day e is)

-- the opening
given_by : (max_number : ℕ) (found : Option Bool) → given_at (option_map (new_venue max_number) found) ≡ []
given_by max_number None = refl
given_by max_number (Some has_next) = refl

kept_opening : (next : List Bool) (max_number : ℕ) → max_number ≤ 999999999 → IsKept (opening next max_number)
kept_opening next max_number most = record {
  safe = safe_opening next max_number most;
  follows = follows_opening next max_number;
  booked = λ v.
      sym (ap given_at (slice_get-map (new_venue max_number) next v) ∙ given_by max_number (slice_get next v));
  calls = [];
  made = ap new_book (sym (length-map next (new_venue max_number)));
}

pub day_opening : (next : List Bool) (max_number : ℕ) → max_number ≤ 999999999
    → IsKeptDay (opening_day (opening next max_number))
day_opening next max_number most =
    let w = opening next max_number in
    let kept = kept_opening next max_number most in
    record {
      kept = kept;
      count = each_length (new_journal w) 0 w.venues;
      journals = λ v venue journal there at.
          (let from = each_of (new_journal w) v w.venues journal at in
          let one : from.0 ≡ venue = same_Some from.0 venue (sym from.1 ∙ there) in
          let is : new_journal w v venue ≡ journal = ap (new_journal w v) (sym one) ∙ from.2 in
          subst (IsJournal w v venue) is (new_is w v venue (kept.safe.lines v venue there) (new_journal w v venue) refl));
    }

-- what is kept gives what holds
sums_up : (w : World) → IsKept w → (number : ℕ) (legs : List Routed) → numbered number w.desk.sweeps ≡ Some legs
    → SumsUp w number legs
sums_up w kept number legs there =
    let open_as : numbered number (opened w.book.entries) ≡ Some legs =
    subst (λ s. numbered number s ≡ Some legs) (sym kept.follows.sweeps) there in
    let adds = subst (λ b. totals_shares (book.totals b number) ≡ Some (sweep_shares legs)) (sym kept.made)
    (totals_add_up (length w.venues) kept.calls number legs
    (subst (λ (b : BookParts). numbered number (opened b.entries) ≡ Some legs) kept.made open_as)) in
    let total = totals_are w number legs kept.follows.sweeps there in
    record {
      parts = totals_of (booked_from w.book number 1 legs);
      totals = total;
      sum = same_Some _ _ (sym (ap totals_shares total) ∙ adds);
    }

adds_up : (w : World) → IsKept w → (number : ℕ) (legs : List Routed) → numbered number w.desk.sweeps ≡ Some legs
    → AddsUp w number legs
adds_up w kept number legs there =
    let sums = sums_up w kept number legs there in
    let same : sums.parts ≡ totals_of (booked_from w.book number 1 legs) =
    same_Some sums.parts (totals_of (booked_from w.book number 1 legs))
    (sym sums.totals ∙ totals_are w number legs kept.follows.sweeps there) in
    let ruled = each_leg_ruled w kept.safe kept.follows kept.booked number legs there in
    record {
      parts = sums.parts;
      totals = sums.totals;
      sum = sums.sum;
      each_leg = ruled;
      each_part = same ∙ ap totals_of ruled;
      withdrawn = ap (λ (t : Totals). t.withdrawn) same ∙ withdrawn_part w kept.safe kept.follows number legs there;
    }

sweep_by : (w : World) → IsKept w → (number : ℕ) (found : Option (List Routed)) → numbered number w.desk.sweeps ≡ found
    → IfSome found (AddsUp w number)
sweep_by w kept number None is = tt
sweep_by w kept number (Some legs) is = adds_up w kept number legs is

pub kept_holds : (w : World) → IsKept w → HoldsOf w
kept_holds w kept = record {
  venue = λ v. holds_by w v (venue_in w v) refl kept.safe;
  sweep = λ number. sweep_by w kept number (numbered number w.desk.sweeps) refl;
}

pub day_kept : (next : List Bool) (max_number : ℕ) (events : List DayEvent) → IsOpening next max_number
    → IsKeptDay (run_day next max_number events)
day_kept next max_number events is =
    days_keep events (opening_day (opening next max_number)) (day_opening next max_number is.most_number)

pub sweep_theorem_over_restarts : TheSweepTheoremOverRestarts
sweep_theorem_over_restarts next max_number events is =
    kept_holds (run_day next max_number events).world (day_kept next max_number events is).kept

-- a day with no crash
same_worlds : (events : List Event) (day : Day) → (day_happen (map Goes events) day).world ≡ happen events day.world
same_worlds [] day = refl
same_worlds (e ∷ events) day = same_worlds events (after_event day e)

pub day_without_a_crash : ADayWithoutACrash
day_without_a_crash next max_number events = same_worlds events (opening_day (opening next max_number))
