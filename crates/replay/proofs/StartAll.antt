-- The start, venue by venue: of the first ones all is as the start makes it, and of the others as it was.
use Rattle.std.proofs.Common.{◌≡◌, ◌≤◌, ◌<◌, ◌+◌, ℕ, zero, suc, Bool, true, false, List, [], ◌∷◌, ◌++◌, length, drop, get_or, Option, Some, None, Result, Ok, Err, refl, sym, ap, subst, ◌∙◌, arith}
use Rattle.std.specs.Prelude.{slice_get, slice_set, unwrap_or, option_map, OnOk}
use Rattle.std.specs.Option.{option_map_or}
use Rattle.std.proofs.lemmas.Option.{same_Some, slice_get_read}
use Rattle.leg.specs.declared.sweep.Routed.{Routed}
use Rattle.sweep_release.specs.declared.gate.Gate.TheVariants.{Shut}
use Rattle.sweep_release.specs.Released.{released}
use Rattle.sweep_release.specs.Laws.{IsCounted}
use Rattle.sweep_release.specs.Desk.{DeskParts, DeskVenue, venue_at, gate_of, is_shut, placed}
use Rattle.sweep_release.specs.Desk as at_desk
use Rattle.schedule.specs.World.{World, VenueParts, Frame, venue_in}
use Rattle.schedule.specs.Happening.{at_venue, with_venue}
use Rattle.venue_replay.proofs.WorldAfter.{at_there}
use Rattle.world_restart.specs.Journal.{Standing, each_from}
use Rattle.world_restart.specs.Start.{gate_started, desk_venue_started, venue_started, with_book}
use Rattle.world_restart.proofs.Places.{get_within}
use Rattle.replay.specs.declared.deed.Deed.TheVariants.{Started}
use Rattle.replay.specs.Redoing.{JournalParts, redo_all, new_standing, frames_from}
use Rattle.replay.specs.Ruling.{IsOpenDesk}
use Rattle.replay.specs.Starting.{lost_at, deeds_kept, line_kept, AreLost, started_parts, kept_standing, desk_by, world_by}
use Rattle.replay.proofs.OpenDesks.{open_counted}
use Rattle.replay.proofs.Upto.{upto, upto_length, upto_all, upto_at, upto_more}

-- what a desk tells of a venue is of its place alone
abbrev found_desk : Option DeskVenue → DeskVenue
found_desk found = unwrap_or {T = DeskVenue} found (record { gate = Shut; left = 0 })

counted_same : (a b : DeskParts) (v : ℕ) → venue_at a v ≡ venue_at b v → a.sweeps ≡ b.sweeps → IsCounted b v
    → IsCounted a v
counted_same a b v venue sweeps is =
    let left : (venue_at a v).left ≡ (venue_at b v).left = ap (λ (x : DeskVenue). x.left) venue in
    let count : length (released v a.sweeps) ≡ length (released v b.sweeps) = ap (λ s. length (released v s)) sweeps in
    let here : placed a v ≡ placed b v = λ i. length (drop (left i) (released v (sweeps i))) in
    let all = is.all in
    let few = is.few in
    record { all = omega arith; few = omega arith }

module _ (max_number : ℕ) (w : World) (lines : List ℕ) (js : List JournalParts) (d : DeskParts) where
  abbrev pub make_venue : ℕ → VenueParts → VenueParts
  make_venue v now = venue_started (kept_standing max_number w lines js v) now

  abbrev pub make_desk : ℕ → DeskVenue → DeskVenue
  make_desk v now = desk_venue_started d.sweeps (kept_standing max_number w lines js v) v now

  abbrev pub world_at : ℕ → World
  world_at n = record w { venues = upto n make_venue 0 w.venues }

  abbrev pub desk_at : ℕ → DeskParts
  desk_at n = record d { venues = upto n make_desk 0 d.venues }

  abbrev pub journals_at : ℕ → List JournalParts
  journals_at n = upto n (started_parts d.sweeps lines) 0 js

  pub counted_at : (n : ℕ) → IsOpenDesk d → IsCounted (desk_at n) n
  counted_at n is =
      counted_same (desk_at n) d n (ap found_desk (upto_at n make_desk 0 d.venues)) refl (open_counted d is n)

  pub unshut_at : (n : ℕ) → IsOpenDesk d → n < length d.venues → is_shut (gate_of (desk_at n) n) ≡ false
  unshut_at n is low =
      ap (λ (o : Option DeskVenue). is_shut (found_desk o).gate) (upto_at n make_desk 0 d.venues) ∙ is.none_shut n low

  -- at the next venue
  module _ (n : ℕ) (j : JournalParts) (has : slice_get js n ≡ Some j) where
    same_frames : frames_from (world_at n) n ≡ frames_from w n
    same_frames =
        ap (λ (o : Option VenueParts). option_map_or (λ at. at.from_exchange) o []) (upto_at n make_venue 0 w.venues)

    same_line : line_kept max_number (world_at n) n (lost_at lines n) j ≡ line_kept max_number w n (lost_at lines n) j
    same_line =
        ap (λ f. redo_all f (new_standing max_number j.next) (deeds_kept (lost_at lines n) j)) same_frames

    standing_is : kept_standing max_number w lines js n ≡ Some (line_kept max_number w n (lost_at lines n) j)
    standing_is = ap (option_map (line_kept max_number w n (lost_at lines n))) has

    pub next_world : (now : World) → n < length w.venues
        → now ≡ at_venue (world_at n) n (λ at. with_venue (world_at n) n
        (venue_started (Some (line_kept max_number (world_at n) n (lost_at lines n) j)) at))
        → now ≡ world_at (n + 1)
    next_world now low is =
        let x = get_within w.venues n low in
        let there : venue_in (world_at n) n ≡ Some x.0 = upto_at n make_venue 0 w.venues ∙ x.1 in
        let made : venue_started (Some (line_kept max_number (world_at n) n (lost_at lines n) j)) x.0 ≡ make_venue n x.0 =
        ap (λ s. venue_started (Some s) x.0) same_line ∙ ap (λ o. venue_started o x.0) (sym standing_is) in
        is
        ∙ (at_there (world_at n) n x.0 (λ at. with_venue (world_at n) n
        (venue_started (Some (line_kept max_number (world_at n) n (lost_at lines n) j)) at)) there
        ∙ (ap (with_venue (world_at n) n) made
        ∙ (λ i. record w { venues = upto_more n make_venue w.venues x.0 x.1 i })))

    pub next_desk : (now : DeskParts) → n < length d.venues
        → now ≡ at_desk.with_venue n (record {
          gate = gate_started (line_kept max_number (world_at n) n (lost_at lines n) j).is_shut;
          left = length (released n d.sweeps);
        }) (desk_at n)
        → now ≡ desk_at (n + 1)
    next_desk now low is =
        let x = get_within d.venues n low in
        let made : desk_venue_started d.sweeps (Some (line_kept max_number (world_at n) n (lost_at lines n) j)) n x.0
        ≡ make_desk n x.0 =
        ap (λ s. desk_venue_started d.sweeps (Some s) n x.0) same_line
        ∙ ap (λ o. desk_venue_started d.sweeps o n x.0) (sym standing_is) in
        is
        ∙ ((λ i. record d { venues = slice_set (upto n make_desk 0 d.venues) n (made i) })
        ∙ (λ i. record d { venues = upto_more n make_desk d.venues x.0 x.1 i }))

    pub next_journals : (now : JournalParts)
        → now ≡ record j { deeds = deeds_kept (lost_at lines n) j ++ Started (length (released n d.sweeps)) ∷ [] }
        → slice_set (journals_at n) n now ≡ journals_at (n + 1)
    next_journals now is =
        ap (slice_set (journals_at n) n) is ∙ upto_more n (started_parts d.sweeps lines) js j has

    pub journal_there : slice_get (journals_at n) n ≡ Some j
    journal_there = upto_at n (started_parts d.sweeps lines) 0 js ∙ has

  -- the next venue is started
  pub read_at : (n : ℕ) (now : List JournalParts) (j : JournalParts) → now ≡ journals_at n → n < length now
      → j ≡ get_or now n j → slice_get js n ≡ Some j
  read_at n now j is low found =
      sym (upto_at n (started_parts d.sweeps lines) 0 js)
      ∙ (ap (λ (l : List JournalParts). slice_get l n) (sym is)
      ∙ slice_get_read now (length now) n j refl low found)

  pub world_started_at : (n v lost : ℕ) (j : JournalParts) (before now : World) → slice_get js n ≡ Some j
      → before ≡ world_at n → v ≡ n → lost ≡ lost_at lines n → n < length w.venues
      → now ≡ at_venue before v (λ at. with_venue before v
      (venue_started (Some (line_kept max_number before v lost j)) at))
      → now ≡ world_at (n + 1)
  world_started_at n v lost j before now has is at so low started =
      next_world n j has now low
      (started ∙ (λ i. at_venue (is i) (at i) (λ x. with_venue (is i) (at i)
      (venue_started (Some (line_kept max_number (is i) (at i) (so i) j)) x))))

  pub desk_started_at : (n v lost : ℕ) (j : JournalParts) (before : World) (old now : DeskParts) → slice_get js n ≡ Some j
      → before ≡ world_at n → old ≡ desk_at n → v ≡ n → lost ≡ lost_at lines n → n < length d.venues
      → now ≡ at_desk.with_venue v (record {
        gate = gate_started (line_kept max_number before v lost j).is_shut;
        left = length (released v old.sweeps);
      }) old
      → now ≡ desk_at (n + 1)
  desk_started_at n v lost j before old now has is was at so low started =
      next_desk n j has now low
      (started ∙ (λ i. at_desk.with_venue (at i) (record {
        gate = gate_started (line_kept max_number (is i) (at i) (so i) j).is_shut;
        left = length (released (at i) (was i).sweeps);
      }) (was i)))

  pub journals_started_at : (n v lost : ℕ) (j now : JournalParts) (before : List JournalParts) (old : DeskParts)
      → slice_get js n ≡ Some j → before ≡ journals_at n → old ≡ desk_at n → v ≡ n → lost ≡ lost_at lines n
      → now ≡ record j { deeds = deeds_kept lost j ++ Started (length (released v old.sweeps)) ∷ [] }
      → slice_set before n now ≡ journals_at (n + 1)
  journals_started_at n v lost j now before old has is was at so started =
      ap (λ (l : List JournalParts). slice_set l n now) is
      ∙ next_journals n j has now
      (started ∙ (λ i. record j {
        deeds = deeds_kept (so i) j ++ Started (length (released (at i) (was i).sweeps)) ∷ [];
      }))

  -- at the end
  pub all_started : (n : ℕ) → length w.venues ≤ n → length d.venues ≡ length w.venues
      → with_book (record (world_at n) { desk = desk_at n }) ≡ world_by max_number w lines js d
  all_started n past count =
      let venues = upto_all n make_venue 0 w.venues past in
      let desks = upto_all n make_desk 0 d.venues (omega arith) in
      λ i. with_book (record w { desk = record d { venues = desks i }; venues = venues i })

  pub all_journals : (n : ℕ) → length w.venues ≤ n → length js ≡ length w.venues
      → journals_at n ≡ each_from (started_parts d.sweeps lines) 0 js
  all_journals n past count = upto_all n (started_parts d.sweeps lines) 0 js (omega arith)

  pub world_went_on : {F : Type 0} (n : ℕ) (before now : World) (desk : DeskParts) (result : Result (Unit {0}) F)
      → before ≡ world_at n → desk ≡ desk_at n → length w.venues ≤ n → length d.venues ≡ length w.venues
      → OnOk result (now ≡ with_book (record before { desk = desk }))
      → OnOk result (now ≡ world_by max_number w lines js d)
  world_went_on n before now desk (Ok done) is same past count went =
      went ∙ ((λ i. with_book (record (is i) { desk = same i })) ∙ all_started n past count)
  world_went_on n before now desk (Err fault) is same past count went = tt
