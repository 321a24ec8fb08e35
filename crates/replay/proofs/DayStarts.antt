-- A start: the world and the journals that are made again are those of the definition.
use Rattle.std.proofs.Common.{◌≡◌, ◌≤◌, ◌<◌, ◌+◌, ◌-◌, ◌&&◌, ◌⊎◌, ℕ, zero, suc, Bool, true, false, nat_le, List, [], ◌∷◌, ◌++◌, length, take, drop, map, Option, Some, None, refl, sym, ap, subst, ◌∙◌, inl, inr, if◌then◌else◌, arith}
use Rattle.std.specs.Prelude.{slice_get, unwrap_or, option_map, option_and_then}
use Rattle.std.specs.Option.{option_map_or}
use Rattle.std.specs.List.{AllByRecursion}
use Rattle.std.proofs.lemmas.Bool.{cases_lt, le-leb, lt-leb}
use Rattle.std.proofs.lemmas.Option.{same_Some, slice_get_within}
use Rattle.leg.specs.declared.leg.Leg.{Leg}
use Rattle.leg.specs.declared.leg_state.LegState.{LegState}
use Rattle.leg.specs.declared.sweep.Routed.{Routed}
use Rattle.session_core.specs.Calling.{broken}
use Rattle.share_ledger.specs.declared.book_entry.BookEntry.{BookEntry}
use Rattle.share_ledger.specs.declared.book_entry.BookEntry.TheVariants.{Opened, Withdrawn, Moved}
use Rattle.share_ledger.specs.Book.{BookParts, new_book, replay}
use Rattle.sweep_release.specs.declared.gate.Gate.TheVariants.{Shut}
use Rattle.sweep_release.specs.Released.{released}
use Rattle.sweep_release.specs.Desk.{DeskParts, DeskVenue, venue_at, gate_of, is_shut}
use Rattle.schedule.specs.World.{World, VenueParts, Frame, venue_in, released_to, state_of, ids_where, is_withdrawn_leg, withdrawn_ids}
use Rattle.schedule.specs.SweepTheorem.{HoldsOf}
use Rattle.world_restart.specs.Journal.{Standing, Journal, standing_at, with_line, add_line, each_from}
use Rattle.world_restart.specs.Start.{Day, Loss, may_lose, sweeps_kept, lines_kept, last_kept, standing_kept, keeps_rules, all_keep_rules, gate_started, desk_venue_started, venue_started, venue_entries, book_entries, with_book, world_started, journal_started, day_started}
use Rattle.world_restart.specs.Day.{DayEvent, after_crash, day_happens, run_day}
use Rattle.world_restart.specs.Day.DayEvent.{Crash}
use Rattle.world_restart.proofs.DayHolds.{IsKeptDay, day_kept, sweep_theorem_over_restarts}
use Rattle.world_restart.proofs.Places.{each_is, each_of, each_length, get_within}
use Rattle.world_restart.proofs.Starting.{IsKeptAt, kept_at, Begins, begins}
use Rattle.replay.specs.declared.deed.Deed.{Deed}
use Rattle.replay.specs.declared.deed.Deed.TheVariants as deed
use Rattle.replay.specs.Redoing.{JournalParts, redo, redo_all, new_standing, journal_by, journals_by, frames_from, lines_behind, standing_kept_by}
use Rattle.replay.specs.Ruling.{keeps}
use Rattle.replay.specs.Starting.{lost_at, keeps_by, keeps_line, all_keep, deeds_kept, line_kept, StandsBy, AreLost, started_parts, kept_standing, desk_by, world_by}
use Rattle.replay.specs.DaySeen.{IsWithin, IsDay, day_seen}
use Rattle.replay.proofs.JournalLines.{last_line, one_line, lines_dropped, last_kept_line, no_line, within_push, within_take}
use Rattle.replay.proofs.DayHappens.{same_lists, frames_there, run_more, day_stands}

-- the rules, by venue
rule_is : (w : World) (loss : Loss) (v : ℕ) (journal : Journal) (found : Option Standing)
    → keeps_by w v (sweeps_kept w loss) journal.reached found ≡ keeps_rules w loss v journal found
rule_is w loss v journal None = refl
rule_is w loss v journal (Some standing) = refl

pub rules_are : (w : World) (loss : Loss) (v : ℕ) (journals : List Journal)
    → all_keep w (sweeps_kept w loss) loss.lines v journals ≡ all_keep_rules w loss v journals
rules_are w loss v [] = refl
rules_are w loss v (journal ∷ journals) =
    let first = rule_is w loss v journal (last_kept loss v journal) in
    let rest = rules_are w loss (suc v) journals in
    λ i. first i && rest i

-- the book that is made again doesn't come from the one before
withdrawn_anyway : (w : World) (b : BookParts) (v : ℕ) → withdrawn_ids (record w { book = b }) v ≡ withdrawn_ids w v
withdrawn_anyway w b v =
    ap (λ (state : ℕ → Option LegState). ids_where is_withdrawn_leg state 1 (released_to w v)) (λ i n. states n i)
  where
    states : (n : ℕ) → state_of (record w { book = b }) v n ≡ state_of w v n
    states zero = refl
    states (suc n) = refl

entries_anyway : (w : World) (b : BookParts) (v : ℕ) (venues : List VenueParts)
    → venue_entries (record w { book = b }) v venues ≡ venue_entries w v venues
entries_anyway w b v [] = refl
entries_anyway w b v (venue ∷ venues) =
    let ids = withdrawn_anyway w b v in
    let rest = entries_anyway w b (suc v) venues in
    λ i. map (Moved v) venue.given ++ (map Withdrawn (ids i) ++ rest i)

pub book_anyway : (w : World) (b : BookParts) → with_book (record w { book = b }) ≡ with_book w
book_anyway w b =
    let rest = entries_anyway w b 0 w.venues in
    λ i. record w {
      book = replay (new_book (length w.venues))
          (map (λ legs. Opened (record { legs = legs })) w.desk.sweeps ++ rest i);
    }

-- each journal that is kept has lost no more than there is, and its last kept line is by its deeds
lost_low : (frames : List Frame) (s standing : Standing) (deeds : List Deed) (n : ℕ)
    → slice_get (drop n (lines_behind frames s [] deeds)) 0 ≡ Some standing → n ≤ length deeds
lost_low frames s standing deeds n last =
    elim (cases_lt (length deeds) n) [
      | inl past ↦ absurd (let e = sym (no_line frames s deeds n past) ∙ last in cc)
      | inr low ↦ omega arith
    ]

shut_started : (b : Bool) → is_shut (gate_started b) ≡ b
shut_started true = refl
shut_started false = refl

abbrev venue_by : Option DeskVenue → DeskVenue
venue_by found = unwrap_or {T = DeskVenue} found (record { gate = Shut; left = 0 })

started_at_desk : (sweeps : List (List Routed)) (v : ℕ) (found : Option Standing) (s : Standing) (now : DeskVenue)
    → found ≡ Some s
    → desk_venue_started sweeps found v now
    ≡ record { gate = gate_started s.is_shut; left = length (released v sweeps) }
started_at_desk sweeps v found s now is = ap (λ o. desk_venue_started sweeps o v now) is

started_anyway : (sweeps : List (List Routed)) (v : ℕ) (s t : Option Standing) (k : Standing) (x y : DeskVenue)
    → s ≡ Some k → t ≡ Some k → desk_venue_started sweeps s v x ≡ desk_venue_started sweeps t v y
started_anyway sweeps v s t k x y is so = started_at_desk sweeps v s k x is ∙ sym (started_at_desk sweeps v t k y so)

module _ (max_number : ℕ) (w : World) (js : List JournalParts) (loss : Loss) (is : IsDay max_number w js)
    (may : may_lose (day_seen max_number w js) loss ≡ true) where
  abbrev day : Day
  day = day_seen max_number w js

  abbrev sweeps : List (List Routed)
  sweeps = sweeps_kept w loss

  abbrev after : World
  after = world_started day loss

  abbrev kept_js : List JournalParts
  kept_js = each_from (started_parts sweeps loss.lines) 0 js

  kept : IsKeptDay day
  kept = subst IsKeptDay (sym is.reached) (day_kept is.next max_number is.events is.opening)

  counted : length day.journals ≡ length w.venues
  counted = each_length _ 0 js ∙ is.count

  -- what is kept of a journal
  record At (v : ℕ) (j : JournalParts) : Type 0 where
    venue : VenueParts
    there : venue_in w v ≡ Some venue
    standing : Standing
    low : lost_at loss.lines v ≤ length j.deeds
    line : line_kept max_number w v (lost_at loss.lines v) j ≡ standing
    is_kept : standing_kept day loss v ≡ Some standing

  at : (v : ℕ) (j : JournalParts) → slice_get js v ≡ Some j → At v j
  at v j has =
      let within = slice_get_within js v j has in
      let found = get_within w.venues v (let c = is.count in omega arith) in
      let mine = each_is (λ k x. journal_by max_number (frames_from w k) x) v js j has in
      let rules = kept_at day loss may v (journal_by max_number (frames_from w v) j) mine in
      let one : rules.journal ≡ journal_by max_number (frames_from w v) j =
      same_Some _ _ (sym rules.there ∙ mine) in
      let last : last_kept loss v (journal_by max_number (frames_from w v) j) ≡ Some rules.standing =
      subst (λ (x : Journal). last_kept loss v x ≡ Some rules.standing) one rules.last in
      let low = lost_low (frames_from w v) (new_standing max_number j.next) rules.standing j.deeds
      (lost_at loss.lines v) last in
      record {
        venue = found.0;
        there = found.1;
        standing = rules.standing;
        low = low;
        line = same_Some _ _
            (sym (last_kept_line (frames_from w v) (new_standing max_number j.next) j.deeds (lost_at loss.lines v) low)
            ∙ last);
        is_kept = ap (option_and_then (last_kept loss v)) mine ∙ last;
      }

  pub are_lost : AreLost loss.lines js
  are_lost v j has = (at v j has).low

  kept_by_deeds : (v : ℕ) (j : JournalParts) (has : slice_get js v ≡ Some j)
      → kept_standing max_number w loss.lines js v ≡ Some ((at v j has).standing)
  kept_by_deeds v j has =
      ap (option_map (line_kept max_number w v (lost_at loss.lines v))) has ∙ ap (λ s. Some s) ((at v j has).line)

  abbrev journal_in : (v : ℕ) → v < length w.venues → (j : JournalParts) × (slice_get js v ≡ Some j)
  journal_in v low = get_within js v (let c = is.count in omega arith)

  -- the venues
  venues_are : each_from (λ v now. venue_started (kept_standing max_number w loss.lines js v) now) 0 w.venues
      ≡ after.venues
  venues_are =
      same_lists _ _ (each_length _ 0 w.venues ∙ sym (each_length _ 0 w.venues))
      (λ v x y at_x at_y.
      (let mine = each_of (λ k now. venue_started (kept_standing max_number w loss.lines js k) now) v w.venues x at_x in
      let made = each_of (λ k now. venue_started (standing_kept day loss k) now) v w.venues y at_y in
      let one : mine.0 ≡ made.0 = same_Some _ _ (sym mine.1 ∙ made.1) in
      let j = journal_in v (slice_get_within w.venues v made.0 made.1) in
      sym mine.2
      ∙ (ap (λ o. venue_started o mine.0) (kept_by_deeds v j.0 j.1 ∙ sym ((at v j.0 j.1).is_kept))
      ∙ (ap (venue_started (standing_kept day loss v)) one ∙ made.2))))

  -- and those of the desk
  desk_is : (desk : DeskParts) → desk.sweeps ≡ sweeps → length desk.venues ≡ length w.venues
      → desk_by max_number w loss.lines js desk ≡ after.desk
  desk_is desk swept count = λ i. record { sweeps = swept i; venues = all i }
    where
      all : each_from (λ v now. desk_venue_started desk.sweeps (kept_standing max_number w loss.lines js v) v now) 0
          desk.venues ≡ after.desk.venues
      all =
          same_lists _ _
          (each_length _ 0 desk.venues
          ∙ (count ∙ (sym kept.kept.safe.desks ∙ sym (each_length _ 0 w.desk.venues))))
          (λ v x y at_x at_y.
          (let mine = each_of
          (λ k now. desk_venue_started desk.sweeps (kept_standing max_number w loss.lines js k) k now) v desk.venues x
          at_x in
          let made = each_of (λ k now. desk_venue_started sweeps (standing_kept day loss k) k now) v w.desk.venues y
          at_y in
          let low = slice_get_within desk.venues v mine.0 mine.1 in
          let j = journal_in v (omega (arith, low, count)) in
          sym mine.2
          ∙ (ap (λ s. desk_venue_started s (kept_standing max_number w loss.lines js v) v mine.0) swept
          ∙ (started_anyway sweeps v _ _ ((at v j.0 j.1).standing) mine.0 made.0 (kept_by_deeds v j.0 j.1)
          ((at v j.0 j.1).is_kept) ∙ made.2))))

  pub world_is : (desk : DeskParts) → desk.sweeps ≡ sweeps → length desk.venues ≡ length w.venues
      → world_by max_number w loss.lines js desk ≡ after
  world_is desk swept count =
      (λ i. with_book (record w { desk = desk_is desk swept count i; venues = venues_are i }))
      ∙ sym (book_anyway (record w { desk = after.desk; venues = after.venues }) (new_book (length w.venues)))

  -- the journals
  same_frames : (v : ℕ) (j : JournalParts) (has : slice_get js v ≡ Some j)
      → frames_from after v ≡ frames_from w v
  same_frames v j has =
      let a = at v j has in
      frames_there after v (venue_started (standing_kept day loss v) a.venue)
      (each_is (λ k now. venue_started (standing_kept day loss k) now) v w.venues a.venue a.there)
      ∙ (ap (λ o. (venue_started o a.venue).from_exchange) a.is_kept ∙ sym (frames_there w v a.venue a.there))

  stands_after : (v : ℕ) (j : JournalParts) (has : slice_get js v ≡ Some j)
      → standing_at after v (venue_started (standing_kept day loss v) (at v j has).venue)
      ≡ redo (frames_from w v) (line_kept max_number w v (lost_at loss.lines v) j)
      (deed.Started (length (released v sweeps)))
  stands_after v j has =
      let a = at v j has in
      let low = slice_get_within w.venues v a.venue a.there in
      let x = get_within w.desk.venues v (let same = kept.kept.safe.desks in omega (arith, same, low)) in
      let desk_at : venue_at after.desk v
      ≡ record { gate = gate_started a.standing.is_shut; left = length (released v sweeps) } =
      ap venue_by (each_is (λ k now. desk_venue_started sweeps (standing_kept day loss k) k now) v w.desk.venues x.0 x.1)
      ∙ started_at_desk sweeps v (standing_kept day loss v) a.standing x.0 a.is_kept in
      let shut : is_shut (venue_at after.desk v).gate ≡ a.standing.is_shut =
      ap (λ (d : DeskVenue). is_shut d.gate) desk_at ∙ shut_started a.standing.is_shut in
      (λ i. record {
        left = ap (λ (d : DeskVenue). d.left) desk_at i;
        is_shut = shut i;
        session = (venue_started (a.is_kept i) a.venue).session;
        to_exchange = (venue_started (a.is_kept i) a.venue).to_exchange;
        given = (venue_started (a.is_kept i) a.venue).given;
      })
      ∙ ap (λ s. redo (frames_from w v) s (deed.Started (length (released v sweeps)))) (sym a.line)

  started_lines : (v : ℕ) (j : JournalParts) (has : slice_get js v ≡ Some j)
      → journal_by max_number (frames_from after v) (started_parts sweeps loss.lines v j)
      ≡ journal_started after loss v (journal_by max_number (frames_from w v) j)
  started_lines v j has =
      let a = at v j has in
      let frames = frames_from w v in
      let s = new_standing max_number j.next in
      let kept_deeds = deeds_kept (lost_at loss.lines v) j in
      let n = deed.Started (length (released v sweeps)) in
      let there = each_is (λ k now. venue_started (standing_kept day loss k) now) v w.venues a.venue a.there in
      let rest : Journal =
      record (journal_by max_number frames j) { lines = lines_kept loss v (journal_by max_number frames j) } in
      ap (λ f. journal_by max_number f (started_parts sweeps loss.lines v j)) (same_frames v j has)
      ∙ ((λ i. record { lines = one_line frames s [] kept_deeds n i; reached = j.reached })
      ∙ ((λ i. record {
        lines = sym (stands_after v j has) i ∷ sym (lines_dropped frames s [] j.deeds (lost_at loss.lines v) a.low) i;
        reached = j.reached;
      })
      ∙ ap (λ o. option_map_or (with_line after v rest) o rest) (sym there)))

  journals_are : journals_by max_number after kept_js ≡ each_from (journal_started after loss) 0 day.journals
  journals_are =
      same_lists _ _
      (each_length _ 0 kept_js
      ∙ (each_length _ 0 js ∙ (sym (each_length _ 0 js) ∙ sym (each_length _ 0 day.journals))))
      (λ v x y at_x at_y.
      (let mine = each_of (λ k j. journal_by max_number (frames_from after k) j) v kept_js x at_x in
      let from = each_of (started_parts sweeps loss.lines) v js mine.0 mine.1 in
      let made = each_of (journal_started after loss) v day.journals y at_y in
      let old = each_of (λ k j. journal_by max_number (frames_from w k) j) v js made.0 made.1 in
      let one : from.0 ≡ old.0 = same_Some _ _ (sym from.1 ∙ old.1) in
      sym mine.2
      ∙ (ap (journal_by max_number (frames_from after v)) (sym from.2)
      ∙ (started_lines v from.0 from.1
      ∙ (ap (λ j. journal_started after loss v (journal_by max_number (frames_from w v) j)) one
      ∙ (ap (journal_started after loss v) old.2 ∙ made.2))))))

  pub started_day : day_seen max_number after kept_js ≡ day_started day loss
  started_day = λ i. record { world = after; journals = journals_are i }

  pub crash_is : after_crash day loss ≡ day_started day loss
  crash_is = ap (λ b. if b then day_started day loss else day) may

  heard_at : (v : ℕ) (new : JournalParts) → slice_get kept_js v ≡ Some new
      → AllByRecursion (IsWithin (length (frames_from after v))) new.deeds
  heard_at v new gets =
      let from = each_of (started_parts sweeps loss.lines) v js new gets in
      let j = from.0 in
      let all = is.heard v j from.1 in
      let count = length (frames_from w v) in
      let cut = within_take count (length j.deeds - lost_at loss.lines v) j.deeds all in
      subst (λ (f : List Frame). AllByRecursion (IsWithin (length f)) new.deeds) (sym (same_frames v j from.1))
      (subst (λ (x : JournalParts). AllByRecursion (IsWithin count) x.deeds) from.2
      (within_push count (deeds_kept (lost_at loss.lines v) j) (deed.Started (length (released v sweeps))) cut tt))

  pub is_day_started : IsDay max_number after kept_js
  is_day_started = record {
    next = is.next;
    events = is.events ++ Crash loss ∷ [];
    opening = is.opening;
    count = each_length _ 0 js ∙ (is.count ∙ sym (each_length _ 0 w.venues));
    some = subst (λ n. 1 ≤ n) (sym (each_length _ 0 w.venues)) is.some;
    reached = started_day
        ∙ (sym crash_is
        ∙ (ap (λ d. after_crash d loss) is.reached ∙ sym (run_more is.next max_number is.events (Crash loss))));
    heard = heard_at;
  }

-- the sweep theorem over restarts, of the day
pub day_holds : (max_number : ℕ) (w : World) (js : List JournalParts) → IsDay max_number w js → HoldsOf w
day_holds max_number w js is =
    subst (λ (d : Day). HoldsOf d.world) (sym is.reached)
    (sweep_theorem_over_restarts is.next max_number is.events is.opening)

-- the dispatcher stands at each venue as its deeds tell
pub stands_by_deeds : (max_number : ℕ) (w : World) (js : List JournalParts) → IsDay max_number w js
    → StandsBy max_number w js
stands_by_deeds max_number w js is v venue j there has = day_stands max_number w js is v venue j there has

-- whether so much may be lost, by the sweeps that are kept and the rules that were tried of them
pub may_by : (max_number : ℕ) (w : World) (js : List JournalParts) (sweeps : ℕ) (lines : List ℕ)
    (kept : List (List Routed)) (ok : Bool) → sweeps ≤ length w.desk.sweeps
    → kept ≡ take (length w.desk.sweeps - sweeps) w.desk.sweeps
    → ok ≡ all_keep w kept lines 0 (journals_by max_number w js)
    → ok ≡ may_lose (day_seen max_number w js) (record { sweeps = sweeps; lines = lines })
may_by max_number w js sweeps lines kept ok few is tried =
    let loss : Loss = record { sweeps = sweeps; lines = lines } in
    let first : nat_le sweeps (length w.desk.sweeps) ≡ true = le-leb sweeps (length w.desk.sweeps) few in
    tried
    ∙ (ap (λ k. all_keep w k lines 0 (journals_by max_number w js)) is
    ∙ (rules_are w loss 0 (journals_by max_number w js)
    ∙ ap (λ b. b && all_keep_rules w loss 0 (journals_by max_number w js)) (sym first)))

pub may_not : (max_number : ℕ) (w : World) (js : List JournalParts) (sweeps : ℕ) (lines : List ℕ)
    → length w.desk.sweeps < sweeps
    → false ≡ may_lose (day_seen max_number w js) (record { sweeps = sweeps; lines = lines })
may_not max_number w js sweeps lines many =
    let loss : Loss = record { sweeps = sweeps; lines = lines } in
    let first : nat_le sweeps (length w.desk.sweeps) ≡ false = lt-leb sweeps (length w.desk.sweeps) many in
    ap (λ b. b && all_keep_rules w loss 0 (journals_by max_number w js)) (sym first)

-- the day after a crash that can't be, and after one that can
pub not_crashed : (day : Day) (loss : Loss) → may_lose day loss ≡ false → day ≡ after_crash day loss
not_crashed day loss forbidden = ap (λ b. if b then day_started day loss else day) (sym forbidden)

pub crashed : (max_number : ℕ) (w : World) (js : List JournalParts) (loss : Loss) → IsDay max_number w js
    → may_lose (day_seen max_number w js) loss ≡ true → (desk : DeskParts) → desk.sweeps ≡ sweeps_kept w loss
    → length desk.venues ≡ length w.venues → (now : World) (after : List JournalParts)
    → now ≡ world_by max_number w loss.lines js desk
    → after ≡ each_from (started_parts desk.sweeps loss.lines) 0 js
    → (day_seen max_number now after ≡ after_crash (day_seen max_number w js) loss) × IsDay max_number now after
crashed max_number w js loss is may desk swept count now after so kept =
    let day = day_seen max_number w js in
    let world : now ≡ world_started day loss = so ∙ world_is max_number w js loss is may desk swept count in
    let journals : after ≡ each_from (started_parts (sweeps_kept w loss) loss.lines) 0 js =
    kept ∙ ap (λ s. each_from (started_parts s loss.lines) 0 js) swept in (
      (λ i. day_seen max_number (world i) (journals i))
          ∙ (started_day max_number w js loss is may ∙ sym (crash_is max_number w js loss is may)),
      subst (λ (x : World). IsDay max_number x after) (sym world)
          (subst (λ (l : List JournalParts). IsDay max_number (world_started day loss) l) (sym journals)
          (is_day_started max_number w js loss is may)),
    )

-- the day that is kept: as it was, where so much can't be lost; else the one that is started
pub uncrashed : (max_number : ℕ) (w now : World) (js : List JournalParts) (loss : Loss) → IsDay max_number w js
    → now ≡ w → may_lose (day_seen max_number w js) loss ≡ false
    → (day_seen max_number now js ≡ after_crash (day_seen max_number w js) loss) × IsDay max_number now js
uncrashed max_number w now js loss is same forbidden = (
  ap (λ x. day_seen max_number x js) same ∙ not_crashed (day_seen max_number w js) loss forbidden,
  subst (λ (x : World). IsDay max_number x js) (sym same) is,
)

pub crashed_from : (max_number : ℕ) (w mid now : World) (js after : List JournalParts) (loss : Loss) (desk : DeskParts)
    → IsDay max_number w js → mid ≡ w → may_lose (day_seen max_number w js) loss ≡ true
    → desk.sweeps ≡ sweeps_kept w loss → length desk.venues ≡ length w.venues
    → now ≡ world_by max_number mid loss.lines js desk
    → after ≡ each_from (started_parts desk.sweeps loss.lines) 0 js
    → (day_seen max_number now after ≡ after_crash (day_seen max_number w js) loss) × IsDay max_number now after
crashed_from max_number w mid now js after loss desk is same may swept count so kept =
    crashed max_number w js loss is may desk swept count now after
    (so ∙ ap (λ x. world_by max_number x loss.lines js desk) same) kept
