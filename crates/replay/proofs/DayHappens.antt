-- An event of a day: the journals go on as the definition says.
use Rattle.std.proofs.Common.{◌≡◌, ◌≤◌, ◌<◌, ◌+◌, ◌⊎◌, ℕ, zero, suc, Bool, true, false, List, [], ◌∷◌, ◌++◌, length, map, get_or, Option, Some, None, refl, sym, ap, subst, ◌∙◌, inl, inr, if◌then◌else◌, arith}
use Rattle.std.specs.Prelude.{slice_get, slice_set, IfSome, max}
use Rattle.std.specs.Option.{option_map_or}
use Rattle.std.specs.List.{AllByRecursion}
use Rattle.std.proofs.lemmas.List.{length-append, length-map}
use Rattle.std.proofs.lemmas.Bool.{cases_eq}
use Rattle.std.proofs.lemmas.Option.{same_Some, slice_get_read, slice_get_within, slice_get_past}
use Rattle.leg.specs.Growing.{Grew}
use Rattle.schedule.specs.declared.event.Event.{Event}
use Rattle.schedule.specs.declared.event.Event.TheVariants.{GateDown}
use Rattle.schedule.specs.Growing.{named, IsVenueLater}
use Rattle.session_core.specs.Session.{new_session}
use Rattle.sweep_release.proofs.Venues.{left-new_desk}
use Rattle.schedule.specs.SweepTheorem.{IsOpening}
use Rattle.schedule.specs.World.{World, VenueParts, Frame, opening, new_venue, session_config, venue_in}
use Rattle.schedule.specs.Happening.{happens}
use Rattle.schedule.proofs.Grown.{length-slice_set, slice_get-set_other}
use Rattle.schedule.proofs.Happened.{event_is_later}
use Rattle.schedule.proofs.Lines.{set_there}
use Rattle.world_restart.specs.Journal.{Standing, Journal, standing_at, new_journal, add_line, with_line, writes_at, reached_at, journal_after, each_from}
use Rattle.world_restart.specs.Start.{Day}
use Rattle.world_restart.specs.Day.{DayEvent, after_event, day_happens, day_happen, opening_day, run_day}
use Rattle.world_restart.specs.Day.DayEvent.{Goes}
use Rattle.world_restart.specs.Deeds.{again, deed_of, GoesByDeeds}
use Rattle.world_restart.proofs.DeedsDone.{deeds_give_the_lines}
use Rattle.world_restart.proofs.Places.{each_is, each_of, each_length, get_within}
use Rattle.replay.specs.declared.deed.Deed.{Deed}
use Rattle.replay.specs.declared.noted.Noted.{Noted}
use Rattle.replay.specs.declared.noted.Noted.TheVariants.{Nothing, Line, Reached}
use Rattle.replay.specs.Redoing.{JournalParts, redo, redo_all, new_standing, journal_by, journals_by, frames_from, lines_behind}
use Rattle.replay.specs.Noting.{AreNoted, noted, with_noted}
use Rattle.replay.specs.DaySeen.{IsWithin, IsDay, day_seen, new_parts, lines_of}
use Rattle.replay.proofs.OpenDesks.{new_gate}
use Rattle.replay.proofs.JournalLines.{lines_length, last_line, one_line, lines_grown, within_more, within_push}
use Rattle.replay.proofs.NotedEvents.{IsNoted, is_noted, not_noted}

-- lists of the same elements
pub same_lists : {A : Type 0} (xs ys : List A) → length xs ≡ length ys
    → ((k : ℕ) (x y : A) → slice_get xs k ≡ Some x → slice_get ys k ≡ Some y → x ≡ y) → xs ≡ ys
same_lists [] [] count same = refl
same_lists [] (y ∷ ys) count same = absurd cc
same_lists (x ∷ xs) [] count same = absurd cc
same_lists (x ∷ xs) (y ∷ ys) count same =
    let first : x ≡ y = same 0 x y refl refl in
    let rest : xs ≡ ys = same_lists xs ys (omega arith) (λ k a b at bt. same (suc k) a b at bt) in
    λ i. first i ∷ rest i

-- an element of a list that was made of another
pub map_of : {A B : Type 0} (make : A → B) (xs : List A) (v : ℕ) (y : B) → slice_get (map make xs) v ≡ Some y
    → (x : A) × (slice_get xs v ≡ Some x) × (make x ≡ y)
map_of make [] v y there = absurd cc
map_of make (x ∷ xs) zero y there = (x, refl, same_Some (make x) y there)
map_of make (x ∷ xs) (suc v) y there = map_of make xs v y there

-- a journal by its parts
journal_is : {lines more : List Standing} {reached so : ℕ} → lines ≡ more → reached ≡ so
    → ◌≡◌ {A = Journal} (record { lines = lines; reached = reached }) (record { lines = more; reached = so })
journal_is lines reached = λ i. record { lines = lines i; reached = reached i }

reached_by_line : (b : Bool) (x y : Journal) (n : ℕ) → x.reached ≡ n → y.reached ≡ n
    → (let j : Journal = if b then x else y in j.reached) ≡ n
reached_by_line true x y n at bt = at
reached_by_line false x y n at bt = bt

added_reached : (w : World) (v : ℕ) (journal : Journal) (found : Option VenueParts)
    → (let j : Journal = option_map_or (with_line w v journal) found journal in j.reached) ≡ journal.reached
added_reached w v journal None = refl
added_reached w v journal (Some venue) = refl

pub reached_after : (w after : World) (e : Event) (v : ℕ) (journal : Journal)
    → (journal_after w after e v journal).reached ≡ reached_at w e v journal.reached
reached_after w after e v journal =
    let heard : Journal = record journal { reached = reached_at w e v journal.reached } in
    reached_by_line (writes_at e v) (add_line after v heard) heard (reached_at w e v journal.reached)
    (added_reached after v heard (venue_in after v)) refl

-- the lines, where one is written and where none is
written : (b : Bool) (s : Standing) (lines : List Standing) → b ≡ true → (if b then s ∷ lines else lines) ≡ s ∷ lines
written true s lines is = refl
written false s lines is = absurd cc

unwritten : (b : Bool) (s : Standing) (lines : List Standing) → b ≡ false → (if b then s ∷ lines else lines) ≡ lines
unwritten true s lines is = absurd cc
unwritten false s lines is = refl

pub frames_there : (w : World) (v : ℕ) (venue : VenueParts) → venue_in w v ≡ Some venue
    → frames_from w v ≡ venue.from_exchange
frames_there w v venue there = ap (λ (o : Option VenueParts). option_map_or (λ at. at.from_exchange) o []) there

grew_length : {A : Type 0} (xs ys : List A) → Grew xs ys → length xs ≤ length ys
grew_length xs ys grew =
    (let e = ap length grew.1 ∙ length-append xs grew.0 in omega arith)

module _ (max_number : ℕ) (w : World) (e : Event) (v : ℕ) (venue now : VenueParts) (j : JournalParts)
    (there : venue_in w v ≡ Some venue) (after : venue_in (happens w e) v ≡ Some now)
    (grew : Grew venue.from_exchange now.from_exchange)
    (heard : AllByRecursion (IsWithin (length venue.from_exchange)) j.deeds)
    (last : slice_get (journal_by max_number venue.from_exchange j).lines 0 ≡ Some (standing_at w v venue))
    (goes : (journal_after w (happens w e) e v (journal_by max_number venue.from_exchange j)).lines
    ≡ (if writes_at e v then again (standing_at w v venue) (deed_of w e venue)
    ∷ (journal_by max_number venue.from_exchange j).lines else (journal_by max_number venue.from_exchange j).lines)) where
  abbrev old : Journal
  old = journal_by max_number venue.from_exchange j

  abbrev start : Standing
  start = new_standing max_number j.next

  same_lines : (deeds : List Deed) → AllByRecursion (IsWithin (length venue.from_exchange)) deeds
      → lines_behind now.from_exchange start [] deeds ≡ lines_behind venue.from_exchange start [] deeds
  same_lines deeds all = lines_grown venue.from_exchange now.from_exchange start [] deeds grew all

  stands : redo_all venue.from_exchange start j.deeds ≡ standing_at w v venue
  stands = same_Some _ _ (sym (last_line venue.from_exchange start [] j.deeds) ∙ last)

  quiet_journal : writes_at e v ≡ false → (n : ℕ) → reached_at w e v j.reached ≡ n
      → journal_by max_number now.from_exchange (record j { reached = n })
      ≡ journal_after w (happens w e) e v (journal_by max_number venue.from_exchange j)
  quiet_journal writes n reached =
      journal_is
      (same_lines j.deeds heard ∙ (sym (unwritten (writes_at e v) _ old.lines writes) ∙ sym goes))
      (sym reached ∙ sym (reached_after w (happens w e) e v old))

  pub noted_journal : (n : Noted) → IsNoted w e v venue n
      → journal_by max_number now.from_exchange (with_noted n j)
      ≡ journal_after w (happens w e) e v (journal_by max_number venue.from_exchange j)
  noted_journal Nothing is = quiet_journal is.writes j.reached (is.reached j.reached)
  noted_journal (Reached n) is = quiet_journal is.writes (max j.reached n) (is.reached j.reached)
  noted_journal (Line d) is =
      journal_is
      (same_lines (j.deeds ++ d ∷ []) (within_push (length venue.from_exchange) j.deeds d heard is.within)
      ∙ (one_line venue.from_exchange start [] j.deeds d
      ∙ (ap (λ s. redo venue.from_exchange s d ∷ old.lines) stands
      ∙ (ap (λ s. s ∷ old.lines) is.does
      ∙ (sym (written (writes_at e v) _ old.lines is.writes) ∙ sym goes)))))
      (sym (is.reached j.reached) ∙ sym (reached_after w (happens w e) e v old))

  pub other_journal : (named e ≡ Some v → ⊥)
      → journal_by max_number now.from_exchange j
      ≡ journal_after w (happens w e) e v (journal_by max_number venue.from_exchange j)
  other_journal other =
      let is = not_noted w e v other in quiet_journal is.writes j.reached (is.reached j.reached)

  more_within : AllByRecursion (IsWithin (length now.from_exchange)) j.deeds
  more_within = within_more (length venue.from_exchange) (length now.from_exchange) j.deeds
      (grew_length venue.from_exchange now.from_exchange grew) heard

  pub noted_within : (n : Noted) → IsNoted w e v venue n
      → AllByRecursion (IsWithin (length now.from_exchange)) (with_noted n j).deeds
  noted_within Nothing is = more_within
  noted_within (Reached n) is = more_within
  noted_within (Line d) is =
      within_more (length venue.from_exchange) (length now.from_exchange) (j.deeds ++ d ∷ [])
      (grew_length venue.from_exchange now.from_exchange grew)
      (within_push (length venue.from_exchange) j.deeds d heard is.within)

-- an event of no venue, or of one that isn't there; and one whose venue has a journal that keeps it
pub none_noted : (w : World) (e : Event) (js : List JournalParts) → ((v : ℕ) → named e ≡ Some v → length js ≤ v)
    → AreNoted w e js js
none_noted w e js past = record {
  count = refl;
  each = λ v venue old new there has gets.
      (inr (
        (λ names. (let high = past v names in let low = slice_get_within js v old has in omega arith)),
        same_Some _ _ (sym gets ∙ has),
      ));
}

pub one_noted : (w : World) (e : Event) (js : List JournalParts) (u : ℕ) (at : VenueParts) (j : JournalParts)
    → named e ≡ Some u → venue_in w u ≡ Some at → slice_get js u ≡ Some j
    → AreNoted w e js (slice_set js u (with_noted (noted w e at) j))
one_noted w e js u at j names here kept = record {
  count = length-slice_set js u (with_noted (noted w e at) j);
  each = λ v venue old new there has gets.
      (elim (cases_eq v u) [
        | inl same ↦
            (let put : slice_get (slice_set js u (with_noted (noted w e at) j)) v ≡ Some (with_noted (noted w e at) j) =
            ap (slice_get (slice_set js u (with_noted (noted w e at) j))) same ∙ set_there js u j _ kept in
            let venues : at ≡ venue = same_Some _ _ (sym here ∙ (ap (venue_in w) (sym same) ∙ there)) in
            let olds : j ≡ old = same_Some _ _ (sym kept ∙ (ap (slice_get js) (sym same) ∙ has)) in
            inl (
              names ∙ ap (λ k. Some k) (sym same),
              same_Some _ _ (sym gets ∙ put) ∙ (λ i. with_noted (noted w e (venues i)) (olds i)),
            ))
        | inr differs ↦
            (let stays = slice_get-set_other js u v (with_noted (noted w e at) j) (λ same. differs (sym same)) in
            inr (
              (λ other. differs (same_Some _ _ (sym other ∙ names))),
              same_Some _ _ (sym gets ∙ (stays ∙ has)),
            ))
      ]);
}

pub event_noted : (w : World) (e : Event) (js : List JournalParts) (u i : ℕ) (j now : JournalParts) (n : Noted)
    → named e ≡ Some u → i ≡ u → u < length w.venues → u < length js → j ≡ get_or js i j
    → IfSome (venue_in w u) (λ at. n ≡ noted w e at) → now ≡ with_noted n j → AreNoted w e js (slice_set js i now)
event_noted w e js u i j now n names at low within found notes is =
    let venue = get_within w.venues u low in
    let kept : slice_get js u ≡ Some j =
    slice_get_read js (length js) u j refl within (found ∙ ap (λ (k : ℕ). get_or js k j) at) in
    let note : n ≡ noted w e venue.0 =
    subst (λ (o : Option VenueParts). IfSome o (λ x. n ≡ noted w e x)) venue.1 notes in
    subst (λ (k : ℕ). AreNoted w e js (slice_set js k now)) (sym at)
    (subst (λ (x : JournalParts). AreNoted w e js (slice_set js u x)) (sym (is ∙ ap (λ m. with_noted m j) note))
    (one_noted w e js u venue.0 j names venue.1 kept))

day_more : (events : List DayEvent) (d : Day) (e : DayEvent)
    → day_happen (events ++ e ∷ []) d ≡ day_happens (day_happen events d) e
day_more [] d e = refl
day_more (x ∷ events) d e = day_more events (day_happens d x) e

pub run_more : (next : List Bool) (max_number : ℕ) (events : List DayEvent) (e : DayEvent)
    → run_day next max_number (events ++ e ∷ []) ≡ day_happens (run_day next max_number events) e
run_more next max_number events e = day_more events _ e

module _ (max_number : ℕ) (w : World) (e : Event) (before after : List JournalParts)
    (is : IsDay max_number w before) (noted_so : AreNoted w e before after) where
  abbrev next_world : World
  next_world = happens w e

  -- a venue that has a kept journal is there, before and after, and its journal goes by deeds
  record At (v : ℕ) (old : JournalParts) : Type 0 where
    venue : VenueParts
    there : venue_in w v ≡ Some venue
    now : VenueParts
    later : venue_in next_world v ≡ Some now
    grew : Grew venue.from_exchange now.from_exchange
    heard : AllByRecursion (IsWithin (length venue.from_exchange)) old.deeds
    last : slice_get (journal_by max_number venue.from_exchange old).lines 0 ≡ Some (standing_at w v venue)
    goes : (journal_after w next_world e v (journal_by max_number venue.from_exchange old)).lines
        ≡ (if writes_at e v then again (standing_at w v venue) (deed_of w e venue)
        ∷ (journal_by max_number venue.from_exchange old).lines
        else (journal_by max_number venue.from_exchange old).lines)

  by_deeds : (v : ℕ) (venue : VenueParts) → venue_in w v ≡ Some venue
      → GoesByDeeds (day_seen max_number w before) e v venue
  by_deeds v venue there =
      let all = deeds_give_the_lines is.next max_number is.events e v is.opening in
      let here = subst (λ (d : Day). IfSome (venue_in d.world v) (GoesByDeeds d e v)) (sym is.reached) all in
      subst (λ (o : Option VenueParts). IfSome o (GoesByDeeds (day_seen max_number w before) e v)) there here

  at : (v : ℕ) (venue : VenueParts) (old : JournalParts) → venue_in w v ≡ Some venue
      → slice_get before v ≡ Some old → At v old
  at v venue old there has =
      let later = (event_is_later w e).venue v venue there in
      let goes = by_deeds v venue there in
      let frames = frames_there w v venue there in
      let mine : slice_get (journals_by max_number w before) v ≡ Some (journal_by max_number venue.from_exchange old) =
      each_is (λ k j. journal_by max_number (frames_from w k) j) v before old has
      ∙ ap (λ f. Some (journal_by max_number f old)) frames in
      let one : goes.journal ≡ journal_by max_number venue.from_exchange old =
      same_Some _ _ (sym goes.there ∙ mine) in
      record {
        venue = venue;
        there = there;
        now = later.0;
        later = later.1;
        grew = later.2.from_exchange;
        heard = subst (λ (f : List Frame). AllByRecursion (IsWithin (length f)) old.deeds) frames (is.heard v old has);
        last = subst (λ (j : Journal). slice_get j.lines 0 ≡ Some (standing_at w v venue)) one goes.last;
        goes = subst (λ (j : Journal). (journal_after w next_world e v j).lines
            ≡ (if writes_at e v then again (standing_at w v venue) (deed_of w e venue) ∷ j.lines else j.lines))
            one goes.goes;
      }

  -- each journal has a venue
  venue_of_journal : (v : ℕ) (old : JournalParts) → slice_get before v ≡ Some old
      → (venue : VenueParts) × (venue_in w v ≡ Some venue)
  venue_of_journal v old has =
      let low = slice_get_within before v old has in
      get_within w.venues v (let c = is.count in omega arith)

  journal_at : (v : ℕ) (old new : JournalParts) → slice_get before v ≡ Some old → slice_get after v ≡ Some new
      → journal_by max_number (frames_from next_world v) new
      ≡ journal_after w next_world e v (journal_by max_number (frames_from w v) old)
  journal_at v old new has gets =
      let found = venue_of_journal v old has in
      let a = at v found.0 old found.1 has in
      let frames = frames_there w v a.venue a.there in
      let frames_now = frames_there next_world v a.now a.later in
      let whole : journal_by max_number a.now.from_exchange new
      ≡ journal_after w next_world e v (journal_by max_number a.venue.from_exchange old) =
      elim (noted_so.each v a.venue old new a.there has gets) [
        | inl here ↦
            ap (λ j. journal_by max_number a.now.from_exchange j) here.1
            ∙ noted_journal max_number w e v a.venue a.now old a.there a.later a.grew a.heard a.last a.goes
            (noted w e a.venue) (is_noted w v a.venue a.there e here.0)
        | inr other ↦
            ap (λ j. journal_by max_number a.now.from_exchange j) other.1
            ∙ other_journal max_number w e v a.venue a.now old a.there a.later a.grew a.heard a.last a.goes other.0
      ] in
      ap (λ f. journal_by max_number f new) frames_now
      ∙ (whole ∙ ap (λ f. journal_after w next_world e v (journal_by max_number f old)) (sym frames))

  journals_are : journals_by max_number next_world after ≡ each_from (journal_after w next_world e) 0 (journals_by max_number w before)
  journals_are =
      same_lists _ _
      (each_length _ 0 after
      ∙ (noted_so.count ∙ (sym (each_length _ 0 before) ∙ sym (each_length _ 0 (journals_by max_number w before)))))
      (λ v x y at_x at_y.
      (let mine = each_of (λ k j. journal_by max_number (frames_from next_world k) j) v after x at_x in
      let made = each_of (journal_after w next_world e) v (journals_by max_number w before) y at_y in
      let from = each_of (λ k j. journal_by max_number (frames_from w k) j) v before made.0 made.1 in
      sym mine.2
      ∙ (journal_at v from.0 mine.0 from.1 mine.1
      ∙ (ap (journal_after w next_world e v) from.2 ∙ made.2))))

  pub happened_day : day_seen max_number next_world after ≡ after_event (day_seen max_number w before) e
  happened_day = λ i. record { world = next_world; journals = journals_are i }

  heard_at : (v : ℕ) (new : JournalParts) → slice_get after v ≡ Some new
      → AllByRecursion (IsWithin (length (frames_from next_world v))) new.deeds
  heard_at v new gets =
      let low = slice_get_within after v new gets in
      let has = get_within before v (let c = noted_so.count in omega arith) in
      let found = venue_of_journal v has.0 has.1 in
      let a = at v found.0 has.0 found.1 has.1 in
      let all : AllByRecursion (IsWithin (length a.now.from_exchange)) new.deeds =
      elim (noted_so.each v a.venue has.0 new a.there has.1 gets) [
        | inl here ↦
            subst (λ (j : JournalParts). AllByRecursion (IsWithin (length a.now.from_exchange)) j.deeds) (sym here.1)
            (noted_within max_number w e v a.venue a.now has.0 a.there a.later a.grew a.heard a.last a.goes
            (noted w e a.venue) (is_noted w v a.venue a.there e here.0))
        | inr other ↦
            subst (λ (j : JournalParts). AllByRecursion (IsWithin (length a.now.from_exchange)) j.deeds) (sym other.1)
            (noted_within max_number w e v a.venue a.now has.0 a.there a.later a.grew a.heard a.last a.goes Nothing
            (not_noted w e v other.0))
      ] in
      subst (λ (f : List Frame). AllByRecursion (IsWithin (length f)) new.deeds)
      (sym (frames_there next_world v a.now a.later)) all

  pub is_day_after : IsDay max_number next_world after
  is_day_after = record {
    next = is.next;
    events = is.events ++ Goes e ∷ [];
    opening = is.opening;
    count = noted_so.count ∙ (is.count ∙ sym (event_is_later w e).venues);
    some = subst (λ n. 1 ≤ n) (sym (event_is_later w e).venues) is.some;
    reached = happened_day
        ∙ (ap (λ d. after_event d e) is.reached ∙ sym (run_more is.next max_number is.events (Goes e)));
    heard = heard_at;
  }

-- the day that is kept, once the event happened
pub next_day : (max_number : ℕ) (w now : World) (e : Event) (before after : List JournalParts)
    → IsDay max_number w before → AreNoted w e before after → now ≡ happens w e
    → (day_seen max_number now after ≡ after_event (day_seen max_number w before) e) × IsDay max_number now after
next_day max_number w now e before after is noted_so so = (
  ap (λ x. day_seen max_number x after) so ∙ happened_day max_number w e before after is noted_so,
  subst (λ (x : World). IsDay max_number x after) (sym so) (is_day_after max_number w e before after is noted_so),
)

-- the dispatcher stands at each venue as its deeds tell
pub day_stands : (max_number : ℕ) (w : World) (js : List JournalParts) → IsDay max_number w js → (v : ℕ)
    (venue : VenueParts) (j : JournalParts) → venue_in w v ≡ Some venue → slice_get js v ≡ Some j
    → standing_at w v venue ≡ redo_all (frames_from w v) (new_standing max_number j.next) j.deeds
day_stands max_number w js is v venue j there has =
    let e = GateDown v in
    let all = deeds_give_the_lines is.next max_number is.events e v is.opening in
    let here = subst (λ (d : Day). IfSome (venue_in d.world v) (GoesByDeeds d e v)) (sym is.reached) all in
    let goes = subst (λ (o : Option VenueParts). IfSome o (GoesByDeeds (day_seen max_number w js) e v)) there here in
    let mine = each_is (λ k x. journal_by max_number (frames_from w k) x) v js j has in
    let one : goes.journal ≡ journal_by max_number (frames_from w v) j = same_Some _ _ (sym goes.there ∙ mine) in
    same_Some _ _
    (sym (subst (λ (x : Journal). slice_get x.lines 0 ≡ Some (standing_at w v venue)) one goes.last)
    ∙ last_line (frames_from w v) (new_standing max_number j.next) [] j.deeds)

-- how many lines the journal of a venue has
pub lines_there : (max_number : ℕ) (w : World) (js : List JournalParts) (v : ℕ) (j : JournalParts)
    → slice_get js v ≡ Some j → length j.deeds + 1 ≡ lines_of (day_seen max_number w js) v
lines_there max_number w js v j has =
    let count = lines_length (frames_from w v) (new_standing max_number j.next) [] j.deeds in
    let one : length j.deeds + 1 ≡ suc (0 + length j.deeds) = omega arith in
    one ∙ (sym count
    ∙ ap (λ (o : Option Journal). option_map_or (λ (x : Journal). length x.lines) o 0)
    (sym (each_is (λ k x. journal_by max_number (frames_from w k) x) v js j has)))

past_end : {A : Type 0} (xs : List A) (v : ℕ) → slice_get xs v ≡ None → length xs ≤ v
past_end [] v none = omega arith
past_end (x ∷ xs) zero none = absurd cc
past_end (x ∷ xs) (suc v) none = (let h = past_end xs v none in omega arith)

pub lines_nowhere : (max_number : ℕ) (w : World) (js : List JournalParts) (v : ℕ) → slice_get js v ≡ None
    → 0 ≡ lines_of (day_seen max_number w js) v
lines_nowhere max_number w js v none =
    let past = past_end js v none in
    let count = each_length (λ k x. journal_by max_number (frames_from w k) x) 0 js in
    ap (λ (o : Option Journal). option_map_or (λ (x : Journal). length x.lines) o 0)
    (sym (slice_get_past (journals_by max_number w js) v (omega arith)))

-- the opening
pub opening_seen : (max_number : ℕ) (next : List Bool)
    → day_seen max_number (opening next max_number) (map new_parts next)
    ≡ opening_day (opening next max_number)
opening_seen max_number next = λ i. record { world = opening next max_number; journals = all i }
  where
    stands : (v : ℕ) (x : Bool) → slice_get next v ≡ Some x
        → new_standing max_number x ≡ standing_at (opening next max_number) v (new_venue max_number x)
    stands v x there =
        let gate = new_gate (length next) v (slice_get_within next v x there) in
        let left = left-new_desk (length next) v in
        λ i. record {
          left = sym left i;
          is_shut = sym gate i;
          session = new_session (session_config max_number x);
          to_exchange = [];
          given = [];
        }

    all : journals_by max_number (opening next max_number) (map new_parts next)
        ≡ each_from (new_journal (opening next max_number)) 0 (map (new_venue max_number) next)
    all =
        same_lists _ _
        (each_length _ 0 (map new_parts next)
        ∙ (length-map next new_parts
        ∙ (sym (length-map next (new_venue max_number)) ∙ sym (each_length _ 0 (map (new_venue max_number) next)))))
        (λ v x y at_x at_y.
        (let w = opening next max_number in
        let mine = each_of (λ k j. journal_by max_number (frames_from w k) j) v (map new_parts next) x at_x in
        let made = each_of (new_journal w) v (map (new_venue max_number) next) y at_y in
        let from = map_of new_parts next v mine.0 mine.1 in
        let so = map_of (new_venue max_number) next v made.0 made.1 in
        let one : from.0 ≡ so.0 = same_Some _ _ (sym from.1 ∙ so.1) in
        sym mine.2
        ∙ (ap (journal_by max_number (frames_from w v)) (sym from.2)
        ∙ (ap (λ s. (let j : Journal = record { lines = s ∷ []; reached = 0 } in j)) (stands v from.0 from.1)
        ∙ (ap (λ b. new_journal w v (new_venue max_number b)) one ∙ (ap (new_journal w v) so.2 ∙ made.2))))))

pub is_day_opened : (max_number : ℕ) (next : List Bool) → IsOpening next max_number
    → IsDay max_number (opening next max_number) (map new_parts next)
is_day_opened max_number next is = record {
  next = next;
  events = [];
  opening = is;
  reached = opening_seen max_number next;
  count = length-map next new_parts ∙ sym (length-map next (new_venue max_number));
  some = (let c = length-map next (new_venue max_number) in let h = is.least_venues in omega arith);
  heard = λ v j there.
      (let from = map_of new_parts next v j there in
      subst (λ (x : JournalParts). AllByRecursion (IsWithin (length (frames_from (opening next max_number) v))) x.deeds)
      from.2 tt);
}
