-- The book that is made again: its sweeps are the desk's, its notes of each venue those that were given, each once and in
-- order, and its withdrawn legs those that were withdrawn.
use Rattle.std.proofs.Common.{◌≡◌, ◌≤◌, ◌<◌, ◌+◌, ◌||◌, ℕ, zero, suc, Bool, true, false, List, [], ◌∷◌, ◌++◌, length, map, Option, Some, None, refl, sym, ap, subst, ◌∙◌, inl, inr, append_assoc, if◌then◌else◌, arith}
use Rattle.std.specs.Prelude.{slice_get, option_and_then}
use Rattle.std.specs.List.{Contains}
use Rattle.std.proofs.lemmas.Bool.{cases_eq, cases_lt, eq-eqb, ne_eqb}
use Rattle.std.proofs.lemmas.List.{append-nil}
use Rattle.std.proofs.lemmas.List.Elements.{Contains-append_left, Contains-append_right, Contains-push, Contains-push_cases}
use Rattle.std.proofs.lemmas.Option.{same_Some, slice_get_within, slice_get_past}
use Rattle.leg.specs.LegId.{LegIdParts}
use Rattle.leg.specs.Numbered.{numbered}
use Rattle.leg.specs.declared.leg.Leg.{Leg}
use Rattle.leg.specs.declared.leg_state.LegState.{LegState}
use Rattle.leg.specs.declared.leg_state.LegState.TheVariants.{Queued, Doubt, Taken, Withdrawn as Gone}
use Rattle.leg.specs.declared.sweep.Routed.{Routed}
use Rattle.dialect.specs.declared.note.Note.{Note}
use Rattle.share_ledger.specs.declared.book_entry.BookEntry.TheVariants.{Withdrawn, Moved}
use Rattle.share_ledger.specs.Entries.{opened, order_of, is_withdrawn}
use Rattle.share_ledger.specs.Book.{BookParts, new_book, written, after_note, withdraw, again, replay}
use Rattle.share_ledger.proofs.OneMore.{opened-append, opened-moved, is_withdrawn-append, is_withdrawn-moved}
use Rattle.share_ledger.proofs.Outcomes.{replay-append}
use Rattle.schedule.specs.World.{World, VenueParts, venue_in, released_to, state_of, given, ids_where, is_withdrawn_leg, withdrawn_ids}
use Rattle.schedule.specs.Happening.{withdrawn_in}
use Rattle.schedule.specs.SweepTheorem.{IsWithdrawn}
use Rattle.schedule.proofs.RunsSafely.{IsSafe}
use Rattle.schedule.proofs.OrderHolds.{withdrawn_at, withdrawn_of}
use Rattle.schedule.proofs.LegNumbers.{has_order}
use Rattle.schedule.proofs.GoneLegs.{IsGone, no_note}
use Rattle.schedule.proofs.Books.{withdrawn_opened}
use Rattle.schedule.proofs.BookWithdraws.{HasWithdrawn, HasMoved, all_stay, only_those, those_are, no_notes}
use Rattle.schedule.proofs.BookFollows.{BookFollows}
use Rattle.schedule.proofs.BookedNotes.{moved_from, moved-append, withdrawn_moved, given_at}
use Rattle.schedule.proofs.NoteLists.{moved_in}
use Rattle.schedule.proofs.NotesMove.{IsBooked}
use Rattle.world_restart.specs.Start.{venue_entries, book_entries}
use Rattle.world_restart.proofs.NextNote.{next_moves, contains_middle}
use Rattle.world_restart.proofs.Sweeps.{AllFit, openings, all_opened}

-- the legs whose state is withdrawn, by their numbers
first_there : (b : Bool) (id : LegIdParts) (ids : List LegIdParts) → b ≡ true → Contains (if b then id ∷ ids else ids) id
first_there true id ids is = Contains-append_left (id ∷ []) ids id (Contains-push [] id)
first_there false id ids is = absurd cc

more_there : (b : Bool) (first id : LegIdParts) (ids : List LegIdParts) → Contains ids id
    → Contains (if b then first ∷ ids else ids) id
more_there true first id ids there = Contains-append_right (first ∷ []) ids id there
more_there false first id ids there = there

where_contains : (state : ℕ → Option LegState) (first k : ℕ) (legs : List Leg) (leg : Leg)
    → slice_get legs k ≡ Some leg → is_withdrawn_leg (state (first + k)) ≡ true
    → Contains (ids_where is_withdrawn_leg state first legs) leg.id
where_contains state first k [] leg there gone = absurd cc
where_contains state first zero (x ∷ legs) leg there gone =
    let at : first ≡ first + 0 = omega arith in
    subst (λ (y : Leg). Contains (ids_where is_withdrawn_leg state first (x ∷ legs)) y.id) (same_Some x leg there)
    (first_there (is_withdrawn_leg (state first)) x.id (ids_where is_withdrawn_leg state (suc first) legs)
    (ap (λ n. is_withdrawn_leg (state n)) at ∙ gone))
where_contains state first (suc k) (x ∷ legs) leg there gone =
    let at : suc first + k ≡ first + suc k = omega arith in
    more_there (is_withdrawn_leg (state first)) x.id leg.id (ids_where is_withdrawn_leg state (suc first) legs)
    (where_contains state (suc first) k legs leg there (ap (λ n. is_withdrawn_leg (state n)) at ∙ gone))

record IsAmong (state : ℕ → Option LegState) (first : ℕ) (legs : List Leg) (id : LegIdParts) : Type 0 where
  k : ℕ
  leg : Leg
  there : slice_get legs k ≡ Some leg
  gone : is_withdrawn_leg (state (first + k)) ≡ true
  same : leg.id ≡ id

among_more : (state : ℕ → Option LegState) (first : ℕ) (x : Leg) (legs : List Leg) (id : LegIdParts)
    → IsAmong state (suc first) legs id → IsAmong state first (x ∷ legs) id
among_more state first x legs id is =
    let at : first + suc is.k ≡ suc first + is.k = omega arith in
    record {
      k = suc is.k;
      leg = is.leg;
      there = is.there;
      gone = ap (λ n. is_withdrawn_leg (state n)) at ∙ is.gone;
      same = is.same;
    }

among_by : (b : Bool) (state : ℕ → Option LegState) (first : ℕ) (x : Leg) (legs : List Leg) (id : LegIdParts)
    → is_withdrawn_leg (state first) ≡ b
    → (Contains (ids_where is_withdrawn_leg state (suc first) legs) id → IsAmong state (suc first) legs id)
    → Contains (if b then x.id ∷ ids_where is_withdrawn_leg state (suc first) legs
    else ids_where is_withdrawn_leg state (suc first) legs) id
    → IsAmong state first (x ∷ legs) id
among_by false state first x legs id gone more there = among_more state first x legs id (more there)
among_by true state first x legs id gone more (zero, low, is) =
    let at : first + 0 ≡ first = omega arith in
    record { k = 0; leg = x; there = refl; gone = ap (λ n. is_withdrawn_leg (state n)) at ∙ gone; same = is }
among_by true state first x legs id gone more (suc k, low, is) =
    among_more state first x legs id (more (k, omega arith, is))

contains_where : (state : ℕ → Option LegState) (first : ℕ) (legs : List Leg) (id : LegIdParts)
    → Contains (ids_where is_withdrawn_leg state first legs) id → IsAmong state first legs id
contains_where state first [] id there = absurd (let h = there.1 in omega arith)
contains_where state first (x ∷ legs) id there =
    among_by (is_withdrawn_leg (state first)) state first x legs id refl
    (λ more. contains_where state (suc first) legs id more) there

withdrawn_by : (state : Option LegState) → is_withdrawn_leg state ≡ true → state ≡ Some Gone
withdrawn_by (Some Gone) is = refl
withdrawn_by (Some Queued) is = absurd cc
withdrawn_by (Some Doubt) is = absurd cc
withdrawn_by (Some Taken) is = absurd cc
withdrawn_by None is = absurd cc

module _ (w : World) (safe : IsSafe w) where
  named_gone : (v : ℕ) (venue : VenueParts) → venue_in w v ≡ Some venue → (id : LegIdParts)
      → Contains (withdrawn_ids w v) id → IsGone w id
  named_gone v venue there id is =
      let at = contains_where (state_of w v) 1 (released_to w v) id is in
      let one : suc at.k ≡ 1 + at.k = omega arith in
      let gone : IsWithdrawn w v (suc at.k) = ap (state_of w v) one ∙ withdrawn_by (state_of w v (1 + at.k)) at.gone in
      let line = safe.lines v venue there in
      record {
        v = v;
        venue = venue;
        there = there;
        ordinal = suc at.k;
        leg = at.leg;
        whole = at.there;
        same = at.same;
        gone = withdrawn_at w v venue there line.0 line.1 (safe.orderly v venue there).clean (suc at.k) gone;
      }

  gone_named : (id : LegIdParts) (g : IsGone w id) → Contains (withdrawn_ids w g.v) id
  gone_named id g =
      let line = safe.lines g.v g.venue g.there in
      by_ordinal g.ordinal g.whole
      (withdrawn_of w g.v g.venue g.there line.0 line.1 (safe.orderly g.v g.venue g.there).clean g.ordinal g.gone)
    where
      by_ordinal : (ordinal : ℕ) → numbered ordinal (released_to w g.v) ≡ Some g.leg → IsWithdrawn w g.v ordinal
          → Contains (withdrawn_ids w g.v) id
      by_ordinal zero whole gone = absurd cc
      by_ordinal (suc k) whole gone =
          let one : 1 + k ≡ suc k = omega arith in
          subst (Contains (withdrawn_ids w g.v)) g.same
          (where_contains (state_of w g.v) 1 k (released_to w g.v) g.leg whole
          (ap (λ n. is_withdrawn_leg (state_of w g.v n)) one ∙ ap is_withdrawn_leg gone))

-- the entries of notes
opened_notes : (v : ℕ) (notes : List Note) → opened (map (Moved v) notes) ≡ []
opened_notes v [] = refl
opened_notes v (n ∷ notes) = opened_notes v notes

gone_notes : (id : LegIdParts) (v : ℕ) (notes : List Note) → is_withdrawn id (map (Moved v) notes) ≡ false
gone_notes id v [] = refl
gone_notes id v (n ∷ notes) = gone_notes id v notes

notes_here : (v : ℕ) (notes : List Note) → moved_from v (map (Moved v) notes) ≡ notes
notes_here v [] = refl
notes_here v (n ∷ notes) =
    ap (λ t. if t then n ∷ moved_from v (map (Moved v) notes) else moved_from v (map (Moved v) notes))
    (eq-eqb v v refl) ∙ ap (λ l. n ∷ l) (notes_here v notes)

notes_elsewhere : (v u : ℕ) → (v ≡ u → ⊥) → (notes : List Note) → moved_from u (map (Moved v) notes) ≡ []
notes_elsewhere v u differs [] = refl
notes_elsewhere v u differs (n ∷ notes) =
    ap (λ t. if t then n ∷ moved_from u (map (Moved v) notes) else moved_from u (map (Moved v) notes))
    (ne_eqb v u differs) ∙ notes_elsewhere v u differs notes

-- and of sweeps
opened_openings : (sweeps : List (List Routed)) → opened (openings sweeps) ≡ sweeps
opened_openings [] = refl
opened_openings (legs ∷ sweeps) = ap (λ l. legs ∷ l) (opened_openings sweeps)

moved_openings : (v : ℕ) (sweeps : List (List Routed)) → moved_from v (openings sweeps) ≡ []
moved_openings v [] = refl
moved_openings v (legs ∷ sweeps) = moved_openings v sweeps

gone_openings : (id : LegIdParts) (sweeps : List (List Routed)) → is_withdrawn id (openings sweeps) ≡ false
gone_openings id [] = refl
gone_openings id (legs ∷ sweeps) = gone_openings id sweeps

withdrawn_again : (b : BookParts) (ids : List LegIdParts) → replay b (map Withdrawn ids) ≡ withdrawn_in b ids
withdrawn_again b [] = refl
withdrawn_again b (id ∷ ids) = withdrawn_again (withdraw b id).1 ids

or_none : (b : Bool) → (b || false) ≡ b
or_none true = refl
or_none false = refl

-- a book that has what the venues before this one gave and withdrew
record Redone (w : World) (v : ℕ) (b : BookParts) : Type 0 where
  sweeps : opened b.entries ≡ w.desk.sweeps
  done : (u : ℕ) → u < v → moved_from u b.entries ≡ given w u
  none : (u : ℕ) → v ≤ u → moved_from u b.entries ≡ []
  only : (id : LegIdParts) → HasWithdrawn b id → IsGone w id
  gone : (id : LegIdParts) (g : IsGone w id) → g.v < v → HasWithdrawn b id

module _ (w : World) (safe : IsSafe w) where
  redone_moved : (v : ℕ) (b : BookParts) → Redone w v b → (from : ℕ) (x : Note) → HasMoved b from x
      → Contains (given w from) x
  redone_moved v b r from x held =
      let among = moved_in b.entries from x held in
      elim (cases_lt from v) [
        | inl low ↦ subst (λ l. Contains l x) (r.done from low) among
        | inr high ↦
            absurd (let h = (subst (λ l. Contains l x) (r.none from (omega arith)) among).1 in omega arith)
      ]

  module _ (v : ℕ) (venue : VenueParts) (there : venue_in w v ≡ Some venue) where
    given_is : given w v ≡ venue.given
    given_is = ap given_at there

    -- the notes of a venue move, one after the other
    notes_move : (b : BookParts) (earlier notes : List Note) → venue.given ≡ earlier ++ notes
        → opened b.entries ≡ w.desk.sweeps
        → ((from : ℕ) (x : Note) → HasMoved b from x → Contains (given w from) x)
        → ((id : LegIdParts) → HasWithdrawn b id → IsGone w id) → moved_from v b.entries ≡ earlier
        → replay b (map (Moved v) notes) ≡ record b { entries = b.entries ++ map (Moved v) notes }
    notes_move b earlier [] all sweeps moved only before =
        ap (λ l. (let r : BookParts = record b { entries = l } in r)) (sym (append-nil b.entries))
    notes_move b earlier (n ∷ notes) all sweeps moved only before =
        let move = next_moves w safe b sweeps moved only v venue there earlier n notes all before in
        let one : again b (Moved v n) ≡ written (Moved v n) b = ap (after_note b v n) move in
        let now = written (Moved v n) b in
        let moved_now : (from : ℕ) (x : Note) → HasMoved now from x → Contains (given w from) x =
        λ from x held.
        elim (Contains-push_cases b.entries (Moved v n) (Moved from x) held) [
          | inl old ↦ moved from x old
          | inr new ↦
              (let at : v ≡ from = cc in
              let same : n ≡ x = cc in
              let among : Contains (given w v) n =
              subst (λ l. Contains l n) (sym (given_is ∙ all)) (contains_middle earlier n notes) in
              subst (λ u. Contains (given w u) x) at (subst (Contains (given w v)) same among))
        ] in
        let only_now : (id : LegIdParts) → HasWithdrawn now id → IsGone w id =
        λ id held. only id (sym (is_withdrawn-moved id b.entries v n) ∙ held) in
        let last : moved_from v now.entries ≡ earlier ++ n ∷ [] =
        moved-append v b.entries (Moved v n ∷ [])
        ∙ (ap (λ t. moved_from v b.entries ++ (if t then n ∷ [] else [])) (eq-eqb v v refl)
        ∙ ap (λ l. l ++ n ∷ []) before) in
        ap (λ x. replay x (map (Moved v) notes)) one
        ∙ (notes_move now (earlier ++ n ∷ []) notes (all ∙ sym (append_assoc earlier (n ∷ []) notes))
        (opened-moved b.entries v n ∙ sweeps) moved_now only_now last
        ∙ ap (λ l. (let r : BookParts = record b { entries = l } in r))
        (append_assoc b.entries (Moved v n ∷ []) (map (Moved v) notes)))

    module _ (b : BookParts) (r : Redone w v b) where
      abbrev noted : BookParts
      noted = record b { entries = b.entries ++ map (Moved v) venue.given }

      noted_is : replay b (map (Moved v) venue.given) ≡ noted
      noted_is =
          notes_move b [] venue.given refl r.sweeps (redone_moved v b r) r.only (r.none v (omega arith))

      noted_sweeps : opened noted.entries ≡ w.desk.sweeps
      noted_sweeps =
          opened-append b.entries (map (Moved v) venue.given)
          ∙ (ap (λ l. opened b.entries ++ l) (opened_notes v venue.given)
          ∙ (append-nil (opened b.entries) ∙ r.sweeps))

      noted_gone : (id : LegIdParts) → is_withdrawn id noted.entries ≡ is_withdrawn id b.entries
      noted_gone id =
          is_withdrawn-append id b.entries (map (Moved v) venue.given)
          ∙ (ap (λ t. is_withdrawn id b.entries || t) (gone_notes id v venue.given)
          ∙ or_none (is_withdrawn id b.entries))

      noted_here : moved_from v noted.entries ≡ given w v
      noted_here =
          moved-append v b.entries (map (Moved v) venue.given)
          ∙ (ap (λ l. l ++ moved_from v (map (Moved v) venue.given)) (r.none v (omega arith))
          ∙ (notes_here v venue.given ∙ sym given_is))

      noted_elsewhere : (u : ℕ) → (v ≡ u → ⊥) → moved_from u noted.entries ≡ moved_from u b.entries
      noted_elsewhere u differs =
          moved-append u b.entries (map (Moved v) venue.given)
          ∙ (ap (λ l. moved_from u b.entries ++ l) (notes_elsewhere v u differs venue.given)
          ∙ append-nil (moved_from u b.entries))

      noted_moved : (from : ℕ) (x : Note) → HasMoved noted from x → Contains (given w from) x
      noted_moved from x held =
          let among = moved_in noted.entries from x held in
          elim (cases_eq v from) [
            | inl same ↦
                (let at = subst (λ u. Contains (moved_from u noted.entries) x) (sym same) among in
                subst (λ u. Contains (given w u) x) same (subst (λ l. Contains l x) noted_here at))
            | inr differs ↦
                (let was = subst (λ l. Contains l x) (noted_elsewhere from differs) among in
                elim (cases_lt from v) [
                  | inl low ↦ subst (λ l. Contains l x) (r.done from low) was
                  | inr high ↦
                      absurd (let h = (subst (λ l. Contains l x) (r.none from (omega arith)) was).1 in omega arith)
                ])
          ]

      abbrev emptied : BookParts
      emptied = withdrawn_in noted (withdrawn_ids w v)

      emptied_is : replay b (map (Moved v) venue.given ++ map Withdrawn (withdrawn_ids w v)) ≡ emptied
      emptied_is =
          replay-append b (map (Moved v) venue.given) (map Withdrawn (withdrawn_ids w v))
          ∙ (ap (λ x. replay x (map Withdrawn (withdrawn_ids w v))) noted_is
          ∙ withdrawn_again noted (withdrawn_ids w v))

      gone_here : (id : LegIdParts) (g : IsGone w id) → v ≡ g.v → HasWithdrawn emptied id
      gone_here id g same =
          let named : Contains (withdrawn_ids w v) id =
          subst (λ u. Contains (withdrawn_ids w u) id) (sym same) (gone_named w safe id g) in
          let order = has_order g.v w.desk.sweeps g.ordinal g.leg g.whole in
          let there' : option_and_then (numbered id.place) (numbered id.sweep w.desk.sweeps) ≡ Some order.routed =
          subst (λ (x : LegIdParts). option_and_then (numbered x.place)
          (numbered x.sweep w.desk.sweeps) ≡ Some order.routed) g.same order.order in
          let in_book : order_of id noted.entries ≡ Some order.routed =
          ap (λ s. option_and_then (numbered id.place) (numbered id.sweep s)) noted_sweeps ∙ there' in
          those_are noted (withdrawn_ids w v) id order.routed named in_book
          (no_notes id noted.entries
          (λ from x held. no_note w safe id g from x (noted_moved from x held)))

      redone_next : Redone w (suc v) emptied
      redone_next = record {
        sweeps = withdrawn_opened noted (withdrawn_ids w v) ∙ noted_sweeps;
        done = λ u low.
            withdrawn_moved noted (withdrawn_ids w v) u
            ∙ elim (cases_eq v u) [
              | inl same ↦ subst (λ k. moved_from k noted.entries ≡ given w k) same noted_here
              | inr differs ↦
                  noted_elsewhere u differs
                  ∙ r.done u
                  (elim (cases_lt u v)
                  [ inl below ↦ below | inr above ↦ absurd (differs (omega arith)) ])
            ];
        none = λ u high.
            withdrawn_moved noted (withdrawn_ids w v) u
            ∙ (noted_elsewhere u (λ same. omega arith) ∙ r.none u (omega arith));
        only = λ id held.
            elim (only_those noted (withdrawn_ids w v) id held) [
              | inl old ↦ r.only id (sym (noted_gone id) ∙ old)
              | inr named ↦ named_gone w safe v venue there id named
            ];
        gone = λ id g low.
            elim (cases_eq v g.v) [
              | inl same ↦ gone_here id g same
              | inr differs ↦
                  all_stay noted (withdrawn_ids w v) id
                  (noted_gone id
                  ∙ r.gone id g
                  (elim (cases_lt g.v v)
                  [ inl below ↦ below | inr above ↦ absurd (differs (omega arith)) ]))
            ];
      }

  -- venue by venue
  redone_all : (venues : List VenueParts) (v : ℕ) (b : BookParts)
      → ((k : ℕ) → slice_get venues k ≡ slice_get w.venues (v + k)) → Redone w v b
      → Redone w (v + length venues) (replay b (venue_entries w v venues))
  redone_all [] v b places r =
      let same : v ≡ v + 0 = omega arith in subst (λ k. Redone w k b) same r
  redone_all (venue ∷ venues) v b places r =
      let at : v + 0 ≡ v = omega arith in
      let there : venue_in w v ≡ Some venue = sym (places 0 ∙ ap (slice_get w.venues) at) in
      let same : suc v + length venues ≡ v + suc (length venues) = omega arith in
      let notes = map (Moved v) venue.given in
      let gone = map Withdrawn (withdrawn_ids w v) in
      let rest = venue_entries w (suc v) venues in
      let split : replay b (notes ++ (gone ++ rest)) ≡ replay (emptied v venue there b r) rest =
      ap (replay b) (sym (append_assoc notes gone rest))
      ∙ (replay-append b (notes ++ gone) rest ∙ ap (λ x. replay x rest) (emptied_is v venue there b r)) in
      subst (λ x. Redone w (v + suc (length venues)) x) (sym split)
      (subst (λ k. Redone w k (replay (emptied v venue there b r) rest)) same
      (redone_all venues (suc v) (emptied v venue there b r)
      (λ k. (let next : v + suc k ≡ suc v + k = omega arith in places (suc k) ∙ ap (slice_get w.venues) next))
      (redone_next v venue there b r)))

  module _ (fit : AllFit (length w.venues) [] w.desk.sweeps)
      (is : w.book ≡ replay (new_book (length w.venues)) (book_entries w)) where
    abbrev first : BookParts
    first = record { venues = length w.venues; entries = openings w.desk.sweeps }

    redone_first : Redone w 0 first
    redone_first = record {
      sweeps = opened_openings w.desk.sweeps;
      done = λ u low. absurd (omega arith);
      none = λ u high. moved_openings u w.desk.sweeps;
      only = λ id held. absurd (let e = sym held ∙ gone_openings id w.desk.sweeps in cc);
      gone = λ id g low. absurd (omega arith);
    }

    rebuilt : Redone w (length w.venues) w.book
    rebuilt =
        let opens : replay (new_book (length w.venues)) (openings w.desk.sweeps) ≡ first =
        all_opened (new_book (length w.venues)) w.desk.sweeps fit in
        let all : w.book ≡ replay first (venue_entries w 0 w.venues) =
        is
        ∙ (replay-append (new_book (length w.venues)) (openings w.desk.sweeps) (venue_entries w 0 w.venues)
        ∙ ap (λ x. replay x (venue_entries w 0 w.venues)) opens) in
        let count : 0 + length w.venues ≡ length w.venues = omega arith in
        subst (λ k. Redone w k w.book) count
        (subst (λ x. Redone w (0 + length w.venues) x) (sym all)
        (redone_all w.venues 0 first
        (λ k. (let at : k ≡ 0 + k = omega arith in ap (slice_get w.venues) at)) redone_first))

    none_given : (u : ℕ) → length w.venues ≤ u → given w u ≡ []
    none_given u past = ap given_at (slice_get_past w.venues u past)

    pub rebuilt_booked : IsBooked w
    rebuilt_booked u =
        elim (cases_lt u (length w.venues)) [
          | inl low ↦ rebuilt.done u low
          | inr high ↦ rebuilt.none u (omega arith) ∙ sym (none_given u (omega arith))
        ]

    pub rebuilt_follows : BookFollows w
    rebuilt_follows = record {
      sweeps = rebuilt.sweeps;
      moved = redone_moved (length w.venues) w.book rebuilt;
      gone = rebuilt.only;
      booked = λ id g. rebuilt.gone id g (slice_get_within w.venues g.v g.venue g.there);
    }
