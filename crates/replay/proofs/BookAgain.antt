-- The book that is made again: what is left to write leads to the whole.
use Rattle.std.proofs.Common.{◌≡◌, ◌≤◌, ◌<◌, ◌+◌, ℕ, zero, suc, Bool, true, false, List, [], ◌∷◌, ◌++◌, length, drop, get_or, map, Option, Some, None, Result, Ok, Err, refl, sym, ap, subst, ◌∙◌, if◌then◌else◌, arith}
use Rattle.std.specs.Prelude.{slice_get}
use Rattle.std.specs.Option.{option_map_or}
use Rattle.std.specs.Result.{is_err}
use Rattle.std.proofs.lemmas.Option.{same_Some}
use Rattle.std.proofs.lemmas.List.{drop_more}
use Rattle.std.proofs.Math.ListN.{drop_of_length-le}
use Rattle.leg.specs.Answering.{Answers}
use Rattle.leg.specs.LegId.{LegIdParts}
use Rattle.leg.specs.declared.leg.Leg.{Leg}
use Rattle.leg.specs.declared.leg_state.LegState.{LegState}
use Rattle.leg.specs.declared.leg_state.LegState.TheVariants.{Withdrawn as Gone}
use Rattle.leg.specs.declared.sweep.Routed.{Routed}
use Rattle.dialect.specs.declared.note.Note.{Note}
use Rattle.share_ledger.specs.declared.applied.Applied.{Applied}
use Rattle.share_ledger.specs.declared.book_entry.BookEntry.{BookEntry}
use Rattle.share_ledger.specs.declared.book_entry.BookEntry.TheVariants.{Opened, Withdrawn, Moved}
use Rattle.share_ledger.specs.declared.book_fault.BookFault.{BookFault}
use Rattle.share_ledger.specs.Book.{BookParts, BookAnswer, new_book, open_sweep, next_sweep, withdraw, apply, replay}
use Rattle.share_ledger.proofs.Outcomes.{replay-append}
use Rattle.sweep_release.specs.declared.desk_entry.DeskEntry.{DeskEntry}
use Rattle.sweep_release.specs.declared.desk_entry.DeskEntry.TheVariants as entry
use Rattle.sweep_release.specs.Kept.{released_sweeps}
use Rattle.schedule.specs.World.{World, VenueParts, given, released_to, state_of, ids_where, is_withdrawn_leg, withdrawn_ids}
use Rattle.world_restart.specs.Start.{venue_entries, book_entries}
use Rattle.world_restart.proofs.Places.{get_within}

abbrev pub openings : List (List Routed) → List BookEntry
openings sweeps = map (λ legs. Opened (record { legs = legs })) sweeps

-- the element at an index is the first of the rest
rest_of : {A : Type 0} (xs : List A) (i : ℕ) (x : A) → i < length xs → x ≡ get_or xs i x
    → drop i xs ≡ x ∷ drop (i + 1) xs
rest_of xs i x low is = drop_more xs i x low ∙ ap (λ y. y ∷ drop (i + 1) xs) (sym is)

-- a call that wants no memory does what it is to do
pub opened_so : (b now : BookParts) (legs : List Routed) (result : Result (Unit {0}) BookFault)
    → (result ≡ Err BookFault.OutOfMemory → ⊥)
    → Answers BookFault.OutOfMemory b (open_sweep b (next_sweep b) legs) result now
    → now ≡ (open_sweep b (next_sweep b) legs).1
opened_so b now legs result other answers = answered b now (open_sweep b (next_sweep b) legs) result other answers
  where
    answered : (b now : BookParts) (step : BookAnswer) (result : Result (Unit {0}) BookFault)
        → (result ≡ Err BookFault.OutOfMemory → ⊥) → Answers BookFault.OutOfMemory b step result now → now ≡ step.1
    answered b now (Ok x, after) (Ok y) other answers = answers.1
    answered b now (Ok x, after) (Err fault) other answers = absurd (other (ap (λ f. Err f) answers.0))
    answered b now (Err fault, after) result other answers = answers.1

pub open_further : (b now : BookParts) (history : List DeskEntry) (i : ℕ) (e : DeskEntry) → i < length history
    → e ≡ get_or history i e → (all : BookParts)
    → now ≡ replay b (openings (released_sweeps (e ∷ [])))
    → replay b (openings (released_sweeps (drop i history))) ≡ all
    → replay now (openings (released_sweeps (drop (i + 1) history))) ≡ all
open_further b now history i e low is all so before =
    ap (λ x. replay x (openings (released_sweeps (drop (i + 1) history)))) so
    ∙ (one e
    ∙ (ap (λ l. replay b (openings (released_sweeps l))) (sym (rest_of history i e low is)) ∙ before))
  where
    one : (x : DeskEntry)
        → replay (replay b (openings (released_sweeps (x ∷ [])))) (openings (released_sweeps (drop (i + 1) history)))
        ≡ replay b (openings (released_sweeps (x ∷ drop (i + 1) history)))
    one (entry.Released sweep) = refl
    one (entry.Up v) = refl
    one (entry.Down v) = refl
    one (entry.Shut v) = refl
    one (entry.Taken v) = refl
    one (entry.Dropped v) = refl

pub open_end : (b all : BookParts) (history : List DeskEntry) (i : ℕ) → length history ≤ i
    → replay b (openings (released_sweeps (drop i history))) ≡ all → b ≡ all
open_end b all history i past is =
    ap (λ l. replay b (openings (released_sweeps l))) (sym (drop_of_length-le history past)) ∙ is

-- the notes of a venue
pub applied_so : (b now : BookParts) (v : ℕ) (note : Note) (result : Result Applied BookFault) → is_err result ≡ false
    → Answers BookFault.OutOfMemory b (apply b v note) result now → now ≡ (apply b v note).1
applied_so b now v note (Ok applied) ok answers = answers.1
applied_so b now v note (Err fault) ok answers = absurd cc

pub apply_further : (b now : BookParts) (v : ℕ) (notes : List Note) (i : ℕ) (note : Note) → i < length notes
    → note ≡ get_or notes i note → (all : BookParts) → now ≡ (apply b v note).1
    → replay b (map (Moved v) (drop i notes)) ≡ all
    → replay now (map (Moved v) (drop (i + 1) notes)) ≡ all
apply_further b now v notes i note low is all so before =
    ap (λ x. replay x (map (Moved v) (drop (i + 1) notes))) so
    ∙ (ap (λ l. replay b (map (Moved v) l)) (sym (rest_of notes i note low is)) ∙ before)

pub apply_end : (b all : BookParts) (v : ℕ) (notes : List Note) (i : ℕ) → length notes ≤ i
    → replay b (map (Moved v) (drop i notes)) ≡ all → b ≡ all
apply_end b all v notes i past is =
    ap (λ l. replay b (map (Moved v) l)) (sym (drop_of_length-le notes past)) ∙ is

-- the withdrawn legs of a venue
abbrev pub ids_left : World → ℕ → ℕ → List LegIdParts
ids_left w v at = ids_where is_withdrawn_leg (state_of w v) (suc at) (drop at (released_to w v))

ids_step : (w : World) (v at : ℕ) (leg : Leg) → at < length (released_to w v) → leg ≡ get_or (released_to w v) at leg
    → ids_left w v at
    ≡ (if is_withdrawn_leg (state_of w v (at + 1)) then leg.id ∷ ids_left w v (at + 1) else ids_left w v (at + 1))
ids_step w v at leg low is =
    let one : at + 1 ≡ suc at = omega arith in
    ap (λ (l : List Leg). ids_where is_withdrawn_leg (state_of w v) (suc at) l) (rest_of (released_to w v) at leg low is)
    ∙ (λ i. (if is_withdrawn_leg (state_of w v (sym one i))
    then leg.id ∷ ids_where is_withdrawn_leg (state_of w v) (suc (sym one i)) (drop (at + 1) (released_to w v))
    else ids_where is_withdrawn_leg (state_of w v) (suc (sym one i)) (drop (at + 1) (released_to w v))))

pub gone_further : (w : World) (b now all : BookParts) (v at : ℕ) (leg : Leg) → at < length (released_to w v)
    → leg ≡ get_or (released_to w v) at leg → (b' : Bool) → is_withdrawn_leg (state_of w v (at + 1)) ≡ b'
    → now ≡ (if b' then (withdraw b leg.id).1 else b)
    → replay b (map Withdrawn (ids_left w v at)) ≡ all
    → replay now (map Withdrawn (ids_left w v (at + 1))) ≡ all
gone_further w b now all v at leg low is true gone so before =
    ap (λ x. replay x (map Withdrawn (ids_left w v (at + 1)))) so
    ∙ (ap (λ l. replay b (map Withdrawn l))
    (sym (ids_step w v at leg low is
    ∙ ap (λ t. if t then leg.id ∷ ids_left w v (at + 1) else ids_left w v (at + 1)) gone)) ∙ before)
gone_further w b now all v at leg low is false gone so before =
    ap (λ x. replay x (map Withdrawn (ids_left w v (at + 1)))) so
    ∙ (ap (λ l. replay b (map Withdrawn l))
    (sym (ids_step w v at leg low is
    ∙ ap (λ t. if t then leg.id ∷ ids_left w v (at + 1) else ids_left w v (at + 1)) gone)) ∙ before)

pub gone_end : (w : World) (b all : BookParts) (v at : ℕ) → length (released_to w v) ≤ at
    → replay b (map Withdrawn (ids_left w v at)) ≡ all → b ≡ all
gone_end w b all v at past is =
    ap (λ l. replay b (map Withdrawn (ids_where is_withdrawn_leg (state_of w v) (suc at) l)))
    (sym (drop_of_length-le (released_to w v) past)) ∙ is

-- venue by venue
pub rest_there : {A : Type 0} (xs : List A) (i : ℕ) (x : A) → slice_get xs i ≡ Some x → drop i xs ≡ x ∷ drop (suc i) xs
rest_there [] i x there = absurd cc
rest_there (y ∷ xs) zero x there = ap (λ z. z ∷ xs) (same_Some y x there)
rest_there (y ∷ xs) (suc i) x there = rest_there xs i x there

pub venue_further : (w : World) (b mid now all : BookParts) (v u : ℕ) → u ≡ v → v < length w.venues
    → mid ≡ replay b (map (Moved u) (given w u)) → now ≡ replay mid (map Withdrawn (withdrawn_ids w u))
    → replay b (venue_entries w v (drop v w.venues)) ≡ all
    → replay now (venue_entries w (v + 1) (drop (v + 1) w.venues)) ≡ all
venue_further w b mid now all v u same low notes gone before =
    let found = get_within w.venues v low in
    let venue = found.0 in
    let one : v + 1 ≡ suc v = omega arith in
    let rest = venue_entries w (suc v) (drop (suc v) w.venues) in
    let moved = map (Moved v) venue.given in
    let ids = map Withdrawn (withdrawn_ids w v) in
    let given_is : given w v ≡ venue.given =
    ap (λ (o : Option VenueParts). option_map_or (λ at. at.given) o []) found.1 in
    let mid_is : mid ≡ replay b moved =
    notes ∙ ((λ i. replay b (map (Moved (same i)) (given w (same i)))) ∙ ap (λ l. replay b (map (Moved v) l)) given_is) in
    let now_is : now ≡ replay (replay b moved) ids =
    gone ∙ ((λ i. replay mid (map Withdrawn (withdrawn_ids w (same i)))) ∙ ap (λ x. replay x ids) mid_is) in
    ap (λ n. replay now (venue_entries w n (drop n w.venues))) one
    ∙ (ap (λ x. replay x rest) now_is
    ∙ (sym (replay-append (replay b moved) ids rest)
    ∙ (sym (replay-append b moved (ids ++ rest))
    ∙ (ap (λ l. replay b (venue_entries w v l)) (sym (rest_there w.venues v venue found.1)) ∙ before))))

pub venue_end : (w : World) (b all : BookParts) (v : ℕ) → length w.venues ≤ v
    → replay b (venue_entries w v (drop v w.venues)) ≡ all → b ≡ all
venue_end w b all v past is =
    ap (λ l. replay b (venue_entries w v l)) (sym (drop_of_length-le w.venues past)) ∙ is

pub opened_first : (w : World) (b now : BookParts) → b ≡ new_book (length w.venues)
    → now ≡ replay b (openings w.desk.sweeps)
    → replay now (venue_entries w 0 w.venues) ≡ replay (new_book (length w.venues)) (book_entries w)
opened_first w b now is so =
    ap (λ x. replay x (venue_entries w 0 w.venues)) (so ∙ ap (λ x. replay x (openings w.desk.sweeps)) is)
    ∙ sym (replay-append (new_book (length w.venues)) (openings w.desk.sweeps) (venue_entries w 0 w.venues))
