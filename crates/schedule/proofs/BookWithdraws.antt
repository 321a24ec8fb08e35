-- What the book says of withdrawn legs and of notes after a call, and after several withdrawals.
use Rattle.std.proofs.Common.{◌≡◌, ◌==◌, ◌⊎◌, ℕ, zero, suc, Bool, true, false, List, [], ◌∷◌, ◌++◌, map, Option, Some, None, Ok, Err, refl, sym, ap, subst, ◌∙◌, inl, inr, if◌then◌else◌, arith}
use Rattle.std.specs.List.{Contains}
use Rattle.std.proofs.lemmas.Bool.{eq-eqb, or_left}
use Rattle.std.proofs.lemmas.List.Elements.{Contains-append_left, Contains-append_right, Contains-push, Contains-push_cases}
use Rattle.leg.specs.LegId.{LegIdParts}
use Rattle.leg.specs.declared.sweep.Routed.{Routed}
use Rattle.dialect.specs.declared.note.Note.{Note}
use Rattle.share_ledger.specs.declared.book_entry.BookEntry.{BookEntry}
use Rattle.share_ledger.specs.declared.book_entry.BookEntry.TheVariants.{Opened, Withdrawn, Moved}
use Rattle.share_ledger.specs.declared.book_fault.BookFault.TheVariants.{AlreadyMoved}
use Rattle.share_ledger.specs.Entries.{order_of, is_same_leg, is_withdrawn, is_about, notes_on}
use Rattle.share_ledger.specs.Shares.{move_of, parts_of}
use Rattle.share_ledger.specs.Book.{BookParts, BookAnswer, written, leg_parts, withdraw, withdraw_order, apply, open_sweep}
use Rattle.share_ledger.proofs.OneMore.{is_withdrawn-append, is_withdrawn-opened, is_withdrawn-moved, is_withdrawn-other, is_withdrawn-this, is_same_leg-refl, is_same_leg-true, notes_on-withdrawn, order_of-withdrawn}
use Rattle.share_ledger.proofs.Outcomes.{IsWrittenOrSame, open_outcome, withdraw_outcome, apply_outcome}
use Rattle.schedule.specs.Happening.{withdrawn_in, booked}

-- the book has this leg as withdrawn
abbrev pub HasWithdrawn : BookParts → LegIdParts → Type 0
HasWithdrawn b id = is_withdrawn id b.entries ≡ true

-- the book has this note of a venue
abbrev pub HasMoved : BookParts → ℕ → Note → Type 0
HasMoved b from note = Contains b.entries (Moved from note)

-- one withdrawal
stays_by : (entry : BookEntry) (b after : BookParts) (id : LegIdParts) → IsWrittenOrSame entry b after
    → HasWithdrawn b id → HasWithdrawn after id
stays_by entry b after id (inl writes) is =
    ap (λ (x : BookParts). is_withdrawn id x.entries) writes
    ∙ (is_withdrawn-append id b.entries (entry ∷ [])
    ∙ or_left (is_withdrawn id b.entries) (is_withdrawn id (entry ∷ [])) is)
stays_by entry b after id (inr same) is = ap (λ (x : BookParts). is_withdrawn id x.entries) same ∙ is

withdraw_stays : (b : BookParts) (leg id : LegIdParts) → HasWithdrawn b id → HasWithdrawn (withdraw b leg).1 id
withdraw_stays b leg id is = stays_by (Withdrawn leg) b (withdraw b leg).1 id (withdraw_outcome b leg) is

only_by : (leg id : LegIdParts) (entries : List BookEntry) (same : Bool) → is_same_leg leg id ≡ same
    → is_withdrawn id (entries ++ Withdrawn leg ∷ []) ≡ true
    → (is_withdrawn id entries ≡ true) ⊎ (leg ≡ id)
only_by leg id entries true same is = inr (is_same_leg-true leg id same)
only_by leg id entries false other is = inl (sym (is_withdrawn-other id leg entries other) ∙ is)

withdraw_only : (b : BookParts) (leg id : LegIdParts) → HasWithdrawn (withdraw b leg).1 id → HasWithdrawn b id
    ⊎ (leg ≡ id)
withdraw_only b leg id is =
    elim (withdraw_outcome b leg) [
      | inl writes ↦
          only_by leg id b.entries (is_same_leg leg id) refl
          (sym (ap (λ (x : BookParts). is_withdrawn id x.entries) writes) ∙ is)
      | inr same ↦ inl (sym (ap (λ (x : BookParts). is_withdrawn id x.entries) same) ∙ is)
    ]

-- a leg that no note is on is withdrawn, unless it was already
all_open : (shares : ℕ) → (parts_of shares false []).still_open ≡ shares
all_open shares = omega arith

open_leg : (b : BookParts) (id : LegIdParts) (shares : ℕ) → is_withdrawn id b.entries ≡ false
    → notes_on id b.entries ≡ []
    → ((leg_parts id shares b).still_open == shares) ≡ true
open_leg b id shares gone none =
    let same : (leg_parts id shares b).still_open ≡ shares =
    ap (λ notes. (parts_of shares (is_withdrawn id b.entries) (map move_of notes)).still_open) none
    ∙ (ap (λ g. (parts_of shares g []).still_open) gone ∙ all_open shares) in
    eq-eqb (leg_parts id shares b).still_open shares same

withdrawn_by : (b : BookParts) (id : LegIdParts) (routed : Routed) (found : Option Routed) → found ≡ Some routed
    → ((leg_parts id routed.terms.shares b).still_open == routed.terms.shares) ≡ true
    → HasWithdrawn (withdraw_order b id found).1 id
withdrawn_by b id routed None there fits = absurd cc
withdrawn_by b id routed (Some other) there fits =
    (let one : other ≡ routed = cc in
    let test : ((leg_parts id other.terms.shares b).still_open == other.terms.shares) ≡ true =
    subst (λ (r : Routed). ((leg_parts id r.terms.shares b).still_open == r.terms.shares) ≡ true) (sym one) fits in
    ap (λ t. (let r : BookAnswer = if t then (Ok tt, written (Withdrawn id) b) else (Err AlreadyMoved, b) in
    is_withdrawn id r.1.entries)) test
    ∙ is_withdrawn-this id id b.entries (is_same_leg-refl id))

withdraws_by : (b : BookParts) (id : LegIdParts) (routed : Routed) (gone : Bool) → is_withdrawn id b.entries ≡ gone
    → order_of id b.entries ≡ Some routed
    → notes_on id b.entries ≡ [] → HasWithdrawn (withdraw b id).1 id
withdraws_by b id routed true gone there none = withdraw_stays b id id gone
withdraws_by b id routed false gone there none =
    withdrawn_by b id routed (order_of id b.entries) there (open_leg b id routed.terms.shares gone none)

withdraws : (b : BookParts) (id : LegIdParts) (routed : Routed) → order_of id b.entries ≡ Some routed
    → notes_on id b.entries ≡ []
    → HasWithdrawn (withdraw b id).1 id
withdraws b id routed there none = withdraws_by b id routed (is_withdrawn id b.entries) refl there none

-- a withdrawal keeps orders and notes
entries_by : {A : Type 0} (leg : LegIdParts) (b after : BookParts) (of : List BookEntry → A)
    → of (b.entries ++ Withdrawn leg ∷ []) ≡ of b.entries
    → IsWrittenOrSame (Withdrawn leg) b after → of after.entries ≡ of b.entries
entries_by leg b after of same (inl writes) = ap (λ (x : BookParts). of x.entries) writes ∙ same
entries_by leg b after of same (inr is) = ap (λ (x : BookParts). of x.entries) is

order_withdraw : (b : BookParts) (leg id : LegIdParts) → order_of id (withdraw b leg).1.entries ≡ order_of id b.entries
order_withdraw b leg id = entries_by leg b (withdraw b leg).1 (order_of id) (order_of-withdrawn id leg b.entries)
    (withdraw_outcome b leg)

notes_withdraw : (b : BookParts) (leg id : LegIdParts) → notes_on id (withdraw b leg).1.entries ≡ notes_on id b.entries
notes_withdraw b leg id = entries_by leg b (withdraw b leg).1 (notes_on id) (notes_on-withdrawn id leg b.entries)
    (withdraw_outcome b leg)

-- no note but that of a call is new
moved_by : (entry : BookEntry) (b after : BookParts) (from : ℕ) (note : Note) → IsWrittenOrSame entry b after
    → HasMoved after from note
    → HasMoved b from note ⊎ (entry ≡ Moved from note)
moved_by entry b after from note (inl writes) there =
    Contains-push_cases b.entries entry (Moved from note)
    (subst (λ (x : BookParts). Contains x.entries (Moved from note)) writes there)
moved_by entry b after from note (inr same) there =
    inl (subst (λ (x : BookParts). Contains x.entries (Moved from note)) same there)

moved_withdraw : (b : BookParts) (leg : LegIdParts) (from : ℕ) (note : Note) → HasMoved (withdraw b leg).1 from note
    → HasMoved b from note
moved_withdraw b leg from note there =
    elim (moved_by (Withdrawn leg) b (withdraw b leg).1 from note (withdraw_outcome b leg) there) [
      | inl old ↦
          old
      | inr new ↦ absurd cc
    ]

-- several withdrawals
pub all_stay : (b : BookParts) (ids : List LegIdParts) (id : LegIdParts) → HasWithdrawn b id
    → HasWithdrawn (withdrawn_in b ids) id
all_stay b [] id is = is
all_stay b (leg ∷ ids) id is = all_stay (withdraw b leg).1 ids id (withdraw_stays b leg id is)

pub only_those : (b : BookParts) (ids : List LegIdParts) (id : LegIdParts) → HasWithdrawn (withdrawn_in b ids) id
    → HasWithdrawn b id ⊎ Contains ids id
only_those b [] id is = inl is
only_those b (leg ∷ ids) id is =
    elim (only_those (withdraw b leg).1 ids id is) [
      | inl before ↦
          elim (withdraw_only b leg id before) [
            | inl old ↦ inl old
            | inr same ↦ inr (subst (Contains (leg ∷ ids)) same
                (Contains-append_left (leg ∷ []) ids leg (Contains-push [] leg)))
          ]
      | inr there ↦ inr (Contains-append_right (leg ∷ []) ids id there)
    ]

pub those_are : (b : BookParts) (ids : List LegIdParts) (id : LegIdParts) (routed : Routed) → Contains ids id
    → order_of id b.entries ≡ Some routed
    → notes_on id b.entries ≡ [] → HasWithdrawn (withdrawn_in b ids) id
those_are b [] id routed there order none = absurd (let h = there.1 in omega arith)
those_are b (leg ∷ ids) id routed (zero, low, is) order none =
    let e : leg ≡ id = is in
    all_stay (withdraw b leg).1 ids id
    (subst (λ x. HasWithdrawn (withdraw b x).1 id) (sym e) (withdraws b id routed order none))
those_are b (leg ∷ ids) id routed (suc k, low, is) order none =
    those_are (withdraw b leg).1 ids id routed (k, omega arith, is) (order_withdraw b leg id ∙ order)
    (notes_withdraw b leg id ∙ none)

moved_all : (b : BookParts) (ids : List LegIdParts) (from : ℕ) (note : Note) → HasMoved (withdrawn_in b ids) from note
    → HasMoved b from note
moved_all b [] from note there = there
moved_all b (leg ∷ ids) from note there =
    moved_withdraw b leg from note (moved_all (withdraw b leg).1 ids from note there)

-- and then a note of a venue
gone_by : (entry : BookEntry) (b after : BookParts) (id : LegIdParts)
    → is_withdrawn id (b.entries ++ entry ∷ []) ≡ is_withdrawn id b.entries
    → IsWrittenOrSame entry b after → is_withdrawn id after.entries ≡ is_withdrawn id b.entries
gone_by entry b after id same (inl writes) = ap (λ (x : BookParts). is_withdrawn id x.entries) writes ∙ same
gone_by entry b after id same (inr is) = ap (λ (x : BookParts). is_withdrawn id x.entries) is

pub gone_booked : (b : BookParts) (v : ℕ) (note : Option Note) (id : LegIdParts)
    → is_withdrawn id (booked v note b).entries ≡ is_withdrawn id b.entries
gone_booked b v None id = refl
gone_booked b v (Some note) id =
    gone_by (Moved v note) b (apply b v note).1 id (is_withdrawn-moved id b.entries v note) (apply_outcome b v note)

pub gone_opened : (b : BookParts) (number : ℕ) (legs : List Routed) (id : LegIdParts)
    → is_withdrawn id (open_sweep b number legs).1.entries ≡ is_withdrawn id b.entries
gone_opened b number legs id =
    gone_by (Opened (record { legs = legs })) b (open_sweep b number legs).1 id (is_withdrawn-opened id b.entries _)
    (open_outcome b number legs)

pub moved_opened : (b : BookParts) (number : ℕ) (legs : List Routed) (from : ℕ) (note : Note)
    → HasMoved (open_sweep b number legs).1 from note → HasMoved b from note
moved_opened b number legs from note there =
    elim (moved_by (Opened (record { legs = legs })) b (open_sweep b number legs).1 from note
    (open_outcome b number legs) there) [ inl old ↦ old | inr new ↦ absurd cc ]

-- a note of the book after them was there, or is this one
pub moved_booked : (b : BookParts) (ids : List LegIdParts) (v : ℕ) (new : Option Note) (from : ℕ) (note : Note)
    → HasMoved (booked v new (withdrawn_in b ids)) from note → HasMoved b from note ⊎ ((v ≡ from) × (new ≡ Some note))
moved_booked b ids v None from note there = inl (moved_all b ids from note there)
moved_booked b ids v (Some new) from note there =
    elim (moved_by (Moved v new) (withdrawn_in b ids) (apply (withdrawn_in b ids) v new).1 from note
    (apply_outcome (withdrawn_in b ids) v new) there) [
      | inl old ↦ inl (moved_all b ids from note old)
      | inr is ↦ inr (let a : v ≡ from = cc in let c : new ≡ note = cc in (a, ap (λ x. Some x) c))
    ]

-- a leg that no note is about has none
none_about : (b : Bool) (note : Note) (notes : List Note) → b ≡ false → notes ≡ []
    → (if b then note ∷ notes else notes) ≡ []
none_about true note notes other none = absurd cc
none_about false note notes other none = none

pub no_notes : (id : LegIdParts) (entries : List BookEntry)
    → ((from : ℕ) (note : Note) → Contains entries (Moved from note) → is_about id note ≡ false)
    → notes_on id entries ≡ []
no_notes id [] about = refl
no_notes id (Opened sweep ∷ entries) about =
    no_notes id entries (λ from note there. about from note
    (Contains-append_right (Opened sweep ∷ []) entries (Moved from note) there))
no_notes id (Withdrawn leg ∷ entries) about =
    no_notes id entries (λ from note there. about from note
    (Contains-append_right (Withdrawn leg ∷ []) entries (Moved from note) there))
no_notes id (Moved v note ∷ entries) about =
    none_about (is_about id note) note (notes_on id entries)
    (about v note (Contains-append_left (Moved v note ∷ []) entries (Moved v note) (Contains-push [] (Moved v note))))
    (no_notes id entries (λ from other there. about from other
    (Contains-append_right (Moved v note ∷ []) entries (Moved from other) there)))
