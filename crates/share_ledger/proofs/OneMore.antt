-- What the record says once one more entry is written.
use Rattle.std.proofs.Common.{◌≡◌, ℕ, Bool, true, false, ◌&&◌, ◌||◌, List, [], ◌∷◌, ◌++◌, Option, Some, None, refl, ap, ◌∙◌, if◌then◌else◌}
use Rattle.std.specs.Prelude.{option_and_then, ◌==◌}
use Rattle.std.proofs.lemmas.Bool.{and_parts, eqb-true, eq-eqb}
use Rattle.std.proofs.lemmas.List.{append-nil}
use Rattle.leg.specs.LegId.{LegIdParts}
use Rattle.leg.specs.Numbered.{numbered}
use Rattle.leg.specs.declared.sweep.Sweep.{Sweep}
use Rattle.leg.specs.declared.sweep.Routed.{Routed}
use Rattle.leg.proofs.Numbered.{numbered-append}
use Rattle.dialect.specs.declared.note.Note.{Note}
use Rattle.share_ledger.specs.declared.book_entry.BookEntry.{BookEntry}
use Rattle.share_ledger.specs.declared.book_entry.BookEntry.TheVariants.{Opened, Withdrawn, Moved}
use Rattle.share_ledger.specs.Entries.{opened, order_of, is_same_leg, is_withdrawn, is_about, notes_on, has_exec, is_booked}

pub opened-append : (xs ys : List BookEntry) → opened (xs ++ ys) ≡ opened xs ++ opened ys
opened-append [] ys = refl
opened-append (Opened sweep ∷ xs) ys = ap (λ sweeps. sweep.legs ∷ sweeps) (opened-append xs ys)
opened-append (Withdrawn id ∷ xs) ys = opened-append xs ys
opened-append (Moved venue note ∷ xs) ys = opened-append xs ys

pub opened-withdrawn : (entries : List BookEntry) (id : LegIdParts)
    → opened (entries ++ Withdrawn id ∷ []) ≡ opened entries
opened-withdrawn entries id = opened-append entries (Withdrawn id ∷ []) ∙ append-nil (opened entries)

pub opened-moved : (entries : List BookEntry) (venue : ℕ) (note : Note)
    → opened (entries ++ Moved venue note ∷ []) ≡ opened entries
opened-moved entries venue note = opened-append entries (Moved venue note ∷ []) ∙ append-nil (opened entries)

or_assoc : (a b c : Bool) → (a || (b || c)) ≡ ((a || b) || c)
or_assoc true b c = refl
or_assoc false b c = refl

pub is_withdrawn-append : (id : LegIdParts) (xs ys : List BookEntry)
    → is_withdrawn id (xs ++ ys) ≡ (is_withdrawn id xs || is_withdrawn id ys)
is_withdrawn-append id [] ys = refl
is_withdrawn-append id (Opened sweep ∷ xs) ys = is_withdrawn-append id xs ys
is_withdrawn-append id (Withdrawn leg ∷ xs) ys =
    ap (λ b. is_same_leg leg id || b) (is_withdrawn-append id xs ys)
    ∙ or_assoc (is_same_leg leg id) (is_withdrawn id xs) (is_withdrawn id ys)
is_withdrawn-append id (Moved venue note ∷ xs) ys = is_withdrawn-append id xs ys

pub is_booked-append : (venue : ℕ) (exec : List ℕ) (xs ys : List BookEntry)
    → is_booked venue exec (xs ++ ys) ≡ (is_booked venue exec xs || is_booked venue exec ys)
is_booked-append venue exec [] ys = refl
is_booked-append venue exec (Opened sweep ∷ xs) ys = is_booked-append venue exec xs ys
is_booked-append venue exec (Withdrawn leg ∷ xs) ys = is_booked-append venue exec xs ys
is_booked-append venue exec (Moved from note ∷ xs) ys =
    ap (λ b. (from == venue && has_exec exec note) || b) (is_booked-append venue exec xs ys)
    ∙ or_assoc (from == venue && has_exec exec note) (is_booked venue exec xs) (is_booked venue exec ys)

chosen-append : (b : Bool) (note : Note) (xs ys zs : List Note) → zs ≡ xs ++ ys
    → (if b then note ∷ zs else zs) ≡ (if b then note ∷ xs else xs) ++ ys
chosen-append true note xs ys zs e = ap (λ l. note ∷ l) e
chosen-append false note xs ys zs e = e

pub notes_on-append : (id : LegIdParts) (xs ys : List BookEntry)
    → notes_on id (xs ++ ys) ≡ notes_on id xs ++ notes_on id ys
notes_on-append id [] ys = refl
notes_on-append id (Opened sweep ∷ xs) ys = notes_on-append id xs ys
notes_on-append id (Withdrawn leg ∷ xs) ys = notes_on-append id xs ys
notes_on-append id (Moved venue note ∷ xs) ys =
    chosen-append (is_about id note) note (notes_on id xs) (notes_on id ys) (notes_on id (xs ++ ys))
    (notes_on-append id xs ys)

pub or_false : (b : Bool) → (b || false) ≡ b
or_false true = refl
or_false false = refl

pub or_true : (b : Bool) → (b || true) ≡ true
or_true true = refl
or_true false = refl

-- an opened sweep books nothing on any leg
pub is_withdrawn-opened : (id : LegIdParts) (entries : List BookEntry) (sweep : Sweep)
    → is_withdrawn id (entries ++ Opened sweep ∷ []) ≡ is_withdrawn id entries
is_withdrawn-opened id entries sweep = is_withdrawn-append id entries (Opened sweep ∷ [])
    ∙ or_false (is_withdrawn id entries)

pub notes_on-opened : (id : LegIdParts) (entries : List BookEntry) (sweep : Sweep)
    → notes_on id (entries ++ Opened sweep ∷ []) ≡ notes_on id entries
notes_on-opened id entries sweep = notes_on-append id entries (Opened sweep ∷ []) ∙ append-nil (notes_on id entries)

-- a withdrawal is of its leg alone, and is no note
pub is_withdrawn-other : (id leg : LegIdParts) (entries : List BookEntry) → is_same_leg leg id ≡ false
    → is_withdrawn id (entries ++ Withdrawn leg ∷ []) ≡ is_withdrawn id entries
is_withdrawn-other id leg entries other =
    is_withdrawn-append id entries (Withdrawn leg ∷ [])
    ∙ (ap (λ b. is_withdrawn id entries || (b || false)) other ∙ or_false (is_withdrawn id entries))

pub is_withdrawn-this : (id leg : LegIdParts) (entries : List BookEntry) → is_same_leg leg id ≡ true
    → is_withdrawn id (entries ++ Withdrawn leg ∷ []) ≡ true
is_withdrawn-this id leg entries same =
    is_withdrawn-append id entries (Withdrawn leg ∷ [])
    ∙ (ap (λ b. is_withdrawn id entries || (b || false)) same ∙ or_true (is_withdrawn id entries))

pub notes_on-withdrawn : (id leg : LegIdParts) (entries : List BookEntry)
    → notes_on id (entries ++ Withdrawn leg ∷ []) ≡ notes_on id entries
notes_on-withdrawn id leg entries = notes_on-append id entries (Withdrawn leg ∷ []) ∙ append-nil (notes_on id entries)

-- a note is booked on the leg that it is about, and withdraws none
pub is_withdrawn-moved : (id : LegIdParts) (entries : List BookEntry) (venue : ℕ) (note : Note)
    → is_withdrawn id (entries ++ Moved venue note ∷ []) ≡ is_withdrawn id entries
is_withdrawn-moved id entries venue note = is_withdrawn-append id entries (Moved venue note ∷ [])
    ∙ or_false (is_withdrawn id entries)

pub notes_on-this : (id : LegIdParts) (entries : List BookEntry) (venue : ℕ) (note : Note) → is_about id note ≡ true
    → notes_on id (entries ++ Moved venue note ∷ []) ≡ notes_on id entries ++ note ∷ []
notes_on-this id entries venue note this =
    notes_on-append id entries (Moved venue note ∷ [])
    ∙ ap (λ b. notes_on id entries ++ (if b then note ∷ [] else [])) this

pub notes_on-other : (id : LegIdParts) (entries : List BookEntry) (venue : ℕ) (note : Note) → is_about id note ≡ false
    → notes_on id (entries ++ Moved venue note ∷ []) ≡ notes_on id entries
notes_on-other id entries venue note other =
    notes_on-append id entries (Moved venue note ∷ [])
    ∙ (ap (λ b. notes_on id entries ++ (if b then note ∷ [] else [])) other ∙ append-nil (notes_on id entries))

-- the same number of a leg is one number
pub is_same_leg-refl : (id : LegIdParts) → is_same_leg id id ≡ true
is_same_leg-refl id = rw (eq-eqb id.sweep id.sweep refl, eq-eqb id.place id.place refl) refl

pub is_same_leg-true : (a b : LegIdParts) → is_same_leg a b ≡ true → a ≡ b
is_same_leg-true a b same =
    let parts = and_parts (a.sweep == b.sweep) (a.place == b.place) same in
    let sweep = eqb-true a.sweep b.sweep parts.0 in
    let place = eqb-true a.place b.place parts.1 in
    λ i. record { sweep = sweep i; place = place i }

order_in : {A B : Type 0} (f : A → Option B) (o p : Option A) (x : B) → ((a : A) → o ≡ Some a → p ≡ Some a)
    → option_and_then f o ≡ Some x → option_and_then f p ≡ Some x
order_in f None p x kept e = cc
order_in f (Some a) p x kept e = ap (option_and_then f) (kept a refl) ∙ e

-- an order that is there stays where it is
pub order_of-opened : (id : LegIdParts) (entries : List BookEntry) (sweep : Sweep) (routed : Routed)
    → order_of id entries ≡ Some routed → order_of id (entries ++ Opened sweep ∷ []) ≡ Some routed
order_of-opened id entries sweep routed e =
    let more = opened-append entries (Opened sweep ∷ []) in
    ap (λ sweeps. option_and_then (numbered id.place) (numbered id.sweep sweeps)) more
    ∙ order_in (numbered id.place) (numbered id.sweep (opened entries))
    (numbered id.sweep (opened entries ++ sweep.legs ∷ [])) routed
    (λ legs h. numbered-append id.sweep (opened entries) (sweep.legs ∷ []) legs h) e

pub order_of-withdrawn : (id leg : LegIdParts) (entries : List BookEntry)
    → order_of id (entries ++ Withdrawn leg ∷ []) ≡ order_of id entries
order_of-withdrawn id leg entries =
    ap (λ sweeps. option_and_then (numbered id.place) (numbered id.sweep sweeps)) (opened-withdrawn entries leg)

pub order_of-moved : (id : LegIdParts) (entries : List BookEntry) (venue : ℕ) (note : Note)
    → order_of id (entries ++ Moved venue note ∷ []) ≡ order_of id entries
order_of-moved id entries venue note =
    ap (λ sweeps. option_and_then (numbered id.place) (numbered id.sweep sweeps)) (opened-moved entries venue note)
