-- What is answered where a sweep is placed, by what desk and book answered.
use Rattle.std.proofs.Common.{◌≡◌, ◌≢◌, inl, inr, ℕ, ◌==◌, Bool, true, false, List, [], ◌++◌, Option, Some, None, Result, Ok, Err, refl, ap, sym, ◌∙◌, subst, if◌then◌else◌}
use Rattle.std.proofs.lemmas.List.{append-nil}
use Rattle.leg.specs.Answering.{Answers}
use Rattle.leg.specs.declared.sweep.Routed.{Routed}
use Rattle.share_ledger.specs.declared.book_entry.BookEntry.TheVariants.{Opened}
use Rattle.share_ledger.specs.declared.book_fault.BookFault.{BookFault}
use Rattle.share_ledger.specs.declared.book_fault.BookFault.TheVariants as book_fault
use Rattle.share_ledger.specs.Entries.{sweep_shares}
use Rattle.share_ledger.specs.Book.{BookParts, BookAnswer, written, next_sweep, is_fit, open_sweep}
use Rattle.sweep_release.specs.declared.receipt.Receipt.{Receipt}
use Rattle.sweep_release.specs.declared.release_fault.ReleaseFault.{ReleaseFault}
use Rattle.sweep_release.specs.declared.release_fault.ReleaseFault.TheVariants.{OutOfMemory, WrongBook}
use Rattle.sweep_release.specs.Desk.{DeskParts, ready_unless, ready, release_refusal, release_unless, release, next_number, with_sweep}
use Rattle.sweep_release.specs.History.{DeskWithHistory, with_entries, release_entries}
use Rattle.sweep_release.specs.Place.{DeskAndBook, KeptDeskAndBook, place_in_book, place_after, with_release, place_kept, book_refusal, PlaceAnswers, may_want}

-- without the history
abbrev pub seen : KeptDeskAndBook → DeskAndBook
seen before = record { desk = before.desk.desk; book = before.book }

-- where the desk refuses, or doesn't
abbrev pub from_desk : KeptDeskAndBook → List Routed → Option ReleaseFault → Result Receipt ReleaseFault × KeptDeskAndBook
from_desk before legs refusal = with_release before legs (place_after (seen before) legs (release_unless refusal before.desk.desk legs))

-- what the book answers
abbrev pub opened : BookParts → List Routed → Bool → Bool → BookAnswer
opened book legs next fits = if next then (if fits then (Ok tt, written (Opened (record { legs = legs })) book) else (Err book_fault.Unfit, book)) else (Err book_fault.NotNext, book)

abbrev pub receipt_of : DeskParts → List Routed → Receipt
receipt_of desk legs = record { number = next_number desk; shares = sweep_shares legs }

abbrev pub from_book : KeptDeskAndBook → List Routed → BookAnswer → Result Receipt ReleaseFault × KeptDeskAndBook
from_book before legs answer = with_release before legs (place_in_book (seen before) (receipt_of before.desk.desk legs) (with_sweep legs before.desk.desk) answer)

-- nothing was written
same_history : (before : KeptDeskAndBook) (desk : DeskWithHistory) (book : BookParts) → desk ≡ before.desk → book ≡ before.book → (let now : KeptDeskAndBook = record { desk = desk; book = book } in let after : KeptDeskAndBook = record { desk = record { desk = before.desk.desk; history = before.desk.history ++ [] }; book = before.book } in now ≡ after)
same_history before desk book d b = λ k. record { desk = record { desk = (d k).desk; history = (ap (λ x. x.history) d ∙ sym (append-nil before.desk.history)) k }; book = b k }

wants : (before : DeskAndBook) (receipt : Receipt) (desk : DeskParts) (answer : BookAnswer) → may_want (place_in_book before receipt desk answer).0 ≡ true
wants before receipt desk (Ok done, book) = refl
wants before receipt desk (Err fault, book) = refl

-- the desk refuses, or wants memory
pub desk_refuses : (before : KeptDeskAndBook) (legs : List Routed) (refusal : Option ReleaseFault) (fault : ReleaseFault) (now : DeskWithHistory) → Answers OutOfMemory before.desk (with_entries before.desk [] (ready_unless refusal before.desk.desk)) (Err fault) now → PlaceAnswers before (from_desk before legs refusal) (Err fault) (record { desk = now; book = before.book })
desk_refuses before legs (Some first) fault now h =
    let same : fault ≡ first = (let whole = h.0 in cc) in
    inl ((ap (λ f. Err f) same), (λ k. record { desk = h.1 k; book = before.book }))
desk_refuses before legs None fault now h =
    inr ((ap (λ f. Err f) h.0), (wants (seen before) (receipt_of before.desk.desk legs) (with_sweep legs before.desk.desk) _), (λ k. record { desk = h.1 k; book = before.book }))

-- the desk is ready
pub is_ready : (before now : DeskWithHistory) (refusal : Option ReleaseFault) (done : Unit {0}) → Answers OutOfMemory before (with_entries before [] (ready_unless refusal before.desk)) (Ok done) now → (refusal ≡ None) × (now ≡ before)
is_ready before now (Some fault) done h = let never = h.0 in absurd cc
is_ready before now None done h = (refl, h.1 ∙ (λ k. record { desk = before.desk; history = append-nil before.history k }))

-- the book refuses
pub book_refuses : (before : KeptDeskAndBook) (legs : List Routed) (desk : DeskWithHistory) (now : BookParts) (fault : BookFault) (next fits : Bool) → fault ≢ book_fault.OutOfMemory → desk ≡ before.desk → Answers book_fault.OutOfMemory before.book (opened before.book legs next fits) (Err fault) now → PlaceAnswers before (from_book before legs (opened before.book legs next fits)) (Err WrongBook) (record { desk = desk; book = now })
book_refuses before legs desk now fault true true not_memory d h = absurd (not_memory h.0)
book_refuses before legs desk now fault true false not_memory d h = inl (refl, same_history before desk now d h.1)
book_refuses before legs desk now fault false fits not_memory d h = inl (refl, same_history before desk now d h.1)

-- the book wants memory
pub book_wants : (before : KeptDeskAndBook) (legs : List Routed) (desk : DeskWithHistory) (now : BookParts) (next fits : Bool) → desk ≡ before.desk → Answers book_fault.OutOfMemory before.book (opened before.book legs next fits) (Err book_fault.OutOfMemory) now → PlaceAnswers before (from_book before legs (opened before.book legs next fits)) (Err OutOfMemory) (record { desk = desk; book = now })
book_wants before legs desk now true true d h = inr (refl, refl, (λ k. record { desk = d k; book = h.1 k }))
book_wants before legs desk now true false d h = let never = h.0 in absurd cc
book_wants before legs desk now false fits d h = let never = h.0 in absurd cc

pub book_fails : (before : KeptDeskAndBook) (legs : List Routed) (desk : DeskWithHistory) (now : BookParts) (fault : BookFault) (next fits : Bool) → desk ≡ before.desk → Answers book_fault.OutOfMemory before.book (opened before.book legs next fits) (Err fault) now → PlaceAnswers before (from_book before legs (opened before.book legs next fits)) (Err (book_refusal fault)) (record { desk = desk; book = now })
book_fails before legs desk now book_fault.OutOfMemory next fits d h = book_wants before legs desk now next fits d h
book_fails before legs desk now book_fault.NotNext next fits d h = book_refuses before legs desk now book_fault.NotNext next fits (λ e. cc) d h
book_fails before legs desk now book_fault.Unfit next fits d h = book_refuses before legs desk now book_fault.Unfit next fits (λ e. cc) d h
book_fails before legs desk now book_fault.AlreadyMoved next fits d h = book_refuses before legs desk now book_fault.AlreadyMoved next fits (λ e. cc) d h

-- both took it
pub both_take : (before : KeptDeskAndBook) (legs : List Routed) (desk : DeskWithHistory) (now : BookParts) (answer : Result Receipt ReleaseFault) (done : Unit {0}) (next fits : Bool) → Answers book_fault.OutOfMemory before.book (opened before.book legs next fits) (Ok done) now → answer ≡ Ok (receipt_of before.desk.desk legs) → Answers OutOfMemory before.desk (with_entries before.desk (release_entries legs (Ok (receipt_of before.desk.desk legs))) (Ok (receipt_of before.desk.desk legs), with_sweep legs before.desk.desk)) answer desk → PlaceAnswers before (from_book before legs (opened before.book legs next fits)) answer (record { desk = desk; book = now })
both_take before legs desk now (Ok receipt) done true true b is d = inl (is, (λ k. record { desk = d.1 k; book = b.1 k }))
both_take before legs desk now (Err fault) done true true b is d = absurd cc
both_take before legs desk now answer done true false b is d = let never = b.0 in absurd cc
both_take before legs desk now answer done false fits b is d = let never = b.0 in absurd cc

-- the same, of what the calls answered

pub desk_answers : (before : KeptDeskAndBook) (legs : List Routed) (fault : ReleaseFault) (now : DeskWithHistory) →
    Answers OutOfMemory before.desk (with_entries before.desk [] (ready before.desk.desk legs)) (Err fault) now →
    PlaceAnswers before (place_kept before legs) (Err fault) (record { desk = now; book = before.book })
desk_answers before legs fault now h = desk_refuses before legs (release_refusal before.desk.desk legs) fault now h

pub book_answers : (before : KeptDeskAndBook) (legs : List Routed) (mid : DeskWithHistory) (number : ℕ)
    (fault : BookFault) (now : BookParts) (done : Unit {0}) →
    Answers OutOfMemory before.desk (with_entries before.desk [] (ready before.desk.desk legs)) (Ok done) mid →
    number ≡ next_number mid.desk →
    Answers book_fault.OutOfMemory before.book (open_sweep before.book number legs) (Err fault) now →
    PlaceAnswers before (place_kept before legs) (Err (book_refusal fault)) (record { desk = mid; book = now })
book_answers before legs mid number fault now done d n b =
    let parts = is_ready before.desk mid (release_refusal before.desk.desk legs) done d in
    let next : number ≡ next_number before.desk.desk = n ∙ ap (λ x. next_number x.desk) parts.1 in
    subst (λ r. PlaceAnswers before (from_desk before legs r) (Err (book_refusal fault)) (record { desk = mid; book = now })) (sym parts.0)
    (book_fails before legs mid now fault (next_number before.desk.desk == next_sweep before.book) (is_fit before.book legs) parts.1
    (subst (λ m. Answers book_fault.OutOfMemory before.book (open_sweep before.book m legs) (Err fault) now) next b))

pub both_answer : (before : KeptDeskAndBook) (legs : List Routed) (mid after : DeskWithHistory) (number : ℕ)
    (answer : Result Receipt ReleaseFault) (now : BookParts) (done opened_too : Unit {0}) →
    Answers OutOfMemory before.desk (with_entries before.desk [] (ready before.desk.desk legs)) (Ok done) mid →
    number ≡ next_number mid.desk →
    Answers book_fault.OutOfMemory before.book (open_sweep before.book number legs) (Ok opened_too) now →
    Answers OutOfMemory mid (with_entries mid (release_entries legs (release mid.desk legs).0) (release mid.desk legs)) answer after →
    answer ≡ (release mid.desk legs).0 →
    PlaceAnswers before (place_kept before legs) answer (record { desk = after; book = now })
both_answer before legs mid after number answer now done opened_too d n b r is =
    let parts = is_ready before.desk mid (release_refusal before.desk.desk legs) done d in
    let next : number ≡ next_number before.desk.desk = n ∙ ap (λ x. next_number x.desk) parts.1 in
    let fine = parts.0 in
    let is_ok : answer ≡ Ok (receipt_of before.desk.desk legs) =
    is ∙ (ap (λ x. (release x.desk legs).0) parts.1 ∙ ap (λ q. (release_unless q before.desk.desk legs).0) fine) in
    let at_desk = subst (λ x. Answers OutOfMemory x (with_entries x (release_entries legs (release x.desk legs).0) (release x.desk legs)) answer after) parts.1 r in
    let released = subst (λ q. Answers OutOfMemory before.desk (with_entries before.desk (release_entries legs (release_unless q before.desk.desk legs).0) (release_unless q before.desk.desk legs)) answer after) fine at_desk in
    subst (λ q. PlaceAnswers before (from_desk before legs q) answer (record { desk = after; book = now })) (sym fine)
    (both_take before legs after now answer opened_too (next_number before.desk.desk == next_sweep before.book) (is_fit before.book legs)
    (subst (λ m. Answers book_fault.OutOfMemory before.book (open_sweep before.book m legs) (Ok opened_too) now) next b)
    is_ok released)
