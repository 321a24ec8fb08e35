-- Where the desk has the room, out of memory comes from the book alone, for a sweep that would be placed.
use Rattle.std.proofs.Common.{◌≡◌, ◌≢◌, ℕ, ◌+◌, ◌==◌, Bool, true, false, not, List, [], ◌∷◌, ◌++◌, length, Option, Some}
use Rattle.std.proofs.Common.{None, Result, Ok, Err, refl, ap, sym, ◌∙◌, subst, if◌then◌else◌}
use Rattle.std.specs.Prelude.{IsOk, nat_le, nat_lt}
use Rattle.leg.specs.Answering.{Answers}
use Rattle.leg.specs.Refusing.{◌or_then◌}
use Rattle.leg.specs.declared.sweep.Routed.{Routed}
use Rattle.share_ledger.specs.declared.book_fault.BookFault.{BookFault}
use Rattle.share_ledger.specs.declared.book_fault.BookFault.TheVariants as book_fault
use Rattle.share_ledger.specs.Entries.{sweep_shares}
use Rattle.share_ledger.specs.Book.{BookParts, next_sweep, is_fit, open_sweep}
use Rattle.sweep_release.specs.declared.receipt.Receipt.{Receipt}
use Rattle.sweep_release.specs.declared.release_fault.ReleaseFault.{ReleaseFault}
use Rattle.sweep_release.specs.declared.release_fault.ReleaseFault.TheVariants.{Empty, TooManyLegs, UnknownVenue}
use Rattle.sweep_release.specs.declared.release_fault.ReleaseFault.TheVariants.{GateShut, BacklogFull, SweepsSpent}
use Rattle.sweep_release.specs.declared.release_fault.ReleaseFault.TheVariants.{OutOfMemory}
use Rattle.sweep_release.specs.Desk.{DeskParts, gate_of, placed, refused_at, is_up, count_to, backlog_refusal, is_spent}
use Rattle.sweep_release.specs.Desk.{release_refusal, next_number, release_unless, release, ready_unless, ready}
use Rattle.sweep_release.specs.History.{DeskWithHistory, with_entries}
use Rattle.sweep_release.specs.Place.{KeptDeskAndBook, place_kept, book_refusal}
use Rattle.sweep_release.proofs.PlaceAnswered.{from_desk, from_book, opened, receipt_of, is_ready}

-- no refusal of a sweep is out of memory

other_one : (b : Bool) (fault : ReleaseFault) (rest : Option ReleaseFault) → fault ≢ OutOfMemory
    → rest ≢ Some OutOfMemory → (if b then Some fault else rest) ≢ Some OutOfMemory
other_one true fault rest one others = λ e. one cc
other_one false fault rest one others = others

other_first : (first next : Option ReleaseFault) → first ≢ Some OutOfMemory → next ≢ Some OutOfMemory
    → (first or_then next) ≢ Some OutOfMemory
other_first (Some fault) next one others = one
other_first None next one others = others

other_at : (fault : ℕ → ReleaseFault) (fails : ℕ → Bool) (legs : List Routed)
    → ((venue : ℕ) → fault venue ≢ OutOfMemory) → refused_at fault fails legs ≢ Some OutOfMemory
other_at fault fails [] other = λ e. cc
other_at fault fails (routed ∷ legs) other =
    other_one (fails routed.venue) (fault routed.venue) (refused_at fault fails legs) (other routed.venue)
    (other_at fault fails legs other)

other_backlog : (desk : DeskParts) (before legs : List Routed) → backlog_refusal desk before legs ≢ Some OutOfMemory
other_backlog desk before [] = λ e. cc
other_backlog desk before (routed ∷ legs) =
    other_one (nat_lt 256 (placed desk routed.venue + count_to routed.venue before + 1)) (BacklogFull routed.venue)
    (backlog_refusal desk (before ++ routed ∷ []) legs) (λ e. cc) (other_backlog desk (before ++ routed ∷ []) legs)

other_if : (b : Bool) (fault : ReleaseFault) → fault ≢ OutOfMemory
    → (if b then Some fault else None) ≢ Some OutOfMemory
other_if b fault one = other_one b fault None one (λ e. cc)

pub never_memory : (desk : DeskParts) (legs : List Routed) → release_refusal desk legs ≢ Some OutOfMemory
never_memory desk legs =
    other_first _ _ (other_if (length legs == 0) Empty (λ e. cc))
    (other_first _ _ (other_if (nat_lt 32 (length legs)) TooManyLegs (λ e. cc))
    (other_first _ _ (other_at UnknownVenue (λ venue. nat_le (length desk.venues) venue) legs (λ venue e. cc))
    (other_first _ _ (other_at GateShut (λ venue. not (is_up (gate_of desk venue))) legs (λ venue e. cc))
    (other_first _ _ (other_backlog desk [] legs)
    (other_if (is_spent desk (sweep_shares legs)) SweepsSpent (λ e. cc))))))

ready_fault : (refusal : Option ReleaseFault) (desk : DeskParts) (fault : ReleaseFault)
    → Err fault ≡ (ready_unless refusal desk).0 → refusal ≡ Some fault
ready_fault (Some first) desk fault e = cc
ready_fault None desk fault e = cc

-- the desk's answer where it has the room
pub desk_wanting : (desk : DeskParts) (legs : List Routed) (fault : ReleaseFault) → Err fault ≡ (ready desk legs).0
    → fault ≢ OutOfMemory
desk_wanting desk legs fault e is =
    never_memory desk legs (ready_fault (release_refusal desk legs) desk fault e ∙ ap (λ f. Some f) is)

memory_of : (fault : BookFault) → book_refusal fault ≡ OutOfMemory → fault ≡ book_fault.OutOfMemory
memory_of book_fault.OutOfMemory e = refl
memory_of book_fault.NotNext e = absurd cc
memory_of book_fault.Unfit e = absurd cc
memory_of book_fault.AlreadyMoved e = absurd cc

would_place : (before : KeptDeskAndBook) (legs : List Routed) (now : BookParts) (next fits : Bool)
    → Answers book_fault.OutOfMemory before.book (opened before.book legs next fits) (Err book_fault.OutOfMemory) now
    → IsOk (from_book before legs (opened before.book legs next fits)).0
would_place before legs now true true h = refl
would_place before legs now true false h = let never = h.0 in absurd cc
would_place before legs now false fits h = let never = h.0 in absurd cc

-- the book's, where the desk is ready
pub book_wanting : (before : KeptDeskAndBook) (legs : List Routed) (mid : DeskWithHistory) (number : ℕ)
    (fault : BookFault) (now : BookParts) (done : Unit {0}) →
    Answers OutOfMemory before.desk (with_entries before.desk [] (ready before.desk.desk legs)) (Ok done) mid →
    number ≡ next_number mid.desk →
    Answers book_fault.OutOfMemory before.book (open_sweep before.book number legs) (Err fault) now →
    book_refusal fault ≡ OutOfMemory → IsOk (place_kept before legs).0
book_wanting before legs mid number fault now done d n b wants =
    let parts = is_ready before.desk mid (release_refusal before.desk.desk legs) done d in
    let next : number ≡ next_number before.desk.desk = n ∙ ap (λ x. next_number x.desk) parts.1 in
    let memory = memory_of fault wants in
    subst (λ r. IsOk (from_desk before legs r).0) (sym parts.0)
    (would_place before legs now (next_number before.desk.desk == next_sweep before.book) (is_fit before.book legs)
    (subst (λ m. Answers book_fault.OutOfMemory before.book (open_sweep before.book m legs)
    (Err book_fault.OutOfMemory) now) next
    (subst (λ f. Answers book_fault.OutOfMemory before.book (open_sweep before.book number legs) (Err f) now) memory
    b)))

-- and once both are ready there is none
pub both_wanting : (before : KeptDeskAndBook) (legs : List Routed) (mid : DeskWithHistory)
    (answer : Result Receipt ReleaseFault) (done : Unit {0}) →
    Answers OutOfMemory before.desk (with_entries before.desk [] (ready before.desk.desk legs)) (Ok done) mid →
    answer ≡ (release mid.desk legs).0 → answer ≢ Err OutOfMemory
both_wanting before legs mid answer done d is wants =
    let parts = is_ready before.desk mid (release_refusal before.desk.desk legs) done d in
    let is_ok : answer ≡ Ok (receipt_of before.desk.desk legs) =
    is ∙ (ap (λ x. (release x.desk legs).0) parts.1 ∙ ap (λ q. (release_unless q before.desk.desk legs).0) parts.0) in
    let never = sym is_ok ∙ wants in
    absurd cc
