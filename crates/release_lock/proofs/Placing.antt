-- What is kept under the lock once a sweep is placed, or refused.
use Rattle.std.proofs.Common.{arith, ◌≡◌, ℕ, ◌+◌, inl, inr, List, [], ◌∷◌, ◌++◌, length, Option, Some, None, Result, Ok, Err, refl, ap, sym, ◌∙◌, subst}
use Rattle.std.specs.Prelude.{MatchResult}
use Rattle.std.proofs.lemmas.List.{append-nil, length-append}
use Rattle.std.proofs.lemmas.List.Sums.{sum_by_push}
use Rattle.atomic_table.specs.Seated.{TableId}
use Rattle.leg.specs.Answering.{Answers}
use Rattle.leg.specs.declared.sweep.Routed.{Routed}
use Rattle.leg.specs.declared.sweep.Sweep.{Sweep}
use Rattle.share_ledger.specs.declared.book_fault.BookFault.TheVariants as book_fault
use Rattle.share_ledger.specs.Entries.{sweep_shares}
use Rattle.share_ledger.specs.Book.{BookParts, BookAnswer, open_sweep}
use Rattle.exec_collector.specs.Resolved.{OnlyOpens}
use Rattle.exec_collector.specs.declared.placed_sweep.PlacedSweep.{PlacedSweep}
use Rattle.exec_collector.proofs.Counts.{opens_one}
use Rattle.venue_queue.specs.Port.{Port}
use Rattle.sweep_release.specs.declared.desk_entry.DeskEntry.TheVariants.{Released}
use Rattle.sweep_release.specs.declared.receipt.Receipt.{Receipt}
use Rattle.sweep_release.specs.declared.release_fault.ReleaseFault.{ReleaseFault}
use Rattle.sweep_release.specs.declared.release_fault.ReleaseFault.TheVariants.{OutOfMemory}
use Rattle.sweep_release.specs.Desk.{DeskParts, placed_shares, release_refusal, release_unless, release, next_number, with_sweep}
use Rattle.sweep_release.specs.History.{replay, KeptDesk, without_room}
use Rattle.sweep_release.specs.Place.{DeskAndBook, place_in_book, place_after, KeptDeskAndBook, kept, with_release, place_kept, PlaceAnswers}
use Rattle.release_lock.specs.Queues.{left_to}
use Rattle.release_lock.specs.Locked.{placed_count, Places, IsLocked, IsDeskBook}
use Rattle.release_lock.specs.Seats.{placing, placings_from}
use Rattle.release_lock.proofs.Replaying.{leads_on, is_counted}
use Rattle.release_lock.proofs.LeftLegs.{left_released, fed_as}
use Rattle.release_lock.proofs.Shares.{placings_push}
use Rattle.release_lock.proofs.Turning.{turned_locked, turned_book, turns_none}

abbrev seen : KeptDeskAndBook → DeskAndBook
seen before = record { desk = before.desk.desk; book = before.book }

-- placing a sweep only opens it in the book

opens_in : (before : DeskAndBook) (receipt : Receipt) (desk : DeskParts) (sweep : Sweep) (answer : BookAnswer)
    → open_sweep before.book receipt.number sweep.legs ≡ answer
    → OnlyOpens before.book (place_in_book before receipt desk answer).1.book
opens_in before receipt desk sweep (Ok done, book) e =
    opens_one before.book book receipt.number sweep (Ok done)
    (subst (λ (r : BookAnswer). Answers book_fault.OutOfMemory before.book r (Ok done) book) (sym e) (refl, refl))
opens_in before receipt desk sweep (Err fault, book) e = record { sweeps = []; opens = refl }

opens_after : (before : DeskAndBook) (sweep : Sweep) (step : Result Receipt ReleaseFault × DeskParts)
    → OnlyOpens before.book (place_after before sweep.legs step).1.book
opens_after before sweep (Ok receipt, desk) =
    opens_in before receipt desk sweep (open_sweep before.book receipt.number sweep.legs) refl
opens_after before sweep (Err fault, desk) = record { sweeps = []; opens = refl }

pub opens_placed : (before now : KeptDeskAndBook) (sweep : Sweep) (answer : Result Receipt ReleaseFault)
    → PlaceAnswers before (place_kept before sweep.legs) answer now → OnlyOpens before.book now.book
opens_placed before now sweep answer (inl is) =
    subst (OnlyOpens before.book) (sym (ap (λ d. d.book) is.1))
    (opens_after (seen before) sweep (release before.desk.desk sweep.legs))
opens_placed before now sweep answer (inr wants) = record { sweeps = []; opens = ap (λ d. d.book) wants.2 }

-- a sweep was released at the desk
pub record IsReleased (legs : List Routed) (before : KeptDesk) (receipt : Receipt) (after : KeptDesk) : Type 0 where
  pub fits : release_refusal before.desk legs ≡ None
  pub receipt_is : receipt ≡ record { number = next_number before.desk; shares = sweep_shares legs }
  pub desk : after.desk ≡ with_sweep legs before.desk
  pub history : after.history ≡ before.history ++ Released (record { legs = legs }) ∷ []

abbrev Outcome : List Routed → KeptDesk → Result Receipt ReleaseFault → KeptDesk → Type 0
Outcome legs before answer after =
    MatchResult answer (λ receipt. IsReleased legs before receipt after)
    (λ fault. without_room after ≡ without_room before)

-- the outcome by what the desk and then the book answered
by_book : (legs : List Routed) (before after : KeptDesk) (book book_after : BookParts) (answer : Result Receipt ReleaseFault)
    (told : BookAnswer) → release_refusal before.desk legs ≡ None
    → (let receipt : Receipt = record { number = next_number before.desk; shares = sweep_shares legs } in
    let step = with_release (kept before book) legs (place_in_book (seen (kept before book)) receipt (with_sweep legs before.desk) told) in
    (answer ≡ step.0) × (kept after book_after ≡ step.1)) → Outcome legs before answer after
by_book legs before after book book_after (Ok receipt) (Ok done, now) fits is =
    let same : receipt ≡ record { number = next_number before.desk; shares = sweep_shares legs } = (let e = is.0 in cc) in
    record {
      fits = fits;
      receipt_is = same;
      desk = ap (λ d. d.desk.desk) is.1;
      history = ap (λ d. d.desk.history) is.1;
    }
by_book legs before after book book_after (Err fault) (Ok done, now) fits is = let e = is.0 in absurd cc
by_book legs before after book book_after (Ok receipt) (Err refused, now) fits is = let e = is.0 in absurd cc
by_book legs before after book book_after (Err fault) (Err refused, now) fits is =
    ap (λ d. d.desk) is.1 ∙ (λ i. record { desk = before.desk; history = append-nil before.history i })

by_desk : (legs : List Routed) (before after : KeptDesk) (book book_after : BookParts) (answer : Result Receipt ReleaseFault)
    (refusal : Option ReleaseFault) → release_refusal before.desk legs ≡ refusal
    → (let step = with_release (kept before book) legs (place_after (seen (kept before book)) legs (release_unless refusal before.desk legs)) in
    (answer ≡ step.0) × (kept after book_after ≡ step.1)) → Outcome legs before answer after
by_desk legs before after book book_after answer None fits is =
    by_book legs before after book book_after answer (open_sweep book (next_number before.desk) legs) fits is
by_desk legs before after book book_after (Ok receipt) (Some refused) refuses is = let e = is.0 in absurd cc
by_desk legs before after book book_after (Err fault) (Some refused) refuses is =
    ap (λ d. d.desk) is.1 ∙ (λ i. record { desk = before.desk; history = append-nil before.history i })

wanted : (legs : List Routed) (before after : KeptDesk) (answer : Result Receipt ReleaseFault) → answer ≡ Err OutOfMemory
    → without_room after ≡ without_room before → Outcome legs before answer after
wanted legs before after (Ok receipt) e same = absurd cc
wanted legs before after (Err fault) e same = same

outcome_by : (legs : List Routed) (before after : KeptDesk) (book book_after : BookParts) (answer : Result Receipt ReleaseFault)
    → PlaceAnswers (kept before book) (place_kept (kept before book) legs) answer (kept after book_after)
    → Outcome legs before answer after
outcome_by legs before after book book_after answer (inl is) =
    by_desk legs before after book book_after answer (release_refusal before.desk legs) refl is
outcome_by legs before after book book_after answer (inr wants) =
    wanted legs before after answer wants.0 (ap (λ d. d.desk) wants.2)

pub outcome : (legs : List Routed) (before after : KeptDesk) (answer : Result Receipt ReleaseFault)
    → Places legs before answer after → Outcome legs before answer after
outcome legs before after answer places =
    outcome_by legs before after places.book places.book_after answer places.placed

-- the shares placed, and what is kept

pub placed_more : (legs : List Routed) (before : KeptDesk) (receipt : Receipt) (after : KeptDesk)
    → IsReleased legs before receipt after → placed_shares after.desk ≡ placed_shares before.desk + receipt.shares
placed_more legs before receipt after it =
    ap placed_shares it.desk
    ∙ (sum_by_push sweep_shares before.desk.sweeps legs
    ∙ ap (λ r. placed_shares before.desk + r.shares) (sym it.receipt_is))

count_more : (legs : List Routed) (before : KeptDesk) (receipt : Receipt) (after : KeptDesk) (total now : ℕ)
    → IsReleased legs before receipt after → total ≡ placed_count before.desk → now ≡ total + receipt.shares + 1
    → now ≡ placed_count after.desk
count_more legs before receipt after total now it was counted =
    let shares = placed_more legs before receipt after it in
    let long : length after.desk.sweeps ≡ length before.desk.sweeps + 1
    = ap (λ d. length d.sweeps) it.desk ∙ length-append before.desk.sweeps (legs ∷ []) in
    omega (arith, was, counted, shares, long)

pub released_locked : (queues : List TableId) (legs : List Routed) (before : KeptDesk) (receipt : Receipt)
    (after : KeptDesk) (total now : ℕ) (feeds : List Port) → IsLocked queues before total feeds
    → IsReleased legs before receipt after → now ≡ total + receipt.shares + 1 → IsLocked queues after now feeds
released_locked queues legs before receipt after total now feeds locked it counted =
    let call = Released (record { legs = legs }) in
    let led : after.desk ≡ replay before.desk (call ∷ []) =
    it.desk ∙ sym (ap (λ r. (release_unless r before.desk legs).1) it.fits) in
    record {
      few = locked.few;
      venues = ap (λ d. length d.venues) it.desk ∙ locked.venues;
      replays = leads_on before after (call ∷ []) locked.replays led it.history;
      counted = count_more legs before receipt after total now it locked.counted counted;
      many = locked.many;
      fed = fed_as queues before.desk after.desk feeds
          (λ venue. ap (λ d. left_to d venue) it.desk
          ∙ left_released before.desk legs venue (is_counted before venue locked.replays)) locked.fed;
    }

-- a desk that is as it was, but for its room
pub same_locked : (queues : List TableId) (before after : KeptDesk) (total : ℕ) (feeds : List Port)
    → IsLocked queues before total feeds → without_room after ≡ without_room before → IsLocked queues after total feeds
same_locked queues before after total feeds locked same =
    turned_locked queues before after total feeds locked (turns_none before after same)

-- the book gave a slip for the sweep that was released
pub released_book : {book name now : ℕ} {given more : List PlacedSweep} (legs : List Routed) (before : KeptDesk)
    (receipt : Receipt) (after : KeptDesk) → IsReleased legs before receipt after → now ≡ name
    → more ≡ given ++ placing receipt.number legs ∷ [] → IsDeskBook book before name given
    → IsDeskBook book after now more
released_book legs before receipt after it same gave slips =
    record {
      named = same ∙ slips.named;
      gives = gave
          ∙ (ap (λ l. l ++ placing receipt.number legs ∷ []) slips.gives
          ∙ (ap (λ r. placings_from 1 before.desk.sweeps ++ placing r.number legs ∷ []) it.receipt_is
          ∙ (sym (placings_push 1 before.desk.sweeps legs)
          ∙ ap (λ d. placings_from 1 d.sweeps) (sym it.desk))));
    }

pub same_book : {book name : ℕ} {given : List PlacedSweep} (before after : KeptDesk)
    → without_room after ≡ without_room before → IsDeskBook book before name given → IsDeskBook book after name given
same_book before after same slips = turned_book before after (turns_none before after same) slips
