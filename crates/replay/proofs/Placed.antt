-- A placement keeps the desk's venues.
use Rattle.std.proofs.Common.{◌≡◌, ◌⊎◌, inl, inr, List, length, Option, Some, None, Ok, Err, refl, ap, ◌∙◌}
use Rattle.std.specs.Prelude.{Result}
use Rattle.leg.specs.declared.sweep.Routed.{Routed}
use Rattle.share_ledger.specs.Book.{BookParts, BookAnswer, open_sweep}
use Rattle.sweep_release.specs.declared.receipt.Receipt.{Receipt}
use Rattle.sweep_release.specs.declared.release_fault.ReleaseFault.{ReleaseFault}
use Rattle.sweep_release.specs.Desk.{DeskParts, release_refusal, release_unless, next_number, with_sweep}
use Rattle.share_ledger.specs.Entries.{sweep_shares}
use Rattle.sweep_release.specs.History.{KeptDesk}
use Rattle.sweep_release.specs.Place.{DeskAndBook, KeptDeskAndBook, PlaceAnswers, kept, place_after, place_in_book, place_kept}

in_book : (before : DeskAndBook) (legs : List Routed) (receipt : Receipt) (answer : BookAnswer)
    → length (place_in_book before receipt (with_sweep legs before.desk) answer).1.desk.venues ≡ length before.desk.venues
in_book before legs receipt (Ok done, book) = refl
in_book before legs receipt (Err fault, book) = refl

placed_count : (before : DeskAndBook) (legs : List Routed) (refusal : Option ReleaseFault)
    → length (place_after before legs (release_unless refusal before.desk legs)).1.desk.venues ≡ length before.desk.venues
placed_count before legs (Some fault) = refl
placed_count before legs None =
    let receipt : Receipt = record { number = next_number before.desk; shares = sweep_shares legs } in
    in_book before legs receipt (open_sweep before.book receipt.number legs)

pub placed_apart : (d now : KeptDesk) (b book : BookParts) (legs : List Routed) (result : Result Receipt ReleaseFault)
    → PlaceAnswers (kept d b) (place_kept (kept d b) legs) result (kept now book)
    → length now.desk.venues ≡ length d.desk.venues
placed_apart d now b book legs result (inl placed) =
    ap (λ (k : KeptDeskAndBook). length k.desk.desk.venues) placed.1
    ∙ placed_count (record { desk = d.desk; book = b }) legs (release_refusal d.desk legs)
placed_apart d now b book legs result (inr wanting) =
    ap (λ (k : KeptDeskAndBook). length k.desk.desk.venues) wanting.2
