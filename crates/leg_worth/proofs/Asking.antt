-- What is kept of a book, once a sweep was opened or a leg was to be withdrawn.
use Rattle.std.proofs.Common.{◌≡◌, ℕ, List, [], ◌∷◌, ◌++◌, Option, inl, inr, refl, ap, sym, subst, ◌∙◌}
use Rattle.leg.specs.LegId.{LegIdParts}
use Rattle.leg.specs.declared.sweep.Routed.{Routed}
use Rattle.leg.specs.declared.sweep.Sweep.{Sweep}
use Rattle.dialect.specs.Fill.{FillParts}
use Rattle.dialect.specs.declared.note.Note.{Note}
use Rattle.share_ledger.specs.declared.book_entry.BookEntry.TheVariants.{Opened, Withdrawn}
use Rattle.share_ledger.specs.Entries.{notes_on}
use Rattle.share_ledger.specs.Book.{BookParts, open_sweep, withdraw}
use Rattle.share_ledger.proofs.OneMore.{notes_on-opened, notes_on-withdrawn}
use Rattle.share_ledger.proofs.Outcomes.{open_outcome, withdraw_outcome}
use Rattle.leg_worth.specs.declared.worth.Worth.{Worth}
use Rattle.leg_worth.specs.Worth.{worth_in}
use Rattle.leg_worth.specs.Kept.{AreKept, trades_under}

-- a book in which each leg has the same notes
same_notes : (book after : BookParts) (worth : LegIdParts → Worth) (fill : LegIdParts → List ℕ → Option FillParts)
    → ((id : LegIdParts) → notes_on id after.entries ≡ notes_on id book.entries) → AreKept book worth fill
    → AreKept after worth fill
same_notes book after worth fill same kept = record {
  legs = λ id. kept.legs id ∙ sym (ap worth_in (same id));
  trades = λ id exec. ap (trades_under exec) (same id) ∙ kept.trades id exec;
}

pub kept_opened : (book : BookParts) (number : ℕ) (legs : List Routed) (worth : LegIdParts → Worth)
    (fill : LegIdParts → List ℕ → Option FillParts) → AreKept book worth fill
    → AreKept (open_sweep book number legs).1 worth fill
kept_opened book number legs worth fill kept =
    let opens : Sweep = record { legs = legs } in
    elim (open_outcome book number legs) [
      | inl writes ↦
          same_notes book (open_sweep book number legs).1 worth fill
          (λ id. ap (λ (b : BookParts). notes_on id b.entries) writes ∙ notes_on-opened id book.entries opens) kept
      | inr same ↦ subst (λ (b : BookParts). AreKept b worth fill) (sym same) kept
    ]

pub kept_withdrawn : (book : BookParts) (leg : LegIdParts) (worth : LegIdParts → Worth)
    (fill : LegIdParts → List ℕ → Option FillParts) → AreKept book worth fill
    → AreKept (withdraw book leg).1 worth fill
kept_withdrawn book leg worth fill kept =
    elim (withdraw_outcome book leg) [
      | inl writes ↦
          same_notes book (withdraw book leg).1 worth fill
          (λ id. ap (λ (b : BookParts). notes_on id b.entries) writes ∙ notes_on-withdrawn id leg book.entries) kept
      | inr same ↦ subst (λ (b : BookParts). AreKept b worth fill) (sym same) kept
    ]
