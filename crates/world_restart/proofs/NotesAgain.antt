-- The notes given at a venue are always the first of the reports that its exchange made, which are never taken back.
use Rattle.std.proofs.Common.{◌≡◌, ◌≤◌, ◌++◌, ℕ, List, take, drop, length, refl, sym, ap, subst, ◌∙◌, inl, inr, arith}
use Rattle.std.proofs.lemmas.Bool.{cases_lt}
use Rattle.std.proofs.lemmas.List.{map-append, take-append-drop, take-append-le}
use Rattle.std.proofs.Math.Seq.{take-append_seam}
use Rattle.leg.specs.Growing.{Grew}
use Rattle.dialect.specs.declared.note.Note.TheVariants as note
use Rattle.dialect.specs.declared.report.Report.{Report}
use Rattle.schedule.specs.World.{World, venue_in, given, made, opening}
use Rattle.schedule.proofs.Clean.{report_notes}
use Rattle.schedule.proofs.RunsSafely.{IsSafe}
use Rattle.schedule.proofs.OrderHolds.{holds_by}
use Rattle.world_restart.specs.Start.{Day}
use Rattle.world_restart.specs.Day.{opening_day, day_happen, run_day}
use Rattle.world_restart.specs.NotesAgain.{AreOneSequence, TheNotesComeAgain}
use Rattle.world_restart.proofs.Places.{take_take, all_taken}
use Rattle.world_restart.proofs.DayHolds.{days_keep, day_kept}
use Rattle.world_restart.proofs.StaysOver.{Stays, days_stay, happen-append}

-- of the first elements of one list, in two numbers, the ones are among the others
front_by : (a b : ℕ) (all : List Report) → a ≤ b → Grew (report_notes (take a all)) (report_notes (take b all))
front_by a b all low =
    let split : take b all ≡ take a all ++ drop a (take b all) =
    sym (take-append-drop a (take b all)) ∙ ap (λ l. l ++ drop a (take b all)) (take_take a b all low) in (
      report_notes (drop a (take b all)),
      ap report_notes split ∙ map-append (λ report. note.Report report) (take a all) (drop a (take b all)),
    )

fronts : (a b : ℕ) (all : List Report) → AreOneSequence (report_notes (take a all)) (report_notes (take b all))
fronts a b all =
    elim (cases_lt a b) [
      | inl low ↦ inl (front_by a b all (omega arith))
      | inr high ↦ inr (front_by b a all (omega arith))
    ]

-- the first elements are those of what grew, in some number
front_of : (count : ℕ) (some all : List Report) → Grew some all → (n : ℕ) × (take count some ≡ take n all)
front_of count some all grew =
    elim (cases_lt count (length some)) [
      | inl low ↦ (
        count,
        sym (take-append-le count some grew.0 (omega arith)) ∙ ap (take count) (sym grew.1),
      )
      | inr high ↦ (
        length some,
        all_taken count some (omega arith)
            ∙ (sym (take-append_seam some grew.0) ∙ ap (take (length some)) (sym grew.1)),
      )
    ]

one_sequence : (w later : World) → IsSafe w → IsSafe later → (v : ℕ) → Stays w later v
    → AreOneSequence (given w v) (given later v)
one_sequence w later safe next v stays =
    let a = (holds_by w v (venue_in w v) refl safe).reports in
    let b = (holds_by later v (venue_in later v) refl next).reports in
    let front = front_of a.count (made w v) (made later v) stays.reports in
    let first : given w v ≡ report_notes (take front.0 (made later v)) = a.given ∙ ap report_notes front.1 in
    subst (λ l. AreOneSequence l (given later v)) (sym first)
    (subst (AreOneSequence (report_notes (take front.0 (made later v)))) (sym b.given)
    (fronts front.0 b.count (made later v)))

pub notes_come_again : TheNotesComeAgain
notes_come_again next max_number events more v is =
    let day = run_day next max_number events in
    let kept = day_kept next max_number events is in
    let later = days_keep more day kept in
    subst (λ (d : Day). AreOneSequence (given day.world v) (given d.world v))
    (sym (happen-append events more (opening_day (opening next max_number))))
    (one_sequence day.world (day_happen more day).world kept.kept.safe later.kept.safe v (days_stay more day kept v))
