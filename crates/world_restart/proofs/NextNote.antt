-- A note that a venue has given moves in a book that has the notes before it, and the withdrawn legs as withdrawn.
use Rattle.std.proofs.Common.{◌≡◌, ◌≤◌, ◌+◌, ℕ, zero, suc, true, false, List, [], ◌∷◌, ◌++◌, length, map, take, filter, Option, Some, refl, sym, ap, subst, ◌∙◌, inl, inr, arith}
use Rattle.std.specs.Prelude.{option_and_then}
use Rattle.std.specs.List.{Contains, list_any}
use Rattle.std.specs.Option.{option_map_or}
use Rattle.std.proofs.lemmas.Bool.{cases_Bool}
use Rattle.leg.specs.LegId.{LegIdParts}
use Rattle.leg.specs.Numbered.{numbered}
use Rattle.leg.specs.Terms.{TermsParts}
use Rattle.dialect.specs.declared.note.Note.{Note}
use Rattle.dialect.specs.declared.note.Note.TheVariants as note
use Rattle.dialect.specs.declared.report.Report.{Report}
use Rattle.exchange_core.specs.Exchange.{accepted_by}
use Rattle.share_ledger.specs.declared.applied.Applied.TheVariants as applied
use Rattle.share_ledger.specs.Entries.{opened, order_of, is_withdrawn, is_about, notes_on, has_exec, is_booked}
use Rattle.share_ledger.specs.Shares.{move_of, parts_of}
use Rattle.share_ledger.specs.Book.{BookParts, moves_on, leg_parts, move_answer, answer_to}
use Rattle.share_ledger.proofs.OneMore.{is_same_leg-refl}
use Rattle.schedule.specs.World.{World, VenueParts, venue_in, given, made, reports_in}
use Rattle.schedule.proofs.Clean.{report_notes}
use Rattle.schedule.proofs.RunsSafely.{IsSafe}
use Rattle.schedule.proofs.OrderHolds.{holds_by}
use Rattle.schedule.proofs.ReportsFit.{Fits, moves_in, fit_at}
use Rattle.schedule.proofs.Orderly.{reports_within}
use Rattle.schedule.proofs.LegNumbers.{HasOrder, has_order}
use Rattle.schedule.proofs.GoneLegs.{IsGone, no_note}
use Rattle.schedule.proofs.BookWithdraws.{HasWithdrawn, HasMoved}
use Rattle.schedule.proofs.BookedNotes.{moved_from, given_at}
use Rattle.schedule.proofs.AcceptedLegs.{accepted_apart, accepted_released, note_venue}
use Rattle.schedule.proofs.NoteLists.{notes_from, booked_is, numbered_reports, new_among, NextReport, answer_is}

-- a note behind others, with more behind it, is the next report
next_of : (notes : List Note) (n : Note) (more : List Note) (count : ℕ) (reports : List Report)
    → notes ++ n ∷ more ≡ report_notes (take count reports) → NextReport notes n reports
next_of [] n more zero [] same = absurd cc
next_of [] n more zero (x ∷ reports) same = absurd cc
next_of [] n more (suc count) [] same = absurd cc
next_of [] n more (suc count) (x ∷ reports) same =
    let first : n ≡ note.Report x = cc in record { report = x; there = refl; is = first; before = refl }
next_of (y ∷ notes) n more zero [] same = absurd cc
next_of (y ∷ notes) n more zero (x ∷ reports) same = absurd cc
next_of (y ∷ notes) n more (suc count) [] same = absurd cc
next_of (y ∷ notes) n more (suc count) (x ∷ reports) same =
    let first : y ≡ note.Report x = cc in
    let behind : notes ++ n ∷ more ≡ report_notes (take count reports) = cc in
    let rest = next_of notes n more count reports behind in
    record {
      report = rest.report;
      there = rest.there;
      is = rest.is;
      before = ap (λ z. z ∷ notes) first ∙ ap (λ l. note.Report x ∷ l) rest.before;
    }

pub contains_middle : (notes : List Note) (n : Note) (more : List Note) → Contains (notes ++ n ∷ more) n
contains_middle [] n more = (0, omega arith, refl)
contains_middle (y ∷ notes) n more =
    (let rest = contains_middle notes n more in let h = rest.1 in (suc rest.0, omega arith, rest.2))

module _ (w : World) (safe : IsSafe w) (b : BookParts) (sweeps : opened b.entries ≡ w.desk.sweeps)
    (moved : (from : ℕ) (x : Note) → HasMoved b from x → Contains (given w from) x)
    (only : (id : LegIdParts) → HasWithdrawn b id → IsGone w id) (v : ℕ) (venue : VenueParts)
    (there : venue_in w v ≡ Some venue) (earlier : List Note) (n : Note) (more : List Note)
    (all : venue.given ≡ earlier ++ n ∷ more) (before : moved_from v b.entries ≡ earlier) where
  abbrev reports : List Report
  reports = reports_in venue.exchange.own

  given_is : given w v ≡ earlier ++ n ∷ more
  given_is = ap given_at there ∙ all

  next : NextReport earlier n (reports_in venue.exchange.own)
  next =
      let h = holds_by w v (venue_in w v) refl safe in
      let made_is : made w v ≡ reports_in venue.exchange.own =
      ap (λ (o : Option VenueParts). option_map_or (λ (x : VenueParts). reports_in x.exchange.own) o []) there in
      next_of earlier n more h.reports.count (reports_in venue.exchange.own)
      (sym given_is ∙ (h.reports.given ∙ ap (λ l. report_notes (take h.reports.count l)) made_is))

  abbrev id : LegIdParts
  id = next.report.id

  abbrev first_ones : List Report
  first_ones = take (length earlier) (reports_in venue.exchange.own)

  notes_of : moved_from v b.entries ≡ report_notes first_ones
  notes_of = before ∙ next.before

  -- it is on a leg that was accepted, whose order is in the book
  fit : Fits (accepted_by venue.exchange) first_ones next.report
  fit =
      let matched = (safe.orderly v venue there).matched (accepted_apart w safe v venue there) in
      fit_at (accepted_by venue.exchange) [] (reports_in venue.exchange.own) (length earlier) next.report matched.fit
      next.there

  has : HasOrder v w.desk.sweeps fit.leg
  has =
      let o = accepted_released w safe v venue there fit.leg fit.there in
      has_order v w.desk.sweeps o.0 fit.leg o.1

  order : option_and_then (numbered id.place) (numbered id.sweep w.desk.sweeps) ≡ Some has.routed
  order =
      subst (λ (x : LegIdParts). option_and_then (numbered x.place)
      (numbered x.sweep w.desk.sweeps) ≡ Some has.routed) fit.same has.order

  in_book : order_of id b.entries ≡ Some has.routed
  in_book = ap (λ s. option_and_then (numbered id.place) (numbered id.sweep s)) sweeps ∙ order

  -- its id is new, its leg isn't withdrawn, and the share rule has room for it
  fresh : is_booked v next.report.exec b.entries ≡ false
  fresh =
      let o = safe.orderly v venue there in
      let few : 0 + length (reports_in venue.exchange.own) ≤ 999999999 =
      (let within = reports_within venue.exchange.own in let limit = o.small.limit in let used = o.small.used in
      omega (arith, within, limit, used)) in
      booked_is v next.report.exec b.entries
      ∙ (ap (list_any (has_exec next.report.exec)) notes_of
      ∙ new_among 0 (length earlier) (reports_in venue.exchange.own) next.report few
      (numbered_reports 0 venue.exchange.own o.counted) next.there)

  not_gone : is_withdrawn id b.entries ≡ false
  not_gone =
      elim (cases_Bool (is_withdrawn id b.entries)) [
        | inl held ↦
            (let among : Contains (given w v) n =
            subst (λ l. Contains l n) (sym given_is) (contains_middle earlier n more) in
            let about = no_note w safe id (only id held) v n among in
            let self : is_about id n ≡ true = ap (is_about id) next.is ∙ is_same_leg-refl id in
            absurd (let e = sym self ∙ about in cc))
        | inr free ↦ free
      ]

  moves_is : moves_on id b ≡ moves_in fit.leg.id first_ones
  moves_is =
      let notes : notes_on id b.entries ≡ filter (is_about id) (moved_from v b.entries) =
      notes_from v id b.entries
      (λ from x held about.
      note_venue w safe id has.routed order from x (moved from x held) about ∙ has.venue) in
      ap (map move_of) (notes ∙ ap (filter (is_about id)) notes_of) ∙ ap (λ i. moves_in i first_ones) (sym fit.same)

  room : move_answer (leg_parts id has.routed.terms.shares b).still_open (moves_on id b)
      (move_of (note.Report next.report)) ≡ applied.Moved
  room =
      let move = move_of (note.Report next.report) in
      let shares : has.routed.terms.shares ≡ fit.leg.terms.shares =
      ap (λ (t : TermsParts). t.shares) (sym has.terms) in
      ap (λ gone. move_answer (parts_of has.routed.terms.shares gone (moves_on id b)).still_open
      (moves_on id b) move) not_gone
      ∙ (ap (λ l. move_answer (parts_of has.routed.terms.shares false l).still_open l move) moves_is
      ∙ (ap (λ s. move_answer (parts_of s false (moves_in fit.leg.id first_ones)).still_open
      (moves_in fit.leg.id first_ones) move) shares
      ∙ fit.moved))

  pub next_moves : answer_to b v n ≡ applied.Moved
  next_moves =
      ap (answer_to b v) next.is
      ∙ answer_is b v (is_booked v next.report.exec b.entries) (move_of (note.Report next.report)) id
      has.routed (order_of id b.entries) in_book has.venue fresh not_gone room
