-- The book lets in every note that it is given, so that its notes of a venue are those given, in order.
use Rattle.std.proofs.Common.{◌≡◌, ◌≤◌, ◌+◌, ℕ, true, false, List, [], ◌∷◌, ◌++◌, length, map, take, filter, Option, Some, None, refl, sym, ap, subst, ◌∙◌, inl, inr, if◌then◌else◌, arith}
use Rattle.std.specs.Prelude.{option_and_then}
use Rattle.std.specs.List.{Contains, list_any}
use Rattle.std.specs.Option.{option_map_or}
use Rattle.std.proofs.lemmas.Bool.{cases_Bool, cases_eq, eq-eqb, ne_eqb}
use Rattle.std.proofs.lemmas.List.{append-nil}
use Rattle.std.proofs.lemmas.List.Elements.{Contains-push}
use Rattle.leg.specs.LegId.{LegIdParts}
use Rattle.leg.specs.Numbered.{numbered}
use Rattle.leg.specs.Terms.{TermsParts}
use Rattle.dialect.specs.declared.note.Note.{Note}
use Rattle.dialect.specs.declared.note.Note.TheVariants as note
use Rattle.dialect.specs.declared.report.Report.{Report}
use Rattle.dialect.specs.declared.message.Message.{Message}
use Rattle.session_core.specs.Receiving.{receive, confirm}
use Rattle.exchange_core.specs.Exchange.{accepted_by}
use Rattle.share_ledger.specs.declared.applied.Applied.TheVariants as applied
use Rattle.share_ledger.specs.declared.book_entry.BookEntry.TheVariants.{Moved}
use Rattle.share_ledger.specs.Entries.{order_of, is_withdrawn, is_about, notes_on, has_exec, is_booked}
use Rattle.share_ledger.specs.Shares.{move_of, parts_of}
use Rattle.share_ledger.specs.Book.{BookParts, written, moves_on, leg_parts, move_answer, answer_to, after_note, apply}
use Rattle.share_ledger.proofs.OneMore.{is_same_leg-refl}
use Rattle.share_ledger.proofs.Outcomes.{apply_outcome}
use Rattle.schedule.specs.World.{World, VenueParts, venue_in, given, made, reports_in}
use Rattle.venue_line.specs.Line.{noted}
use Rattle.schedule.specs.Happening.{withdrawn_in, booked, session_turn, session_wrote}
use Rattle.schedule.proofs.Grown.{slice_get-set_other}
use Rattle.schedule.proofs.Clean.{report_notes}
use Rattle.schedule.proofs.Lines.{set_there}
use Rattle.schedule.proofs.RunsSafely.{IsSafe}
use Rattle.schedule.proofs.OrderHolds.{holds_by}
use Rattle.schedule.proofs.ReportsFit.{Fits, moves_in, fit_at}
use Rattle.schedule.proofs.Orderly.{reports_within}
use Rattle.schedule.proofs.LegNumbers.{HasOrder, has_order}
use Rattle.schedule.proofs.GoneLegs.{no_note}
use Rattle.schedule.proofs.Books.{withdrawn_opened}
use Rattle.schedule.proofs.BookWithdraws.{HasWithdrawn, gone_booked}
use Rattle.schedule.proofs.BookFollows.{BookFollows}
use Rattle.schedule.proofs.BookedNotes.{moved_from, same_moved, moved-append, withdrawn_moved, given_at, Noting, still, turned}
use Rattle.schedule.proofs.AcceptedLegs.{accepted_apart, accepted_released, note_venue}
use Rattle.schedule.proofs.NoteLists.{notes_from, moved_in, booked_is, numbered_reports, new_among, NextReport, next_report, answer_is}

-- the book has let in the notes that it was given
abbrev pub IsBooked : World → Type 0
IsBooked w = (v : ℕ) → moved_from v w.book.entries ≡ given w v

-- a message comes to a session
module _ (w : World) (safe : IsSafe w) (follows : BookFollows w) (before : IsBooked w) (v : ℕ) (venue : VenueParts)
    (m : Message) (there : venue_in w v ≡ Some venue) where
  abbrev after : World
  after = session_turn w v venue (receive venue.session m)

  abbrev now : VenueParts
  now = record (session_wrote (receive venue.session m).session (receive venue.session m).step.written venue) {
    session = confirm (receive venue.session m).session;
    given = venue.given ++ noted (receive venue.session m).step.note;
  }

  abbrev emptied : BookParts
  emptied = withdrawn_in w.book (receive venue.session m).step.withdrawn

  here : venue_in after v ≡ Some now
  here = set_there w.venues v venue now there

  book_moved : (u : ℕ) → moved_from u emptied.entries ≡ given w u
  book_moved u = withdrawn_moved w.book (receive venue.session m).step.withdrawn u ∙ before u

  given_now : given after v ≡ venue.given ++ noted (receive venue.session m).step.note
  given_now = ap given_at here

  given_was : given w v ≡ venue.given
  given_was = ap given_at there

  given_other : (u : ℕ) → (v ≡ u → ⊥) → given after u ≡ given w u
  given_other u differs = ap given_at (slice_get-set_other w.venues v u now differs)

  module _ (safe_after : IsSafe after) (follows_after : BookFollows after) where
    -- its note is the next report, and the book has room for it
    module _ (n : Note) (note_is : (receive venue.session m).step.note ≡ Some n) where
      abbrev reports : List Report
      reports = reports_in venue.exchange.own

      last : given after v ≡ venue.given ++ n ∷ []
      last = given_now ∙ ap (λ o. venue.given ++ noted o) note_is

      next : NextReport venue.given n (reports_in venue.exchange.own)
      next =
          let h = holds_by after v (venue_in after v) refl safe_after in
          let made_is : made after v ≡ reports =
          ap (λ (o : Option VenueParts). option_map_or (λ (x : VenueParts). reports_in x.exchange.own) o []) here in
          next_report venue.given n h.reports.count reports
          (sym last ∙ (h.reports.given ∙ ap (λ l. report_notes (take h.reports.count l)) made_is))

      abbrev id : LegIdParts
      id = next.report.id

      abbrev earlier : List Report
      earlier = take (length venue.given) (reports_in venue.exchange.own)

      notes_of : moved_from v emptied.entries ≡ report_notes earlier
      notes_of = book_moved v ∙ (given_was ∙ next.before)

      -- it is on a leg that was accepted, whose order is in the book
      fit : Fits (accepted_by venue.exchange) earlier next.report
      fit =
          let matched = (safe_after.orderly v now here).matched (accepted_apart after safe_after v now here) in
          fit_at (accepted_by venue.exchange) [] reports (length venue.given) next.report matched.fit next.there

      has : HasOrder v w.desk.sweeps fit.leg
      has =
          let o = accepted_released after safe_after v now here fit.leg fit.there in
          has_order v w.desk.sweeps o.0 fit.leg o.1

      order : option_and_then (numbered id.place) (numbered id.sweep w.desk.sweeps) ≡ Some has.routed
      order =
          subst (λ (x : LegIdParts). option_and_then (numbered x.place)
          (numbered x.sweep w.desk.sweeps) ≡ Some has.routed) fit.same has.order

      in_book : order_of id emptied.entries ≡ Some has.routed
      in_book =
          ap (λ s. option_and_then (numbered id.place) (numbered id.sweep s))
          (withdrawn_opened w.book (receive venue.session m).step.withdrawn ∙ follows.sweeps) ∙ order

      -- its id is new, its leg isn't withdrawn, and the share rule has room for it
      fresh : is_booked v next.report.exec emptied.entries ≡ false
      fresh =
          let o = safe_after.orderly v now here in
          let few : 0 + length reports ≤ 999999999 =
          (let within = reports_within venue.exchange.own in let limit = o.small.limit in let used = o.small.used in
          omega (arith, within, limit, used)) in
          booked_is v next.report.exec emptied.entries
          ∙ (ap (list_any (has_exec next.report.exec)) notes_of
          ∙ new_among 0 (length venue.given) reports next.report few
          (numbered_reports 0 venue.exchange.own o.counted) next.there)

      not_gone : is_withdrawn id emptied.entries ≡ false
      not_gone =
          elim (cases_Bool (is_withdrawn id emptied.entries)) [
            | inl held ↦
                (let in_after : HasWithdrawn after.book id =
                gone_booked emptied v (receive venue.session m).step.note id ∙ held in
                let among : Contains (given after v) n =
                subst (λ l. Contains l n) (sym last) (Contains-push venue.given n) in
                let about = no_note after safe_after id (follows_after.gone id in_after) v n among in
                let self : is_about id n ≡ true = ap (is_about id) next.is ∙ is_same_leg-refl id in
                absurd (let e = sym self ∙ about in cc))
            | inr free ↦ free
          ]

      moves_is : moves_on id emptied ≡ moves_in fit.leg.id earlier
      moves_is =
          let notes : notes_on id emptied.entries ≡ filter (is_about id) (moved_from v emptied.entries) =
          notes_from v id emptied.entries
          (λ from x held about.
          note_venue w safe id has.routed order from x
          (subst (λ l. Contains l x) (book_moved from) (moved_in emptied.entries from x held)) about ∙ has.venue) in
          ap (map move_of) (notes ∙ ap (filter (is_about id)) notes_of) ∙ ap (λ i. moves_in i earlier) (sym fit.same)

      room : move_answer (leg_parts id has.routed.terms.shares emptied).still_open (moves_on id emptied)
          (move_of (note.Report next.report)) ≡ applied.Moved
      room =
          let move = move_of (note.Report next.report) in
          let shares : has.routed.terms.shares ≡ fit.leg.terms.shares =
          ap (λ (t : TermsParts). t.shares) (sym has.terms) in
          ap (λ gone. move_answer (parts_of has.routed.terms.shares gone (moves_on id emptied)).still_open
          (moves_on id emptied) move) not_gone
          ∙ (ap (λ l. move_answer (parts_of has.routed.terms.shares false l).still_open l move) moves_is
          ∙ (ap (λ s. move_answer (parts_of s false (moves_in fit.leg.id earlier)).still_open
          (moves_in fit.leg.id earlier) move) shares
          ∙ fit.moved))

      moves : answer_to emptied v n ≡ applied.Moved
      moves =
          ap (answer_to emptied v) next.is
          ∙ answer_is emptied v (is_booked v next.report.exec emptied.entries) (move_of (note.Report next.report)) id
          has.routed (order_of id emptied.entries) in_book has.venue fresh not_gone room

    booked_now : (n : Option Note) → (receive venue.session m).step.note ≡ n
        → moved_from v (booked v n emptied).entries ≡ venue.given ++ noted n
    booked_now None is = book_moved v ∙ (given_was ∙ sym (append-nil venue.given))
    booked_now (Some n) is =
        ap (λ a. moved_from v (after_note emptied v n a).entries) (moves n is)
        ∙ (moved-append v emptied.entries (Moved v n ∷ [])
        ∙ (ap (λ t. moved_from v emptied.entries ++ (if t then n ∷ [] else [])) (eq-eqb v v refl)
        ∙ ap (λ l. l ++ n ∷ []) (book_moved v ∙ given_was)))

    booked_other : (u : ℕ) → (v ≡ u → ⊥) → (n : Option Note)
        → moved_from u (booked v n emptied).entries ≡ moved_from u emptied.entries
    booked_other u differs None = refl
    booked_other u differs (Some n) =
        same_moved (Moved v n) emptied (apply emptied v n).1 u (apply_outcome emptied v n)
        (ap (λ t. if t then n ∷ [] else []) (ne_eqb v u differs))

    turn_booked : IsBooked after
    turn_booked u =
        elim (cases_eq v u) [
          | inl same ↦
              subst (λ k. moved_from k after.book.entries ≡ given after k) same
              (booked_now (receive venue.session m).step.note refl ∙ sym given_now)
          | inr differs ↦
              booked_other u differs (receive venue.session m).step.note
              ∙ (book_moved u ∙ sym (given_other u differs))
        ]

pub booked_after : (w next : World) → IsSafe w → IsSafe next → BookFollows w → BookFollows next → Noting w next
    → IsBooked w → IsBooked next
booked_after w next safe safe_after follows follows_after (still book notes) before =
    λ u. book u ∙ (before u ∙ sym (notes u))
booked_after w next safe safe_after follows follows_after (turned v venue m there is) before =
    subst IsBooked (sym is)
    (turn_booked w safe follows before v venue m there (subst IsSafe is safe_after)
    (subst BookFollows is follows_after))
