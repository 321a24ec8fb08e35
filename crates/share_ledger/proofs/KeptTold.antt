-- The reports that are kept, when one more entry is written.
use Rattle.std.proofs.Common.{◌≡◌, ◌≢◌, ℕ, ◌<◌, inl, inr, Bool, true, false, ◌&&◌, ◌||◌, List, [], ◌∷◌, ◌++◌, length, map, set, Option, Some, None, Result, Ok, Err, refl, ap, sym, ◌∙◌, subst, arith, if◌then◌else◌}
use Rattle.std.specs.Prelude.{◌==◌, bytes_eq, is_some, get_or}
use Rattle.std.proofs.lemmas.Bool.{cases_Bool, cases_eq, eq-eqb, ne_eqb}
use Rattle.std.proofs.lemmas.List.{map-append, get_or_read, get_or-set_same, get_or-set_other, length-set}
use Rattle.std.proofs.lemmas.Slice.Eq.{bytes_eq-Decides}
use Rattle.std.specs.List.{All}
use Rattle.std.proofs.lemmas.List.Elements.{All-get_or}
use Rattle.leg.specs.Answering.{Answers}
use Rattle.leg.specs.LegId.{LegIdParts}
use Rattle.leg.specs.declared.sweep.Routed.{Routed}
use Rattle.leg.specs.declared.sweep.Sweep.{Sweep}
use Rattle.dialect.specs.declared.note.Note.TheVariants as note
use Rattle.dialect.specs.declared.report.Report.{Report}
use Rattle.dialect.specs.declared.report.ReportKind.{ReportKind}
use Rattle.dialect.specs.declared.report.ReportKind.TheVariants.{New, Trade, Canceled, Rejected, Expired, Bust}
use Rattle.share_ledger.specs.declared.book_entry.BookEntry.{BookEntry}
use Rattle.share_ledger.specs.declared.book_entry.BookEntry.TheVariants.{Opened, Withdrawn, Moved}
use Rattle.share_ledger.specs.declared.book_fault.BookFault.{BookFault}
use Rattle.share_ledger.specs.declared.book_fault.BookFault.TheVariants.{OutOfMemory}
use Rattle.share_ledger.specs.declared.reports.BookedTrade.{BookedTrade}
use Rattle.share_ledger.specs.declared.reports.Reports.{Reports}
use Rattle.share_ledger.specs.Entries.{order_of, is_same_leg, notes_on, is_booked}
use Rattle.share_ledger.specs.Shares.{Traded, Ends, Tells, move_of, move_of_kind}
use Rattle.share_ledger.specs.Book.{BookParts, BookAnswer, new_book, written, moves_on, withdraw, open_sweep}
use Rattle.share_ledger.specs.Reports.{report_at, shares_on, trade_told, busts, emptied, with_report, report_after}
use Rattle.share_ledger.specs.Kept.{standing, AreTold}
use Rattle.share_ledger.proofs.OneMore.{or_false, or_true, notes_on-opened, notes_on-withdrawn, notes_on-this, notes_on-other, is_same_leg-true, order_of-opened, order_of-withdrawn, order_of-moved, is_booked-append}
use Rattle.share_ledger.proofs.Steps.{IsNamed}
use Rattle.share_ledger.proofs.Outcomes.{open_outcome, withdraw_outcome}
use Rattle.share_ledger.proofs.Sound.{IsSound}
use Rattle.share_ledger.proofs.Told.{IsTold}
use Rattle.share_ledger.proofs.Standing.{standing-same, standing-new, standing-trade, standing-bust}

and_false : (b : Bool) → (b && false) ≡ false
and_false true = refl
and_false false = refl

-- entries that book no report change nothing that is kept
told_same : (reports : List Reports) (book : BookParts) (entry : BookEntry)
    → ((venue : ℕ) (exec : List ℕ) → is_booked venue exec (entry ∷ []) ≡ false)
    → ((id : LegIdParts) (routed : Routed) → order_of id book.entries ≡ Some routed
    → order_of id (written entry book).entries ≡ Some routed)
    → ((exec : List ℕ) (id : LegIdParts)
    → standing exec (moves_on id (written entry book)) ≡ standing exec (moves_on id book)) → AreTold reports book
    → AreTold reports (written entry book)
told_same reports book entry none kept same h =
    let has = h.has in
    let stands = h.standing_on in
    record {
      count = h.count;
      has = λ venue other exec there.
          has venue other exec there
          ∙ sym (is_booked-append venue exec book.entries (entry ∷ [])
          ∙ (ap (λ b. is_booked venue exec book.entries || b) (none venue exec)
          ∙ or_false (is_booked venue exec book.entries)));
      standing_on = λ venue other exec id there of. stands venue other exec id there
          (λ routed e. of routed (kept id routed e)) ∙ sym (same exec id);
    }

pub told_opened : (reports : List Reports) (book : BookParts) (sweep : Sweep) → AreTold reports book
    → AreTold reports (written (Opened sweep) book)
told_opened reports book sweep h =
    told_same reports book (Opened sweep) (λ venue exec. refl)
    (λ id routed e. order_of-opened id book.entries sweep routed e)
    (λ exec id. ap (λ ns. standing exec (map move_of ns)) (notes_on-opened id book.entries sweep)) h

pub told_withdrawn : (reports : List Reports) (book : BookParts) (leg : LegIdParts) → AreTold reports book
    → AreTold reports (written (Withdrawn leg) book)
told_withdrawn reports book leg h =
    told_same reports book (Withdrawn leg) (λ venue exec. refl)
    (λ id routed e. order_of-withdrawn id leg book.entries ∙ e)
    (λ exec id. ap (λ ns. standing exec (map move_of ns)) (notes_on-withdrawn id leg book.entries)) h

pub told_refused : (reports : List Reports) (book : BookParts) (venue : ℕ) (leg : LegIdParts) → AreTold reports book
    → AreTold reports (written (Moved venue (note.Refused leg)) book)
told_refused reports book venue leg h =
    let entry : BookEntry = Moved venue (note.Refused leg) in
    told_same reports book entry (λ v exec. or_false ((venue == v) && false) ∙ and_false (venue == v))
    (λ id routed e. order_of-moved id book.entries venue (note.Refused leg) ∙ e)
    (λ exec id.
    elim (cases_Bool (is_same_leg leg id)) [
      | inl this ↦
          ap (λ ns. standing exec (map move_of ns)) (notes_on-this id book.entries venue (note.Refused leg) this)
          ∙ (ap (standing exec) (map-append move_of (notes_on id book.entries) (note.Refused leg ∷ []))
          ∙ standing-same exec (moves_on id book) Ends refl refl)
      | inr other ↦ ap (λ ns. standing exec (map move_of ns))
          (notes_on-other id book.entries venue (note.Refused leg) other)
    ]) h

-- what is kept is on the leg that is named
shares_apart : (kept : Option (Option BookedTrade)) (id other : LegIdParts) (shares : ℕ)
    → shares_on id kept ≡ Some shares → is_same_leg id other ≡ false → shares_on other kept ≡ None
shares_apart None id other shares e differs = cc
shares_apart (Some None) id other shares e differs = cc
shares_apart (Some (Some trade)) id other shares e differs =
    elim (cases_Bool (is_same_leg trade.leg id)) [
      | inl this ↦
          (let path = is_same_leg-true trade.leg id this in
          let apart : is_same_leg trade.leg other ≡ false = subst (λ k. is_same_leg k other ≡ false)
          (sym path) differs in
          rw apart refl)
      | inr not_this ↦ (let none = sym (ap (λ b. if b then Some trade.shares else None) not_this) ∙ e in cc)
    ]

shares_told : (id other : LegIdParts) (kind : ReportKind) → is_same_leg id other ≡ false
    → shares_on other (Some (trade_told id kind)) ≡ None
shares_told id other New differs = refl
shares_told id other (Trade fill) differs = rw differs refl
shares_told id other Canceled differs = refl
shares_told id other Rejected differs = refl
shares_told id other Expired differs = refl
shares_told id other (Bust cancelled_id) differs = refl

shares_emptied : (id : LegIdParts) (kept : Option (Option BookedTrade)) → shares_on id (emptied kept) ≡ None
shares_emptied id None = refl
shares_emptied id (Some trade) = refl

some_emptied : (kept : Option (Option BookedTrade)) → is_some (emptied kept) ≡ is_some kept
some_emptied None = refl
some_emptied (Some trade) = refl

is_some-after : (reports : Reports) (report : Report) (exec : List ℕ)
    → is_some (report_after reports report exec) ≡ (is_some (report_at reports exec) || bytes_eq report.exec exec)
is_some-after reports report exec =
    let told = trade_told report.id report.kind in
    let kept : is_some (with_report report.exec told reports exec) ≡
    (is_some (report_at reports exec) || bytes_eq report.exec exec) =
    elim (cases_Bool (bytes_eq report.exec exec)) [
      | inl this ↦ rw this (sym (or_true (is_some (report_at reports exec))))
      | inr other ↦ rw other (sym (or_false (is_some (report_at reports exec))))
    ] in
    elim (cases_Bool (busts report.kind exec)) [
      | inl busted ↦ ap (λ b. is_some
          (if b then emptied (with_report report.exec told reports exec) else with_report report.exec told reports
          exec)) busted ∙ (some_emptied (with_report report.exec told reports exec) ∙ kept)
      | inr other ↦ ap (λ b. is_some
          (if b then emptied (with_report report.exec told reports exec) else with_report report.exec told reports
          exec)) other ∙ kept
    ]

-- a report of this kind on a leg, under an id
abbrev reported : LegIdParts → List ℕ → ReportKind → Report
reported leg own kind = record { id = leg; exec = own; kind = kind }

module _ (book : BookParts) (venue : ℕ) (own : List ℕ) (leg : LegIdParts) (reports : Reports)
    (free : is_booked venue own book.entries ≡ false)
    (named : (id : LegIdParts) (routed : Routed) → order_of id book.entries ≡ Some routed
    → IsNamed (λ exec. is_booked routed.venue exec book.entries) (moves_on id book))
    (untouched : (id : LegIdParts) → order_of id book.entries ≡ None → notes_on id book.entries ≡ []) where
  -- the leg that is asked for is of this venue, if it was opened
  abbrev OfVenue : LegIdParts → Type 0
  OfVenue id = (routed : Routed) → order_of id book.entries ≡ Some routed → routed.venue ≡ venue

  -- nothing stands under the new id, on any leg of the venue
  none_by : (id : LegIdParts) → OfVenue id → (order : Option Routed) → order_of id book.entries ≡ order
      → standing own (moves_on id book) ≡ None
  none_by id of None e = ap (λ ns. standing own (map move_of ns)) (untouched id e)
  none_by id of (Some routed) e =
      let here : is_booked routed.venue own book.entries ≡ false = subst (λ v. is_booked v own book.entries ≡ false)
      (sym (of routed e)) free in
      standing-new (λ exec. is_booked routed.venue exec book.entries) own (moves_on id book) here (named id routed e)

  none_new : (id : LegIdParts) → OfVenue id → standing own (moves_on id book) ≡ None
  none_new id of = none_by id of (order_of id book.entries) refl

  module _ (id : LegIdParts) (of : OfVenue id)
      (stands : (exec : List ℕ) → shares_on id (report_at reports exec) ≡ standing exec (moves_on id book)) where
    -- a report that tells no trade on this leg
    kept_as : (told : Option BookedTrade) (exec : List ℕ) → shares_on id (Some told) ≡ None
        → shares_on id (with_report own told reports exec) ≡ standing exec (moves_on id book)
    kept_as told exec none =
        elim (cases_Bool (bytes_eq own exec)) [
          | inl this ↦
              ap (λ b. shares_on id (if b then Some told else report_at reports exec)) this
              ∙ (none ∙ sym (subst (λ x. standing x (moves_on id book) ≡ None) ((bytes_eq-Decides own exec).0 this)
              (none_new id of)))
          | inr other ↦ ap (λ b. shares_on id (if b then Some told else report_at reports exec)) other ∙ stands exec
        ]

    -- on another leg nothing changes
    other_leg : (kind : ReportKind) (exec : List ℕ) → is_same_leg leg id ≡ false
        → ((cancelled_id : List ℕ) → kind ≡ Bust cancelled_id
        → (shares : ℕ) × (shares_on leg (report_at reports cancelled_id) ≡ Some shares))
        → shares_on id (report_after reports (reported leg own kind) exec) ≡ standing exec (moves_on id book)
    other_leg New exec differs busted = kept_as None exec refl
    other_leg (Trade fill) exec differs busted = kept_as (trade_told leg (Trade fill)) exec
        (shares_told leg id (Trade fill) differs)
    other_leg Canceled exec differs busted = kept_as None exec refl
    other_leg Rejected exec differs busted = kept_as None exec refl
    other_leg Expired exec differs busted = kept_as None exec refl
    other_leg (Bust cancelled_id) exec differs busted =
        let at = busted cancelled_id refl in
        elim (cases_Bool (bytes_eq cancelled_id exec)) [
          | inl this ↦
              ap (λ b. shares_on id
              (if b then emptied (with_report own None reports exec) else with_report own None reports exec)) this
              ∙ (shares_emptied id (with_report own None reports exec)
              ∙ subst (λ x. None ≡ standing x (moves_on id book)) ((bytes_eq-Decides cancelled_id exec).0 this)
              (sym (shares_apart (report_at reports cancelled_id) leg id at.0 at.1 differs) ∙ stands cancelled_id))
          | inr apart ↦
              ap (λ b. shares_on id
              (if b then emptied (with_report own None reports exec) else with_report own None reports exec)) apart
              ∙ kept_as None exec refl
        ]

    -- on its own leg a trade stands, and one that is busted no longer
    this_leg : (kind : ReportKind) (exec : List ℕ) → is_same_leg leg id ≡ true
        → IsNamed (λ x. is_booked venue x book.entries) (moves_on id book)
        → shares_on id (report_after reports (reported leg own kind) exec) ≡ standing exec
        (moves_on id book ++ move_of_kind own kind ∷ [])
    this_leg New exec same here = kept_as None exec refl ∙ sym (standing-same exec (moves_on id book) Tells refl refl)
    this_leg (Trade fill) exec same here =
        let traded : Traded = record { exec = own; shares = fill.shares } in
        elim (cases_Bool (bytes_eq own exec)) [
          | inl this ↦
              ap (λ b. shares_on id (if b then Some (trade_told leg (Trade fill)) else report_at reports exec)) this
              ∙ (ap (λ b. if b then Some fill.shares else None) same
              ∙ (sym (ap (λ b. if b then Some fill.shares else standing exec (moves_on id book)) this)
              ∙ sym (standing-trade (λ x. is_booked venue x book.entries) exec (moves_on id book) traded free here)))
          | inr other ↦
              ap (λ b. shares_on id (if b then Some (trade_told leg (Trade fill)) else report_at reports exec)) other
              ∙ (stands exec
              ∙ (sym (ap (λ b. if b then Some fill.shares else standing exec (moves_on id book)) other)
              ∙ sym (standing-trade (λ x. is_booked venue x book.entries) exec (moves_on id book) traded free here)))
        ]
    this_leg Canceled exec same here = kept_as None exec refl
        ∙ sym (standing-same exec (moves_on id book) Ends refl refl)
    this_leg Rejected exec same here = kept_as None exec refl
        ∙ sym (standing-same exec (moves_on id book) Ends refl refl)
    this_leg Expired exec same here = kept_as None exec refl
        ∙ sym (standing-same exec (moves_on id book) Ends refl refl)
    this_leg (Bust cancelled_id) exec same here =
        elim (cases_Bool (bytes_eq cancelled_id exec)) [
          | inl this ↦
              ap (λ b. shares_on id
              (if b then emptied (with_report own None reports exec) else with_report own None reports exec)) this
              ∙ (shares_emptied id (with_report own None reports exec)
              ∙ (sym (ap (λ b. if b then None else standing exec (moves_on id book)) this)
              ∙ sym (standing-bust exec (moves_on id book) cancelled_id)))
          | inr apart ↦
              ap (λ b. shares_on id
              (if b then emptied (with_report own None reports exec) else with_report own None reports exec)) apart
              ∙ (kept_as None exec refl
              ∙ (sym (ap (λ b. if b then None else standing exec (moves_on id book)) apart)
              ∙ sym (standing-bust exec (moves_on id book) cancelled_id)))
        ]

-- the reports after one that moves
module _ (all : List Reports) (book : BookParts) (venue : ℕ) (report : Report) (order : Routed) (h : AreTold all book)
    (there : venue < length all) (found : order_of report.id book.entries ≡ Some order) (of_venue : order.venue ≡ venue)
    (free : is_booked venue report.exec book.entries ≡ false) (told : IsTold book) (sound : IsSound book)
    (was now : Reports) (was_is : was ≡ get_or all venue was)
    (now_is : (exec : List ℕ) → report_at now exec ≡ report_after was report exec)
    (busted : (cancelled_id : List ℕ) → report.kind ≡ Bust cancelled_id
    → (shares : ℕ) × (shares_on report.id (report_at was cancelled_id) ≡ Some shares)) where
  was_at : (other : Reports) → get_or all venue other ≡ was
  was_at other = sym (get_or_read all venue was there was_is other)

  now_at : (v : ℕ) (other : Reports) → v ≡ venue → get_or (set all venue now) v other ≡ now
  now_at v other same = ap (λ n. get_or (set all venue now) n other) same ∙ get_or-set_same all venue now other there

  booked_with : (v : ℕ) (exec : List ℕ) (b : Bool) → (venue == v) ≡ b
      → is_booked v exec (book.entries ++ Moved venue (note.Report report) ∷ []) ≡
      (is_booked v exec book.entries || (b && bytes_eq report.exec exec))
  booked_with v exec b e =
      is_booked-append v exec book.entries (Moved venue (note.Report report) ∷ [])
      ∙ ((λ n. is_booked v exec book.entries || ((e n && bytes_eq report.exec exec) || false))
      ∙ ap (λ x. is_booked v exec book.entries || x) (or_false (b && bytes_eq report.exec exec)))

  has_now : (v : ℕ) (other : Reports) (exec : List ℕ) → v < length (set all venue now)
      → is_some (report_at (get_or (set all venue now) v other) exec) ≡ is_booked v exec
      (book.entries ++ Moved venue (note.Report report) ∷ [])
  has_now v other exec inside =
      let has = h.has in
      elim (cases_eq v venue) [
        | inl same ↦
            (let test : (venue == v) ≡ true = eq-eqb venue v (sym same) in
            let before : is_some (report_at was exec) ≡ is_booked v exec
            book.entries = ap (λ r. is_some (report_at r exec)) (sym (was_at other))
            ∙ (has venue other exec there ∙ ap (λ n. is_booked n exec book.entries) (sym same)) in
            ap (λ r. is_some (report_at r exec)) (now_at v other same)
            ∙ (ap is_some (now_is exec)
            ∙ (is_some-after was report exec
            ∙ (ap (λ b. b || bytes_eq report.exec exec) before
            ∙ sym (booked_with v exec true test)))))
        | inr differs ↦
            (let test : (venue == v) ≡ false = ne_eqb venue v (λ e. differs (sym e)) in
            let old_there : v < length all = omega (arith, inside, length-set all venue now) in
            ap (λ r. is_some (report_at r exec)) (get_or-set_other all venue v now other differs)
            ∙ (has v other exec old_there
            ∙ (sym (or_false (is_booked v exec book.entries))
            ∙ sym (booked_with v exec false test))))
      ]

  -- the report isn't on a leg of another venue
  elsewhere : (v : ℕ) (id : LegIdParts) → v ≢ venue
      → ((routed : Routed) → order_of id book.entries ≡ Some routed → routed.venue ≡ v) → (exec : List ℕ)
      → standing exec (moves_on id (written (Moved venue (note.Report report)) book)) ≡ standing exec (moves_on id book)
  elsewhere v id differs of exec =
      elim (cases_Bool (is_same_leg report.id id)) [
        | inl this ↦
            (let here : order_of id book.entries ≡ Some order = subst (λ k. order_of k book.entries ≡ Some order)
            (is_same_leg-true report.id id this) found in
            absurd (differs (sym (of order here) ∙ of_venue)))
        | inr other ↦ ap (λ ns. standing exec (map move_of ns))
            (notes_on-other id book.entries venue (note.Report report) other)
      ]

  standing_now : (v : ℕ) (other : Reports) (exec : List ℕ) (id : LegIdParts) → v < length (set all venue now)
      → ((routed : Routed) → order_of id (book.entries ++ Moved venue (note.Report report) ∷ []) ≡ Some routed
      → routed.venue ≡ v) → shares_on id (report_at (get_or (set all venue now) v other) exec) ≡ standing exec
      (moves_on id (written (Moved venue (note.Report report)) book))
  standing_now v other exec id inside of =
      let stands = h.standing_on in
      let of_old : (routed : Routed) → order_of id book.entries ≡ Some routed
      → routed.venue ≡ v = λ routed e. of routed (order_of-moved id book.entries venue (note.Report report) ∙ e) in
      elim (cases_eq v venue) [
        | inl same ↦
            (let of_here : (routed : Routed) → order_of id book.entries ≡ Some routed
            → routed.venue ≡ venue = λ routed e. of_old routed e ∙ same in
            let stands_here : (x : List ℕ)
            → shares_on id (report_at was x) ≡ standing x
            (moves_on id book) = λ x. ap (λ r. shares_on id (report_at r x)) (sym (was_at other))
            ∙ stands venue other x id there of_here in
            let named = told.named in
            let untouched = sound.untouched in
            ap (λ r. shares_on id (report_at r exec)) (now_at v other same)
            ∙ (ap (shares_on id) (now_is exec)
            ∙ elim (cases_Bool (is_same_leg report.id id)) [
              | inl this ↦
                  (let path = is_same_leg-true report.id id this in
                  let here_found : order_of id book.entries ≡ Some order = subst
                  (λ k. order_of k book.entries ≡ Some order) path found in
                  let here : IsNamed (λ x. is_booked venue x book.entries)
                  (moves_on id book) = subst (λ w. IsNamed (λ x. is_booked w x book.entries) (moves_on id book))
                  of_venue (named id order here_found) in
                  this_leg book venue report.exec report.id was free named
                  (λ k e. (untouched k e).1) id of_here stands_here report.kind exec this here
                  ∙ sym (ap (λ ns. standing exec (map move_of ns))
                  (notes_on-this id book.entries venue (note.Report report) this)
                  ∙ ap (standing exec) (map-append move_of (notes_on id book.entries) (note.Report report ∷ []))))
              | inr differs ↦
                  other_leg book venue report.exec report.id was free named
                  (λ k e. (untouched k e).1) id of_here stands_here report.kind exec differs busted
                  ∙ sym (ap (λ ns. standing exec (map move_of ns))
                  (notes_on-other id book.entries venue (note.Report report) differs))
            ]))
        | inr differs ↦
            (let old_there : v < length all = omega (arith, inside, length-set all venue now) in
            ap (λ r. shares_on id (report_at r exec)) (get_or-set_other all venue v now other differs)
            ∙ (stands v other exec id old_there of_old
            ∙ sym (elsewhere v id differs of_old exec)))
      ]

  pub told_moved : AreTold (set all venue now) (written (Moved venue (note.Report report)) book)
  told_moved = record {
    count = length-set all venue now ∙ h.count;
    has = has_now;
    standing_on = standing_now;
  }

-- a call that takes its entry or leaves the book as it was
pub told_withdraw : (reports : List Reports) (book : BookParts) (leg : LegIdParts) → AreTold reports book
    → AreTold reports (withdraw book leg).1
told_withdraw reports book leg h =
    elim (withdraw_outcome book leg) [
      | inl writes ↦ subst (AreTold reports) (sym writes) (told_withdrawn reports book leg h)
      | inr same ↦ subst (AreTold reports) (sym same) h
    ]

pub told_open : (reports : List Reports) (book : BookParts) (number : ℕ) (legs : List Routed) → AreTold reports book
    → AreTold reports (open_sweep book number legs).1
told_open reports book number legs h =
    elim (open_outcome book number legs) [
      | inl writes ↦ subst (AreTold reports) (sym writes) (told_opened reports book (record { legs = legs }) h)
      | inr same ↦ subst (AreTold reports) (sym same) h
    ]

pub told_answers : (reports : List Reports) (before : BookParts) (r : BookAnswer) (answer : Result (Unit {0}) BookFault)
    (now : BookParts) → Answers OutOfMemory before r answer now → AreTold reports before → AreTold reports r.1
    → AreTold reports now
told_answers reports before (Err fault, after) answer now a old new = subst (AreTold reports) (sym a.1) new
told_answers reports before (Ok x, after) (Ok y) now a old new = subst (AreTold reports) (sym a.1) new
told_answers reports before (Ok x, after) (Err fault) now a old new = subst (AreTold reports) (sym a.1) old

-- no report was booked in a new book
pub told_new : (reports : List Reports) (venues : ℕ) → length reports ≡ venues
    → All (λ r. (exec : List ℕ) → report_at r exec ≡ None) reports → AreTold reports (new_book venues)
told_new reports venues count fresh =
    record {
      count = count;
      has = λ venue other exec there. ap is_some
          (All-get_or (λ r. (x : List ℕ) → report_at r x ≡ None) reports venue other there fresh exec);
      standing_on = λ venue other exec id there of. ap (shares_on id)
          (All-get_or (λ r. (x : List ℕ) → report_at r x ≡ None) reports venue other there fresh exec);
    }
