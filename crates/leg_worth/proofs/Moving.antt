-- What is kept of a book, once a note has moved and its change was made.
use Rattle.std.proofs.Common.{◌≡◌, ℕ, ◌+◌, ◌-◌, inl, inr, Bool, true, false, not, ◌&&◌, List, [], ◌∷◌, ◌++◌, map, Option, Some, None, refl, ap, sym, subst, ◌∙◌, arith, if◌then◌else◌}
use Rattle.std.specs.Prelude.{◌==◌, filter, bytes_eq, option_map}
use Rattle.std.specs.List.{list_any, AllByRecursion}
use Rattle.std.proofs.lemmas.Bool.{cases_Bool, and_parts, eqb-true, not-true}
use Rattle.std.proofs.lemmas.List.{append-nil}
use Rattle.std.proofs.lemmas.Slice.Eq.{bytes_eq-Decides}
use Rattle.leg.specs.LegId.{LegIdParts}
use Rattle.leg.specs.declared.sweep.Routed.{Routed}
use Rattle.dialect.specs.Fill.{FillParts}
use Rattle.dialect.specs.declared.note.Note.{Note}
use Rattle.dialect.specs.declared.note.Note.TheVariants as note
use Rattle.dialect.specs.declared.report.Report.{Report}
use Rattle.dialect.specs.declared.report.ReportKind.{ReportKind}
use Rattle.dialect.specs.declared.report.ReportKind.TheVariants.{New, Trade, Canceled, Rejected, Expired, Bust}
use Rattle.share_ledger.specs.declared.applied.Applied.TheVariants as applied
use Rattle.share_ledger.specs.declared.book_entry.BookEntry.{BookEntry}
use Rattle.share_ledger.specs.declared.book_entry.BookEntry.TheVariants.{Moved}
use Rattle.share_ledger.specs.Entries.{order_of, is_same_leg, is_about, notes_on, is_booked}
use Rattle.share_ledger.specs.Shares.{Traded, Busts, move_of, trades, busted_ids, has_id}
use Rattle.share_ledger.specs.Book.{BookParts, booked_leg, written, moves_on, leg_in, can_bust, answer_to, replay, new_book}
use Rattle.share_ledger.proofs.OneMore.{notes_on-this, notes_on-other, is_same_leg-refl, is_same_leg-true}
use Rattle.share_ledger.proofs.Sound.{LetIn, let_in, let_in_bust}
use Rattle.share_ledger.proofs.Steps.{IsNamed, new_id}
use Rattle.share_ledger.proofs.Told.{IsTold, told-replay}
use Rattle.leg_worth.specs.declared.change.LegTrade.{LegTrade}
use Rattle.leg_worth.specs.declared.change.WorthChange.{WorthChange}
use Rattle.leg_worth.specs.declared.worth.Worth.{Worth}
use Rattle.leg_worth.specs.Worth.{trades_of, busts_of, trades_in, busts_in, sum_of, paid, unpriced, worth_in, leg_worth}
use Rattle.leg_worth.specs.Kept.{trades_under, listed, IsReplayed, AreKept, worth_after, fill_after, with_trade, without_trade, if_of_venue, trade_change, bust_change, note_change, report_change}
use Rattle.leg_worth.proofs.Sums.{sum_same, sum_trade, sum_bust, under_push}
use Rattle.leg_worth.proofs.Bounds.{as_traded, moves_busts, moves_trades, none_under, none_there}

same_worth : (a b : Worth) → a.value ≡ b.value → a.unpriced ≡ b.unpriced → a ≡ b
same_worth a b value unpriced = λ i. record { value = value i; unpriced = unpriced i }

-- ---- what notes come to, when one more is told

worth_same : (notes : List Note) (note : Note) → trades_of note ≡ [] → busts_of note ≡ []
    → worth_in (notes ++ note ∷ []) ≡ worth_in notes
worth_same notes note no_trade no_bust =
    same_worth (worth_in (notes ++ note ∷ [])) (worth_in notes) (sum_same paid notes note no_trade no_bust)
    (sum_same unpriced notes note no_trade no_bust)

worth_trade : (notes : List Note) (note : Note) (trade : LegTrade) → trades_of note ≡ trade ∷ [] → busts_of note ≡ []
    → has_id trade.exec (busts_in notes) ≡ false
    → worth_in (notes ++ note ∷ []) ≡ with_trade (worth_in notes) trade.fill
worth_trade notes note trade is no_bust stands =
    same_worth (worth_in (notes ++ note ∷ [])) (with_trade (worth_in notes) trade.fill)
    (sum_trade paid notes note trade is no_bust stands) (sum_trade unpriced notes note trade is no_bust stands)

worth_bust : (notes : List Note) (note : Note) (exec : List ℕ) (trade : LegTrade) → trades_of note ≡ []
    → busts_of note ≡ exec ∷ [] → has_id exec (busts_in notes) ≡ false → trades_under exec notes ≡ trade ∷ []
    → worth_in (notes ++ note ∷ []) ≡ without_trade (worth_in notes) trade.fill
worth_bust notes note exec trade no_trade is stands under =
    let value = sum_bust paid notes note exec trade no_trade is stands under in
    let few = sum_bust unpriced notes note exec trade no_trade is stands under in
    same_worth (worth_in (notes ++ note ∷ [])) (without_trade (worth_in notes) trade.fill) (omega (arith, value))
    (omega (arith, few))

-- no trade more is under an id
under_same : (exec : List ℕ) (notes : List Note) (note : Note) → trades_of note ≡ []
    → trades_under exec (notes ++ note ∷ []) ≡ trades_under exec notes
under_same exec notes note no_trade = under_push exec notes note
    ∙ (ap (λ (l : List LegTrade). trades_under exec notes ++ filter (λ t. bytes_eq t.exec exec) l) no_trade
    ∙ append-nil (trades_under exec notes))

-- ---- what is kept of the legs that a note isn't on

module _ (book : BookParts) (venue : ℕ) (note : Note) (leg id : LegIdParts)
    (about : is_about id note ≡ is_same_leg leg id) where
  others_worth : is_same_leg leg id ≡ false → leg_worth (written (Moved venue note) book) id ≡ leg_worth book id
  others_worth other = ap worth_in (notes_on-other id book.entries venue note (about ∙ other))

  others_trades : (exec : List ℕ) → is_same_leg leg id ≡ false
      → trades_under exec (notes_on id (written (Moved venue note) book).entries)
      ≡ trades_under exec (notes_on id book.entries)
  others_trades exec other = ap (trades_under exec) (notes_on-other id book.entries venue note (about ∙ other))

  this_notes : is_same_leg leg id ≡ true
      → notes_on id (written (Moved venue note) book).entries ≡ notes_on id book.entries ++ note ∷ []
  this_notes same = notes_on-this id book.entries venue note (about ∙ same)

-- ---- a note that tells no trade and busts none

module _ (book : BookParts) (venue : ℕ) (note : Note) (leg : LegIdParts)
    (about : (id : LegIdParts) → is_about id note ≡ is_same_leg leg id) (no_trade : trades_of note ≡ [])
    (worth : LegIdParts → Worth) (fill : LegIdParts → List ℕ → Option FillParts) (kept : AreKept book worth fill) where
  same_legs : (no_bust : busts_of note ≡ []) (id : LegIdParts) → worth id ≡ leg_worth (written (Moved venue note) book) id
  same_legs no_bust id = elim (cases_Bool (is_same_leg leg id)) [
    | inl same ↦ kept.legs id ∙ sym (ap worth_in (this_notes book venue note leg id (about id) same)
        ∙ worth_same (notes_on id book.entries) note no_trade no_bust)
    | inr other ↦ kept.legs id ∙ sym (others_worth book venue note leg id (about id) other)
  ]

  same_trades : (id : LegIdParts) (exec : List ℕ)
      → trades_under exec (notes_on id (written (Moved venue note) book).entries) ≡ listed exec (fill id exec)
  same_trades id exec = elim (cases_Bool (is_same_leg leg id)) [
    | inl same ↦ ap (trades_under exec) (this_notes book venue note leg id (about id) same)
        ∙ (under_same exec (notes_on id book.entries) note no_trade ∙ kept.trades id exec)
    | inr other ↦ others_trades book venue note leg id (about id) exec other ∙ kept.trades id exec
  ]

  kept_same : busts_of note ≡ [] → AreKept (written (Moved venue note) book) worth fill
  kept_same no_bust = record { legs = same_legs no_bust; trades = same_trades }

-- ---- what the book says of a report that moved

told_of : (book : BookParts) → IsReplayed book → IsTold book
told_of book replays = subst IsTold replays (told-replay book.venues book.entries)

module _ (book : BookParts) (venue : ℕ) (report : Report) (replays : IsReplayed book)
    (moved : answer_to book venue (note.Report report) ≡ applied.Moved) where
  it : LetIn book venue (is_booked venue report.exec book.entries) report.id (move_of (note.Report report))
  it = let_in book venue (is_booked venue report.exec book.entries) (move_of (note.Report report)) report.id
      (order_of report.id book.entries) refl moved

  named : IsNamed (λ exec. is_booked venue exec book.entries) (moves_on report.id book)
  named = subst (λ v. IsNamed (λ exec. is_booked v exec book.entries) (moves_on report.id book))
      (eqb-true it.order.venue venue it.of_venue) ((told_of book replays).named report.id it.order it.found)

  -- its id is that of no trade and no bust on its leg
  pub not_busted : has_id report.exec (busts_in (notes_on report.id book.entries)) ≡ false
  not_busted = subst (λ (ids : List (List ℕ)). has_id report.exec ids ≡ false)
      (moves_busts (notes_on report.id book.entries))
      (new_id (λ exec. is_booked venue exec book.entries) report.exec (busted_ids (moves_on report.id book)) it.fresh
      named.all_busts)

  pub not_traded : trades_under report.exec (notes_on report.id book.entries) ≡ []
  not_traded = none_under (λ exec. is_booked venue exec book.entries) report.exec
      (trades_in (notes_on report.id book.entries)) it.fresh
      (subst (λ (ts : List Traded). AllByRecursion (λ trade. is_booked venue trade.exec book.entries ≡ true) ts)
      (moves_trades (notes_on report.id book.entries)) named.all_trades)

-- the leg is there, and of the venue
leg_there : (book : BookParts) (venue : ℕ) (report : Report) (change : WorthChange)
    → answer_to book venue (note.Report report) ≡ applied.Moved
    → if_of_venue venue change (leg_in book report.id) ≡ Some change
leg_there book venue report change moved =
    let found = let_in book venue (is_booked venue report.exec book.entries) (move_of (note.Report report)) report.id
    (order_of report.id book.entries) refl moved in
    ap (λ (order : Option Routed). if_of_venue venue change (option_map (booked_leg book report.id) order)) found.found
    ∙ ap (λ b. let o : Option WorthChange = if b then Some change else None in o) found.of_venue

-- ---- a trade

abbrev report_of : LegIdParts → List ℕ → ReportKind → Report
report_of id exec kind = record { id = id; exec = exec; kind = kind }

abbrev noted : BookParts → ℕ → LegIdParts → List ℕ → ReportKind → BookParts
noted book venue id exec kind = written (Moved venue (note.Report (report_of id exec kind))) book

module _ (book : BookParts) (venue : ℕ) (id : LegIdParts) (exec : List ℕ) (traded : FillParts)
    (worth : LegIdParts → Worth) (fill : LegIdParts → List ℕ → Option FillParts) (replays : IsReplayed book)
    (kept : AreKept book worth fill)
    (moved : answer_to book venue (note.Report (report_of id exec (Trade traded))) ≡ applied.Moved) where
  trade_this : with_trade (worth id) traded ≡ leg_worth (noted book venue id exec (Trade traded)) id
  trade_this =
      let told : Note = note.Report (report_of id exec (Trade traded)) in
      ap (λ (w : Worth). with_trade w traded) (kept.legs id)
      ∙ (sym (worth_trade (notes_on id book.entries) told (record { exec = exec; fill = traded }) refl refl
      (not_busted book venue (report_of id exec (Trade traded)) replays moved))
      ∙ sym (ap worth_in (this_notes book venue told id id refl (is_same_leg-refl id))))

  trade_legs : (other : LegIdParts) → worth_after (Some (trade_change id exec traded (worth id))) worth other
      ≡ leg_worth (noted book venue id exec (Trade traded)) other
  trade_legs other =
      let told : Note = note.Report (report_of id exec (Trade traded)) in
      elim (cases_Bool (is_same_leg id other)) [
        | inl same ↦
            ap (λ b. if b then with_trade (worth id) traded else worth other) same
            ∙ (trade_this
            ∙ ap (leg_worth (noted book venue id exec (Trade traded))) (is_same_leg-true id other same))
        | inr differs ↦
            ap (λ b. if b then with_trade (worth id) traded else worth other) differs
            ∙ (kept.legs other ∙ sym (others_worth book venue told id other refl differs))
      ]

  trade_trades : (other : LegIdParts) (under : List ℕ)
      → trades_under under (notes_on other (noted book venue id exec (Trade traded)).entries)
      ≡ listed under (fill_after (Some (trade_change id exec traded (worth id))) fill other under)
  trade_trades other under =
      let told : Note = note.Report (report_of id exec (Trade traded)) in
      let one : LegTrade = record { exec = exec; fill = traded } in
      elim (cases_Bool (is_same_leg id other)) [
        | inr differs ↦
            others_trades book venue told id other refl under differs
            ∙ (kept.trades other under
            ∙ ap (λ b. listed under (if b && bytes_eq exec under then Some traded else fill other under)) (sym differs))
        | inl same ↦
            (let path = is_same_leg-true id other same in
            let more = ap (trades_under under) (this_notes book venue told id other refl same)
            ∙ under_push under (notes_on other book.entries) told in
            elim (cases_Bool (bytes_eq exec under)) [
              | inl named ↦
                  (let names = (bytes_eq-Decides exec under).0 named in
                  let none : trades_under under (notes_on other book.entries) ≡ [] =
                  (λ i. trades_under (sym names i) (notes_on (sym path i) book.entries))
                  ∙ not_traded book venue (report_of id exec (Trade traded)) replays moved in
                  let first : filter (λ (t : LegTrade). bytes_eq t.exec under) (one ∷ []) ≡ one ∷ [] = rw named refl in
                  more
                  ∙ ((λ i. none i ++ first i)
                  ∙ (ap (λ (x : List ℕ). let t : LegTrade = record { exec = x; fill = traded } in t ∷ []) names
                  ∙ (λ i. listed under (if sym same i && sym named i then Some traded else fill other under)))))
              | inr differs ↦
                  (let none : filter (λ (t : LegTrade). bytes_eq t.exec under) (one ∷ []) ≡ [] = rw differs refl in
                  more
                  ∙ (ap (λ (l : List LegTrade). trades_under under (notes_on other book.entries) ++ l) none
                  ∙ (append-nil (trades_under under (notes_on other book.entries))
                  ∙ (kept.trades other under
                  ∙ (λ i. listed under (if sym same i && sym differs i then Some traded else fill other under))))))
            ])
      ]

  kept_trade : AreKept (noted book venue id exec (Trade traded))
      (worth_after (report_change book worth fill venue id exec (Trade traded)) worth)
      (fill_after (report_change book worth fill venue id exec (Trade traded)) fill)
  kept_trade =
      let there = leg_there book venue (report_of id exec (Trade traded)) (trade_change id exec traded (worth id))
      moved in
      let settled : AreKept (noted book venue id exec (Trade traded))
      (worth_after (Some (trade_change id exec traded (worth id))) worth)
      (fill_after (Some (trade_change id exec traded (worth id))) fill) =
      record { legs = trade_legs; trades = trade_trades } in
      subst (λ (change : Option WorthChange). AreKept (noted book venue id exec (Trade traded))
      (worth_after change worth) (fill_after change fill)) (sym there) settled

-- ---- a bust

module _ (book : BookParts) (venue : ℕ) (id : LegIdParts) (exec cancelled : List ℕ)
    (worth : LegIdParts → Worth) (fill : LegIdParts → List ℕ → Option FillParts) (replays : IsReplayed book)
    (kept : AreKept book worth fill)
    (moved : answer_to book venue (note.Report (report_of id exec (Bust cancelled))) ≡ applied.Moved) where
  can : (list_any (λ (trade : Traded). bytes_eq cancelled trade.exec) (trades (moves_on id book)) ≡ true)
      × (has_id cancelled (busted_ids (moves_on id book)) ≡ false)
  can =
      let found = it book venue (report_of id exec (Bust cancelled)) replays moved in
      let both = and_parts (list_any (λ (trade : Traded). bytes_eq cancelled trade.exec) (trades (moves_on id book)))
      (not (has_id cancelled (busted_ids (moves_on id book))))
      (let_in_bust (can_bust cancelled (moves_on id book)) found.possible) in
      (both.0, not-true (has_id cancelled (busted_ids (moves_on id book))) both.1)

  bust_legs : (traded : FillParts) → fill id cancelled ≡ Some traded → (other : LegIdParts)
      → worth_after (bust_change id (worth id) (Some traded)) worth other
      ≡ leg_worth (noted book venue id exec (Bust cancelled)) other
  bust_legs traded is other =
      let told : Note = note.Report (report_of id exec (Bust cancelled)) in
      let notes = notes_on id book.entries in
      let under = kept.trades id cancelled ∙ ap (listed cancelled) is in
      let stands = subst (λ (ids : List (List ℕ)). has_id cancelled ids ≡ false) (moves_busts notes) can.1 in
      let this : without_trade (worth id) traded ≡ leg_worth (noted book venue id exec (Bust cancelled)) id =
      ap (λ (w : Worth). without_trade w traded) (kept.legs id)
      ∙ (sym (worth_bust notes told cancelled (record { exec = cancelled; fill = traded }) refl refl stands under)
      ∙ sym (ap worth_in (this_notes book venue told id id refl (is_same_leg-refl id)))) in
      elim (cases_Bool (is_same_leg id other)) [
        | inl same ↦
            ap (λ b. if b then without_trade (worth id) traded else worth other) same
            ∙ (this ∙ ap (leg_worth (noted book venue id exec (Bust cancelled))) (is_same_leg-true id other same))
        | inr differs ↦
            ap (λ b. if b then without_trade (worth id) traded else worth other) differs
            ∙ (kept.legs other ∙ sym (others_worth book venue told id other refl differs))
      ]

  kept_bust_of : (found : Option FillParts) → fill id cancelled ≡ found
      → AreKept (noted book venue id exec (Bust cancelled)) (worth_after (bust_change id (worth id) found) worth)
      (fill_after (bust_change id (worth id) found) fill)
  kept_bust_of None is =
      let none = none_there cancelled (trades_in (notes_on id book.entries))
      (kept.trades id cancelled ∙ ap (listed cancelled) is) in
      let there = subst (λ (ts : List Traded). list_any (λ (trade : Traded). bytes_eq cancelled trade.exec) ts ≡ true)
      (moves_trades (notes_on id book.entries)) can.0 in
      absurd cc
  kept_bust_of (Some traded) is =
      let told : Note = note.Report (report_of id exec (Bust cancelled)) in
      record {
        legs = bust_legs traded is;
        trades = same_trades book venue told id (λ other. refl) refl worth fill kept;
      }

  kept_bust : AreKept (noted book venue id exec (Bust cancelled))
      (worth_after (report_change book worth fill venue id exec (Bust cancelled)) worth)
      (fill_after (report_change book worth fill venue id exec (Bust cancelled)) fill)
  kept_bust = kept_bust_of (fill id cancelled) refl

-- ---- any note

kept_report : (book : BookParts) (venue : ℕ) (id : LegIdParts) (exec : List ℕ) (kind : ReportKind)
    (worth : LegIdParts → Worth) (fill : LegIdParts → List ℕ → Option FillParts) → IsReplayed book
    → AreKept book worth fill → answer_to book venue (note.Report (report_of id exec kind)) ≡ applied.Moved
    → AreKept (noted book venue id exec kind) (worth_after (report_change book worth fill venue id exec kind) worth)
    (fill_after (report_change book worth fill venue id exec kind) fill)
kept_report book venue id exec New worth fill replays kept moved =
    kept_same book venue (note.Report (report_of id exec New)) id (λ other. refl) refl worth fill kept refl
kept_report book venue id exec (Trade traded) worth fill replays kept moved =
    kept_trade book venue id exec traded worth fill replays kept moved
kept_report book venue id exec Canceled worth fill replays kept moved =
    kept_same book venue (note.Report (report_of id exec Canceled)) id (λ other. refl) refl worth fill kept refl
kept_report book venue id exec Rejected worth fill replays kept moved =
    kept_same book venue (note.Report (report_of id exec Rejected)) id (λ other. refl) refl worth fill kept refl
kept_report book venue id exec Expired worth fill replays kept moved =
    kept_same book venue (note.Report (report_of id exec Expired)) id (λ other. refl) refl worth fill kept refl
kept_report book venue id exec (Bust cancelled) worth fill replays kept moved =
    kept_bust book venue id exec cancelled worth fill replays kept moved

report_kept : (book : BookParts) (venue : ℕ) (report : Report) (worth : LegIdParts → Worth)
    (fill : LegIdParts → List ℕ → Option FillParts) → IsReplayed book → AreKept book worth fill
    → answer_to book venue (note.Report report) ≡ applied.Moved
    → AreKept (written (Moved venue (note.Report report)) book)
    (worth_after (report_change book worth fill venue report.id report.exec report.kind) worth)
    (fill_after (report_change book worth fill venue report.id report.exec report.kind) fill)
report_kept book venue report worth fill replays kept moved =
    kept_report book venue report.id report.exec report.kind worth fill replays kept moved

refusal_kept : (book : BookParts) (venue : ℕ) (id : LegIdParts) (worth : LegIdParts → Worth)
    (fill : LegIdParts → List ℕ → Option FillParts) → AreKept book worth fill
    → AreKept (written (Moved venue (note.Refused id)) book) worth fill
refusal_kept book venue id worth fill kept =
    kept_same book venue (note.Refused id) id (λ other. refl) refl worth fill kept refl

pub note_kept : (book : BookParts) (venue : ℕ) (told : Note) (worth : LegIdParts → Worth)
    (fill : LegIdParts → List ℕ → Option FillParts) → IsReplayed book → AreKept book worth fill
    → answer_to book venue told ≡ applied.Moved
    → AreKept (written (Moved venue told) book) (worth_after (note_change book worth fill venue told) worth)
    (fill_after (note_change book worth fill venue told) fill)
note_kept book venue (note.Report report) worth fill replays kept moved =
    report_kept book venue report worth fill replays kept moved
note_kept book venue (note.Refused id) worth fill replays kept moved = refusal_kept book venue id worth fill kept
note_kept book venue (note.Unread fault) worth fill replays kept moved = absurd cc

-- ---- what is kept elsewhere

pub kept_as : (book after : BookParts) (worth worth' : LegIdParts → Worth)
    (fill fill' : LegIdParts → List ℕ → Option FillParts) → after ≡ book → ((id : LegIdParts) → worth' id ≡ worth id)
    → ((id : LegIdParts) (exec : List ℕ) → fill' id exec ≡ fill id exec) → AreKept book worth fill
    → AreKept after worth' fill'
kept_as book after worth worth' fill fill' is legs trades kept =
    subst (λ (b : BookParts). AreKept b worth' fill') (sym is) (record {
      legs = λ id. legs id ∙ kept.legs id;
      trades = λ id exec. kept.trades id exec ∙ ap (listed exec) (sym (trades id exec));
    })
