-- In a book that the calls made, the reports of trades and of busted trades were booked for the leg's venue. So a note
-- that moves does to the leg's parts what the calls of a split do.
use Rattle.std.proofs.Common.{◌≡◌, ℕ, Bool, true, false, not, ◌||◌, List, [], ◌∷◌, ◌++◌, map, Option, Some, None, refl, ap, sym, ◌∙◌, subst, inl, inr}
use Rattle.std.specs.Prelude.{bytes_eq}
use Rattle.std.specs.List.{list_any, AllByRecursion}
use Rattle.std.proofs.lemmas.Bool.{cases_Bool, and_parts, or_left, eqb-true}
use Rattle.std.proofs.lemmas.List.{map-append, append-nil}
use Rattle.std.proofs.lemmas.Slice.Eq.{bytes_eq-Decides}
use Rattle.leg.specs.LegId.{LegIdParts}
use Rattle.leg.specs.declared.sweep.Sweep.{Sweep}
use Rattle.leg.specs.declared.sweep.Routed.{Routed}
use Rattle.dialect.specs.declared.note.Note.{Note}
use Rattle.dialect.specs.declared.note.Note.TheVariants as note
use Rattle.dialect.specs.declared.report.ReportKind.{ReportKind}
use Rattle.dialect.specs.declared.report.ReportKind.TheVariants.{New, Trade, Canceled, Rejected, Expired, Bust}
use Rattle.share_ledger.specs.declared.applied.Applied.{Applied}
use Rattle.share_ledger.specs.declared.applied.Applied.TheVariants as applied
use Rattle.share_ledger.specs.declared.book_entry.BookEntry.{BookEntry}
use Rattle.share_ledger.specs.declared.book_entry.BookEntry.TheVariants.{Opened, Withdrawn, Moved}
use Rattle.share_ledger.specs.Entries.{order_of, is_same_leg, is_about, notes_on, is_booked}
use Rattle.share_ledger.specs.Shares.{Traded, Move, Trades, Busts, Ends, Tells, move_of, move_of_kind, trades, busted_ids, has_id}
use Rattle.share_ledger.specs.Book.{BookParts, new_book, written, moves_on, leg_parts, move_answer, can_bust, answer_to, after_note, again, replay}
use Rattle.share_ledger.proofs.ShareSums.{trades-append}
use Rattle.share_ledger.proofs.OneMore.{notes_on-opened, notes_on-withdrawn, notes_on-this, notes_on-other, is_same_leg-true, order_of-opened, order_of-withdrawn, order_of-moved, is_booked-append}
use Rattle.share_ledger.proofs.Outcomes.{again_outcome}
use Rattle.share_ledger.proofs.Repeats.{booked_now}
use Rattle.share_ledger.proofs.Sound.{IsSound, LetIn, let_in, let_in_bust, sound-new, sound-again}
use Rattle.share_ledger.proofs.Steps.{IsNamed, busted_ids-append}

weaker : {X : Type 0} (P Q : X → Type 0) → ((x : X) → P x → Q x) → (xs : List X) → AllByRecursion P xs
    → AllByRecursion Q xs
weaker P Q f [] all = tt
weaker P Q f (x ∷ xs) all = (f x all.0, weaker P Q f xs all.1)

all-push : {X : Type 0} (P : X → Type 0) (xs : List X) (x : X) → AllByRecursion P xs → P x
    → AllByRecursion P (xs ++ x ∷ [])
all-push P [] x all p = (p, tt)
all-push P (y ∷ xs) x all p = (all.0, all-push P xs x all.1 p)

named-weaker : (booked booked' : List ℕ → Bool) (moves : List Move)
    → ((x : List ℕ) → booked x ≡ true → booked' x ≡ true) → IsNamed booked moves → IsNamed booked' moves
named-weaker booked booked' moves more h =
    record {
      all_trades = weaker (λ t. booked t.exec ≡ true) (λ t. booked' t.exec ≡ true) (λ t. more t.exec)
          (trades moves) h.all_trades;
      all_busts = weaker (λ x. booked x ≡ true) (λ x. booked' x ≡ true) more (busted_ids moves) h.all_busts;
    }

named_at : (booked booked' : List ℕ → Bool) (notes notes' : List Note) → notes' ≡ notes
    → ((x : List ℕ) → booked x ≡ true → booked' x ≡ true) → IsNamed booked (map move_of notes)
    → IsNamed booked' (map move_of notes')
named_at booked booked' notes notes' e more h = subst (λ ns. IsNamed booked' (map move_of ns)) (sym e)
    (named-weaker booked booked' (map move_of notes) more h)

named-move : (booked : List ℕ → Bool) (moves : List Move) (move : Move) → IsNamed booked moves
    → ((trade : Traded) → move ≡ Trades trade → booked trade.exec ≡ true)
    → ((exec : List ℕ) → move ≡ Busts exec → booked exec ≡ true) → IsNamed booked (moves ++ move ∷ [])
named-move booked moves (Trades trade) h of_trade of_bust =
    record {
      all_trades = subst (AllByRecursion (λ t. booked t.exec ≡ true)) (sym (trades-append moves (Trades trade ∷ [])))
          (all-push (λ t. booked t.exec ≡ true) (trades moves) trade h.all_trades (of_trade trade refl));
      all_busts = subst (AllByRecursion (λ x. booked x ≡ true))
          (sym (busted_ids-append moves (Trades trade ∷ []) ∙ append-nil (busted_ids moves))) h.all_busts;
    }
named-move booked moves (Busts exec) h of_trade of_bust =
    record {
      all_trades = subst (AllByRecursion (λ t. booked t.exec ≡ true))
          (sym (trades-append moves (Busts exec ∷ []) ∙ append-nil (trades moves))) h.all_trades;
      all_busts = subst (AllByRecursion (λ x. booked x ≡ true)) (sym (busted_ids-append moves (Busts exec ∷ [])))
          (all-push (λ x. booked x ≡ true) (busted_ids moves) exec h.all_busts (of_bust exec refl));
    }
named-move booked moves Ends h of_trade of_bust =
    record {
      all_trades = subst (AllByRecursion (λ t. booked t.exec ≡ true))
          (sym (trades-append moves (Ends ∷ []) ∙ append-nil (trades moves))) h.all_trades;
      all_busts = subst (AllByRecursion (λ x. booked x ≡ true))
          (sym (busted_ids-append moves (Ends ∷ []) ∙ append-nil (busted_ids moves))) h.all_busts;
    }
named-move booked moves Tells h of_trade of_bust =
    record {
      all_trades = subst (AllByRecursion (λ t. booked t.exec ≡ true))
          (sym (trades-append moves (Tells ∷ []) ∙ append-nil (trades moves))) h.all_trades;
      all_busts = subst (AllByRecursion (λ x. booked x ≡ true))
          (sym (busted_ids-append moves (Tells ∷ []) ∙ append-nil (busted_ids moves))) h.all_busts;
    }

-- the id of a trade on the leg was booked
pub any_booked : (booked : List ℕ → Bool) (exec : List ℕ) (ts : List Traded)
    → AllByRecursion (λ t. booked t.exec ≡ true) ts → list_any (λ t. bytes_eq exec t.exec) ts ≡ true
    → booked exec ≡ true
any_booked booked exec [] all e = cc
any_booked booked exec (t ∷ ts) all e =
    elim (cases_Bool (bytes_eq exec t.exec)) [
      | inl same ↦ subst (λ x. booked x ≡ true) (sym ((bytes_eq-Decides exec t.exec).0 same)) all.0
      | inr other ↦ any_booked booked exec ts all.1
          (sym (ap (λ b. b || list_any (λ x. bytes_eq exec x.exec) ts) other) ∙ e)
    ]

pub record IsTold (book : BookParts) : Type 0 where
  pub named : (id : LegIdParts) (routed : Routed) → order_of id book.entries ≡ Some routed
      → IsNamed (λ exec. is_booked routed.venue exec book.entries) (moves_on id book)

still_booked : (venue : ℕ) (exec : List ℕ) (entries : List BookEntry) (more : BookEntry)
    → is_booked venue exec entries ≡ true → is_booked venue exec (entries ++ more ∷ []) ≡ true
still_booked venue exec entries more e = is_booked-append venue exec entries (more ∷ [])
    ∙ or_left (is_booked venue exec entries) _ e

named-nothing : (booked : List ℕ → Bool) (notes : List Note) → notes ≡ [] → IsNamed booked (map move_of notes)
named-nothing booked notes e = let none : IsNamed booked [] = record { all_trades = tt; all_busts = tt } in subst
    (λ ns. IsNamed booked (map move_of ns)) (sym e) none

told-opened_at : (book : BookParts) (sweep : Sweep) → IsSound book → IsTold book
    → (id : LegIdParts) (routed : Routed) (old : Option Routed) → order_of id book.entries ≡ old
    → order_of id (book.entries ++ Opened sweep ∷ []) ≡ Some routed
    → IsNamed (λ exec. is_booked routed.venue exec (book.entries ++ Opened sweep ∷ []))
    (map move_of (notes_on id (book.entries ++ Opened sweep ∷ [])))
told-opened_at book sweep sound told id routed (Some before) h e =
    let stays : order_of id
    (book.entries ++ Opened sweep ∷ []) ≡ Some before = order_of-opened id book.entries sweep before h in
    let same : before ≡ routed = cc in
    subst (λ r. IsNamed (λ exec. is_booked r.venue exec (book.entries ++ Opened sweep ∷ []))
    (map move_of (notes_on id (book.entries ++ Opened sweep ∷ [])))) same
    (named_at (λ exec. is_booked before.venue exec book.entries)
    (λ exec. is_booked before.venue exec (book.entries ++ Opened sweep ∷ [])) (notes_on id book.entries)
    (notes_on id (book.entries ++ Opened sweep ∷ []))
    (notes_on-opened id book.entries sweep) (λ exec. still_booked before.venue exec book.entries (Opened sweep))
    (told.named id before h))
told-opened_at book sweep sound told id routed None h e =
    named-nothing (λ exec. is_booked routed.venue exec (book.entries ++ Opened sweep ∷ []))
    (notes_on id (book.entries ++ Opened sweep ∷ []))
    (notes_on-opened id book.entries sweep ∙ (sound.untouched id h).1)

told-opened : (book : BookParts) (sweep : Sweep) → IsSound book → IsTold book → IsTold (written (Opened sweep) book)
told-opened book sweep sound told = record
    { named = λ id routed e. told-opened_at book sweep sound told id routed (order_of id book.entries) refl e }

told-withdrawn : (book : BookParts) (leg : LegIdParts) → IsTold book → IsTold (written (Withdrawn leg) book)
told-withdrawn book leg told =
    record {
      named = λ id routed e.
          named_at (λ exec. is_booked routed.venue exec book.entries)
          (λ exec. is_booked routed.venue exec (book.entries ++ Withdrawn leg ∷ [])) (notes_on id book.entries)
          (notes_on id (book.entries ++ Withdrawn leg ∷ []))
          (notes_on-withdrawn id leg book.entries) (λ exec. still_booked routed.venue exec book.entries (Withdrawn leg))
          (told.named id routed (sym (order_of-withdrawn id leg book.entries) ∙ e));
    }

-- the trade of a report is under the report's id
pub trade_exec : (exec : List ℕ) (kind : ReportKind) (trade : Traded) → move_of_kind exec kind ≡ Trades trade
    → exec ≡ trade.exec
trade_exec exec New trade e = cc
trade_exec exec (Trade fill) trade e =
    let made : Traded = record { exec = exec; shares = fill.shares } in
    let same : made ≡ trade = cc in ap (λ t. t.exec) same
trade_exec exec Canceled trade e = cc
trade_exec exec Rejected trade e = cc
trade_exec exec Expired trade e = cc
trade_exec exec (Bust cancelled_id) trade e = cc

booked_trade : (venue : ℕ) (note : Note) (entries : List BookEntry) (trade : Traded) → move_of note ≡ Trades trade
    → is_booked venue trade.exec (entries ++ Moved venue note ∷ []) ≡ true
booked_trade venue (note.Report report) entries trade e =
    subst (λ x. is_booked venue x (entries ++ Moved venue (note.Report report) ∷ []) ≡ true)
    (trade_exec report.exec report.kind trade e) (booked_now venue report entries)
booked_trade venue (note.Refused id) entries trade e = cc
booked_trade venue (note.Unread fault) entries trade e = cc

bust_booked : (booked : List ℕ → Bool) (open_shares : ℕ) (moves : List Move) (exec : List ℕ) → IsNamed booked moves
    → move_answer open_shares moves (Busts exec) ≡ applied.Moved → booked exec ≡ true
bust_booked booked open_shares moves exec h e =
    any_booked booked exec (trades moves) h.all_trades
    (and_parts (list_any (λ trade. bytes_eq exec trade.exec) (trades moves)) (not (has_id exec (busted_ids moves)))
    (let_in_bust (can_bust exec moves) e)).0

module _ (book : BookParts) (venue : ℕ) (note : Note) (leg : LegIdParts)
    (about : (k : LegIdParts) → is_about k note ≡ is_same_leg leg k) (duplicate : Bool)
    (it : LetIn book venue duplicate leg (move_of note)) (told : IsTold book) where
  told-this : IsNamed (λ exec. is_booked venue exec (book.entries ++ Moved venue note ∷ []))
      (map move_of (notes_on leg book.entries ++ note ∷ []))
  told-this =
      let booked : List ℕ → Bool = λ exec. is_booked venue exec (book.entries ++ Moved venue note ∷ []) in
      let before : IsNamed (λ exec. is_booked venue exec book.entries) (moves_on leg book) =
      subst (λ v. IsNamed (λ exec. is_booked v exec book.entries) (moves_on leg book))
      (eqb-true it.order.venue venue it.of_venue) (told.named leg it.order it.found) in
      let now : IsNamed booked (moves_on leg book) = named-weaker (λ exec. is_booked venue exec book.entries) booked
      (moves_on leg book) (λ exec. still_booked venue exec book.entries (Moved venue note)) before in
      let open_shares = (leg_parts leg it.order.terms.shares book).still_open in
      subst (IsNamed booked) (sym (map-append move_of (notes_on leg book.entries) (note ∷ [])))
      (named-move booked (moves_on leg book) (move_of note) now
      (λ trade e. booked_trade venue note book.entries trade e)
      (λ exec e. bust_booked booked open_shares (moves_on leg book) exec now
      (subst (λ m. move_answer open_shares (moves_on leg book) m ≡ applied.Moved) e it.possible)))

  told-moved_at : (id : LegIdParts) (routed : Routed) → order_of id book.entries ≡ Some routed
      → IsNamed (λ exec. is_booked routed.venue exec (book.entries ++ Moved venue note ∷ []))
      (map move_of (notes_on id (book.entries ++ Moved venue note ∷ [])))
  told-moved_at id routed e =
      elim (cases_Bool (is_same_leg leg id)) [
        | inl same ↦
            (let path = is_same_leg-true leg id same in
            let here : order_of leg book.entries ≡ Some routed = subst (λ k. order_of k book.entries ≡ Some routed)
            (sym path) e in
            let found = it.found in
            let order = it.order in
            let same_order : it.order ≡ routed = cc in
            let of_venue : venue ≡ routed.venue = sym (eqb-true it.order.venue venue it.of_venue)
            ∙ ap (λ r. r.venue) same_order in
            let notes : notes_on id (book.entries ++ Moved venue note ∷ []) ≡ notes_on leg book.entries ++ note ∷ [] =
            notes_on-this id book.entries venue note (about id ∙ same)
            ∙ ap (λ k. notes_on k book.entries ++ note ∷ []) (sym path) in
            subst (λ ns. IsNamed (λ exec. is_booked routed.venue exec (book.entries ++ Moved venue note ∷ []))
            (map move_of ns)) (sym notes)
            (subst (λ v. IsNamed (λ exec. is_booked v exec (book.entries ++ Moved venue note ∷ []))
            (map move_of (notes_on leg book.entries ++ note ∷ []))) of_venue told-this))
        | inr other ↦
            named_at (λ exec. is_booked routed.venue exec book.entries)
            (λ exec. is_booked routed.venue exec (book.entries ++ Moved venue note ∷ [])) (notes_on id book.entries)
            (notes_on id (book.entries ++ Moved venue note ∷ []))
            (notes_on-other id book.entries venue note (about id ∙ other))
            (λ exec. still_booked routed.venue exec book.entries (Moved venue note)) (told.named id routed e)
      ]

  told-moved : IsTold (written (Moved venue note) book)
  told-moved = record {
    named = λ id routed e. told-moved_at id routed
        (sym (order_of-moved id book.entries venue note) ∙ e);
  }

told-after_note : (book : BookParts) (venue : ℕ) (note : Note) → answer_to book venue note ≡ applied.Moved → IsTold book
    → IsTold (written (Moved venue note) book)
told-after_note book venue (note.Report report) e told =
    told-moved book venue (note.Report report) report.id (λ k. refl) (is_booked venue report.exec book.entries)
    (let_in book venue (is_booked venue report.exec book.entries) (move_of (note.Report report)) report.id
    (order_of report.id book.entries) refl e) told
told-after_note book venue (note.Refused id) e told =
    told-moved book venue (note.Refused id) id (λ k. refl) false
    (let_in book venue false (move_of (note.Refused id)) id (order_of id book.entries) refl e) told
told-after_note book venue (note.Unread fault) e told = cc

told-note : (book : BookParts) (venue : ℕ) (note : Note) (answer : Applied) → answer_to book venue note ≡ answer
    → IsTold book → IsTold (after_note book venue note answer)
told-note book venue note applied.Moved e told = told-after_note book venue note e told
told-note book venue note applied.Duplicate e told = told
told-note book venue note applied.Overfill e told = told
told-note book venue note applied.Stray e told = told

told-again : (book : BookParts) (entry : BookEntry) → IsSound book → IsTold book → IsTold (again book entry)
told-again book (Opened sweep) sound told =
    elim (again_outcome book (Opened sweep)) [
      | inl writes ↦ subst IsTold (sym writes) (told-opened book sweep sound told)
      | inr same ↦ subst IsTold (sym same) told
    ]
told-again book (Withdrawn id) sound told =
    elim (again_outcome book (Withdrawn id)) [
      | inl writes ↦ subst IsTold (sym writes) (told-withdrawn book id told)
      | inr same ↦ subst IsTold (sym same) told
    ]
told-again book (Moved venue note) sound told = told-note book venue note (answer_to book venue note) refl told

told-new : (venues : ℕ) → IsTold (new_book venues)
told-new venues = record { named = λ id routed e. record { all_trades = tt; all_busts = tt } }

told-from : (book : BookParts) (entries : List BookEntry) → IsSound book → IsTold book → IsTold (replay book entries)
told-from book [] sound told = told
told-from book (entry ∷ entries) sound told = told-from (again book entry) entries (sound-again book entry sound)
    (told-again book entry sound told)

pub told-replay : (venues : ℕ) (entries : List BookEntry) → IsTold (replay (new_book venues) entries)
told-replay venues entries = told-from (new_book venues) entries (sound-new venues) (told-new venues)
