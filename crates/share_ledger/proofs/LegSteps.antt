-- The book's calls do to a leg's five parts what the calls of a split do.
use Rattle.std.proofs.Common.{◌≡◌, ℕ, Bool, true, false, List, [], ◌∷◌, ◌++◌, map, Some, None, Ok, Err, refl, ap, sym, ◌∙◌, subst, arith, if◌then◌else◌}
use Rattle.std.specs.Prelude.{◌==◌, IsOk}
use Rattle.std.proofs.lemmas.Bool.{eqb-true, eq-eqb}
use Rattle.std.proofs.lemmas.List.{map-append}
use Rattle.leg.specs.LegId.{LegIdParts}
use Rattle.leg.specs.Split.{leg_shares, all_open, split_withdraw}
use Rattle.leg.specs.declared.sweep.Routed.{Routed}
use Rattle.dialect.specs.declared.note.Note.{Note}
use Rattle.dialect.specs.declared.note.Note.TheVariants as note
use Rattle.share_ledger.specs.declared.applied.Applied.TheVariants as applied
use Rattle.share_ledger.specs.declared.book_entry.BookEntry.{BookEntry}
use Rattle.share_ledger.specs.declared.book_entry.BookEntry.TheVariants.{Withdrawn, Moved}
use Rattle.share_ledger.specs.declared.book_fault.BookFault.TheVariants.{AlreadyMoved}
use Rattle.share_ledger.specs.Entries.{order_of, is_same_leg, is_withdrawn, leg_of_note, is_about, notes_on, is_booked}
use Rattle.share_ledger.specs.Shares.{Traded, Move, Trades, move_of, is_busted, busted_ids, parts_of}
use Rattle.share_ledger.specs.Book.{BookParts, BookAnswer, new_book, written, moves_on, leg_parts, move_answer, answer_to, after_note, apply, withdraw, withdraw_order, replay}
use Rattle.share_ledger.specs.Steps.{split_step}
use Rattle.share_ledger.proofs.ShareSums.{IsWithin, filled_and_busted, leg_shares-parts_of}
use Rattle.share_ledger.proofs.OneMore.{is_withdrawn-moved, is_withdrawn-this, notes_on-this, notes_on-withdrawn, is_same_leg-refl}
use Rattle.share_ledger.proofs.Outcomes.{answered}
use Rattle.share_ledger.proofs.Sound.{IsSound, LetIn, let_in, sound-new, sound-replay}
use Rattle.share_ledger.proofs.Steps.{new_id, same_split, step_is}
use Rattle.share_ledger.proofs.Told.{IsTold, told-replay, trade_exec}

module _ (book : BookParts) (venue : ℕ) (note : Note) (leg : LegIdParts)
    (about : (k : LegIdParts) → is_about k note ≡ is_same_leg leg k) (duplicate : Bool)
    (it : LetIn book venue duplicate leg (move_of note))
    (fresh : (trade : Traded) → move_of note ≡ Trades trade → is_booked venue trade.exec book.entries ≡ false)
    (sound : IsSound book) (told : IsTold book) where
  unbusted : (trade : Traded) → move_of note ≡ Trades trade → is_busted (moves_on leg book) trade ≡ false
  unbusted trade e =
      let named = told.named leg it.order it.found in
      let free : is_booked it.order.venue trade.exec book.entries ≡ false = subst
      (λ v. is_booked v trade.exec book.entries ≡ false) (sym (eqb-true it.order.venue venue it.of_venue))
      (fresh trade e) in
      new_id (λ exec. is_booked it.order.venue exec book.entries) trade.exec
      (busted_ids (moves_on leg book)) free named.all_busts

  step_at : split_step (moves_on leg book) (move_of note)
      (leg_parts leg it.order.terms.shares book) ≡
      (Ok tt, leg_parts leg it.order.terms.shares (written (Moved venue note) book))
  step_at =
      let shares = it.order.terms.shares in
      let moves = moves_on leg book in
      let before : leg_parts leg shares book ≡ parts_of shares false moves = ap (λ b. parts_of shares b moves)
      it.there in
      let gone : is_withdrawn leg
      (book.entries ++ Moved venue note ∷ []) ≡ false = is_withdrawn-moved leg book.entries venue note ∙ it.there in
      let notes : map move_of (notes_on leg (book.entries ++ Moved venue note ∷ [])) ≡ moves ++ move_of note ∷ [] =
      ap (map move_of) (notes_on-this leg book.entries venue note (about leg ∙ is_same_leg-refl leg))
      ∙ map-append move_of (notes_on leg book.entries) (note ∷ []) in
      let after : leg_parts leg shares (written (Moved venue note) book) ≡ parts_of shares false
      (moves ++ move_of note ∷ []) =
      ap (λ b. parts_of shares b (map move_of (notes_on leg (book.entries ++ Moved venue note ∷ [])))) gone
      ∙ ap (parts_of shares false) notes in
      let within : IsWithin shares false moves = subst (λ b. IsWithin shares b moves) it.there
      (sound.within leg it.order it.found) in
      let possible : move_answer (parts_of shares false moves).still_open moves
      (move_of note) ≡ applied.Moved = subst
      (λ b. move_answer (parts_of shares b moves).still_open moves (move_of note) ≡ applied.Moved) it.there
      it.possible in
      ap (split_step moves (move_of note)) before
      ∙ (step_is shares moves (move_of note) within unbusted possible
      ∙ ap (λ s. (Ok tt, s)) (sym after))

same_order : (leg : LegIdParts) (book : BookParts) (a b : Routed) → order_of leg book.entries ≡ Some a
    → order_of leg book.entries ≡ Some b → a ≡ b
same_order leg book a b e f = cc

pub note_step : (book : BookParts) (venue : ℕ) (note : Note) (id : LegIdParts) (routed : Routed) → IsSound book
    → IsTold book → leg_of_note note ≡ Some id → order_of id book.entries ≡ Some routed
    → answer_to book venue note ≡ applied.Moved
    → split_step (moves_on id book) (move_of note)
    (leg_parts id routed.terms.shares book) ≡
    (Ok tt, leg_parts id routed.terms.shares (written (Moved venue note) book))
note_step book venue (note.Report report) id routed sound told of_leg found moved =
    let this : report.id ≡ id = cc in
    let duplicate = is_booked venue report.exec book.entries in
    let it = let_in book venue duplicate (move_of (note.Report report)) report.id
    (order_of report.id book.entries) refl moved in
    let here : order_of report.id book.entries ≡ Some routed = subst (λ k. order_of k book.entries ≡ Some routed)
    (sym this) found in
    let order = same_order report.id book it.order routed it.found here in
    let fresh : (trade : Traded) → move_of (note.Report report) ≡ Trades trade
    → is_booked venue trade.exec book.entries ≡ false = λ trade e. subst
    (λ x. is_booked venue x book.entries ≡ false) (trade_exec report.exec report.kind trade e) it.fresh in
    subst (λ k. split_step (moves_on k book) (move_of (note.Report report))
    (leg_parts k routed.terms.shares book) ≡
    (Ok tt, leg_parts k routed.terms.shares (written (Moved venue (note.Report report)) book))) this
    (subst (λ r. split_step (moves_on report.id book) (move_of (note.Report report))
    (leg_parts report.id r.terms.shares book) ≡
    (Ok tt, leg_parts report.id r.terms.shares (written (Moved venue (note.Report report)) book))) order
    (step_at book venue (note.Report report) report.id (λ k. refl) duplicate it fresh sound told))
note_step book venue (note.Refused leg) id routed sound told of_leg found moved =
    let this : leg ≡ id = cc in
    let it = let_in book venue false (move_of (note.Refused leg)) leg (order_of leg book.entries) refl moved in
    let here : order_of leg book.entries ≡ Some routed = subst (λ k. order_of k book.entries ≡ Some routed)
    (sym this) found in
    let order = same_order leg book it.order routed it.found here in
    let fresh : (trade : Traded) → move_of (note.Refused leg) ≡ Trades trade
    → is_booked venue trade.exec book.entries ≡ false = λ trade e. cc in
    subst (λ k. split_step (moves_on k book) (move_of (note.Refused leg))
    (leg_parts k routed.terms.shares book) ≡
    (Ok tt, leg_parts k routed.terms.shares (written (Moved venue (note.Refused leg)) book))) this
    (subst (λ r. split_step (moves_on leg book) (move_of (note.Refused leg))
    (leg_parts leg r.terms.shares book) ≡
    (Ok tt, leg_parts leg r.terms.shares (written (Moved venue (note.Refused leg)) book))) order
    (step_at book venue (note.Refused leg) leg (λ k. refl) false it fresh sound told))
note_step book venue (note.Unread fault) id routed sound told of_leg found moved = cc

pub steps-apply : (venues : ℕ) (entries : List BookEntry) (venue : ℕ) (note : Note) (id : LegIdParts) (routed : Routed)
    → leg_of_note note ≡ Some id → order_of id (replay (new_book venues) entries).entries ≡ Some routed
    → (apply (replay (new_book venues) entries) venue note).0 ≡ Ok applied.Moved
    → split_step (moves_on id (replay (new_book venues) entries)) (move_of note)
    (leg_parts id routed.terms.shares (replay (new_book venues) entries)) ≡
    (Ok tt, leg_parts id routed.terms.shares (apply (replay (new_book venues) entries) venue note).1)
steps-apply venues entries venue note id routed of_leg found ok =
    let book = replay (new_book venues) entries in
    let moved = answered (answer_to book venue note) applied.Moved ok in
    note_step book venue note id routed (sound-replay (new_book venues) entries (sound-new venues))
    (told-replay venues entries) of_leg found moved
    ∙ ap (λ answer. (Ok tt, leg_parts id routed.terms.shares (after_note book venue note answer))) (sym moved)

-- a leg that wasn't opened has nothing booked
pub steps-new : (venues : ℕ) (entries : List BookEntry) (id : LegIdParts) (shares : ℕ)
    → order_of id (replay (new_book venues) entries).entries ≡ None
    → leg_parts id shares (replay (new_book venues) entries) ≡ all_open shares
steps-new venues entries id shares none =
    let sound = sound-replay (new_book venues) entries (sound-new venues) in
    let book = replay (new_book venues) entries in
    let nothing = sound.untouched id none in
    let empty : leg_parts id shares book ≡ parts_of shares false [] =
    ap (λ b. parts_of shares b (moves_on id book)) nothing.0
    ∙ ap (λ ns. parts_of shares false (map move_of ns)) nothing.1 in
    empty ∙ same_split (parts_of shares false []) (all_open shares) refl refl refl refl (omega arith)

-- a withdrawal takes all shares
withdraw_split : (shares : ℕ) (gone : Bool) (moves : List Move) → IsWithin shares gone moves
    → (parts_of shares gone moves).still_open ≡ shares
    → split_withdraw (parts_of shares gone moves) ≡ (Ok tt, parts_of shares true moves)
withdraw_split shares gone moves h all_there =
    let within = h.within in
    let both = filled_and_busted moves in
    let adds = leg_shares-parts_of shares gone moves h in
    let test : ((parts_of shares gone moves).still_open == leg_shares (parts_of shares gone moves)) ≡ true =
    eq-eqb (parts_of shares gone moves).still_open (leg_shares (parts_of shares gone moves)) (all_there ∙ sym adds) in
    rw test (ap (λ s. (Ok tt, s))
    (same_split _ (parts_of shares true moves) refl refl refl all_there (omega (arith, within, both, all_there))))

withdraw_step : (b : Bool) (book : BookParts) (id : LegIdParts)
    → (let r : BookAnswer = if b then (Ok tt, written (Withdrawn id) book) else (Err AlreadyMoved, book) in IsOk r.0
    → (b ≡ true) × (r.1 ≡ written (Withdrawn id) book))
withdraw_step true book id = λ h. (refl, refl)
withdraw_step false book id = λ h. cc

pub withdraw_found : (book : BookParts) (id : LegIdParts) (routed : Routed) → IsSound book
    → order_of id book.entries ≡ Some routed → IsOk (withdraw_order book id (Some routed)).0
    → split_withdraw (leg_parts id routed.terms.shares book) ≡
    (Ok tt, leg_parts id routed.terms.shares (withdraw_order book id (Some routed)).1)
withdraw_found book id routed sound found ok =
    let shares = routed.terms.shares in
    let done = withdraw_step ((leg_parts id shares book).still_open == shares) book id ok in
    let all_there = eqb-true (leg_parts id shares book).still_open shares done.0 in
    let gone : is_withdrawn id (book.entries ++ Withdrawn id ∷ []) ≡ true = is_withdrawn-this id id book.entries
    (is_same_leg-refl id) in
    let after : leg_parts id shares (written (Withdrawn id) book) ≡ parts_of shares true (moves_on id book) =
    ap (λ b. parts_of shares b (map move_of (notes_on id (book.entries ++ Withdrawn id ∷ [])))) gone
    ∙ ap (λ ns. parts_of shares true (map move_of ns)) (notes_on-withdrawn id id book.entries) in
    withdraw_split shares (is_withdrawn id book.entries) (moves_on id book) (sound.within id routed found) all_there
    ∙ ap (λ s. (Ok tt, s)) (sym after ∙ ap (leg_parts id shares) (sym done.1))

pub steps-withdraw : (venues : ℕ) (entries : List BookEntry) (id : LegIdParts) (routed : Routed)
    → order_of id (replay (new_book venues) entries).entries ≡ Some routed
    → IsOk (withdraw (replay (new_book venues) entries) id).0
    → split_withdraw (leg_parts id routed.terms.shares (replay (new_book venues) entries)) ≡
    (Ok tt, leg_parts id routed.terms.shares (withdraw (replay (new_book venues) entries) id).1)
steps-withdraw venues entries id routed found ok =
    let book = replay (new_book venues) entries in
    let there : IsOk (withdraw_order book id (Some routed)).0 = subst (λ o. IsOk (withdraw_order book id o).0) found
    ok in
    withdraw_found book id routed (sound-replay (new_book venues) entries (sound-new venues)) found there
    ∙ ap (λ o. (Ok tt, leg_parts id routed.terms.shares (withdraw_order book id o).1)) (sym found)
