-- What is kept beside the counted book, as a note is given.
use Rattle.std.proofs.Common.{◌≡◌, ℕ, ◌+◌, ◌-◌, List, [], ◌∷◌, ◌++◌, length, take, min, refl, ap, sym, subst, ◌∙◌, arith}
use Rattle.std.specs.Prelude.{Option, Some, None, Result, IfSome, IsSome}
use Rattle.std.proofs.lemmas.List.{length-append}
use Rattle.leg.specs.LegId.{LegIdParts}
use Rattle.dialect.specs.declared.note.Note.{Note}
use Rattle.leg_worth.specs.declared.change.WorthChange.{WorthChange}
use Rattle.leg_worth.proofs.Moving.{kept_as, note_kept}
use Rattle.leg_worth.specs.Kept.{AreKept, AreWorths, worth_at, fill_at, worth_after, fill_after, note_change}
use Rattle.report_words.specs.declared.report_words.ReportWords.{ReportWords}
use Rattle.share_ledger.specs.declared.applied.Applied.{Applied}
use Rattle.share_ledger.specs.declared.applied.Applied.TheVariants as applied
use Rattle.share_ledger.specs.declared.book_entry.BookEntry.TheVariants.{Moved}
use Rattle.share_ledger.specs.declared.book_fault.BookFault.{BookFault}
use Rattle.share_ledger.specs.Book.{BookParts, BookAnswer, answer_to, after_note, new_book, written}
use Rattle.exec_collector.specs.declared.beside.Beside.{Beside}
use Rattle.exec_collector.specs.Beside.{SameBeside, IsBeside, change_if}
use Rattle.exec_collector.specs.declared.unbooked.Unbooked.{Unbooked}
use Rattle.exec_collector.specs.Day.{AreDisputed, added, notes_written, disputed, disputed_at, disputed_by}
use Rattle.exec_collector.specs.Booked.{withdraw_of}
use Rattle.exec_collector.specs.Resolved.{OnlyOpens, Replays}
use Rattle.exec_collector.specs.Unbooked.{CountedParts, after_given}
use Rattle.exec_collector.proofs.Disputing.{added_up}
use Rattle.exec_collector.proofs.Day.{count_given, count_asked, count_opened, disputed_given, kept_asked, kept_lent, taken_back}

pub same_twice : (a b c : Beside) → SameBeside a b → SameBeside b c → SameBeside a c
same_twice a b c first second = record {
  legs = λ id. second.legs id ∙ first.legs id;
  trades = λ id exec. second.trades id exec ∙ first.trades id exec;
  disputed = λ id. second.disputed id ∙ first.disputed id;
}

-- nothing was given
pub beside_same : (counted after : CountedParts) (a b : Beside) → after ≡ counted → SameBeside a b → b.words ≡ a.words
    → IsBeside counted a → IsBeside after b
beside_same counted after a b is same words kept =
    subst (λ (c : CountedParts). IsBeside c b) (sym is) (record {
      words = ap length words ∙ kept.words;
      worths = kept_as counted.book counted.book (worth_at a.worths) (worth_at b.worths) (fill_at a.worths)
          (fill_at b.worths) refl same.legs same.trades kept.worths;
      disputed = λ id. same.disputed id ∙ kept.disputed id;
    })

-- the last words were taken back
last_of : {A : Type 0} (xs : List A) (x : A) → take (length (xs ++ x ∷ []) - 1) (xs ++ x ∷ []) ≡ xs
last_of xs x =
    let longer = length-append xs (x ∷ []) in
    let count : length (xs ++ x ∷ []) - 1 ≡ length xs = omega (arith, longer) in
    ap (λ (n : ℕ). take n (xs ++ x ∷ [])) count ∙ taken_back xs x

pub words_back : (before kept now : List ReportWords) (w : ReportWords) → kept ≡ before ++ w ∷ []
    → now ≡ take (length kept - 1) kept → now ≡ before
words_back before kept now w is back = back
    ∙ (ap (λ (l : List ReportWords). take (length l - 1) l) is ∙ last_of before w)

-- a note was given, and what it changes was settled
module _ (counted after : CountedParts) (venue : ℕ) (note : Note) (answer : Applied) (change : Option WorthChange)
    (a b c : Beside) (w : ReportWords) (kept : IsBeside counted a) (same : SameBeside a b)
    (answered : answer ≡ answer_to counted.book venue note)
    (is : after ≡ after_given counted venue note (answer_to counted.book venue note)) where
  kept_unmoved : AreKept counted.book (worth_at b.worths) (fill_at b.worths)
  kept_unmoved = kept_as counted.book counted.book (worth_at a.worths) (worth_at b.worths) (fill_at a.worths)
      (fill_at b.worths) refl same.legs same.trades kept.worths

  kept_by : (said : Applied) → said ≡ answer_to counted.book venue note
      → (answer_to counted.book venue note ≡ applied.Moved
      → AreKept (written (Moved venue note) counted.book) (worth_after change (worth_at b.worths))
      (fill_after change (fill_at b.worths)))
      → AreKept (after_note counted.book venue note said) (worth_after (change_if said change) (worth_at b.worths))
      (fill_after (change_if said change) (fill_at b.worths))
  kept_by applied.Moved says moves = moves (sym says)
  kept_by applied.Duplicate says moves = kept_unmoved
  kept_by applied.Overfill says moves = kept_unmoved
  kept_by applied.Stray says moves = kept_unmoved

  pub beside_given : Replays counted.book → b.words ≡ a.words ++ w ∷ []
      → change ≡ note_change counted.book (worth_at b.worths) (fill_at b.worths) venue note → c.words ≡ b.words
      → ((id : LegIdParts) → worth_at c.worths id ≡ worth_after (change_if answer change) (worth_at b.worths) id)
      → ((id : LegIdParts) (exec : List ℕ)
      → fill_at c.worths id exec ≡ fill_after (change_if answer change) (fill_at b.worths) id exec)
      → ((id : LegIdParts)
      → disputed_at c.disputed id ≡ added (disputed_at b.disputed id) (disputed_by id note answer))
      → IsBeside after c
  beside_given replays more changes words legs trades disputes = record {
    words =
        (let count = count_given counted after venue note is in
        let longer = length-append a.words (w ∷ []) in
        let all = ap length words in
        let one = ap length more in
        let were = kept.words in
        omega (arith, count, longer, all, one, were));
    worths = kept_as (after_note counted.book venue note answer) after.book
        (worth_after (change_if answer change) (worth_at b.worths)) (worth_at c.worths)
        (fill_after (change_if answer change) (fill_at b.worths)) (fill_at c.worths)
        (ap (λ (d : CountedParts). d.book) is ∙ ap (after_note counted.book venue note) (sym answered)) legs trades
        (kept_by answer answered (λ moved.
        subst (λ (made : Option WorthChange). AreKept (written (Moved venue note) counted.book)
        (worth_after made (worth_at b.worths)) (fill_after made (fill_at b.worths))) (sym changes)
        (note_kept counted.book venue note (worth_at b.worths) (fill_at b.worths) replays kept_unmoved moved)));
    disputed = λ id.
        ((disputes id ∙ ap (λ (n : ℕ). added n (disputed_by id note answer))
        (same.disputed id ∙ kept.disputed id))
        ∙ (added_up (disputed id counted.unbooked) (disputed_by id note answer)
        ∙ ap (λ (n : ℕ). min n 18446744073709551615)
        (sym (disputed_given id counted after venue note answer answered is))));
  }

zero_twice : 0 + 0 ≡ 0
zero_twice = refl

-- a book in which nothing is written
pub beside_new : (counted : CountedParts) (a : Beside) → counted.book ≡ new_book counted.book.venues
    → counted.unbooked ≡ [] → a.words ≡ [] → ((venues : ℕ) → AreWorths (new_book venues) a.worths)
    → AreDisputed [] a.disputed → IsBeside counted a
beside_new counted a new none words worths disputes = record {
  words = ap length words
      ∙ sym ((λ i. notes_written (new i).entries + length (none i)) ∙ zero_twice);
  worths = subst (λ (b : BookParts). AreWorths b a.worths) (sym new) (worths counted.book.venues);
  disputed = subst (λ (l : List Unbooked). AreDisputed l a.disputed) (sym none) disputes;
}

-- a leg was to be withdrawn
pub beside_asked : (venue : Option ℕ) (counted after : CountedParts) (id : LegIdParts)
    (result : Result (Unit {0}) BookFault) (a : Beside) → IsSome venue
    → IfSome venue (λ v. (let r : BookAnswer = (result, after.book) in r ≡ withdraw_of v counted.book id))
    → after.unbooked ≡ counted.unbooked → IsBeside counted a → IsBeside after a
beside_asked None counted after id result a some is same kept = absurd cc
beside_asked (Some venue) counted after id result a some is same kept = record {
  words =
      (let entries = count_asked venue counted.book after.book id result is in
      let left = ap length same in
      let were = kept.words in
      omega (arith, entries, left, were));
  worths = kept_asked venue counted.book after.book id result (worth_at a.worths) (fill_at a.worths) is kept.worths;
  disputed = subst (λ (l : List Unbooked). AreDisputed l a.disputed) (sym same) kept.disputed;
}

-- sweeps were opened
pub beside_lent : (counted after : CountedParts) (a : Beside) → OnlyOpens counted.book after.book
    → after.unbooked ≡ counted.unbooked → IsBeside counted a → IsBeside after a
beside_lent counted after a opens same kept = record {
  words =
      (let entries = count_opened counted.book after.book opens in
      let left = ap length same in
      let were = kept.words in
      omega (arith, entries, left, were));
  worths = kept_lent counted.book after.book (worth_at a.worths) (fill_at a.worths) opens kept.worths;
  disputed = subst (λ (l : List Unbooked). AreDisputed l a.disputed) (sym same) kept.disputed;
}
