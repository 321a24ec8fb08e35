-- A text that is read up to a place.
use Rattle.std.proofs.Common.{◌≡◌, ℕ, suc, ◌+◌, ◌<◌, List, [], ◌∷◌, ◌++◌, length, Some, None, refl, sym, ap, ◌∙◌, subst, arith, append_assoc, length-append}
use Rattle.std.proofs.lemmas.List.{append-nil}
use Rattle.journal_record.specs.declared.judging.Judged.{Judged}
use Rattle.journal_record.specs.declared.judging.TextEnd.{TextEnd}
use Rattle.journal_record.specs.Record.{marked, record_text, sum_after, lines_text, lines_sum, mark_text}
use Rattle.journal_record.specs.Reading.{ReaderParts, new_reader, IsNext, IsEnd, AreWhole, HasAll, IsJudged, first_line}
use Rattle.journal_record.proofs.Ends.{line_parts, no_end-behind}
use Rattle.journal_record.proofs.Marks.{record_ends}

-- these lines were read, and this is left
pub record IsReadTo (text : List ℕ) (r : ReaderParts) (lines : List (List ℕ)) : Type 0 where
  pub text_is : text ≡ lines_text 0 lines ++ r.rest
  pub whole : AreWhole lines
  pub sum : r.sum ≡ lines_sum 0 lines
  pub count : r.lines ≡ length lines
  pub at : r.at ≡ length (lines_text 0 lines)

pub read_none : (text : List ℕ) → IsReadTo text (new_reader text) []
read_none text = record { text_is = refl; whole = tt; sum = refl; count = refl; at = refl }

-- one line more
pub text_more : (sum : ℕ) (lines : List (List ℕ)) (line : List ℕ)
    → lines_text sum (lines ++ line ∷ []) ≡ lines_text sum lines ++ record_text (lines_sum sum lines) line
text_more sum [] line = append-nil (record_text sum line)
text_more sum (l ∷ ls) line =
    ap (λ (t : List ℕ). record_text sum l ++ t) (text_more (sum_after sum l) ls line)
    ∙ sym (append_assoc (record_text sum l) (lines_text (sum_after sum l) ls)
    (record_text (lines_sum (sum_after sum l) ls) line))

pub sum_more : (sum : ℕ) (lines : List (List ℕ)) (line : List ℕ)
    → lines_sum sum (lines ++ line ∷ []) ≡ sum_after (lines_sum sum lines) line
sum_more sum [] line = refl
sum_more sum (l ∷ ls) line = sum_more (sum_after sum l) ls line

whole_more : (lines : List (List ℕ)) (line : List ℕ) → AreWhole lines → first_line line ≡ None
    → AreWhole (lines ++ line ∷ [])
whole_more [] line whole none = (none, tt)
whole_more (l ∷ ls) line whole none = (whole.0, whole_more ls line whole.1 none)

record_long : (sum : ℕ) (line : List ℕ) → length (record_text sum line) ≡ length (marked sum line) + 1
record_long sum line =
    let is : length (line ++ 10 ∷ []) ≡ length line + 1 = length-append line (10 ∷ []) in omega (arith, is)

pub read_more : (text : List ℕ) (old new : ReaderParts) (lines : List (List ℕ)) (line : List ℕ) → IsReadTo text old lines
    → IsNext old (Some line) new → IsReadTo text new (lines ++ line ∷ [])
read_more text old new lines line to next =
    let parts = line_parts old.rest (marked old.sum line) new.rest next.0 in
    let more : old.rest ≡ record_text old.sum line ++ new.rest =
    parts.0 ∙ sym (record_ends old.sum line new.rest) in
    let text_is : text ≡ lines_text 0 (lines ++ line ∷ []) ++ new.rest =
    to.text_is
    ∙ ap (λ (rest : List ℕ). lines_text 0 lines ++ rest) more
    ∙ sym (append_assoc (lines_text 0 lines) (record_text old.sum line) new.rest)
    ∙ ap (λ (sum : ℕ). (lines_text 0 lines ++ record_text sum line) ++ new.rest) to.sum
    ∙ ap (λ (t : List ℕ). t ++ new.rest) (sym (text_more 0 lines line)) in
    let long : length (lines_text 0 (lines ++ line ∷ []))
    ≡ length (lines_text 0 lines) + length (record_text (lines_sum 0 lines) line) =
    ap length (text_more 0 lines line)
    ∙ length-append (lines_text 0 lines) (record_text (lines_sum 0 lines) line) in
    let one_long : length (record_text (lines_sum 0 lines) line) ≡ length (marked old.sum line) + 1 =
    ap (λ (sum : ℕ). length (record_text sum line)) (sym to.sum) ∙ record_long old.sum line in
    let counted : length (lines ++ line ∷ []) ≡ length lines + 1 = length-append lines (line ∷ []) in
    let is_at : new.at ≡ old.at + length (marked old.sum line) + 1 = ap (λ (r : ReaderParts). r.at) next.1 in
    let is_count : new.lines ≡ old.lines + 1 = ap (λ (r : ReaderParts). r.lines) next.1 in
    record {
      text_is = text_is;
      whole = whole_more lines line to.whole (no_end-behind (mark_text (sum_after old.sum line)) line parts.1);
      sum = ap (λ (r : ReaderParts). r.sum) next.1 ∙ ap (λ (sum : ℕ). sum_after sum line) to.sum
          ∙ sym (sum_more 0 lines line);
      count = is_count ∙ ap (λ (n : ℕ). n + 1) to.count ∙ sym counted;
      at = omega (arith, is_at, to.at, long, one_long);
    }

-- what is left is shorter
pub read_on : (old new : ReaderParts) (line : List ℕ) → IsNext old (Some line) new → length new.rest < length old.rest
read_on old new line next =
    let parts = line_parts old.rest (marked old.sum line) new.rest next.0 in
    let long : length old.rest ≡ length (marked old.sum line) + suc (length new.rest) =
    ap length parts.0 ∙ length-append (marked old.sum line) (10 ∷ new.rest) in
    omega (arith, long)

-- a text that is read to its end
pub read_all : (text : List ℕ) (old new : ReaderParts) (lines : List (List ℕ)) (bytes : ℕ) (end : TextEnd)
    → IsReadTo text old lines → new ≡ old → bytes ≡ new.at → IsEnd new.sum new.rest end → HasAll text lines bytes end
read_all text old new lines bytes end so_far same at ends =
    let to : IsReadTo text new lines = subst (λ (r : ReaderParts). IsReadTo text r lines) (sym same) so_far in
    record {
      has = record {
        rest = new.rest;
        text_is = to.text_is;
        whole = to.whole;
        end_is = subst (λ (sum : ℕ). IsEnd sum new.rest end) to.sum ends;
      };
      bytes_are = at ∙ to.at;
    }

pub read_end : (text : List ℕ) (old new : ReaderParts) (lines : List (List ℕ)) (judged : Judged) (end : TextEnd)
    → IsReadTo text old lines → new ≡ old → judged ≡ record { lines = new.lines; bytes = new.at; end = end }
    → IsEnd new.sum new.rest end → IsJudged text judged
read_end text old new lines judged end to same is ends =
    subst (IsJudged text) (sym is) (record {
      lines = lines;
      count = ap (λ (r : ReaderParts). r.lines) same ∙ to.count;
      all = read_all text old new lines new.at end to same refl ends;
    })
