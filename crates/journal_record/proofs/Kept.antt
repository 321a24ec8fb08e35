-- What was kept is read.
use Rattle.std.proofs.Common.{◌≡◌, ◌≢◌, ◌⊎◌, inl, inr, ℕ, suc, ◌+◌, ◌<◌, ◌≤◌, List, [], ◌∷◌, ◌++◌, length, take, drop, Option, Some, None, refl, sym, ap, ◌∙◌, subst, arith, append_assoc, length-append, take-append-drop}
use Rattle.std.proofs.lemmas.List.{take-append-le, drop-append-le}
use Rattle.std.proofs.Math.Seq.{take-append_seam, drop-append_seam}
use Rattle.journal_record.specs.declared.judging.TextEnd.{TextEnd}
use Rattle.journal_record.specs.declared.judging.TextEnd.TheVariants.{Whole, Torn, Damaged}
use Rattle.journal_record.specs.Record.{marked, record_text, sum_after, lines_text, lines_sum}
use Rattle.journal_record.specs.Reading.{IsEnd, HasLines, first_line}
use Rattle.journal_record.specs.Laws.{AreLines, ReadsKept}
use Rattle.journal_record.proofs.Ends.{no_end-take}
use Rattle.journal_record.proofs.Marks.{no_end-mark, line_no_end, record_first, marked_line, record_ends}

abbrev first_of : Option (List ℕ × List ℕ) → List ℕ
first_of None = []
first_of (Some parts) = parts.0

abbrev behind_of : Option (List ℕ × List ℕ) → List ℕ
behind_of None = []
behind_of (Some parts) = parts.1

-- the parts of one text are the same
same_parts : (text a b c d : List ℕ) → first_line text ≡ Some (a, c) → first_line text ≡ Some (b, d) → (a ≡ b) × (c ≡ d)
same_parts text a b c d one other = (ap first_of (sym one ∙ other), ap behind_of (sym one ∙ other))

-- a text whose first line is a record doesn't end before it
no_end_yet : (sum : ℕ) (line rest later : List ℕ) (end : TextEnd) → first_line rest ≡ Some (marked sum line, later)
    → IsEnd sum rest end → ⊥
no_end_yet sum line rest later Whole first ends = let none = ap first_line ends in cc
no_end_yet sum line rest later Torn first ends = let none = ends.1 in cc
no_end_yet sum line rest later Damaged first ends =
    ends.3 line (same_parts rest ends.0 (marked sum line) ends.1 later ends.2 first).0

-- the first line that is read is the one that is there
pub read_first : (sum : ℕ) (line text : List ℕ) (lines : List (List ℕ)) (end : TextEnd) → first_line line ≡ None
    → HasLines sum (record_text sum line ++ text) lines end
    → (others : List (List ℕ)) × (lines ≡ line ∷ others) × HasLines (sum_after sum line) text others end
read_first sum line text [] end none has =
    let first : first_line has.rest ≡ Some (marked sum line, text) =
    ap first_line (sym has.text_is) ∙ record_first sum line text none in
    absurd (no_end_yet sum line has.rest text end first has.end_is)
read_first sum line text (l ∷ ls) end none has =
    let later = lines_text (sum_after sum l) ls ++ has.rest in
    let there = record_text sum line ++ text in
    let other : first_line there ≡ Some (marked sum l, later) =
    ap first_line (has.text_is ∙ append_assoc (record_text sum l) (lines_text (sum_after sum l) ls) has.rest)
    ∙ record_first sum l later has.whole.0 in
    let same = same_parts there (marked sum line) (marked sum l) text later (record_first sum line text none) other in
    let is : line ≡ l = marked_line sum line l same.0 in (
      ls,
      ap (λ (x : List ℕ). x ∷ ls) (sym is),
      subst (λ (x : List ℕ). HasLines (sum_after sum x) text ls end) (sym is) (record {
        rest = has.rest;
        text_is = same.1;
        whole = has.whole.1;
        end_is = has.end_is;
      }),
    )

-- a text in which no line ends
nothing_read : (sum : ℕ) (text : List ℕ) (lines : List (List ℕ)) (end : TextEnd) → first_line text ≡ None
    → HasLines sum text lines end → (lines ≡ []) × (end ≢ Damaged)
nothing_read sum text [] end none has = (
  refl,
  λ is. let left : first_line has.rest ≡ None = ap first_line (sym has.text_is) ∙ none in
      let damaged : IsEnd sum has.rest Damaged = subst (IsEnd sum has.rest) is has.end_is in
      let some = damaged.2 in cc,
)
nothing_read sum text (l ∷ ls) end none has =
    let later = lines_text (sum_after sum l) ls ++ has.rest in
    let some : first_line text ≡ Some (marked sum l, later) =
    ap first_line (has.text_is ∙ append_assoc (record_text sum l) (lines_text (sum_after sum l) ls) has.rest)
    ∙ record_first sum l later has.whole.0 in
    absurd (cc)

-- the lines of a beginning of these
pub record ReadsSome (more lines : List (List ℕ)) (end : TextEnd) : Type 0 where
  pub count : ℕ
  pub some : count ≤ length more
  pub lines_are : lines ≡ take count more
  pub sound : end ≢ Damaged

none_of : (more lines : List (List ℕ)) (end : TextEnd) → (lines ≡ []) × (end ≢ Damaged) → ReadsSome more lines end
none_of more lines end is = record { count = 0; some = omega arith; lines_are = is.0; sound = is.1 }

empty_front : (some rest : List ℕ) → [] ≡ some ++ rest → some ≡ []
empty_front [] rest is = refl
empty_front (c ∷ cs) rest is = absurd (cc)

record_long : (sum : ℕ) (line : List ℕ) → length (record_text sum line) ≡ length (marked sum line) + 1
record_long sum line =
    let is : length (line ++ 10 ∷ []) ≡ length line + 1 = length-append line (10 ∷ []) in omega (arith, is)

-- a beginning of a record that isn't all of it
torn_front : (sum : ℕ) (line later some rest : List ℕ) → first_line line ≡ None
    → record_text sum line ++ later ≡ some ++ rest → length some < length (record_text sum line)
    → first_line some ≡ None
torn_front sum line later some rest none is short =
    let long = record_long sum line in
    let within : length some ≤ length (marked sum line) = omega (arith, long, short) in
    let front : some ≡ take (length some) (marked sum line) =
    sym (take-append_seam some rest)
    ∙ ap (λ (l : List ℕ). take (length some) l) (sym is ∙ record_ends sum line later)
    ∙ take-append-le (length some) (marked sum line) (10 ∷ later) within in
    subst (λ (l : List ℕ). first_line l ≡ None) (sym front)
    (no_end-take (length some) (marked sum line) (no_end-mark (sum_after sum line) line none))

-- a beginning that has a record
whole_front : (sum : ℕ) (line later some rest : List ℕ) → record_text sum line ++ later ≡ some ++ rest
    → length (record_text sum line) ≤ length some
    → (some ≡ record_text sum line ++ drop (length (record_text sum line)) some)
    × (later ≡ drop (length (record_text sum line)) some ++ rest)
whole_front sum line later some rest is long =
    let front = record_text sum line in
    let first : take (length front) some ≡ front =
    sym (take-append-le (length front) some rest long)
    ∙ ap (λ (l : List ℕ). take (length front) l) (sym is)
    ∙ take-append_seam front later in
    let behind : later ≡ drop (length front) some ++ rest =
    sym (drop-append_seam front later)
    ∙ ap (λ (l : List ℕ). drop (length front) l) is
    ∙ drop-append-le (length front) some rest long in
    (sym (take-append-drop (length front) some) ∙ ap (λ (l : List ℕ). l ++ drop (length front) some) first, behind)

one_more : (m : List ℕ) (ms lines others : List (List ℕ)) (end : TextEnd) → lines ≡ m ∷ others
    → ReadsSome ms others end → ReadsSome (m ∷ ms) lines end
one_more m ms lines others end is reads = record {
  count = suc reads.count;
  some = let s = reads.some in omega (arith, s);
  lines_are = is ∙ ap (λ (ls : List (List ℕ)). m ∷ ls) reads.lines_are;
  sound = reads.sound;
}

le_or_lt : (a b : ℕ) → (a ≤ b) ⊎ (b < a)
le_or_lt a b = grind arith

pub reads_some : (sum : ℕ) (more lines : List (List ℕ)) (some rest : List ℕ) (end : TextEnd) → AreLines more
    → lines_text sum more ≡ some ++ rest → HasLines sum some lines end → ReadsSome more lines end
reads_some sum [] lines some rest end clean is has =
    none_of [] lines end (nothing_read sum some lines end (ap first_line (empty_front some rest is)) has)
reads_some sum (m ∷ ms) lines some rest end clean is has =
    elim (le_or_lt (length (record_text sum m)) (length some)) [
      | inl long ↦
          let parts = whole_front sum m (lines_text (sum_after sum m) ms) some rest is long in
          let first = read_first sum m (drop (length (record_text sum m)) some) lines end (line_no_end m clean.0)
          (subst (λ (l : List ℕ). HasLines sum l lines end) parts.0 has) in
          one_more m ms lines first.0 end first.1
          (reads_some (sum_after sum m) ms first.0 (drop (length (record_text sum m)) some) rest end clean.1 parts.1 first.2)
      | inr short ↦
          none_of (m ∷ ms) lines end (nothing_read sum some lines end
          (torn_front sum m (lines_text (sum_after sum m) ms) some rest (line_no_end m clean.0) is short) has)
    ]

kept_before : (k : List ℕ) (ks more lines others : List (List ℕ)) (end : TextEnd) → lines ≡ k ∷ others
    → ReadsKept ks more others end → ReadsKept (k ∷ ks) more lines end
kept_before k ks more lines others end is reads = record {
  count = reads.count;
  some = reads.some;
  lines_are = is ∙ ap (λ (ls : List (List ℕ)). k ∷ ls) reads.lines_are;
  sound = reads.sound;
}

pub reads_kept : (sum : ℕ) (kept more lines : List (List ℕ)) (some rest : List ℕ) (end : TextEnd) → AreLines kept
    → AreLines more → lines_text (lines_sum sum kept) more ≡ some ++ rest
    → HasLines sum (lines_text sum kept ++ some) lines end → ReadsKept kept more lines end
reads_kept sum [] more lines some rest end clean also is has =
    let reads = reads_some sum more lines some rest end also is has in
    record { count = reads.count; some = reads.some; lines_are = reads.lines_are; sound = reads.sound }
reads_kept sum (k ∷ ks) more lines some rest end clean also is has =
    let whole = append_assoc (record_text sum k) (lines_text (sum_after sum k) ks) some in
    let first = read_first sum k (lines_text (sum_after sum k) ks ++ some) lines end (line_no_end k clean.0)
    (subst (λ (l : List ℕ). HasLines sum l lines end) whole has) in
    kept_before k ks more lines first.0 end first.1
    (reads_kept (sum_after sum k) ks more first.0 some rest end clean.1 also is first.2)
