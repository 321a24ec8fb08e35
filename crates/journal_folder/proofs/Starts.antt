-- What a start finds of the files that are left.
use Rattle.std.proofs.Common.{◌≡◌, ◌≢◌, ◌⊎◌, inl, inr, ℕ, zero, suc, ◌+◌, ◌≤◌, false, List, [], ◌∷◌, ◌++◌, length, take, Some, None, refl, sym, ap, ◌∙◌, subst, arith, append_assoc, length-append}
use Rattle.std.specs.Option.{unwrap_or}
use Rattle.std.specs.Str.{bytes_eq}
use Rattle.std.proofs.lemmas.Bool.{cases_Bool, le-ltb, eq-eqb}
use Rattle.std.proofs.lemmas.Bool.Decides.{not_from_Decides}
use Rattle.std.proofs.lemmas.List.{append-nil}
use Rattle.std.proofs.lemmas.Slice.Eq.{bytes_eq-Decides}
use Rattle.std.proofs.Math.Seq.{take-append_seam}
use Rattle.journal_record.specs.declared.judging.TextEnd.{TextEnd}
use Rattle.journal_record.specs.declared.judging.TextEnd.TheVariants.{Damaged as DamagedEnd}
use Rattle.journal_record.specs.Record.{lines_sum, lines_text}
use Rattle.journal_record.specs.Reading.{HasLines}
use Rattle.journal_record.specs.Laws.{ReadsKept}
use Rattle.journal_record.proofs.Kept.{reads_kept}
use Rattle.journal_tape.specs.Tape.{text}
use Rattle.journal_tape.proofs.Texts.{parts_are}
use Rattle.journal_folder.specs.Head.{head_of}
use Rattle.journal_folder.specs.Found.{AreFound, FoundParts, GoesOn, HasBadHead, HasLinesOf, IsTaken, MayRefuse, RefusesLines, at_file, head_fault, other_words}
use Rattle.journal_folder.specs.Start.{AreLeft, FindsKept, GoesBehind, IsFileLeft, LeavesLines, head_behind_lines}
use Rattle.journal_folder.specs.declared.fault.FolderFault.{FolderFault}
use Rattle.journal_folder.specs.declared.fault.FolderFault.TheVariants.{NoFolder, Taken, CantRead, Gone, CantWrite, Damaged, NoHead, LinesGone, OtherWords, OutOfMemory}
use Rattle.journal_folder.proofs.HeadBack.{head_back}
use Rattle.journal_folder.proofs.SameFound.{same_found}

-- what is read of a tape that leaves these bytes
reads_left : (kept unkept lines : List (List ℕ)) (bytes : List ℕ) (end : TextEnd) → LeavesLines kept unkept bytes
    → HasLines 0 (text bytes) lines end → ReadsKept kept unkept lines end
reads_left kept unkept lines bytes end leaves has =
    let parts = parts_are (lines_text 0 kept) (lines_text (lines_sum 0 kept) unkept) (text bytes) leaves.between in
    reads_kept 0 kept unkept lines parts.0 parts.1 end leaves.kept_lines leaves.unkept_lines parts.3
    (subst (λ (t : List ℕ). HasLines 0 t lines end) parts.2 has)

-- of a head that is being written, nothing is read or all of it
none_or_one : (head : List ℕ) (lines : List (List ℕ)) (count : ℕ) → count ≤ 1 → lines ≡ take count (head ∷ [])
    → (lines ≡ []) ⊎ (lines ≡ head ∷ [])
none_or_one head lines zero some is = inl is
none_or_one head lines (suc zero) some is = inr is
none_or_one head lines (suc (suc n)) some is = absurd (omega (arith, some))

-- what is found before a file
pub record FindsBefore (was : FoundParts) (before waiting : List (List ℕ)) : Type 0 where
  pub count : ℕ
  pub some : count ≤ length waiting
  pub lines_are : was.lines ≡ before ++ take count waiting

finds_before : (words : List ℕ) (earlier old more before waiting : List (List ℕ)) (was : FoundParts) → AreFound earlier was
    → FindsKept words earlier old more was → GoesBehind earlier old more before waiting → FindsBefore was before waiting
finds_before words earlier old more before waiting was are finds (inl same) = record {
  count = finds.count;
  some = subst (λ (ls : List (List ℕ)). finds.count ≤ length ls) (sym same.1) finds.some;
  lines_are = finds.lines_are ∙ ap (λ (ls : List (List ℕ)). ls ++ take finds.count more) (sym same.0)
      ∙ ap (λ (ls : List (List ℕ)). before ++ take finds.count ls) (sym same.1);
}
finds_before words earlier old more before waiting was are finds (inr found) = record {
  count = 0;
  some = omega arith;
  lines_are = ap (λ (f : FoundParts). f.lines) (same_found earlier was found.0 are found.1) ∙ sym found.2
      ∙ sym (append-nil before);
}

before_first : (was : FoundParts) (before waiting : List (List ℕ)) → FindsBefore was before waiting
    → take (length before) was.lines ≡ before
before_first was before waiting finds =
    ap (λ (ls : List (List ℕ)). take (length before) ls) finds.lines_are
    ∙ take-append_seam before (take finds.count waiting)

before_long : (was : FoundParts) (before waiting : List (List ℕ)) → FindsBefore was before waiting
    → length before ≤ length was.lines
before_long was before waiting finds =
    let long : length was.lines ≡ length before + length (take finds.count waiting) =
    ap length finds.lines_are ∙ length-append before (take finds.count waiting) in
    omega (arith, long)

-- the words of a head are those of the journal
same_words : (words : List ℕ) → other_words (Some words) words ≡ false
same_words words = elim (cases_Bool (bytes_eq words words)) [
  | inl is ↦ rw is refl
  | inr other ↦ absurd (not_from_Decides (bytes_eq words words) (bytes_eq-Decides words words) other refl)
]

-- the lines of a file of which the head is read
record TakesMine (words : List ℕ) (before mine : List (List ℕ)) (was new : FoundParts) : Type 0 where
  pub lines_are : new.lines ≡ before ++ mine
  pub words_are : other_words new.words words ≡ false
  pub files_are : new.files ≡ was.files

takes_mine : (words : List ℕ) (file : ℕ) (before mine : List (List ℕ)) (was new : FoundParts) → file ≤ 999999999999
    → length before ≤ 999999999999 → take (length before) was.lines ≡ before
    → HasLinesOf was file (head_behind_lines words file before ∷ mine) new → TakesMine words before mine was new
takes_mine words file before mine was new few many first has =
    let same : has.0 ≡ (file, length before, words) =
    ap (λ o. unwrap_or o has.0) (sym has.1 ∙ head_back file (length before) words few many) in
    let goes : GoesOn was (length before) words mine new =
    subst (λ (head : ℕ × ℕ × List ℕ). GoesOn was head.1 head.2 mine new) same has.3 in
    record {
      lines_are = ap (λ (f : FoundParts). f.lines) goes ∙ ap (λ (ls : List (List ℕ)). ls ++ mine) first;
      words_are = ap (λ (f : FoundParts). other_words f.words words) goes ∙ same_words words;
      files_are = ap (λ (f : FoundParts). f.files) goes;
    }

-- a file of which the head is being written
finds_made : (words : List ℕ) (earlier before waiting kept unkept lines : List (List ℕ)) (bytes : List ℕ)
    (at was new : FoundParts) → length earlier + 1 ≤ 999999999999 → length before ≤ 999999999999
    → FindsBefore was before waiting → other_words was.words words ≡ false → at.lines ≡ was.lines → at.words ≡ was.words
    → at.files ≡ length earlier + 1 → kept ≡ before → unkept ≡ waiting
    → HasLinesOf at (length earlier + 1) lines new
    → (lines ≡ []) ⊎ (lines ≡ head_behind_lines words (length earlier + 1) before ∷ [])
    → FindsKept words (bytes ∷ earlier) kept unkept new
finds_made words earlier before waiting kept unkept lines bytes at was new few many finds named same words_same number kept_is waits has (inl none) =
    let is : new ≡ at = subst (λ (ls : List (List ℕ)). HasLinesOf at (length earlier + 1) ls new) none has in
    record {
      count = finds.count;
      some = subst (λ (ls : List (List ℕ)). finds.count ≤ length ls) (sym waits) finds.some;
      lines_are = ap (λ (f : FoundParts). f.lines) is ∙ same ∙ finds.lines_are
          ∙ ap (λ (ls : List (List ℕ)). ls ++ take finds.count waiting) (sym kept_is)
          ∙ ap (λ (ls : List (List ℕ)). kept ++ take finds.count ls) (sym waits);
      words_are = ap (λ (f : FoundParts). other_words f.words words) is ∙ ap (λ o. other_words o words) words_same ∙ named;
      files_are = ap (λ (f : FoundParts). f.files) is ∙ number
          ∙ (let e : length earlier + 1 ≡ length (bytes ∷ earlier) = omega arith in e);
    }
finds_made words earlier before waiting kept unkept lines bytes at was new few many finds named same words_same number kept_is waits has (inr one) =
    let head = head_behind_lines words (length earlier + 1) before in
    let first = ap (λ (ls : List (List ℕ)). take (length before) ls) same ∙ before_first was before waiting finds in
    let takes = takes_mine words (length earlier + 1) before [] at new few many first
    (subst (λ (ls : List (List ℕ)). HasLinesOf at (length earlier + 1) ls new) one has) in
    record {
      count = 0;
      some = omega arith;
      lines_are = takes.lines_are ∙ ap (λ (ls : List (List ℕ)). ls ++ []) (sym kept_is);
      words_are = takes.words_are;
      files_are = takes.files_are ∙ number ∙ (let e : length earlier + 1 ≡ length (bytes ∷ earlier) = omega arith in e);
    }

-- a file more
finds_file : (words bytes : List ℕ) (earlier before waiting kept unkept : List (List ℕ)) (was new : FoundParts)
    → length earlier + 1 ≤ 999999999999 → length before ≤ 999999999999 → FindsBefore was before waiting
    → other_words was.words words ≡ false → IsFileLeft words (length earlier + 1) before waiting bytes kept unkept
    → IsTaken was (length earlier + 1) bytes new → FindsKept words (bytes ∷ earlier) kept unkept new
finds_file words bytes earlier before waiting kept unkept was new few many finds named (inl made) taken =
    let head = head_behind_lines words (length earlier + 1) before in
    let reads = reads_left [] (head ∷ []) taken.lines bytes taken.sound.end made.0 taken.sound.all.has in
    finds_made words earlier before waiting kept unkept taken.lines bytes
    (at_file (length earlier + 1) taken.torn taken.stray was) was new few many finds named refl refl refl made.1 made.2
    taken.taken (none_or_one head taken.lines reads.count reads.some reads.lines_are)
finds_file words bytes earlier before waiting kept unkept was new few many finds named (inr has) taken =
    let mine = has.0 in
    let head = head_behind_lines words (length earlier + 1) before in
    let at = at_file (length earlier + 1) taken.torn taken.stray was in
    let reads = reads_left (head ∷ mine) unkept taken.lines bytes taken.sound.end has.1 taken.sound.all.has in
    let takes = takes_mine words (length earlier + 1) before (mine ++ take reads.count unkept) at new few many
    (before_first was before waiting finds)
    (subst (λ (ls : List (List ℕ)). HasLinesOf at (length earlier + 1) ls new) reads.lines_are taken.taken) in
    record {
      count = reads.count;
      some = reads.some;
      lines_are = takes.lines_are ∙ sym (append_assoc before mine (take reads.count unkept))
          ∙ ap (λ (ls : List (List ℕ)). ls ++ take reads.count unkept) (sym has.2);
      words_are = takes.words_are;
      files_are = takes.files_are ∙ (let e : length earlier + 1 ≡ length (bytes ∷ earlier) = omega arith in e);
    }

pub finds_kept : (words : List ℕ) (files kept unkept : List (List ℕ)) (found : FoundParts) → AreLeft words files kept unkept
    → AreFound files found → FindsKept words files kept unkept found
finds_kept words [] kept unkept found left are = record {
  count = 0;
  some = omega arith;
  lines_are = ap (λ (f : FoundParts). f.lines) are ∙ ap (λ (ls : List (List ℕ)). ls ++ []) (sym left.0);
  words_are = ap (λ (f : FoundParts). other_words f.words words) are;
  files_are = ap (λ (f : FoundParts). f.files) are;
}
finds_kept words (bytes ∷ earlier) kept unkept found left are =
    let finds = finds_kept words earlier left.0 left.1 are.0 left.4 are.1 in
    finds_file words bytes earlier left.2 left.3 kept unkept are.0 found left.6 left.7
    (finds_before words earlier left.0 left.1 left.2 left.3 are.0 are.1 finds left.5) finds.words_are left.8 are.2

-- what is read of a file that is left: nothing, or its head and what is behind it, and nothing is damaged
abbrev ReadsHead : List ℕ → List (List ℕ) → TextEnd → Type 0
ReadsHead head lines end =
    ((lines ≡ []) ⊎ ((more : List (List ℕ)) × (lines ≡ head ∷ more))) × (end ≢ DamagedEnd)

reads_head : (words : List ℕ) (file : ℕ) (before waiting kept unkept lines : List (List ℕ)) (bytes : List ℕ) (end : TextEnd)
    → IsFileLeft words file before waiting bytes kept unkept → HasLines 0 (text bytes) lines end
    → ReadsHead (head_behind_lines words file before) lines end
reads_head words file before waiting kept unkept lines bytes end (inl made) has =
    let head = head_behind_lines words file before in
    let reads = reads_left [] (head ∷ []) lines bytes end made.0 has in
    (one (none_or_one head lines reads.count reads.some reads.lines_are), reads.sound)
  where
    one : (lines ≡ []) ⊎ (lines ≡ head_behind_lines words file before ∷ [])
        → (lines ≡ []) ⊎ ((more : List (List ℕ)) × (lines ≡ head_behind_lines words file before ∷ more))
    one (inl none) = inl none
    one (inr is) = inr ([], is)
reads_head words file before waiting kept unkept lines bytes end (inr mine) has =
    let head = head_behind_lines words file before in
    let reads = reads_left (head ∷ mine.0) unkept lines bytes end mine.1 has in
    (inr (mine.0 ++ take reads.count unkept, reads.lines_are), reads.sound)

-- its head isn't refused
fits : (file after : ℕ) (words : List ℕ) (found : FoundParts) → after ≤ length found.lines
    → other_words found.words words ≡ false → head_fault file found (Some (file, after, words)) ≡ None
fits file after words found le same = rw (eq-eqb file file refl, le-ltb (length found.lines) after le, same) refl

-- and so the file isn't refused
no_bad_head : (words : List ℕ) (file : ℕ) (before waiting kept unkept : List (List ℕ)) (bytes : List ℕ) (found : FoundParts)
    (fault : FolderFault) → file ≤ 999999999999 → length before ≤ 999999999999 → length before ≤ length found.lines
    → other_words found.words words ≡ false → IsFileLeft words file before waiting bytes kept unkept
    → HasBadHead found file bytes fault → ⊥
no_bad_head words file before waiting kept unkept bytes found fault few many long named left bad =
    by_lines
    (reads_head words file before waiting kept unkept bad.lines bytes bad.sound.end left bad.sound.all.has).0
  where
    at : FoundParts
    at = at_file file bad.torn bad.stray found

    by_lines : (bad.lines ≡ []) ⊎ ((more : List (List ℕ)) × (bad.lines ≡ head_behind_lines words file before ∷ more)) → ⊥
    by_lines (inl none) = subst (λ (ls : List (List ℕ)). RefusesLines at file ls fault) none bad.refused
    by_lines (inr is) =
        let refused : head_fault file at (head_of (head_behind_lines words file before)) ≡ Some fault =
        subst (λ (ls : List (List ℕ)). RefusesLines at file ls fault) is.1 bad.refused in
        let none : None ≡ Some fault =
        sym (fits file (length before) words at long named)
        ∙ ap (head_fault file at) (sym (head_back file (length before) words few many)) ∙ refused in
        cc

pub refuses_none : (words bytes : List ℕ) (earlier kept unkept : List (List ℕ)) (found : FoundParts) (fault : FolderFault)
    → AreLeft words (bytes ∷ earlier) kept unkept → AreFound earlier found → MayRefuse found (length earlier + 1) bytes fault
    → fault ≡ OutOfMemory
refuses_none words bytes earlier kept unkept found fault left are may = by_fault fault may
  where
    before_is : FindsBefore found left.2 left.3
    before_is =
        finds_before words earlier left.0 left.1 left.2 left.3 found are
        (finds_kept words earlier left.0 left.1 found left.4 are) left.5

    named : other_words found.words words ≡ false
    named = (finds_kept words earlier left.0 left.1 found left.4 are).words_are

    not_bad : (fault : FolderFault) → HasBadHead found (length earlier + 1) bytes fault → ⊥
    not_bad fault bad =
        no_bad_head words (length earlier + 1) left.2 left.3 kept unkept bytes found fault left.6 left.7
        (before_long found left.2 left.3 before_is) named left.8 bad

    by_fault : (fault : FolderFault) → MayRefuse found (length earlier + 1) bytes fault → fault ≡ OutOfMemory
    by_fault OutOfMemory may = refl
    by_fault (Damaged f line at) may =
        absurd ((reads_head words (length earlier + 1) left.2 left.3 kept unkept may.1.lines bytes DamagedEnd left.8
        may.1.all.has).1 refl)
    by_fault NoFolder may = absurd (not_bad NoFolder may)
    by_fault Taken may = absurd (not_bad Taken may)
    by_fault (CantRead f) may = absurd (not_bad (CantRead f) may)
    by_fault (Gone f) may = absurd (not_bad (Gone f) may)
    by_fault (CantWrite f) may = absurd (not_bad (CantWrite f) may)
    by_fault (NoHead f) may = absurd (not_bad (NoHead f) may)
    by_fault (LinesGone f after n) may = absurd (not_bad (LinesGone f after n) may)
    by_fault (OtherWords f) may = absurd (not_bad (OtherWords f) may)
