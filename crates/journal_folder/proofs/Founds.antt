-- What is found of a journal.
use Rattle.std.proofs.Common.{◌≡◌, ◌≢◌, ℕ, ◌+◌, ◌≤◌, Bool, true, false, eqb, inl, inr, List, [], ◌∷◌, ◌++◌, length, take, map, Option, Some, None, Result, Ok, Err, refl, sym, ap, ◌∙◌, subst, arith, length-append}
use Rattle.std.specs.Prelude.{MatchResult, Vec}
use Rattle.std.proofs.lemmas.Bool.{cases_Bool}
use Rattle.std.proofs.lemmas.List.{map-append, take-map}
use Rattle.std.specs.List.{remove, slice_index_or}
use Rattle.std.specs.declared.alloc.Global.{Global}
use Rattle.journal_record.specs.Record.{lines_text}
use Rattle.journal_record.specs.Reading.{HasAll}
use Rattle.journal_record.specs.declared.judging.TextEnd.{TextEnd}
use Rattle.journal_tape.specs.Tape.{text}
use Rattle.journal_folder.specs.Head.{head_of}
use Rattle.journal_folder.specs.Found.{FoundParts, GoesOn, IsSound, HasLinesOf, RefusesLines, MayRefuseLines, HasBadHead, MayRefuse, MayBeDamaged, AreFound, IsUnread, IsRefused, head_fault, at_file}
use Rattle.journal_folder.specs.declared.fault.FolderFault.{FolderFault}
use Rattle.journal_folder.specs.declared.fault.FolderFault.TheVariants.{NoFolder, Taken, CantRead, Gone, CantWrite, Damaged, NoHead, LinesGone, OtherWords, OutOfMemory}

-- lines are within their text
pub within : (text : List ℕ) (lines : List (List ℕ)) (bytes : ℕ) (end : TextEnd) → HasAll text lines bytes end
    → bytes ≤ length text
within text lines bytes end all =
    let long : length text ≡ length (lines_text 0 lines) + length all.has.rest =
    ap length all.has.text_is ∙ length-append (lines_text 0 lines) all.has.rest in
    let is = all.bytes_are in
    omega (arith, long, is)

-- a text is within its bytes
text_short : (bytes : List ℕ) → length (text bytes) ≤ length bytes
text_short [] = omega arith
text_short (c ∷ cs) =
    let short = text_short cs in
    elim (cases_Bool (eqb c 0)) [
      | inl none ↦ rw none (omega arith)
      | inr some ↦ rw some (omega (arith, short))
    ]

pub text_within : (bytes found : List ℕ) → found ≡ text bytes → length found ≤ length bytes
text_within bytes found is = subst (λ (t : List ℕ). length t ≤ length bytes) (sym is) (text_short bytes)

-- lines that are some
pub some_lines : (len : ℕ) (lines : List (Vec ℕ Global)) (none : Bool) → len ≡ length lines → none ≡ eqb len 0
    → none ≡ false → lines ≢ []
some_lines len [] none long tests some = λ is. let none_is : none ≡ true = tests ∙ ap (λ (n : ℕ). eqb n 0) long in cc
some_lines len (l ∷ ls) none long tests some = λ is. absurd (cc)

-- the first of some lines, and the others
pub first_of : (lines rest : List (Vec ℕ Global)) (line : Vec ℕ Global) → lines ≢ [] → line ≡ slice_index_or lines 0 line
    → rest ≡ remove lines 0 → map (λ l. l.items) lines ≡ line.items ∷ map (λ l. l.items) rest
first_of [] rest line some first others = absurd (some refl)
first_of (l ∷ ls) rest line some first others =
    ap (λ (x : Vec ℕ Global). x.items ∷ map (λ l. l.items) ls) (sym first)
    ∙ ap (λ (x : List (Vec ℕ Global)). line.items ∷ map (λ l. l.items) x) (sym others)

-- lines of which the first ones stay, and others behind them
pub gone_on : (old new more : List (Vec ℕ Global)) (n : ℕ) → new ≡ take n old ++ more
    → map (λ l. l.items) new ≡ take n (map (λ l. l.items) old) ++ map (λ l. l.items) more
gone_on old new more n is =
    ap (λ (ls : List (Vec ℕ Global)). map (λ l. l.items) ls) is
    ∙ map-append (λ (l : Vec ℕ Global). l.items) (take n old) more
    ∙ ap (λ (ls : List (List ℕ)). ls ++ map (λ l. l.items) more)
    (sym (take-map (λ (l : Vec ℕ Global). l.items) n old))

-- lines of which the first is the head of their file
pub lines_taken : {T : Type 0} (result : Result T FolderFault) (old new : FoundParts) (file : ℕ) (lines more : List (List ℕ))
    (line : List ℕ) (head : ℕ × ℕ × List ℕ) → lines ≡ line ∷ more → head_of line ≡ Some head
    → head_fault file old (Some head) ≡ None
    → MatchResult result (λ _. GoesOn old head.1 head.2 more new) (λ fault. fault ≡ OutOfMemory)
    → MatchResult result (λ _. HasLinesOf old file lines new) (MayRefuseLines old file lines)
lines_taken (Ok done) old new file lines more line head are is fits goes =
    subst (λ (ls : List (List ℕ)). HasLinesOf old file ls new) (sym are) (head, is, fits, goes)
lines_taken (Err fault) old new file lines more line head are is fits goes =
    subst (λ (f : FolderFault). MayRefuseLines old file lines f) (sym goes) tt

-- a head is never refused as a damaged line
no_damage : (file : ℕ) (found : FoundParts) (head : Option (ℕ × ℕ × List ℕ)) (f line at : ℕ)
    → head_fault file found head ≡ Some (Damaged f line at) → ⊥
no_damage file found None f line at is = absurd (cc)
no_damage file found (Some head) f line at is = grind arith

bad : (old : FoundParts) (file : ℕ) (bytes : List ℕ) (lines : List (List ℕ)) (torn stray : ℕ) (fault : FolderFault)
    → IsSound bytes lines torn stray → RefusesLines (at_file file torn stray old) file lines fault
    → HasBadHead old file bytes fault
bad old file bytes lines torn stray fault sound refuses =
    record { lines = lines; torn = torn; stray = stray; sound = sound; refused = refuses }

pub refused : (old : FoundParts) (file : ℕ) (bytes : List ℕ) (lines : List (List ℕ)) (torn stray : ℕ) (fault : FolderFault)
    → IsSound bytes lines torn stray → MayRefuseLines (at_file file torn stray old) file lines fault
    → MayRefuse old file bytes fault
refused old file bytes lines torn stray OutOfMemory sound refuses = tt
refused old file bytes [] torn stray (Damaged f line at) sound refuses = absurd refuses
refused old file bytes (l ∷ ls) torn stray (Damaged f line at) sound refuses =
    absurd (no_damage file (at_file file torn stray old) (head_of l) f line at refuses)
refused old file bytes lines torn stray NoFolder sound refuses = bad old file bytes lines torn stray NoFolder sound refuses
refused old file bytes lines torn stray Taken sound refuses = bad old file bytes lines torn stray Taken sound refuses
refused old file bytes lines torn stray (CantRead f) sound refuses =
    bad old file bytes lines torn stray (CantRead f) sound refuses
refused old file bytes lines torn stray (Gone f) sound refuses = bad old file bytes lines torn stray (Gone f) sound refuses
refused old file bytes lines torn stray (CantWrite f) sound refuses =
    bad old file bytes lines torn stray (CantWrite f) sound refuses
refused old file bytes lines torn stray (NoHead f) sound refuses =
    bad old file bytes lines torn stray (NoHead f) sound refuses
refused old file bytes lines torn stray (LinesGone f a n) sound refuses =
    bad old file bytes lines torn stray (LinesGone f a n) sound refuses
refused old file bytes lines torn stray (OtherWords f) sound refuses =
    bad old file bytes lines torn stray (OtherWords f) sound refuses

-- a line that is damaged, as a fault of its file
pub damaged : (old : FoundParts) (file : ℕ) (bytes : List ℕ) (fault : FolderFault) → MayBeDamaged file bytes fault
    → MayRefuse old file bytes fault
damaged old file bytes OutOfMemory may = tt
damaged old file bytes (Damaged f line at) may = may
damaged old file bytes NoFolder may = absurd may
damaged old file bytes Taken may = absurd may
damaged old file bytes (CantRead f) may = absurd may
damaged old file bytes (Gone f) may = absurd may
damaged old file bytes (CantWrite f) may = absurd may
damaged old file bytes (NoHead f) may = absurd may
damaged old file bytes (LinesGone f a n) may = absurd may
damaged old file bytes (OtherWords f) may = absurd may

-- a file that isn't read
pub unread : (fault : FolderFault) → IsUnread fault → IsRefused fault
unread OutOfMemory is = tt
unread (CantRead f) is = tt
unread (Gone f) is = tt
unread (Damaged f line at) is = absurd is
unread NoFolder is = absurd is
unread Taken is = absurd is
unread (CantWrite f) is = absurd is
unread (NoHead f) is = absurd is
unread (LinesGone f a n) is = absurd is
unread (OtherWords f) is = absurd is

-- one that is refused by its bytes
pub breaks : (earlier : List (List ℕ)) (found : FoundParts) (bytes : List ℕ) (fault : FolderFault)
    → AreFound earlier found → MayRefuse found (length earlier + 1) bytes fault → IsRefused fault
breaks earlier found bytes OutOfMemory are refuses = tt
breaks earlier found bytes (CantRead f) are refuses = tt
breaks earlier found bytes (Gone f) are refuses = tt
breaks earlier found bytes (Damaged f line at) are refuses = (earlier, found, bytes, are, refuses)
breaks earlier found bytes NoFolder are refuses = (earlier, found, bytes, are, refuses)
breaks earlier found bytes Taken are refuses = (earlier, found, bytes, are, refuses)
breaks earlier found bytes (CantWrite f) are refuses = (earlier, found, bytes, are, refuses)
breaks earlier found bytes (NoHead f) are refuses = (earlier, found, bytes, are, refuses)
breaks earlier found bytes (LinesGone f a n) are refuses = (earlier, found, bytes, are, refuses)
breaks earlier found bytes (OtherWords f) are refuses = (earlier, found, bytes, are, refuses)
