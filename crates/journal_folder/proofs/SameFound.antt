-- What is found of files is one thing.
use Rattle.std.proofs.Common.{◌≡◌, ℕ, ◌+◌, List, [], ◌∷◌, ◌++◌, length, refl, sym, ap, ◌∙◌, subst, arith, append_assoc}
use Rattle.std.specs.Option.{unwrap_or}
use Rattle.journal_record.specs.declared.judging.TextEnd.{TextEnd}
use Rattle.journal_record.specs.Record.{lines_text, record_text, sum_after}
use Rattle.journal_record.specs.Reading.{HasLines}
use Rattle.journal_record.proofs.Kept.{read_first}
use Rattle.journal_tape.specs.Tape.{text}
use Rattle.journal_folder.specs.Found.{AreFound, FoundParts, GoesOn, HasLinesOf, IsSound, IsTaken, at_file}

-- the first line of a text, and the others
first_same : (sum : ℕ) (of l : List ℕ) (ls lines : List (List ℕ)) (end other : TextEnd) → HasLines sum of (l ∷ ls) end
    → HasLines sum of lines other
    → (rest : List ℕ) × (others : List (List ℕ)) × (lines ≡ l ∷ others) × HasLines (sum_after sum l) rest ls end
    × HasLines (sum_after sum l) rest others other
first_same sum of l ls lines end other has also =
    let rest = lines_text (sum_after sum l) ls ++ has.rest in
    let is : of ≡ record_text sum l ++ rest =
    has.text_is ∙ append_assoc (record_text sum l) (lines_text (sum_after sum l) ls) has.rest in
    let first = read_first sum l rest lines other has.whole.0 (subst (λ (t : List ℕ). HasLines sum t lines other) is also) in (
      rest,
      first.0,
      first.1,
      record { rest = has.rest; text_is = refl; whole = has.whole.1; end_is = has.end_is },
      first.2,
    )

-- a text has the same lines, however it is read
same_lines : (sum : ℕ) (of : List ℕ) (lines others : List (List ℕ)) (end other : TextEnd) → HasLines sum of lines end
    → HasLines sum of others other → lines ≡ others
same_lines sum of [] [] end other has also = refl
same_lines sum of [] (l ∷ ls) end other has also =
    let first = first_same sum of l ls [] other end also has in
    let none : [] ≡ l ∷ first.1 = first.2 in
    absurd (cc)
same_lines sum of (l ∷ ls) others end other has also =
    let first = first_same sum of l ls others end other has also in
    let behind : ls ≡ first.1 = same_lines (sum_after sum l) first.0 ls first.1 end other first.3 first.4 in
    ap (λ (x : List (List ℕ)). l ∷ x) behind ∙ sym first.2

-- what is found with one file more
same_torn : (bytes : List ℕ) (lines others : List (List ℕ)) (torn torn_too stray stray_too : ℕ) → lines ≡ others
    → IsSound bytes lines torn stray → IsSound bytes others torn_too stray_too → torn ≡ torn_too
same_torn bytes lines others torn torn_too stray stray_too same one other =
    let long : length (lines_text 0 lines) ≡ length (lines_text 0 others) =
    ap (λ (ls : List (List ℕ)). length (lines_text 0 ls)) same in
    let at = one.all.bytes_are in
    let at_too = other.all.bytes_are in
    let is = one.torn_is in
    let is_too = other.torn_is in
    omega (arith, long, at, at_too, is, is_too)

same_taken : (file : ℕ) (old a b : FoundParts) (lines : List (List ℕ)) → HasLinesOf old file lines a
    → HasLinesOf old file lines b → a ≡ b
same_taken file old a b [] one other = one ∙ sym other
same_taken file old a b (l ∷ ls) one other =
    let same : one.0 ≡ other.0 = ap (λ o. unwrap_or o one.0) (sym one.1 ∙ other.1) in
    let goes : GoesOn old other.0.1 other.0.2 ls a =
    subst (λ (head : ℕ × ℕ × List ℕ). GoesOn old head.1 head.2 ls a) same one.3 in
    goes ∙ sym other.3

same_file : (file : ℕ) (old a b : FoundParts) (bytes : List ℕ) → IsTaken old file bytes a → IsTaken old file bytes b → a ≡ b
same_file file old a b bytes one other =
    let lines : one.lines ≡ other.lines =
    same_lines 0 (text bytes) one.lines other.lines one.sound.end other.sound.end one.sound.all.has other.sound.all.has in
    let torn : one.torn ≡ other.torn =
    same_torn bytes one.lines other.lines one.torn other.torn one.stray other.stray lines one.sound other.sound in
    let stray : one.stray ≡ other.stray = one.sound.stray_is ∙ sym other.sound.stray_is in
    let by_lines : HasLinesOf (at_file file one.torn one.stray old) file other.lines a =
    subst (λ (ls : List (List ℕ)). HasLinesOf (at_file file one.torn one.stray old) file ls a) lines one.taken in
    let by_torn : HasLinesOf (at_file file other.torn one.stray old) file other.lines a =
    subst (λ (n : ℕ). HasLinesOf (at_file file n one.stray old) file other.lines a) torn by_lines in
    same_taken file (at_file file other.torn other.stray old) a b other.lines
    (subst (λ (n : ℕ). HasLinesOf (at_file file other.torn n old) file other.lines a) stray by_torn) other.taken

pub same_found : (files : List (List ℕ)) (a b : FoundParts) → AreFound files a → AreFound files b → a ≡ b
same_found [] a b one other = one ∙ sym other
same_found (bytes ∷ earlier) a b one other =
    let before : one.0 ≡ other.0 = same_found earlier one.0 other.0 one.1 other.1 in
    same_file (length earlier + 1) other.0 a b bytes
    (subst (λ (f : FoundParts). IsTaken f (length earlier + 1) bytes a) before one.2) other.2
