-- Lines that are told and kept, and what their records become.
use Rattle.std.proofs.Common.{◌≡◌, ℕ, ◌+◌, ◌-◌, ◌≤◌, ◌/◌, ◌%◌, Bool, true, false, eqb, length, List, [], ◌∷◌, ◌++◌, refl, sym, ap, ◌∙◌, subst, arith, append_assoc}
use Rattle.std.specs.Prelude.{not, ◌&&◌}
use Rattle.std.proofs.lemmas.Bool.{eqb-true}
use Rattle.std.proofs.lemmas.Bool.Decides.{nat_tests}
use Rattle.std.proofs.lemmas.Grind.{common_steps}
use Rattle.std.proofs.lemmas.List.Folds.{list_all-append}
use Rattle.desk_words.specs.Printable.{hex_digit}
use Rattle.journal_record.specs.Record.{is_line, mark_text, record_text, sum_after, lines_text, lines_sum}
use Rattle.journal_record.specs.Laws.{AreLines}
use Rattle.journal_record.proofs.ReadTo.{text_more, sum_more}
use Rattle.journal_tape.specs.Tape.{has_no_nul, text, zeros, Only, IsBetween, IsSettled}
use Rattle.journal_tape.specs.Told.{LinesTold, are_lines, unkept_text, with_line}
use Rattle.journal_tape.proofs.Texts.{between_is, clean_more, nothing_between, parts_are, settled_text, text_and_zeros}

pub text-append : (sum : ℕ) (a b : List (List ℕ)) → lines_text sum (a ++ b) ≡ lines_text sum a ++ lines_text (lines_sum sum a) b
text-append sum [] b = refl
text-append sum (l ∷ ls) b =
    ap (λ (t : List ℕ). record_text sum l ++ t) (text-append (sum_after sum l) ls b)
    ∙ sym (append_assoc (record_text sum l) (lines_text (sum_after sum l) ls)
    (lines_text (lines_sum (sum_after sum l) ls) b))

pub sum-append : (sum : ℕ) (a b : List (List ℕ)) → lines_sum sum (a ++ b) ≡ lines_sum (lines_sum sum a) b
sum-append sum [] b = refl
sum-append sum (l ∷ ls) b = sum-append (sum_after sum l) ls b

pub lines-append : (a b : List (List ℕ)) → AreLines a → AreLines b → AreLines (a ++ b)
lines-append [] b are also = also
lines-append (l ∷ ls) b are also = (are.0, lines-append ls b are.1 also)

-- a record has no NUL
digit_clean : (value : ℕ) → not (eqb (hex_digit value) 0) ≡ true
digit_clean value = grind (arith, nat_tests, common_steps)

clean-cons : (x : ℕ) (xs : List ℕ) → not (eqb x 0) ≡ true → has_no_nul xs ≡ true → has_no_nul (x ∷ xs) ≡ true
clean-cons x xs some clean = rw some clean

four_clean : (a b c d : ℕ) (rest : List ℕ) → has_no_nul rest ≡ true
    → has_no_nul (hex_digit a ∷ hex_digit b ∷ hex_digit c ∷ hex_digit d ∷ rest) ≡ true
four_clean a b c d rest clean =
    clean-cons (hex_digit a) (hex_digit b ∷ hex_digit c ∷ hex_digit d ∷ rest) (digit_clean a)
    (clean-cons (hex_digit b) (hex_digit c ∷ hex_digit d ∷ rest) (digit_clean b)
    (clean-cons (hex_digit c) (hex_digit d ∷ rest) (digit_clean c)
    (clean-cons (hex_digit d) rest (digit_clean d) clean)))

mark_clean : (sum : ℕ) (rest : List ℕ) → has_no_nul rest ≡ true → has_no_nul (mark_text sum ++ rest) ≡ true
mark_clean sum rest clean =
    four_clean (sum / 268435456 % 16) (sum / 16777216 % 16) (sum / 1048576 % 16) (sum / 65536 % 16)
    (hex_digit (sum / 4096 % 16) ∷ hex_digit (sum / 256 % 16) ∷ hex_digit (sum / 16 % 16) ∷ hex_digit (sum % 16)
    ∷ 32 ∷ rest)
    (four_clean (sum / 4096 % 16) (sum / 256 % 16) (sum / 16 % 16) (sum % 16) (32 ∷ rest)
    (clean-cons 32 rest refl clean))

line_clean : (line : List ℕ) → is_line line ≡ true → has_no_nul line ≡ true
line_clean [] is = refl
line_clean (c ∷ cs) is = clean-cons c cs (first c cs is) (line_clean cs (rest c cs is))
  where
    first : (c : ℕ) (cs : List ℕ) → is_line (c ∷ cs) ≡ true → not (eqb c 0) ≡ true
    first c cs is = grind (arith, nat_tests)

    rest : (c : ℕ) (cs : List ℕ) → is_line (c ∷ cs) ≡ true → is_line cs ≡ true
    rest c cs is = grind (arith, nat_tests)

pub lines_clean : (sum : ℕ) (lines : List (List ℕ)) → AreLines lines → has_no_nul (lines_text sum lines) ≡ true
lines_clean sum [] are = refl
lines_clean sum (l ∷ ls) are =
    clean_more (record_text sum l) (lines_text (sum_after sum l) ls)
    (mark_clean (sum_after sum l) (l ++ 10 ∷ []) (clean_more l (10 ∷ []) (line_clean l are.0) refl))
    (lines_clean (sum_after sum l) ls are.1)

-- a line is told
pub told_text : (told : LinesTold) (line batch : List ℕ) (sum : ℕ) → batch ≡ unkept_text told
    → sum ≡ lines_sum (lines_sum 0 told.kept) told.unkept
    → batch ++ record_text sum line ≡ unkept_text (with_line line told)
told_text told line batch sum is sum_is =
    ap (λ (t : List ℕ). t ++ record_text sum line) is
    ∙ ap (λ (s : ℕ). unkept_text told ++ record_text s line) sum_is
    ∙ sym (text_more (lines_sum 0 told.kept) told.unkept line)

pub told_sum : (told : LinesTold) (line : List ℕ) (sum : ℕ) → sum ≡ lines_sum (lines_sum 0 told.kept) told.unkept
    → sum_after sum line ≡ lines_sum (lines_sum 0 told.kept) (told.unkept ++ line ∷ [])
told_sum told line sum is =
    ap (λ (s : ℕ). sum_after s line) is ∙ sym (sum_more (lines_sum 0 told.kept) told.unkept line)

between_more : (old more behind found : List ℕ) → IsBetween old more found → IsBetween old (more ++ behind) found
between_more old more behind found is =
    let parts = parts_are old more found is in
    between_is old (more ++ behind) found
    (parts.0, parts.1 ++ behind, parts.2, ap (λ (t : List ℕ). t ++ behind) parts.3 ∙ append_assoc parts.0 parts.1 behind)

pub told_leaves : (told : LinesTold) (line found : List ℕ) → IsBetween (lines_text 0 told.kept) (unkept_text told) found
    → IsBetween (lines_text 0 told.kept) (unkept_text (with_line line told)) found
told_leaves told line found is =
    subst (λ (more : List ℕ). IsBetween (lines_text 0 told.kept) more found)
    (sym (text_more (lines_sum 0 told.kept) told.unkept line))
    (between_more (lines_text 0 told.kept) (unkept_text told)
    (record_text (lines_sum (lines_sum 0 told.kept) told.unkept) line) found is)

-- all are kept
pub kept_text : (told : LinesTold) (before after batch : List ℕ) → before ≡ lines_text 0 told.kept → batch ≡ unkept_text told
    → after ≡ before ++ batch → after ≡ lines_text 0 (told.kept ++ told.unkept)
kept_text told before after batch is batch_is more =
    more
    ∙ ap (λ (t : List ℕ). t ++ batch) is
    ∙ ap (λ (t : List ℕ). lines_text 0 told.kept ++ t) batch_is
    ∙ sym (text-append 0 told.kept told.unkept)

pub kept_sum : (told : LinesTold) (sum : ℕ) → sum ≡ lines_sum (lines_sum 0 told.kept) told.unkept
    → sum ≡ lines_sum 0 (told.kept ++ told.unkept)
kept_sum told sum is = is ∙ sym (sum-append 0 told.kept told.unkept)

-- what a crash leaves where all of it is on the disk
pub only_leaves : (kept : List (List ℕ)) (more seen found : List ℕ) (may_leave : List ℕ → Type 0)
    → text seen ≡ lines_text 0 kept → Only seen may_leave → may_leave found
    → IsBetween (lines_text 0 kept) more (text found)
only_leaves kept more seen found may_leave is only left =
    nothing_between (lines_text 0 kept) more (text found) (ap text (only found left) ∙ is)

-- lines by their test
pub lines_are : (lines : List (List ℕ)) → are_lines lines ≡ true → AreLines lines
lines_are [] is = tt
lines_are (l ∷ ls) is = (first (is_line l) (are_lines ls) is, lines_are ls (rest (is_line l) (are_lines ls) is))
  where
    first : (a b : Bool) → (a && b) ≡ true → a ≡ true
    first true b is = refl
    first false b is = absurd (cc)

    rest : (a b : Bool) → (a && b) ≡ true → b ≡ true
    rest true b is = is
    rest false b is = absurd (cc)

pub test-append : (a b : List (List ℕ)) → are_lines a ≡ true → are_lines b ≡ true → are_lines (a ++ b) ≡ true
test-append a b is also = list_all-append is_line a b ∙ both (are_lines a) (are_lines b) is also
  where
    both : (x y : Bool) → x ≡ true → y ≡ true → (x && y) ≡ true
    both x y is also = rw (is, also) refl

pub test_one : (line : List ℕ) → is_line line ≡ true → are_lines (line ∷ []) ≡ true
test_one line is = rw is refl

pub kept_clean : (kept : List (List ℕ)) → are_lines kept ≡ true → has_no_nul (lines_text 0 kept) ≡ true
kept_clean kept is = lines_clean 0 kept (lines_are kept is)

pub settled_lines : (kept : List (List ℕ)) (seen : List ℕ) (end room : ℕ) (may_leave : List ℕ → Type 0)
    → are_lines kept ≡ true → seen ≡ lines_text 0 kept ++ zeros (room - end) → end ≡ length (lines_text 0 kept)
    → end ≤ room → Only seen may_leave → IsSettled seen may_leave end room
settled_lines kept seen end room may_leave is file ends within durable =
    settled_text (lines_text 0 kept) seen end room may_leave (kept_clean kept is) file ends within durable

-- the text of a tape that has these lines and zeros
pub text_of_lines : (kept : List (List ℕ)) (seen : List ℕ) (n : ℕ) → are_lines kept ≡ true
    → seen ≡ lines_text 0 kept ++ zeros n → text seen ≡ lines_text 0 kept
text_of_lines kept seen n is file = ap text file ∙ text_and_zeros (lines_text 0 kept) n (kept_clean kept is)

-- no record is there where no line is
pub none_told : (sum : ℕ) (lines : List (List ℕ)) → lines_text sum lines ≡ [] → lines ≡ []
none_told sum [] none = refl
none_told sum (l ∷ ls) none = let long : length (lines_text sum (l ∷ ls)) ≡ 0 = ap length none in absurd (omega (arith, long))

pub none_of_length : (bytes : List ℕ) → eqb (length bytes) 0 ≡ true → bytes ≡ []
none_of_length [] is = refl
none_of_length (b ∷ bs) is = let long : length (b ∷ bs) ≡ 0 = eqb-true (length (b ∷ bs)) 0 is in absurd (omega (arith, long))

-- by other words for the same texts
pub between_same : (a b more other found : List ℕ) → a ≡ b → more ≡ other → IsBetween a more found → IsBetween b other found
between_same a b more other found is same between =
    subst (λ (x : List ℕ). IsBetween x other found) is (subst (λ (x : List ℕ). IsBetween a x found) same between)
