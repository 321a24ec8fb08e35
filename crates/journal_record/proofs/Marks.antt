-- The marks of lines, in which no line ends.
use Rattle.std.proofs.Common.{◌≡◌, ℕ, ◌+◌, ◌/◌, ◌%◌, true, false, eqb, List, [], ◌∷◌, ◌++◌, length, take, drop, Some, None, refl, sym, ap, ◌∙◌, arith, append_assoc, take-append-drop}
use Rattle.std.proofs.lemmas.Bool.Decides.{nat_tests}
use Rattle.std.proofs.lemmas.Grind.{common_steps}
use Rattle.desk_words.specs.Printable.{hex_digit}
use Rattle.journal_record.specs.Record.{is_line, mark_text, marked, record_text, sum_after}
use Rattle.journal_record.specs.Reading.{first_line}
use Rattle.journal_record.proofs.Ends.{no_end-cons, line_ends}

digit_no_end : (value : ℕ) → eqb (hex_digit value) 10 ≡ false
digit_no_end value = grind (arith, nat_tests, common_steps)

digit_before : (value : ℕ) (text : List ℕ) → first_line text ≡ None → first_line (hex_digit value ∷ text) ≡ None
digit_before value text none = no_end-cons (hex_digit value) text (digit_no_end value) none

four_before : (a b c d : ℕ) (text : List ℕ) → first_line text ≡ None
    → first_line (hex_digit a ∷ hex_digit b ∷ hex_digit c ∷ hex_digit d ∷ text) ≡ None
four_before a b c d text none =
    digit_before a (hex_digit b ∷ hex_digit c ∷ hex_digit d ∷ text)
    (digit_before b (hex_digit c ∷ hex_digit d ∷ text)
    (digit_before c (hex_digit d ∷ text) (digit_before d text none)))

-- a mark before a line
pub no_end-mark : (sum : ℕ) (line : List ℕ) → first_line line ≡ None → first_line (mark_text sum ++ line) ≡ None
no_end-mark sum line none =
    four_before (sum / 268435456 % 16) (sum / 16777216 % 16) (sum / 1048576 % 16) (sum / 65536 % 16)
    (hex_digit (sum / 4096 % 16) ∷ hex_digit (sum / 256 % 16) ∷ hex_digit (sum / 16 % 16) ∷ hex_digit (sum % 16)
    ∷ 32 ∷ line)
    (four_before (sum / 4096 % 16) (sum / 256 % 16) (sum / 16 % 16) (sum % 16) (32 ∷ line)
    (no_end-cons 32 line refl none))

-- a line that may be written
byte_no_end : (c : ℕ) (cs : List ℕ) → is_line (c ∷ cs) ≡ true → eqb c 10 ≡ false
byte_no_end c cs clean = grind (arith, nat_tests)

rest_is_line : (c : ℕ) (cs : List ℕ) → is_line (c ∷ cs) ≡ true → is_line cs ≡ true
rest_is_line c cs clean = grind (arith, nat_tests)

pub line_no_end : (line : List ℕ) → is_line line ≡ true → first_line line ≡ None
line_no_end [] clean = refl
line_no_end (c ∷ cs) clean = no_end-cons c cs (byte_no_end c cs clean) (line_no_end cs (rest_is_line c cs clean))

-- a record with what is behind it
pub record_ends : (sum : ℕ) (line rest : List ℕ) → record_text sum line ++ rest ≡ marked sum line ++ 10 ∷ rest
record_ends sum line rest = ap (λ (l : List ℕ). mark_text (sum_after sum line) ++ l) (append_assoc line (10 ∷ []) rest)

pub record_first : (sum : ℕ) (line rest : List ℕ) → first_line line ≡ None
    → first_line (record_text sum line ++ rest) ≡ Some (marked sum line, rest)
record_first sum line rest none =
    ap first_line (record_ends sum line rest)
    ∙ line_ends (marked sum line) rest (no_end-mark (sum_after sum line) line none)

-- the line of a mark
pub marked_line : (sum : ℕ) (a b : List ℕ) → marked sum a ≡ marked sum b → a ≡ b
marked_line sum a b same = ap (λ (l : List ℕ). drop 9 l) same

-- by its first nine bytes
pub is_marked : (sum : ℕ) (whole : List ℕ) → take 9 whole ≡ mark_text (sum_after sum (drop 9 whole))
    → whole ≡ marked sum (drop 9 whole)
is_marked sum whole is = sym (take-append-drop 9 whole) ∙ ap (λ (l : List ℕ). l ++ drop 9 whole) is

pub not_marked : (sum : ℕ) (whole line : List ℕ) → whole ≡ marked sum line
    → take 9 whole ≡ mark_text (sum_after sum (drop 9 whole))
not_marked sum whole line is =
    ap (λ (l : List ℕ). take 9 l) is ∙ ap (λ (l : List ℕ). mark_text (sum_after sum l)) (sym (ap (λ (l : List ℕ). drop 9 l) is))

pub long_marked : (sum : ℕ) (whole line : List ℕ) → whole ≡ marked sum line → length whole ≡ 9 + length line
long_marked sum whole line is = omega (arith, ap length is)
