-- What is left to read of an input up to a script's first line.
use Rattle.std.proofs.Common.{◌≡◌, ℕ, suc, ◌+◌, true, false, Bool, List, [], ◌∷◌, length, Option, Some, None, Ok, Err, Result, refl, sym, ap, subst, ◌∙◌, add-one}
use Rattle.std.specs.Prelude.{IfSome, if◌then◌else◌}
use Rattle.schedule.specs.Script.{head_of_words, is_passed_over, lines_of, words_of}
use Rattle.script.specs.DayScript.{BegunScript, bad_behind, bad_line, bad_line_of, begun_of, begun_of_lines}
use Rattle.replay_command.specs.Days.{end_behind, end_of}
use Rattle.replay_command.specs.Days.Ending.{BadAt}
use Rattle.replay_command.specs.declared.fault.CommandFault.{CommandFault}
use Rattle.replay_command.specs.declared.fault.CommandFault.TheVariants.{CommandLine, BadLine, Impossible, NoFile, PictureIsThere, PictureFailed, ReadFailed, WriteFailed, OutOfMemory}
use Rattle.replay_command.specs.declared.begun.Begun.{Begun}
use Rattle.replay_command.specs.Stream.{Begins, Checks, IsFaultOf, IsOfInput, IsOfReading, ReadsLine, RunsTo, missing}
use Rattle.replay_command.proofs.InputLeft.{LeftSame, answered, asked_so, line_left, none_left, of_none}
use Rattle.replay_command.proofs.InputLeft as left
use Rattle.replay_command.proofs.InputRuns.{of_input}

-- the script is the one of the lines that are left
abbrev pub LeftToBegin : Option (List ℕ) → ℕ → Option (List ℕ) → Type 0
LeftToBegin left number bytes = LeftSame (begun_of_lines number) left bytes begun_of

pub all_left : (bytes : Option (List ℕ)) → LeftToBegin bytes 1 bytes
all_left bytes = left.all_left (begun_of_lines 1) bytes begun_of (λ all. refl)

pub input_fails : (behind bytes : Option (List ℕ)) (fault : CommandFault) → IsOfInput fault
    → IfSome bytes (λ (all : List ℕ). Begins (Err fault) behind (begun_of all))
input_fails behind None fault is = tt
input_fails behind (Some bytes) fault is = of_input fault (missing (begun_of bytes)) is

-- the first line is missing
abbrev IsMissing : ℕ → Result BegunScript ℕ → Type 0
IsMissing number script = missing script ≡ Some number

-- there is no further line
pub ended : (number : ℕ) (left behind bytes : Option (List ℕ)) (line : List ℕ) → IfSome left (ReadsLine false line behind)
    → LeftToBegin left number bytes
    → IfSome bytes (λ (all : List ℕ). Begins (Err (BadLine number)) behind (begun_of all))
ended number left behind bytes line read so_far =
    of_none (IsMissing number) (Err number) bytes begun_of refl
    (none_left (begun_of_lines number) left behind bytes line begun_of read so_far)

-- a line is passed over
passed : (number : ℕ) (line : List ℕ) (lines : List (List ℕ)) → is_passed_over line ≡ true
    → begun_of_lines (number + 1) lines ≡ begun_of_lines number (line ∷ lines)
passed number line lines over = rw over (ap (λ (n : ℕ). begun_of_lines n lines) (add-one number))

pub passed_over : (number : ℕ) (left behind bytes : Option (List ℕ)) (read line : List ℕ) (lines : List (List ℕ))
    → IfSome left (ReadsLine true read behind) → lines_of read ≡ line ∷ lines → is_passed_over line ≡ true
    → LeftToBegin left number bytes → LeftToBegin behind (number + 1) bytes
passed_over number left behind bytes read line lines reads first over so_far =
    asked_so (λ (ls : List (List ℕ)). begun_of_lines number (line ∷ ls)) (begun_of_lines (number + 1)) behind bytes begun_of
    (λ ls. passed number line ls over)
    (line_left (begun_of_lines number) left behind bytes read line lines begun_of reads first so_far)

-- it is no first line
no_head : (number : ℕ) (line : List ℕ) (lines : List (List ℕ)) → is_passed_over line ≡ false
    → head_of_words (words_of line) ≡ None → IsMissing number (begun_of_lines number (line ∷ lines))
no_head number line lines over is = rw over (rw is refl)

pub bad : (number : ℕ) (left behind bytes : Option (List ℕ)) (read line : List ℕ) (lines : List (List ℕ))
    → IfSome left (ReadsLine true read behind) → lines_of read ≡ line ∷ lines → is_passed_over line ≡ false
    → head_of_words (words_of line) ≡ None → LeftToBegin left number bytes
    → IfSome bytes (λ (all : List ℕ). Begins (Err (BadLine number)) behind (begun_of all))
bad number left behind bytes read line lines reads first over is so_far =
    answered (IsMissing number) (λ (ls : List (List ℕ)). begun_of_lines number (line ∷ ls)) behind bytes begun_of
    (λ ls. no_head number line ls over is)
    (line_left (begun_of_lines number) left behind bytes read line lines begun_of reads first so_far)

-- it is one
headed : (number : ℕ) (line : List ℕ) (lines : List (List ℕ)) (begun : Begun) → is_passed_over line ≡ false
    → head_of_words (words_of line) ≡ Some begun.head → begun.number ≡ number + 1
    → begun_of_lines number (line ∷ lines) ≡ Ok (record { head = begun.head; number = begun.number; lines = lines })
headed number line lines begun over is counts =
    rw over (rw is (ap (λ (n : ℕ). Ok (record { head = begun.head; number = n; lines = lines }))
    (sym (add-one number) ∙ sym counts)))

pub found : (number : ℕ) (left behind bytes : Option (List ℕ)) (read line : List ℕ) (lines : List (List ℕ)) (begun : Begun)
    → IfSome left (ReadsLine true read behind) → lines_of read ≡ line ∷ lines → is_passed_over line ≡ false
    → head_of_words (words_of line) ≡ Some begun.head → begun.number ≡ number + 1 → LeftToBegin left number bytes
    → IfSome bytes (λ (all : List ℕ). Begins (Ok begun) behind (begun_of all))
found number left behind None read line lines begun reads first over is counts so_far = tt
found number left behind (Some bytes) read line lines begun reads first over is counts so_far =
    let now = line_left (begun_of_lines number) left behind (Some bytes) read line lines begun_of reads first so_far in
    (now.0, now.1, sym now.2 ∙ headed number line (lines_of now.0) begun over is counts)

-- where the first line isn't had, the text has no more to it
same_bad : (fault : CommandFault) (script : Result BegunScript ℕ) → IsOfReading fault (missing script)
    → IsOfReading fault (bad_behind script)
same_bad fault (Err number) is = is
same_bad (CommandLine error) (Ok begun) is = absurd is
same_bad (BadLine number) (Ok begun) is = absurd cc
same_bad (Impossible number why) (Ok begun) is = absurd is
same_bad NoFile (Ok begun) is = absurd is
same_bad (PictureIsThere name) (Ok begun) is = absurd is
same_bad (PictureFailed name) (Ok begun) is = absurd is
same_bad ReadFailed (Ok begun) is = tt
same_bad WriteFailed (Ok begun) is = absurd is
same_bad OutOfMemory (Ok begun) is = tt

same_number : (at number : ℕ) → Some at ≡ Some number → BadAt at ≡ BadAt number
same_number at number is = cc

same_end : (steps : Bool) (fault : CommandFault) (script : Result BegunScript ℕ) → IsOfReading fault (missing script)
    → IsFaultOf steps fault (end_behind script)
same_end steps (CommandLine error) script is = absurd is
same_end steps (BadLine number) (Err at) is = same_number at number is
same_end steps (BadLine number) (Ok begun) is = absurd cc
same_end steps (Impossible number why) script is = absurd is
same_end steps NoFile script is = absurd is
same_end steps (PictureIsThere name) script is = absurd is
same_end steps (PictureFailed name) script is = absurd is
same_end steps ReadFailed script is = tt
same_end steps WriteFailed script is = absurd is
same_end steps OutOfMemory script is = tt

pub check_not_begun : (fault : CommandFault) (left bytes : Option (List ℕ))
    → IfSome bytes (λ (all : List ℕ). Begins (Err fault) left (begun_of all))
    → IfSome bytes (λ (all : List ℕ). Checks (Err fault) (bad_line_of all))
check_not_begun fault left None begins = tt
check_not_begun fault left (Some all) begins = same_bad fault (begun_of all) begins

pub run_not_begun : (steps : Bool) (fault : CommandFault) (left bytes : Option (List ℕ))
    → IfSome bytes (λ (all : List ℕ). Begins (Err fault) left (begun_of all))
    → IfSome bytes (λ (all : List ℕ). RunsTo steps (Err fault) (end_of all))
run_not_begun steps fault left None begins = tt
run_not_begun steps fault left (Some all) begins = same_end steps fault (begun_of all) begins

-- the lines behind the first line are the others to check
pub check_begun : (result : Result (Unit {0}) CommandFault) (left bytes : Option (List ℕ)) (begun : Begun)
    → IfSome bytes (λ (all : List ℕ). Begins (Ok begun) left (begun_of all))
    → IfSome left (λ (rest : List ℕ). Checks result (bad_line (length begun.head.venues) begun.number (lines_of rest)))
    → IfSome bytes (λ (all : List ℕ). Checks result (bad_line_of all))
check_begun result left None begun begins checks = tt
check_begun result left (Some all) begun begins checks =
    let here = subst (λ (l : Option (List ℕ)). IfSome l (λ (rest : List ℕ).
    Checks result (bad_line (length begun.head.venues) begun.number (lines_of rest)))) begins.1 checks in
    subst (λ (s : Result BegunScript ℕ). Checks result (bad_behind s)) (sym begins.2) here
