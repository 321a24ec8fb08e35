-- What a line asks for.
use Rattle.std.specs.Prelude.{◌≡◌, ◌≢◌, ℕ, List, [], ◌∷◌, codes, Option, Some, None, Result, Ok, Err, Vec, Bool, false, drop, length, nat_eq, nat_le, ◌==◌, if◌then◌else◌}
use Rattle.std.specs.List.{list_all, starts_with}
use Rattle.std.specs.Str.{bytes_eq}
use Rattle.std.specs.declared.alloc.Global.{Global}
use Rattle.leg.specs.declared.sweep.Routed.{Routed}
use Rattle.desk_words.specs.Printable.{is_printable_byte, shown}
use Rattle.sweep_refs.specs.Ref.{ref_of}
use Rattle.sweep_text.specs.declared.command.Command.{Command}
use Rattle.sweep_text.specs.declared.command.Command.TheVariants.{Nothing, Status, Close, Sweep}
use Rattle.sweep_text.specs.declared.line_fault.LineFault.{LineFault}
use Rattle.sweep_text.specs.declared.line_fault.LineFault.TheVariants.{TooLong, NotText, Unknown, Extra, BadReference, OutOfMemory}
use Rattle.sweep_text.specs.Legs.{and_then, legs_of, more_legs, or_fault}
use Rattle.sweep_text.specs.Words.{words_of}

-- a command with nothing behind it
abbrev pub alone : Command → List (List ℕ) → Result Command LineFault
alone command [] = Ok command
alone command (word ∷ words) = Err (Extra (shown 200 word))

-- the sweep of these legs, under a reference, if there is one
abbrev pub sweep_of : Option (List ℕ) → List Routed → Command
sweep_of reference legs = Sweep (record { reference = reference; sweep = record { legs = legs } })

-- the sweep of the words behind `sweep` and its reference
abbrev pub legs_say : List (List ℕ) → Option (List ℕ) → List (List ℕ) → Result Command LineFault
legs_say names reference [] = Ok (sweep_of reference [])
legs_say names reference (word ∷ words) =
    and_then (legs_of names (word ∷ words)) (λ legs. Ok (sweep_of reference legs))

-- the reference of a word that begins with `ref=`
abbrev pub ref_in : List ℕ → Result (List ℕ) LineFault
ref_in word = or_fault (BadReference (shown 200 word)) (ref_of (drop 4 word))

-- the sweep of the words behind `sweep`: a word that begins with `ref=` may stand before its legs
unfoldable pub sweep_says : List (List ℕ) → List (List ℕ) → Result Command LineFault
sweep_says names [] = Ok (sweep_of None [])
sweep_says names (word ∷ words) =
    if starts_with nat_eq word (codes "ref=")
    then and_then (ref_in word) (λ reference. legs_say names (Some reference) words)
    else legs_say names None (word ∷ words)

-- whether a word begins a remark
abbrev pub is_remark : List ℕ → Bool
is_remark [] = false
is_remark (byte ∷ bytes) = byte == 35

-- what a line asks for by its words
abbrev pub words_say : List (List ℕ) → List (List ℕ) → Result Command LineFault
words_say names [] = Ok Nothing
words_say names (word ∷ words) =
    if is_remark word then Ok Nothing
    else (if bytes_eq word (codes "status") then alone Status words
    else (if bytes_eq word (codes "close") then alone Close words
    else (if bytes_eq word (codes "sweep") then sweep_says names words
    else Err (Unknown (shown 200 word)))))

-- what a line asks for, over these names of venues, or its first fault
unfoldable pub line_says : List (List ℕ) → List ℕ → Result Command LineFault
line_says names line =
    if nat_le (length line) 65_536
    then (if list_all is_printable_byte line then words_say names (words_of line) else Err NotText)
    else Err TooLong

-- words that ask for a sweep with legs
abbrev pub AskForLegs : List (List ℕ) → Type 0
AskForLegs [] = ⊥
AskForLegs (word ∷ words) = (word ≡ codes "sweep") × (words ≢ [])

-- the answer is what is said, or its fault; or memory ran out
abbrev pub Answers : Result Command LineFault → Result Command LineFault → Type 0
Answers said (Err OutOfMemory) = Unit {0}
Answers said answer = said ≡ answer

-- the same, of a list of legs
abbrev pub AnswersLegs : Result (List Routed) LineFault → Result (Vec Routed Global) LineFault → Type 0
AnswersLegs said (Ok legs) = said ≡ Ok legs.items
AnswersLegs said (Err OutOfMemory) = Unit {0}
AnswersLegs said (Err fault) = said ≡ Err fault

-- behind a leg stands the venue of another and these words, or nothing, or a fault
abbrev pub FollowsLeg : List (List ℕ) → Result (Option (List ℕ)) LineFault → List (List ℕ) → Type 0
FollowsLeg words (Ok None) rest = words ≡ []
FollowsLeg words (Ok (Some venue)) rest = (names : List (List ℕ)) → more_legs names words ≡ legs_of names (venue ∷ rest)
FollowsLeg words (Err fault) rest = (names : List (List ℕ)) → more_legs names words ≡ Err fault
