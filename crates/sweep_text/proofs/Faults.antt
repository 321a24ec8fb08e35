-- A fault that is said is answered.
use Rattle.std.proofs.Common.{◌≡◌, ℕ, List, Option, sym, ap, subst}
use Rattle.std.specs.Prelude.{Result, Ok, Err}
use Rattle.leg.specs.declared.sweep.Routed.{Routed}
use Rattle.sweep_text.specs.declared.command.Command.{Command}
use Rattle.sweep_text.specs.declared.line_fault.LineFault.{LineFault}
use Rattle.sweep_text.specs.declared.line_fault.LineFault.TheVariants.{TooLong, NotText, Unknown, Extra, Short, NoVenue, BadSymbol, BadSide, BadShares, BadPrice, BadReference, OutOfMemory}
use Rattle.sweep_text.specs.Legs.{and_then}
use Rattle.sweep_text.specs.Line.{Answers, AnswersLegs, sweep_of}

-- of legs
pub legs_fault : (said : Result (List Routed) LineFault) (fault : LineFault) → said ≡ Err fault
    → AnswersLegs said (Err fault)
legs_fault said TooLong is = is
legs_fault said NotText is = is
legs_fault said (Unknown _) is = is
legs_fault said (Extra _) is = is
legs_fault said Short is = is
legs_fault said (NoVenue _) is = is
legs_fault said (BadSymbol _) is = is
legs_fault said (BadSide _) is = is
legs_fault said (BadShares _) is = is
legs_fault said (BadPrice _) is = is
legs_fault said (BadReference _) is = is
legs_fault said OutOfMemory is = tt

-- the sweep of the legs that are said, under a reference if there is one
abbrev pub sweep_said : Option (List ℕ) → Result (List Routed) LineFault → Result Command LineFault
sweep_said reference said = and_then said (λ legs. Ok (sweep_of reference legs))

-- of a sweep, where it is one of its legs
pub sweep_fault : (reference : Option (List ℕ)) (said : Result (List Routed) LineFault) (fault : LineFault)
    → AnswersLegs said (Err fault) → Answers (sweep_said reference said) (Err fault)
sweep_fault reference said TooLong is = ap (sweep_said reference) is
sweep_fault reference said NotText is = ap (sweep_said reference) is
sweep_fault reference said (Unknown _) is = ap (sweep_said reference) is
sweep_fault reference said (Extra _) is = ap (sweep_said reference) is
sweep_fault reference said Short is = ap (sweep_said reference) is
sweep_fault reference said (NoVenue _) is = ap (sweep_said reference) is
sweep_fault reference said (BadSymbol _) is = ap (sweep_said reference) is
sweep_fault reference said (BadSide _) is = ap (sweep_said reference) is
sweep_fault reference said (BadShares _) is = ap (sweep_said reference) is
sweep_fault reference said (BadPrice _) is = ap (sweep_said reference) is
sweep_fault reference said (BadReference _) is = ap (sweep_said reference) is
sweep_fault reference said OutOfMemory is = tt

-- what is said is an answer
pub answer_is : (said answer : Result Command LineFault) → said ≡ answer → Answers said answer
answer_is said (Ok command) is = is
answer_is said (Err TooLong) is = is
answer_is said (Err NotText) is = is
answer_is said (Err (Unknown _)) is = is
answer_is said (Err (Extra _)) is = is
answer_is said (Err Short) is = is
answer_is said (Err (NoVenue _)) is = is
answer_is said (Err (BadSymbol _)) is = is
answer_is said (Err (BadSide _)) is = is
answer_is said (Err (BadShares _)) is = is
answer_is said (Err (BadPrice _)) is = is
answer_is said (Err (BadReference _)) is = is
answer_is said (Err OutOfMemory) is = tt

-- an answer to the same
pub answers_same : (said same answer : Result Command LineFault) → said ≡ same → Answers same answer
    → Answers said answer
answers_same said same answer is answers =
    subst (λ (s : Result Command LineFault). Answers s answer) (sym is) answers

pub ruleset answers = (answer_is, answers_same)
