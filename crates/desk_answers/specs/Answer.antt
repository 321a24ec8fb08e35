-- What a line is answered.
use Rattle.std.specs.Prelude.{ℕ, List, [], ◌++◌, Option, Some, None, codes, decimal}
use Rattle.order_limits.specs.Over.{over_code, over_text}
use Rattle.desk_answers.specs.declared.answer.Answer.{Answer}
use Rattle.desk_answers.specs.declared.answer.Answer.TheVariants.{Placed, Again, Refused, Closing, BadLine}
use Rattle.desk_answers.specs.declared.answer.Refusal.{Refusal}
use Rattle.desk_answers.specs.declared.answer.Refusal.TheVariants.{NoLegs, TooManyLegs, UnknownVenue, GateDown, BacklogFull, SweepsSpent, OutOfMemory, WrongBook, OtherLegs, NoReference, OverLimit}
use Rattle.sweep_text.specs.Fault.{fault_text}

-- a venue before what its leg is over, where one is to blame
abbrev pub at_text : Option (List ℕ) → List ℕ
at_text None = []
at_text (Some venue) = venue ++ codes " "

-- why a sweep isn't placed, as `R04 ARCA: its gate is down` or
-- `R11: NYSE IBM has 30000 shares, and a leg may have 20000`
abbrev pub refusal_text : Refusal → List ℕ
refusal_text NoLegs = codes "R01: it has no legs"
refusal_text TooManyLegs = codes "R02: it has more than 32 legs"
refusal_text UnknownVenue = codes "R03: a leg is for no venue of the desk"
refusal_text (GateDown venue) = codes "R04 " ++ venue ++ codes ": its gate is down"
refusal_text (BacklogFull venue) = codes "R05 " ++ venue ++ codes ": its backlog is full"
refusal_text SweepsSpent = codes "R06: the numbers of sweeps are spent"
refusal_text OutOfMemory = codes "R07: out of memory"
refusal_text WrongBook = codes "R08: the book isn't the desk's"
refusal_text OtherLegs = codes "R09: its reference is another sweep's"
refusal_text NoReference = codes "R10: it has no reference"
refusal_text (OverLimit venue over) = over_code over ++ codes ": " ++ at_text venue ++ over_text over

-- an answer, as `placed 12 shares 150`, `placed 12 shares 150 again`,
-- `refused R04 ARCA: its gate is down` or `bad line 7: no venue ARCA2`
abbrev pub answer_text : Answer → List ℕ
answer_text (Placed sweep shares) = codes "placed " ++ decimal sweep ++ codes " shares " ++ decimal shares
answer_text (Again sweep shares) =
    codes "placed " ++ decimal sweep ++ codes " shares " ++ decimal shares ++ codes " again"
answer_text (Refused refusal) = codes "refused " ++ refusal_text refusal
answer_text Closing = codes "refused: the day is closing"
answer_text (BadLine number fault) = codes "bad line " ++ decimal number ++ codes ": " ++ fault_text fault
