-- The log as one value, what its calls answer, and the legs in doubt that it lends.
use Rattle.std.specs.Prelude.{ℕ, List, [], ◌∷◌, Result, if◌then◌else◌}
use Rattle.resend.specs.declared.log_fault.LogFault.{LogFault}
use Rattle.resend.specs.declared.sent.Sent.{Sent}
use Rattle.resend.specs.Log.{SentLeg, Entry, spend, sent_legs, is_doubt}

-- the numbers sent, and the one that no message may have
pub record OutLogParts : Type 0 where
  pub max_number : ℕ
  pub entries : List Entry

-- what a call that spends a number answers, and the log after it: a refused one leaves it as it was
abbrev pub push : Entry → OutLogParts → Result ℕ LogFault × OutLogParts
push entry log =
    let spent : Result ℕ LogFault × List Entry = spend log.max_number entry log.entries in
    (spent.0, record log { entries = spent.1 })

-- the legs in doubt, in the order of their numbers
abbrev pub doubts : List (ℕ × SentLeg) → List Sent
doubts [] = []
doubts ((number, leg) ∷ legs) =
    if is_doubt leg.state then record { number = number; ordinal = leg.ordinal; id = leg.id } ∷ doubts legs
    else doubts legs

abbrev pub window : List Entry → List Sent
window log = doubts (sent_legs log)
