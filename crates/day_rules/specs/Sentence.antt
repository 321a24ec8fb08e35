-- The sentences of the sweep theorem in words.
use Rattle.std.specs.Prelude.{ℕ, List, codes}
use Rattle.day_rules.specs.declared.sentence.Sentence.{Sentence}
use Rattle.day_rules.specs.declared.sentence.Sentence.TheVariants as sentence

abbrev pub sentence_name : Sentence → List ℕ
sentence_name sentence.Placed = codes "placed"
sentence_name sentence.Order = codes "order"
sentence_name sentence.Gaps = codes "gaps"
sentence_name sentence.Close = codes "close"
sentence_name sentence.Settled = codes "settled"
sentence_name sentence.Reports = codes "reports"
sentence_name sentence.Shares = codes "shares"

abbrev pub sentence_text : Sentence → List ℕ
sentence_text sentence.Placed = codes "a sweep is placed under the next number, with the shares of the line before it"
sentence_text sentence.Order = codes "the orders are legs released to the venue, in release order, and none twice"
sentence_text sentence.Gaps =
    codes "a leg before the last one taken is taken or withdrawn, and no withdrawn one is taken"
sentence_text sentence.Close = codes "no order is sent once the session logged out"
sentence_text sentence.Settled = codes "once both sides logged out no leg is in doubt"
sentence_text sentence.Reports = codes "each report is on an order that was sent, once, under a number of its own"
sentence_text sentence.Shares =
    codes "the five parts of each sweep's shares add up to its legs, and the reports to the orders"

-- what to do where it is broken
abbrev pub sentence_advice : Sentence → List ℕ
sentence_advice sentence.Placed = codes "see that sweeps.log is whole and that no venue's log is left out"
sentence_advice sentence.Order =
    codes "see that these are logs of one day, then stop the desk: it sent an order that it didn't release"
sentence_advice sentence.Gaps = codes "ask the venue which of these orders it took, and compare its fills with the legs"
sentence_advice sentence.Close = codes "stop the desk: its session sent an order behind its Logout"
sentence_advice sentence.Settled = codes "ask the venue whether it took this order"
sentence_advice sentence.Reports =
    codes "ask the venue which order this report is on, and compare its fills with the legs"
sentence_advice sentence.Shares = codes "compare the venue's fills of this order with its leg"
