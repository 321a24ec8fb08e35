-- Examples: the fields of messages.
use Rattle.std.specs.Prelude.{ℕ, false, List, [], ◌∷◌, codes}
use Rattle.fix_text.specs.Tagged.{Tagged}
use Rattle.report_words.specs.Words.{Words}

abbrev pub field : ℕ → List ℕ → Tagged
field tag value = record { tag = tag; value = value }

-- a text that is kept as a whole
abbrev pub whole : List ℕ → Words
whole text = record { text = text; is_cut = false }

-- a report that an order was refused: `35=8|37=NONE|150=8|103=1|58=no such symbol`
abbrev pub refused_order : List Tagged
refused_order =
    field 35 (codes "8") ∷ field 37 (codes "NONE") ∷ field 150 (codes "8") ∷ field 103 (codes "1")
    ∷ field 58 (codes "no such symbol") ∷ []

-- a Reject of an order: `35=3|45=7|372=D|373=5|103=9|58=bad price`
abbrev pub rejected_message : List Tagged
rejected_message =
    field 35 (codes "3") ∷ field 45 (codes "7") ∷ field 372 (codes "D") ∷ field 373 (codes "5")
    ∷ field 103 (codes "9") ∷ field 58 (codes "bad price") ∷ []

-- a BusinessMessageReject of one: `35=j|45=7|372=D|380=4|58=closed`
abbrev pub rejected_business : List Tagged
rejected_business =
    field 35 (codes "j") ∷ field 45 (codes "7") ∷ field 372 (codes "D") ∷ field 380 (codes "4")
    ∷ field 58 (codes "closed") ∷ []
