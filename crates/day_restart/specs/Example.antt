-- Worked cases of what lines leave.
use Rattle.std.specs.Prelude.{◌≡◌, ℕ, List, [], ◌∷◌, ◌++◌, length, drop, codes, Option, Some, None}
use Rattle.std.specs.Option.{option_map}
use Rattle.fix_tags.specs.Config.{ConfigParts}
use Rattle.fix_tags.specs.Stamp.{StampParts}
use Rattle.dialect.specs.Wording.{Decoding}
use Rattle.session_core.specs.declared.phase.Phase.TheVariants.{Closed}
use Rattle.session_core.specs.Session.{new_session}
use Rattle.session_core.specs.Calling.{broken}
use Rattle.journal_words.specs.declared.act.Act.TheVariants.{Abandoned}
use Rattle.journal_words.specs.Deed.{timed}
use Rattle.journal_words.specs.Deed.DeedSaid.{Acts}
use Rattle.day_restart.specs.Restored.{restored_desk, restored_session}

abbrev pub at : List ℕ
at = codes "20261124-14:30:00.123 "

abbrev pub venues : List (List ℕ)
venues = codes "NYSE" ∷ codes "ARCA" ∷ []

abbrev pub first_sweep : List ℕ
first_sweep = at ++ codes "place 1 sweep NYSE IBM buy 100 10.25"

abbrev pub second_sweep : List ℕ
second_sweep = at ++ codes "place 2 sweep ref=P7-3 ARCA IBM sell 50 100"

-- both are placed again
abbrev pub TwoArePlacedAgain : Type 0
TwoArePlacedAgain = option_map length (restored_desk venues (first_sweep ∷ second_sweep ∷ [])) ≡ Some 2

-- of a new day none is
abbrev pub NoneIsPlaced : Type 0
NoneIsPlaced = restored_desk venues [] ≡ Some []

-- a sweep under another number isn't placed under its own
abbrev pub ANumberIsMissing : Type 0
ANumberIsMissing = restored_desk venues (second_sweep ∷ []) ≡ None

-- no day goes on that ended
abbrev pub NoneGoesOnBehindTheEnd : Type 0
NoneGoesOnBehindTheEnd = restored_desk venues (first_sweep ∷ (at ++ codes "end") ∷ []) ≡ None

-- the session of a venue without a line is new, and has no connection
abbrev pub ANewSessionIsDown : Type 0
ANewSessionIsDown = (read : Decoding) (config : ConfigParts) → restored_session read config []
    ≡ broken (new_session config)

-- one that was given up stays over
abbrev pub WhatWasGivenUpStaysOver : Type 0
WhatWasGivenUpStaysOver = (read : Decoding) (config : ConfigParts) (stamp : StampParts)
    → (restored_session read config (timed stamp (Acts Abandoned) ∷ [])).phase ≡ Closed
