-- A dressed link as its caller sees it.
use Rattle.std.specs.Prelude.{◌≡◌, ◌⊎◌, ℕ, ◌+◌, ◌≤◌, min, List, [], Option, Some, None}
use Rattle.fix_tags.specs.Dress.{Dress}
use Rattle.link.specs.Traffic.{Traffic}
use Rattle.dressed_link.specs.Passing.{Passes, told_over}
use Rattle.dressed_link.specs.declared.dresser.Dresser.{Dresser}

-- the traffic: that of the link below, where nothing is put on
abbrev pub wire_over : Option Dresser → Option (List Traffic) → Option (List Traffic)
wire_over None below = below
wire_over (Some dresser) below = told_over dresser.told.traffic below

-- the faults: those of the link below, and those of its own
abbrev pub all_faults : Dresser → ℕ → ℕ
all_faults dresser below = min (below + dresser.faults) 18446744073709551615

abbrev pub faults_over : Option Dresser → ℕ → ℕ
faults_over None below = below
faults_over (Some dresser) below = all_faults dresser below

-- the link below carries what was taken, dressed
abbrev pub Carries : Option Dresser → Option (List Traffic) → Type 0
Carries None below = Unit {0}
Carries (Some dresser) below =
    Passes dresser.dress dresser.is_up dresser.pending.items dresser.told.traffic below

-- the dress that a link puts on, if it puts one on
abbrev pub dress_on : Option Dresser → Option Dress
dress_on None = None
dress_on (Some dresser) = Some dresser.dress

-- nothing is left to be written, or the link below counted a fault
abbrev pub IsWrittenOr : List ℕ → ℕ → ℕ → Type 0
IsWrittenOr pending before after = (pending ≡ []) ⊎ (min (before + 1) 18446744073709551615 ≤ after)
