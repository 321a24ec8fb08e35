-- How the log is kept: the ids of the legs that were sent, each with its number, and where each leg stands, which the
-- window of those in doubt and the runs of the settled ones say. They stand for the whole list of entries.
use Rattle.std.specs.Prelude.{◌≡◌, ◌<◌, ◌≤◌, ◌+◌, ◌-◌, ◌==◌, ◌&&◌, nat_le, nat_lt, ℕ, Bool, zero, suc, List, [], ◌∷◌, if◌then◌else◌}
use Rattle.leg.specs.LegId.{LegIdParts}
use Rattle.leg.specs.declared.leg_state.LegState.TheVariants.{Doubt}
use Rattle.resend.specs.declared.numbered_id.NumberedId.{NumberedId}
use Rattle.resend.specs.declared.run.Run.{Run}
use Rattle.resend.specs.declared.sent.Sent.{Sent}
use Rattle.resend.specs.Log.{SentLeg, Entry, last_ordinal}
use Rattle.resend.specs.Log.Entry.{Admin, Sent as SentEntry}
use Rattle.resend.specs.Window.{doubts}

-- whether the leg of a number is in a run
abbrev pub has_number : ℕ → Run → Bool
has_number number run = nat_le run.first_number number && nat_lt number (run.first_number + run.count)

-- the ordinal that the window has for a number
abbrev pub ordinal_in : ℕ → List Sent → ℕ
ordinal_in number [] = 0
ordinal_in number (sent ∷ window) = if sent.number == number then sent.ordinal else ordinal_in number window

-- the leg of a number and an id: settled as the run that it is in, or else in doubt
abbrev pub kept_leg : ℕ → LegIdParts → List Sent → List Run → SentLeg
kept_leg number id window [] = record { ordinal = ordinal_in number window; id = id; state = Doubt }
kept_leg number id window (run ∷ runs) =
    if has_number number run
    then record { ordinal = run.first_ordinal + (number - run.first_number); id = id; state = run.state }
    else kept_leg number id window runs

abbrev pub kept_legs : List NumberedId → List Sent → List Run → List (ℕ × SentLeg)
kept_legs [] window runs = []
kept_legs (numbered ∷ ids) window runs =
    (numbered.number, kept_leg numbered.number numbered.id window runs) ∷ kept_legs ids window runs

-- so many entries above a number: these legs, and administrative messages between them
abbrev pub filled : ℕ → ℕ → List (ℕ × SentLeg) → List Entry
filled zero low legs = []
filled (suc count) low [] = Admin ∷ filled count (suc low) []
filled (suc count) low ((number, leg) ∷ legs) =
    if number == suc low
    then SentEntry leg ∷ filled count (suc low) legs
    else Admin ∷ filled count (suc low) ((number, leg) ∷ legs)

-- the entries up to the last number
abbrev pub entries : ℕ → List (ℕ × SentLeg) → List Entry
entries last legs = filled last 0 legs

-- numbers and ordinals rise from leg to leg, above these, and no number is above the last
abbrev pub IsRising : ℕ → ℕ → ℕ → List (ℕ × SentLeg) → Type 0
IsRising number ordinal last [] = Unit {0}
IsRising number ordinal last ((next, leg) ∷ legs) =
    (number < next) × (ordinal < leg.ordinal) × (next ≤ last) × IsRising next leg.ordinal last legs

-- the legs are in order, this ordinal is that of the last one, and the window has those in doubt
pub record IsKept (last ordinal : ℕ) (legs : List (ℕ × SentLeg)) (window : List Sent) : Type 0 where
  pub fits : last < 18446744073709551615
  pub rising : IsRising 0 0 last legs
  pub ordinal_is : ordinal ≡ last_ordinal (entries last legs)
  pub in_doubt : window ≡ doubts legs

-- how many elements a list begins with that pass a test
abbrev pub leading : {A : Type 0} → (A → Bool) → List A → ℕ
leading test [] = 0
leading test (x ∷ xs) = if test x then suc (leading test xs) else 0
