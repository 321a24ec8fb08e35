-- How the numbers sent go on from one log to a later one.
use Rattle.std.specs.Prelude.{◌≡◌, ◌≢◌, ◌≤◌, ◌<◌, ◌⊎◌, ◌+◌, ℕ, Bool, true, false, ◌&&◌, if◌then◌else◌}
use Rattle.std.specs.Prelude.{List, [], ◌∷◌, Some}
use Rattle.leg.specs.LegId.{LegIdParts}
use Rattle.leg.specs.Numbered.{numbered}
use Rattle.leg.specs.declared.leg_state.LegState.{LegState}
use Rattle.leg.specs.declared.leg_state.LegState.TheVariants.{Doubt, Taken, Withdrawn}
use Rattle.resend.specs.Log.{SentLeg, Entry, GapFillParts, last_number, is_doubt}
use Rattle.resend.specs.Log.Entry.{Admin, Sent}

-- a leg in doubt stays so or is settled, and any other keeps its state
abbrev pub MayBecome : LegState → LegState → Type 0
MayBecome old new = (new ≡ old) ⊎ ((old ≡ Doubt) × ((new ≡ Taken) ⊎ (new ≡ Withdrawn)))

-- the same leg, perhaps settled since
pub record IsLegLater (old new : SentLeg) : Type 0 where
  pub ordinal : new.ordinal ≡ old.ordinal
  pub id : new.id ≡ old.id
  pub state : MayBecome old.state new.state

-- each number that was spent stays spent on the same thing, and others were only added behind
pub record IsLater (old new : List Entry) : Type 0 where
  pub last : last_number old ≤ last_number new
  pub admin : (number : ℕ) → numbered number old ≡ Some Admin → numbered number new ≡ Some Admin
  pub sent : (number : ℕ) (leg : SentLeg) → numbered number old ≡ Some (Sent leg)
      → (later : SentLeg) × (numbered number new ≡ Some (Sent later)) × IsLegLater leg later

-- a leg that is withdrawn was so before: none was withdrawn since
abbrev pub WithdrawsNone : List Entry → List Entry → Type 0
WithdrawsNone old new =
    (number : ℕ) (leg : SentLeg) → numbered number new ≡ Some (Sent leg) → leg.state ≡ Withdrawn
    → numbered number old ≡ Some (Sent leg)

-- the legs that were in doubt and are withdrawn now, in the order of their numbers
abbrev pub is_withdrawn : LegState → Bool
is_withdrawn Withdrawn = true
is_withdrawn _ = false

abbrev pub withdrawn_since : List Entry → List Entry → List LegIdParts
withdrawn_since (Sent leg ∷ old) (Sent now ∷ new) =
    if is_doubt leg.state && is_withdrawn now.state then leg.id ∷ withdrawn_since old new else withdrawn_since old new
withdrawn_since (entry ∷ old) (now ∷ new) = withdrawn_since old new
withdrawn_since _ _ = []

-- a gap fill that answers for numbers which were sent, from begin on, no further than was asked for and than top
pub record IsFillFor (begin last top : ℕ) (log : List Entry) (fill : GapFillParts) : Type 0 where
  pub from_one : 1 ≤ fill.first
  pub from_begin : fill.first ≡ begin
  pub forward : fill.first < fill.new_number
  pub was_sent : fill.new_number ≤ last_number log + 1
  pub was_asked : last ≢ 0 → fill.new_number ≤ last + 1
  pub below_top : fill.new_number ≤ top + 1
