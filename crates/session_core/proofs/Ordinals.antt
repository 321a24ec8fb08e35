-- The ordinal of the last leg, where legs are settled, and where a number is added.
use Rattle.std.proofs.Common.{◌≡◌, ◌++◌, ℕ, suc, Bool, true, false, List, [], ◌∷◌, refl, ◌∙◌, if◌then◌else◌}
use Rattle.leg.specs.declared.leg_state.LegState.{LegState}
use Rattle.resend.specs.Log.{SentLeg, Entry, is_doubt, entry_settled, settled_where, last_ordinal_after}
use Rattle.resend.specs.Log.Entry.{Admin, Sent}

pub last-admin : (ordinal : ℕ) (log : List Entry)
    → last_ordinal_after ordinal (log ++ Admin ∷ []) ≡ last_ordinal_after ordinal log
last-admin ordinal [] = refl
last-admin ordinal (Admin ∷ log) = last-admin ordinal log
last-admin ordinal (Sent leg ∷ log) = last-admin leg.ordinal log

pub last-sent : (ordinal : ℕ) (log : List Entry) (leg : SentLeg)
    → last_ordinal_after ordinal (log ++ Sent leg ∷ []) ≡ leg.ordinal
last-sent ordinal [] leg = refl
last-sent ordinal (Admin ∷ log) leg = last-sent ordinal log leg
last-sent ordinal (Sent first ∷ log) leg = last-sent first.ordinal log leg

settled_by : (doubt : Bool) (state : LegState) (ordinal : ℕ) (leg : SentLeg) (log : List Entry)
    → last_ordinal_after ordinal (Sent (if doubt then record leg { state = state } else leg) ∷ log)
    ≡ last_ordinal_after leg.ordinal log
settled_by true state ordinal leg log = refl
settled_by false state ordinal leg log = refl

settled_if : (settles : Bool) (state : LegState) (ordinal : ℕ) (entry : Entry) (log : List Entry)
    → last_ordinal_after ordinal ((if settles then entry_settled state entry else entry) ∷ log)
    ≡ last_ordinal_after ordinal (entry ∷ log)
settled_if false state ordinal entry log = refl
settled_if true state ordinal Admin log = refl
settled_if true state ordinal (Sent leg) log = settled_by (is_doubt leg.state) state ordinal leg log

pub last-settled_where : (test : ℕ → Bool) (state : LegState) (ordinal number : ℕ) (log : List Entry)
    → last_ordinal_after ordinal (settled_where test state number log) ≡ last_ordinal_after ordinal log
last-settled_where test state ordinal number [] = refl
last-settled_where test state ordinal number (Admin ∷ log) =
    settled_if (test number) state ordinal Admin (settled_where test state (suc number) log)
    ∙ last-settled_where test state ordinal (suc number) log
last-settled_where test state ordinal number (Sent leg ∷ log) =
    settled_if (test number) state ordinal (Sent leg) (settled_where test state (suc number) log)
    ∙ last-settled_where test state leg.ordinal (suc number) log
