-- Legs are settled as the exchange told, and then a gap fill stands for none in doubt.
use Rattle.std.proofs.Common.{◌≡◌, ◌≤◌, ◌<◌, ◌⊎◌, ◌++◌, ℕ, true, false, nat_lt, nat_le, List, [], ◌∷◌, Option, Some, refl, sym, ap, subst, ◌∙◌, inl, inr, arith}
use Rattle.std.proofs.lemmas.Bool.Decides.{nat_tests}
use Rattle.leg.specs.Numbered.{numbered}
use Rattle.leg.specs.declared.leg_state.LegState.{LegState}
use Rattle.leg.specs.declared.leg_state.LegState.TheVariants.{Doubt, Taken, Withdrawn}
use Rattle.resend.specs.Log.{SentLeg, Entry, take_below, give_up_from}
use Rattle.resend.specs.Log.Entry.{Admin, Sent}
use Rattle.resend.proofs.Later.{withdraws_none-take_below}
use Rattle.session_core.specs.Sound.{EveryLeg, HasNoDoubt}
use Rattle.session_core.specs.Onward.{IsToldTaken, IsToldMissing, SettlesAsTold}
use Rattle.session_core.proofs.Legs.{became, settled-doubt, legs-settled, legs-admin}

-- what is said of a leg that is in a state, as it was before, or of one that is settled now
abbrev Then : List Entry → (ℕ → Type 0) → ℕ → SentLeg → Type 0
Then log Told number leg = (numbered number log ≡ Some (Sent leg)) ⊎ Told number

stays_so : (log : List Entry) (Told : ℕ → Type 0) (state : LegState) (number : ℕ) (was now : SentLeg) → now ≡ was
    → (was.state ≡ state → Then log Told number was) → now.state ≡ state → Then log Told number now
stays_so log Told state number was now same before so =
    subst (Then log Told number) (sym same) (before (ap (λ (l : SentLeg). l.state) (sym same) ∙ so))

below : (number told : ℕ) → nat_lt number told ≡ true → number < told
below number told is = grind (arith, nat_tests, is)

from : (number told : ℕ) → nat_le told number ≡ true → told ≤ number
from number told is = grind (arith, nat_tests, is)

taken_below : (told : ℕ) (log : List Entry)
    → EveryLeg (take_below told log) (λ number leg. leg.state ≡ Taken → Then log (IsToldTaken (Some told)) number leg)
taken_below told log =
    legs-settled (λ n. nat_lt n told) Taken (λ number leg. numbered number log ≡ Some (Sent leg))
    (λ number leg. leg.state ≡ Taken → Then log (IsToldTaken (Some told)) number leg) log
    (λ number was is so.
    elim (became (nat_lt number told) Taken was) [
      | inl same ↦ inl (subst (λ l. numbered number log ≡ Some (Sent l)) (sym same) is)
      | inr now ↦ inr (told, refl, below number told now.0)
    ])
    (λ number leg is. is)

-- a fence was answered
pub passed-told : (told : ℕ) (log : List Entry) → SettlesAsTold (Some told) log (take_below told log)
passed-told told log = record {
  taken = taken_below told log;
  withdrawn = λ number leg is gone. inl (withdraws_none-take_below told log number leg is gone);
}

-- every leg in doubt is settled
pub settled-told : (told : ℕ) (log : List Entry)
    → SettlesAsTold (Some told) log (give_up_from told (take_below told log))
settled-told told log = record {
  taken =
      legs-settled (λ n. nat_le told n) Withdrawn
      (λ number leg. leg.state ≡ Taken → Then log (IsToldTaken (Some told)) number leg)
      (λ number leg. leg.state ≡ Taken → Then log (IsToldTaken (Some told)) number leg) (take_below told log)
      (λ number was before so.
      elim (became (nat_le told number) Withdrawn was) [
        | inl same ↦ stays_so log (IsToldTaken (Some told)) Taken number was _ same before so
        | inr now ↦ absurd (let e = sym now.1 ∙ so in cc)
      ])
      (taken_below told log);
  withdrawn =
      legs-settled (λ n. nat_le told n) Withdrawn
      (λ number leg. leg.state ≡ Withdrawn → Then log (IsToldMissing (Some told)) number leg)
      (λ number leg. leg.state ≡ Withdrawn → Then log (IsToldMissing (Some told)) number leg) (take_below told log)
      (λ number was before so.
      elim (became (nat_le told number) Withdrawn was) [
        | inl same ↦ stays_so log (IsToldMissing (Some told)) Withdrawn number was _ same before so
        | inr now ↦ inr (told, refl, from number told now.0)
      ])
      (λ number leg is gone. inl (withdraws_none-take_below told log number leg is gone));
}

-- the same log, and one with a number of the session more
pub same-told : (told : Option ℕ) (log now : List Entry) → now ≡ log → SettlesAsTold told log now
same-told told log now same = rw same (record {
  taken = λ number leg is so. inl is;
  withdrawn = λ number leg is gone. inl is;
})

pub more-told : (told : Option ℕ) (log now : List Entry) → SettlesAsTold told log now
    → SettlesAsTold told log (now ++ Admin ∷ [])
more-told told log now settles = record {
  taken =
      legs-admin (λ number leg. leg.state ≡ Taken → Then log (IsToldTaken told) number leg) now settles.taken;
  withdrawn =
      legs-admin (λ number leg. leg.state ≡ Withdrawn → Then log (IsToldMissing told) number leg) now
      settles.withdrawn;
}

-- once every leg in doubt is settled none is in doubt
high : (number told : ℕ) → nat_lt number told ≡ false → told ≤ number
high number told is = grind (arith, nat_tests, is)

not_low : (number told : ℕ) → nat_le told number ≡ false → told ≤ number → ⊥
not_low number told is above = absurd (grind (arith, nat_tests, is, above))

pub settled-no_doubt : (told : ℕ) (log : List Entry) → HasNoDoubt (give_up_from told (take_below told log))
settled-no_doubt told log =
    legs-settled (λ n. nat_le told n) Withdrawn (λ number leg. leg.state ≡ Doubt → told ≤ number)
    (λ number leg. leg.state ≡ Doubt → ⊥) (take_below told log)
    (λ number was above doubt.
    (let so = settled-doubt (nat_le told number) Withdrawn (λ is. absurd cc) was doubt in
    not_low number told so.1 (above so.0)))
    (legs-settled (λ n. nat_lt n told) Taken (λ number leg. Unit {0})
    (λ number leg. leg.state ≡ Doubt → told ≤ number) log
    (λ number was is doubt.
    (let so = settled-doubt (nat_lt number told) Taken (λ is. absurd cc) was doubt in high number told so.1))
    (λ number leg is. tt))
