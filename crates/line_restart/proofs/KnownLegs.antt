-- A leg whose number the exchange has passed is known to a session that was started again, in the state that it had in
-- the journal.
use Rattle.std.proofs.Common.{◌≡◌, ◌≤◌, ◌⊎◌, ℕ, zero, suc, List, length, Some, refl, sym, subst, ◌∙◌, inl, inr, arith}
use Rattle.std.specs.Prelude.{false}
use Rattle.leg.specs.Numbered.{numbered}
use Rattle.leg.specs.declared.leg_state.LegState.{LegState}
use Rattle.leg.specs.declared.leg_state.LegState.TheVariants.{Doubt, Taken, Withdrawn}
use Rattle.resend.specs.Log.{Entry, SentLeg}
use Rattle.resend.specs.Log.Entry.{Admin, Sent}
use Rattle.resend.specs.Later.{IsLater, IsLegLater, MayBecome}
use Rattle.session_core.specs.Session.{SessionParts, is_connected}
use Rattle.session_core.specs.Turn.{disconnected}
use Rattle.session_core.specs.Calling.{broken}
use Rattle.session_core.proofs.Adding.{chosen}
use Rattle.venue_line.specs.Copies.{IsLegAt}
use Rattle.venue_line.proofs.Kept.{numbered_there}

-- the leg of a number in an older log, which was as long
pub record Known (old : List Entry) (number : ℕ) (now : SentLeg) : Type 0 where
  pub leg : SentLeg
  pub there : IsLegAt old number leg
  pub later : IsLegLater leg now

known_by : (old new : List Entry) (number : ℕ) (now : SentLeg) (e : Entry) → IsLater old new
    → numbered number old ≡ Some e → IsLegAt new number now → Known old number now
known_by old new number now Admin later is at = absurd (let a = sym (later.admin number is) ∙ at in cc)
known_by old new number now (Sent leg) later is at =
    let l = later.sent number leg is in
    let one : l.0 ≡ now = (let e : Some (Sent l.0) ≡ Some (Sent now) = sym l.1 ∙ at in cc) in
    record { leg = leg; there = is; later = subst (IsLegLater leg) one l.2 }

pub known : (old new : List Entry) (number : ℕ) (now : SentLeg) → IsLater old new → number ≤ length old
    → IsLegAt new number now → Known old number now
known old new zero now later low at = absurd cc
known old new (suc n) now later low at =
    let e = numbered_there (suc n) old (omega arith) low in known_by old new (suc n) now e.0 later e.1 at

-- a connection that breaks leaves the log
pub broken_log : (s : SessionParts) → (broken s).log ≡ s.log
broken_log s =
    chosen (λ (t : SessionParts). t.log ≡ s.log) (is_connected s.phase) (disconnected false s) s (λ on. refl)
    (λ off. refl)

-- what was in a state before
pub was_taken : (old new : LegState) → MayBecome old new → new ≡ Taken → (old ≡ Taken) ⊎ (old ≡ Doubt)
was_taken old new (inl same) is = inl (sym same ∙ is)
was_taken old new (inr (doubt, became)) is = inr doubt

pub was_withdrawn : (old new : LegState) → MayBecome old new → new ≡ Withdrawn → (old ≡ Withdrawn) ⊎ (old ≡ Doubt)
was_withdrawn old new (inl same) is = inl (sym same ∙ is)
was_withdrawn old new (inr (doubt, became)) is = inr doubt

pub stays_withdrawn : (old new : LegState) → MayBecome old new → old ≡ Withdrawn → new ≡ Withdrawn
stays_withdrawn old new (inl same) is = same ∙ is
stays_withdrawn old new (inr (doubt, became)) is = absurd (let e : Doubt ≡ Withdrawn = sym doubt ∙ is in cc)
