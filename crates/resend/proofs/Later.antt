-- What spends numbers and settles legs leads to a later log.
use Rattle.std.proofs.Common.{◌≡◌, ◌⊎◌, ℕ, zero, suc, Bool, true, false, List, [], ◌∷◌, ◌++◌, length, Some, refl, sym, ap, ◌∙◌, inl, inr, if◌then◌else◌, arith, length-append}
use Rattle.std.specs.Prelude.{nat_lt, nat_le}
use Rattle.std.proofs.lemmas.Option.{same_Some}
use Rattle.leg.specs.Numbered.{numbered}
use Rattle.leg.specs.declared.leg_state.LegState.{LegState}
use Rattle.leg.specs.declared.leg_state.LegState.TheVariants.{Queued, Doubt, Taken, Withdrawn}
use Rattle.leg.proofs.Numbered.{numbered-append}
use Rattle.leg.specs.Growing.{Grew}
use Rattle.resend.specs.Log.{SentLeg, Entry, has_number, spend, is_doubt, settled_as, entry_settled, settled_where, take_below, give_up_from}
use Rattle.resend.specs.Log.Entry.{Admin, Sent}
use Rattle.resend.specs.Later.{MayBecome, IsLegLater, IsLater, WithdrawsNone}

-- a log is later than itself, and what is later than a later one is later
pub later-refl : (log : List Entry) → IsLater log log
later-refl log = record {
  last = omega arith;
  admin = λ number is. is;
  sent = λ number leg is. (leg, is, record { ordinal = refl; id = refl; state = inl refl });
}

may_become-trans : (a b c : LegState) → MayBecome a b → MayBecome b c → MayBecome a c
may_become-trans a b c (inl same) (inl again) = inl (again ∙ same)
may_become-trans a b c (inl same) (inr settled) = inr (sym same ∙ settled.0, settled.1)
may_become-trans a b c (inr (was, inl taken)) (inl again) = inr (was, inl (again ∙ taken))
may_become-trans a b c (inr (was, inr gone)) (inl again) = inr (was, inr (again ∙ gone))
may_become-trans a b c (inr (was, inl taken)) (inr settled) = absurd (let e = sym taken ∙ settled.0 in cc)
may_become-trans a b c (inr (was, inr gone)) (inr settled) = absurd (let e = sym gone ∙ settled.0 in cc)

leg_later-trans : (a b c : SentLeg) → IsLegLater a b → IsLegLater b c → IsLegLater a c
leg_later-trans a b c first next = record {
  ordinal = next.ordinal ∙ first.ordinal;
  id = next.id ∙ first.id;
  state = may_become-trans a.state b.state c.state first.state next.state;
}

pub later-trans : (a b c : List Entry) → IsLater a b → IsLater b c → IsLater a c
later-trans a b c first next = record {
  last = omega arith;
  admin = λ number is. next.admin number (first.admin number is);
  sent = λ number leg is.
      (let between = first.sent number leg is in
      let after = next.sent number between.0 between.1 in
      (after.0, after.1, leg_later-trans leg between.0 after.0 between.2 after.2));
}

-- what was spent stays so where more is added behind
pub later-append : (log more : List Entry) → IsLater log (log ++ more)
later-append log more = record {
  last = omega (arith, length-append log more);
  admin = λ number is. numbered-append number log more Admin is;
  sent =
      λ number leg is. (
        leg,
        numbered-append number log more (Sent leg) is,
        record {
          ordinal = refl;
          id = refl;
          state = inl refl;
        },
      );
}

later-spent : (b : Bool) (number : ℕ) (entry : Entry) (log : List Entry) → has_number number log ≡ b
    → IsLater log (spend number entry log).1
later-spent true number entry log is = rw is (later-append log (entry ∷ []))
later-spent false number entry log is = rw is (later-refl log)

pub later-spend : (number : ℕ) (entry : Entry) (log : List Entry) → IsLater log (spend number entry log).1
later-spend number entry log = later-spent (has_number number log) number entry log refl

-- what a number was spent on, where some entries are settled
module _ (test : ℕ → Bool) (state : LegState) where
  pub length-settled_where : (first : ℕ) (log : List Entry) → length (settled_where test state first log) ≡ length log
  length-settled_where first [] = refl
  length-settled_where first (entry ∷ log) = ap suc (length-settled_where (suc first) log)

  numbered-settled_where : (first number : ℕ) (log : List Entry) (entry : Entry) → numbered number log ≡ Some entry
      → (b : Bool)
      × (numbered number (settled_where test state first log) ≡ Some (if b then entry_settled state entry else entry))
  numbered-settled_where first zero log entry is = absurd cc
  numbered-settled_where first (suc n) [] entry is = absurd cc
  numbered-settled_where first (suc zero) (head ∷ log) entry is =
      (test first, ap (λ e. Some (if test first then entry_settled state e else e)) (same_Some head entry is))
  numbered-settled_where first (suc (suc n)) (head ∷ log) entry is =
      numbered-settled_where (suc first) (suc n) log entry is

admin_kept : (b : Bool) (state : LegState) → Some (if b then entry_settled state Admin else Admin) ≡ Some Admin
admin_kept true state = refl
admin_kept false state = refl

leg_settled : (state : LegState) → (state ≡ Taken) ⊎ (state ≡ Withdrawn) → (leg : SentLeg) (old : LegState)
    → leg.state ≡ old
    → IsLegLater leg (if is_doubt old then record leg { state = state } else leg)
leg_settled state is leg Doubt was = record { ordinal = refl; id = refl; state = inr (was, is) }
leg_settled state is leg Queued was = record { ordinal = refl; id = refl; state = inl refl }
leg_settled state is leg Taken was = record { ordinal = refl; id = refl; state = inl refl }
leg_settled state is leg Withdrawn was = record { ordinal = refl; id = refl; state = inl refl }

sent_kept : (b : Bool) (state : LegState) → (state ≡ Taken) ⊎ (state ≡ Withdrawn) → (leg : SentLeg)
    → (later : SentLeg)
    × (Some (if b then entry_settled state (Sent leg) else Sent leg) ≡ Some (Sent later)) × IsLegLater leg later
sent_kept true state is leg = (settled_as state leg, refl, leg_settled state is leg leg.state refl)
sent_kept false state is leg = (leg, refl, record { ordinal = refl; id = refl; state = inl refl })

later-settled_where : (test : ℕ → Bool) (state : LegState) → (state ≡ Taken) ⊎ (state ≡ Withdrawn)
    → (log : List Entry) → IsLater log (settled_where test state 1 log)
later-settled_where test state is log = record {
  last = omega (arith, length-settled_where test state 1 log);
  admin =
      λ number was.
      (let now = numbered-settled_where test state 1 number log Admin was in now.1 ∙ admin_kept now.0 state);
  sent = λ number leg was.
      (let now = numbered-settled_where test state 1 number log (Sent leg) was in
      let kept = sent_kept now.0 state is leg in
      (kept.0, now.1 ∙ kept.1, kept.2));
}

pub later-take_below : (number : ℕ) (log : List Entry) → IsLater log (take_below number log)
later-take_below number log = later-settled_where (λ n. nat_lt n number) Taken (inl refl) log

pub later-give_up_from : (number : ℕ) (log : List Entry) → IsLater log (give_up_from number log)
later-give_up_from number log = later-settled_where (λ n. nat_le number n) Withdrawn (inr refl) log

-- logs to which numbers were added, or in which legs were taken, withdraw none
pub later-added : (old new : List Entry) → Grew old new → IsLater old new
later-added old new added = rw added.1 (later-append old added.0)

pub withdraws_none-trans : (a b c : List Entry) → WithdrawsNone a b → WithdrawsNone b c → WithdrawsNone a c
withdraws_none-trans a b c first next = λ number leg is gone. first number leg (next number leg is gone) gone

pub withdraws_none-admin : (log : List Entry) → WithdrawsNone log (log ++ Admin ∷ [])
withdraws_none-admin log zero leg is gone = absurd cc
withdraws_none-admin [] (suc zero) leg is gone = absurd cc
withdraws_none-admin [] (suc (suc n)) leg is gone = absurd cc
withdraws_none-admin (head ∷ log) (suc zero) leg is gone = is
withdraws_none-admin (head ∷ log) (suc (suc n)) leg is gone = withdraws_none-admin log (suc n) leg is gone

taken_not_withdrawn : (leg : SentLeg) (old : LegState) → leg.state ≡ old
    → (if is_doubt old then record leg { state = Taken } else leg).state ≡ Withdrawn
    → (if is_doubt old then record leg { state = Taken } else leg) ≡ leg
taken_not_withdrawn leg Doubt was gone = absurd cc
taken_not_withdrawn leg Queued was gone = refl
taken_not_withdrawn leg Taken was gone = refl
taken_not_withdrawn leg Withdrawn was gone = refl

entry_taken : (b : Bool) (entry : Entry) (leg : SentLeg)
    → Some (if b then entry_settled Taken entry else entry) ≡ Some (Sent leg) → leg.state ≡ Withdrawn
    → Some entry ≡ Some (Sent leg)
entry_taken false entry leg is gone = is
entry_taken true Admin leg is gone = absurd cc
entry_taken true (Sent was) leg is gone =
    let same : settled_as Taken was ≡ leg = cc in
    let gone_now : (settled_as Taken was).state ≡ Withdrawn = ap (λ (l : SentLeg). l.state) same ∙ gone in
    ap (λ l. Some (Sent l)) (sym (taken_not_withdrawn was was.state refl gone_now) ∙ same)

withdraws_none-taken : (test : ℕ → Bool) (first : ℕ) (log : List Entry)
    → WithdrawsNone log (settled_where test Taken first log)
withdraws_none-taken test first log zero leg is gone = absurd cc
withdraws_none-taken test first [] (suc n) leg is gone = absurd cc
withdraws_none-taken test first (head ∷ log) (suc zero) leg is gone = entry_taken (test first) head leg is gone
withdraws_none-taken test first (head ∷ log) (suc (suc n)) leg is gone =
    withdraws_none-taken test (suc first) log (suc n) leg is gone

pub withdraws_none-take_below : (number : ℕ) (log : List Entry) → WithdrawsNone log (take_below number log)
withdraws_none-take_below number log = withdraws_none-taken (λ n. nat_lt n number) 1 log
