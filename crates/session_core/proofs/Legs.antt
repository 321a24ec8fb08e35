-- What is known of the legs of a log, where numbers are added and where legs are settled.
use Rattle.std.proofs.Common.{◌≡◌, ◌≤◌, ◌<◌, ◌⊎◌, ◌+◌, ℕ, zero, suc, Bool, true, false, nat_lt, nat_le, List, [], ◌∷◌, ◌++◌, length, Some, refl, sym, ap, ◌∙◌, inl, inr, if◌then◌else◌, arith, length-append}
use Rattle.std.proofs.lemmas.Bool.Decides.{nat_tests}
use Rattle.std.proofs.lemmas.Option.{same_Some}
use Rattle.leg.specs.Numbered.{numbered}
use Rattle.leg.specs.declared.leg_state.LegState.{LegState}
use Rattle.leg.specs.declared.leg_state.LegState.TheVariants.{Queued, Doubt, Taken, Withdrawn}
use Rattle.resend.specs.Log.{SentLeg, Entry, is_doubt, settled_as, entry_settled, settled_where, take_below, give_up_from, last_ordinal_after, last_ordinal}
use Rattle.resend.specs.Log.Entry.{Admin, Sent}
use Rattle.session_core.specs.Sound.{EveryLeg, LegsAreBelow, HasNoDoubt, OrdinalsRise, LegsStand}

-- a number that was spent is one of the log's
pub numbered-bound : (n : ℕ) (log : List Entry) (entry : Entry) → numbered n log ≡ Some entry
    → (1 ≤ n) × (n ≤ length log)
numbered-bound zero log entry is = absurd cc
numbered-bound (suc n) [] entry is = absurd cc
numbered-bound (suc zero) (head ∷ log) entry is = (omega arith, omega arith)
numbered-bound (suc (suc n)) (head ∷ log) entry is =
    let rest = numbered-bound (suc n) log entry is in (omega arith, omega (arith, rest.1))

-- where one is added, it is the last
numbered-end : (n : ℕ) (log : List Entry) (last entry : Entry) → numbered n (log ++ last ∷ []) ≡ Some entry
    → (numbered n log ≡ Some entry) ⊎ ((n ≡ length log + 1) × (last ≡ entry))
numbered-end zero log last entry is = absurd cc
numbered-end (suc zero) [] last entry is = inr (omega arith, same_Some last entry is)
numbered-end (suc (suc n)) [] last entry is = absurd cc
numbered-end (suc zero) (head ∷ log) last entry is = inl is
numbered-end (suc (suc n)) (head ∷ log) last entry is =
    elim (numbered-end (suc n) log last entry is) [ inl old ↦ inl old | inr new ↦ inr (omega (arith, new.0), new.1) ]

numbered-last : (log : List Entry) (entry : Entry) → numbered (suc (length log)) (log ++ entry ∷ []) ≡ Some entry
numbered-last [] entry = refl
numbered-last (first ∷ log) entry = numbered-last log entry

pub numbered-next : (log : List Entry) (entry : Entry) → numbered (length log + 1) (log ++ entry ∷ []) ≡ Some entry
numbered-next log entry = (let e : length log + 1 ≡ suc (length log) = omega arith in rw e (numbered-last log entry))

-- each leg, where a number is added
pub legs-admin : (P : ℕ → SentLeg → Type 0) (log : List Entry) → EveryLeg log P → EveryLeg (log ++ Admin ∷ []) P
legs-admin P log every number leg is =
    elim (numbered-end number log Admin (Sent leg) is) [
      | inl old ↦ every number leg old
      | inr new ↦ absurd (let e = new.1 in cc)
    ]

pub legs-sent : (P : ℕ → SentLeg → Type 0) (log : List Entry) (added : SentLeg) → EveryLeg log P
    → P (length log + 1) added
    → EveryLeg (log ++ Sent added ∷ []) P
legs-sent P log added every here number leg is =
    elim (numbered-end number log (Sent added) (Sent leg) is) [
      | inl old ↦ every number leg old
      | inr new ↦ (let same : leg ≡ added = (let e = new.1 in cc) in rw (new.0, same) here)
    ]

-- each leg behind the first entry
legs-tail : (P : ℕ → SentLeg → Type 0) (head : Entry) (log : List Entry) → EveryLeg (head ∷ log) P
    → EveryLeg log (λ number leg. P (suc number) leg)
legs-tail P head log every zero leg is = absurd cc
legs-tail P head log every (suc n) leg is = every (suc (suc n)) leg is

-- each leg, where some are settled
pub settled_if : Bool → LegState → SentLeg → SentLeg
settled_if b state leg = if b then settled_as state leg else leg

no_leg : (b : Bool) (state : LegState) (leg : SentLeg)
    → Some (if b then entry_settled state Admin else Admin) ≡ Some (Sent leg) → ⊥
no_leg true state leg is = absurd cc
no_leg false state leg is = absurd cc

leg_was : (b : Bool) (state : LegState) (was leg : SentLeg)
    → Some (if b then entry_settled state (Sent was) else Sent was) ≡ Some (Sent leg) → leg ≡ settled_if b state was
unfolding settled_if
leg_was true state was leg is = cc
leg_was false state was leg is = cc

module _ (test : ℕ → Bool) (state : LegState) where
  settled-was : (first at n : ℕ) (log : List Entry) (leg : SentLeg) → at ≡ n + first
      → numbered (suc n) (settled_where test state first log) ≡ Some (Sent leg)
      → (was : SentLeg) × (numbered (suc n) log ≡ Some (Sent was)) × (leg ≡ settled_if (test at) state was)
  settled-was first at n [] leg here is = absurd cc
  settled-was first at zero (Admin ∷ log) leg here is = absurd (no_leg (test first) state leg is)
  settled-was first at zero (Sent was ∷ log) leg here is =
      (let same : at ≡ first = omega (arith, here) in (was, refl, rw same (leg_was (test first) state was leg is)))
  settled-was first at (suc n) (head ∷ log) leg here is = settled-was (suc first) at n log leg (omega (arith, here)) is

  pub legs-settled : (P Q : ℕ → SentLeg → Type 0) (log : List Entry)
      → ((number : ℕ) (was : SentLeg) → P number was → Q number (settled_if (test number) state was))
      → EveryLeg log P → EveryLeg (settled_where test state 1 log) Q
  legs-settled P Q log step every zero leg is = absurd cc
  legs-settled P Q log step every (suc n) leg is =
      (let was = settled-was 1 (suc n) n log leg (omega arith) is in
      rw was.2 (step (suc n) was.0 (every (suc n) was.0 was.1)))

-- a leg that is in doubt then was so, and wasn't settled; one that is queued was so
doubt_by : (state : LegState) → (state ≡ Doubt → ⊥) → (was : SentLeg) (old : LegState) → was.state ≡ old
    → (if is_doubt old then record was { state = state } else was).state ≡ Doubt → ⊥
doubt_by state other was Doubt is doubt = other doubt
doubt_by state other was Queued is doubt = absurd (let e = sym is ∙ doubt in cc)
doubt_by state other was Taken is doubt = absurd (let e = sym is ∙ doubt in cc)
doubt_by state other was Withdrawn is doubt = absurd (let e = sym is ∙ doubt in cc)

pub settled-doubt : (b : Bool) (state : LegState) → (state ≡ Doubt → ⊥) → (was : SentLeg)
    → (settled_if b state was).state ≡ Doubt → (was.state ≡ Doubt) × (b ≡ false)
unfolding settled_if
settled-doubt false state other was doubt = (doubt, refl)
settled-doubt true state other was doubt = absurd (doubt_by state other was was.state refl doubt)

queued_by : (state : LegState) → (state ≡ Queued → ⊥) → (was : SentLeg) (old : LegState) → was.state ≡ old
    → (if is_doubt old then record was { state = state } else was).state ≡ Queued → was.state ≡ Queued
queued_by state other was Doubt is queued = absurd (other queued)
queued_by state other was Queued is queued = queued
queued_by state other was Taken is queued = queued
queued_by state other was Withdrawn is queued = queued

settled-queued : (b : Bool) (state : LegState) → (state ≡ Queued → ⊥) → (was : SentLeg)
    → (settled_if b state was).state ≡ Queued → was.state ≡ Queued
unfolding settled_if
settled-queued false state other was queued = queued
settled-queued true state other was queued = queued_by state other was was.state refl queued

ordinal_by : (state : LegState) (was : SentLeg) (b : Bool)
    → (if b then record was { state = state } else was).ordinal ≡ was.ordinal
ordinal_by state was true = refl
ordinal_by state was false = refl

settled-ordinal : (b : Bool) (state : LegState) (was : SentLeg) → (settled_if b state was).ordinal ≡ was.ordinal
unfolding settled_if
settled-ordinal false state was = refl
settled-ordinal true state was = ordinal_by state was (is_doubt was.state)

-- a leg is as it was, or it is settled now
was_doubt : (state : LegState) (was : SentLeg) (old : LegState) → was.state ≡ old
    → ((if is_doubt old then record was { state = state } else was) ≡ was)
    ⊎ ((if is_doubt old then record was { state = state } else was).state ≡ state)
was_doubt state was Doubt is = inr refl
was_doubt state was Queued is = inl refl
was_doubt state was Taken is = inl refl
was_doubt state was Withdrawn is = inl refl

pub became : (b : Bool) (state : LegState) (was : SentLeg)
    → (settled_if b state was ≡ was) ⊎ ((b ≡ true) × ((settled_if b state was).state ≡ state))
unfolding settled_if
became false state was = inl refl
became true state was = elim (was_doubt state was was.state refl) [ inl same ↦ inl same | inr now ↦ inr (refl, now) ]

-- what was settled is so where a test passes, and no leg is put in doubt or in a queue
module _ (test : ℕ → Bool) (state : LegState) (not_doubt : state ≡ Doubt → ⊥) (not_queued : state ≡ Queued → ⊥) where
  pub below-settled : (top : ℕ) (log : List Entry) → LegsAreBelow top log
      → LegsAreBelow top (settled_where test state 1 log)
  below-settled top log below =
      legs-settled test state (λ number leg. number < top) (λ number leg. number < top) log
      (λ number was lower. lower) below

  pub no_doubt-settled : (log : List Entry) → HasNoDoubt log → HasNoDoubt (settled_where test state 1 log)
  no_doubt-settled log none =
      legs-settled test state (λ number leg. leg.state ≡ Doubt → ⊥) (λ number leg. leg.state ≡ Doubt → ⊥) log
      (λ number was not_so doubt. not_so (settled-doubt (test number) state not_doubt was doubt).0) none

  sent-settled : (log : List Entry) → EveryLeg log (λ number leg. leg.state ≡ Queued → ⊥)
      → EveryLeg (settled_where test state 1 log) (λ number leg. leg.state ≡ Queued → ⊥)
  sent-settled log sent =
      legs-settled test state (λ number leg. leg.state ≡ Queued → ⊥) (λ number leg. leg.state ≡ Queued → ⊥) log
      (λ number was not_so queued. not_so (settled-queued (test number) state not_queued was queued)) sent

  rise-settled : (log : List Entry) → OrdinalsRise log → OrdinalsRise (settled_where test state 1 log)
  rise-settled log rise =
      legs-settled test state
      (λ number leg. EveryLeg log (λ later next. number < later → leg.ordinal < next.ordinal))
      (λ number leg.
      EveryLeg (settled_where test state 1 log) (λ later next. number < later → leg.ordinal < next.ordinal)) log
      (λ number was above.
      legs-settled test state
      (λ later next. number < later → was.ordinal < next.ordinal)
      (λ later next. number < later → (settled_if (test number) state was).ordinal < next.ordinal) log
      (λ later next higher lt.
      rw (settled-ordinal (test number) state was, settled-ordinal (test later) state next) (higher lt))
      above) rise

  -- a leg in doubt stays above the settled number, or above another one, where those in doubt up to it are settled
  pub stand-settled : (settled now : ℕ) (log : List Entry) → LegsStand settled log
      → EveryLeg log (λ number leg. leg.state ≡ Doubt → test number ≡ false → now < number)
      → LegsStand now (settled_where test state 1 log)
  stand-settled settled now log stand above = record {
    doubt =
        legs-settled test state (λ number leg. leg.state ≡ Doubt → test number ≡ false → now < number)
        (λ number leg. leg.state ≡ Doubt → now < number) log
        (λ number was higher doubt.
        (let so = settled-doubt (test number) state not_doubt was doubt in higher so.0 so.1)) above;
    sent = sent-settled log stand.sent;
    rise = rise-settled log stand.rise;
  }

-- every leg in doubt is below a fence that is answered
pub below-no_doubt : (fence : ℕ) (log : List Entry) → LegsAreBelow fence log → HasNoDoubt (take_below fence log)
below-no_doubt fence log below =
    legs-settled (λ number. nat_lt number fence) Taken (λ number leg. number < fence)
    (λ number leg. leg.state ≡ Doubt → ⊥) log
    (λ number was lower doubt.
    (let so = settled-doubt (nat_lt number fence) Taken (λ is. absurd cc) was doubt in
    absurd (grind (arith, nat_tests, so.1, lower)))) below

pub stand-taken : (settled fence : ℕ) (log : List Entry) → LegsStand settled log → numbered fence log ≡ Some Admin
    → LegsStand fence (take_below fence log)
stand-taken settled fence log stand admin =
    stand-settled (λ number. nat_lt number fence) Taken (λ is. absurd cc) (λ is. absurd cc) settled fence log stand
    (λ number leg is doubt other.
    (let apart : number ≡ fence → ⊥ = λ same. absurd (let e = sym is ∙ (ap (λ n. numbered n log) same ∙ admin) in cc) in
    above number fence other apart))
  where
    above : (number fence : ℕ) → nat_lt number fence ≡ false → (number ≡ fence → ⊥) → fence < number
    above number fence other apart = grind (arith, nat_tests, other)

-- every leg in doubt is settled: what was below a number, and then what wasn't
pub stand-given_up : (settled number : ℕ) (log : List Entry) → LegsStand settled log
    → LegsStand settled (give_up_from number (take_below number log))
stand-given_up settled number log stand =
    stand-settled (λ n. nat_le number n) Withdrawn (λ is. absurd cc) (λ is. absurd cc) settled settled
    (take_below number log)
    taken (λ n leg is doubt other. taken.doubt n leg is doubt)
  where
    taken : LegsStand settled (take_below number log)
    taken =
        stand-settled (λ n. nat_lt n number) Taken (λ is. absurd cc) (λ is. absurd cc) settled settled log
        stand (λ n leg is doubt other. stand.doubt n leg is doubt)

-- what stands, where a message of the session is sent
pub stand-admin : (settled : ℕ) (log : List Entry) → LegsStand settled log → LegsStand settled (log ++ Admin ∷ [])
stand-admin settled log stand = record {
  doubt = legs-admin (λ number leg. leg.state ≡ Doubt → settled < number) log stand.doubt;
  sent = legs-admin (λ number leg. leg.state ≡ Queued → ⊥) log stand.sent;
  rise =
      legs-admin
      (λ number leg. EveryLeg (log ++ Admin ∷ []) (λ later next. number < later → leg.ordinal < next.ordinal)) log
      (λ number leg is.
      legs-admin (λ later next. number < later → leg.ordinal < next.ordinal) log (stand.rise number leg is));
}

-- the last ordinal is the highest
rise-tail : (head : Entry) (log : List Entry) → OrdinalsRise (head ∷ log) → OrdinalsRise log
rise-tail head log rise number leg is later next there lower =
    legs-tail (λ later next. suc number < later → leg.ordinal < next.ordinal) head log
    (legs-tail
    (λ number leg. EveryLeg (head ∷ log) (λ later next. number < later → leg.ordinal < next.ordinal))
    head log rise number leg is) later next there (omega (arith, lower))

above_first : (first : SentLeg) (log : List Entry) → OrdinalsRise (Sent first ∷ log)
    → EveryLeg log (λ number leg. first.ordinal < leg.ordinal)
above_first first log rise number leg is =
    (let bound = numbered-bound number log (Sent leg) is in
    legs-tail (λ later next. 1 < later → first.ordinal < next.ordinal) (Sent first) log
    (rise 1 first refl) number leg is
    (omega (arith, bound.0)))

last-above : (ordinal : ℕ) (log : List Entry) → OrdinalsRise log → EveryLeg log (λ number leg. ordinal < leg.ordinal)
    → ordinal ≤ last_ordinal_after ordinal log
last-above ordinal [] rise above = omega arith
last-above ordinal (Admin ∷ log) rise above =
    last-above ordinal log (rise-tail Admin log rise) (legs-tail (λ number leg. ordinal < leg.ordinal) Admin log above)
last-above ordinal (Sent first ∷ log) rise above =
    (let next = above 1 first refl in
    let rest = last-above first.ordinal log (rise-tail (Sent first) log rise) (above_first first log rise) in
    omega (arith, next, rest))

last-bound : (ordinal : ℕ) (log : List Entry) → OrdinalsRise log
    → EveryLeg log (λ number leg. leg.ordinal ≤ last_ordinal_after ordinal log)
last-bound ordinal log rise zero leg is = absurd cc
last-bound ordinal [] rise (suc n) leg is = absurd cc
last-bound ordinal (Admin ∷ log) rise (suc zero) leg is = absurd cc
last-bound ordinal (Admin ∷ log) rise (suc (suc n)) leg is =
    last-bound ordinal log (rise-tail Admin log rise) (suc n) leg is
last-bound ordinal (Sent first ∷ log) rise (suc zero) leg is =
    (let same : leg ≡ first = cc in
    rw same (last-above first.ordinal log (rise-tail (Sent first) log rise) (above_first first log rise)))
last-bound ordinal (Sent first ∷ log) rise (suc (suc n)) leg is =
    last-bound first.ordinal log (rise-tail (Sent first) log rise) (suc n) leg is

-- what stands, where a leg is sent: in doubt, with a higher ordinal than any before it
pub stand-sent : (settled : ℕ) (log : List Entry) (added : SentLeg) → LegsStand settled log → added.state ≡ Doubt
    → settled < length log + 1 → last_ordinal log < added.ordinal → LegsStand settled (log ++ Sent added ∷ [])
stand-sent settled log added stand doubt unsettled higher = record {
  doubt = legs-sent (λ number leg. leg.state ≡ Doubt → settled < number) log added stand.doubt (λ is. unsettled);
  sent =
      legs-sent (λ number leg. leg.state ≡ Queued → ⊥) log added stand.sent
      (λ is. absurd (let e = sym doubt ∙ is in cc));
  rise =
      legs-sent
      (λ number leg. EveryLeg (log ++ Sent added ∷ []) (λ later next. number < later → leg.ordinal < next.ordinal)) log
      added
      (λ number leg is.
      legs-sent (λ later next. number < later → leg.ordinal < next.ordinal) log added (stand.rise number leg is)
      (λ lower. (let bound = last-bound 0 log stand.rise number leg is in omega (arith, bound, higher))))
      (λ later next is lower.
      (let bound = numbered-bound later (log ++ Sent added ∷ []) (Sent next) is in
      absurd (omega (arith, bound.1, lower, length-append log (Sent added ∷ [])))));
}
