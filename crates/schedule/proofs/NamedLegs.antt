-- The legs that a turn names are those that were in doubt and are withdrawn now.
use Rattle.std.proofs.Common.{◌≡◌, ◌&&◌, ℕ, zero, suc, Bool, true, false, List, [], ◌∷◌, Some, refl, ap, subst, ◌∙◌, if◌then◌else◌, arith}
use Rattle.std.specs.Prelude.{slice_get}
use Rattle.std.specs.List.{Contains}
use Rattle.std.proofs.lemmas.List.Elements.{Contains-append_left, Contains-append_right, Contains-push}
use Rattle.std.proofs.lemmas.Option.{same_Some}
use Rattle.leg.specs.LegId.{LegIdParts}
use Rattle.leg.specs.declared.leg_state.LegState.{LegState}
use Rattle.leg.specs.declared.leg_state.LegState.TheVariants.{Queued, Doubt, Taken, Withdrawn}
use Rattle.resend.specs.Log.{Entry, SentLeg, is_doubt}
use Rattle.resend.specs.Log.Entry.{Admin, Sent}
use Rattle.resend.specs.Later.{is_withdrawn, withdrawn_since}
use Rattle.venue_line.specs.Copies.{IsLegAt}

-- a leg that was in doubt and is withdrawn now
pub record IsNowWithdrawn (old new : List Entry) (id : LegIdParts) : Type 0 where
  pub number : ℕ
  pub was : SentLeg
  pub now : SentLeg
  pub before : IsLegAt old number was
  pub there : IsLegAt new number now
  pub doubt : was.state ≡ Doubt
  pub gone : now.state ≡ Withdrawn
  pub same : was.id ≡ id

-- such legs are those that a turn names
head_in : (x : LegIdParts) (xs : List LegIdParts) → Contains (x ∷ xs) x
head_in x xs = Contains-append_left (x ∷ []) xs x (Contains-push [] x)

named_now : (was now : SentLeg) (ids : List LegIdParts) → was.state ≡ Doubt → now.state ≡ Withdrawn
    → Contains (if is_doubt was.state && is_withdrawn now.state then was.id ∷ ids else ids) was.id
named_now was now ids doubt gone = rw (doubt, gone) (head_in was.id ids)

named_still : (b : Bool) (id other : LegIdParts) (ids : List LegIdParts) → Contains ids other
    → Contains (if b then id ∷ ids else ids) other
named_still true id other ids there = Contains-append_right (id ∷ []) ids other there
named_still false id other ids there = there

since_at : (old new : List Entry) (k : ℕ) (was now : SentLeg) → slice_get old k ≡ Some (Sent was)
    → slice_get new k ≡ Some (Sent now) → was.state ≡ Doubt
    → now.state ≡ Withdrawn → Contains (withdrawn_since old new) was.id
since_at [] new k was now before there doubt gone = absurd cc
since_at (entry ∷ old) [] k was now before there doubt gone = absurd cc
since_at (Admin ∷ old) (later ∷ new) zero was now before there doubt gone =
    absurd (let e = same_Some Admin (Sent was) before in cc)
since_at (Admin ∷ old) (later ∷ new) (suc k) was now before there doubt gone =
    since_at old new k was now before there doubt gone
since_at (Sent x ∷ old) (Admin ∷ new) zero was now before there doubt gone =
    absurd (let e = same_Some Admin (Sent now) there in cc)
since_at (Sent x ∷ old) (Admin ∷ new) (suc k) was now before there doubt gone =
    since_at old new k was now before there doubt gone
since_at (Sent x ∷ old) (Sent y ∷ new) zero was now before there doubt gone =
    let one : x ≡ was = (let e = same_Some (Sent x) (Sent was) before in cc) in
    let two : y ≡ now = (let e = same_Some (Sent y) (Sent now) there in cc) in
    subst (λ (l : SentLeg). Contains (withdrawn_since (Sent x ∷ old) (Sent y ∷ new)) l.id) one
    (named_now x y (withdrawn_since old new) (ap (λ (l : SentLeg). l.state) one ∙ doubt)
    (ap (λ (l : SentLeg). l.state) two ∙ gone))
since_at (Sent x ∷ old) (Sent y ∷ new) (suc k) was now before there doubt gone =
    named_still (is_doubt x.state && is_withdrawn y.state) x.id was.id (withdrawn_since old new)
    (since_at old new k was now before there doubt gone)

pub named_since : (old new : List Entry) (id : LegIdParts) → IsNowWithdrawn old new id
    → Contains (withdrawn_since old new) id
named_since old new id is = by_number is.number is.before is.there
  where
    by_number : (number : ℕ) → IsLegAt old number is.was → IsLegAt new number is.now
        → Contains (withdrawn_since old new) id
    by_number zero before there = absurd cc
    by_number (suc k) before there =
        subst (Contains (withdrawn_since old new)) is.same
        (since_at old new k is.was is.now before there is.doubt is.gone)

-- and a turn names no others
now_more : (x y : Entry) (old new : List Entry) (id : LegIdParts) → IsNowWithdrawn old new id
    → IsNowWithdrawn (x ∷ old) (y ∷ new) id
now_more x y old new id is = record {
  number = suc is.number;
  was = is.was;
  now = is.now;
  before = behind x old is.number is.was is.before;
  there = behind y new is.number is.now is.there;
  doubt = is.doubt;
  gone = is.gone;
  same = is.same;
}
  where
    behind : (z : Entry) (log : List Entry) (number : ℕ) (leg : SentLeg) → IsLegAt log number leg
        → IsLegAt (z ∷ log) (suc number) leg
    behind z log zero leg at = absurd cc
    behind z log (suc k) leg at = at

is_doubt_by : (state : LegState) → is_doubt state ≡ true → state ≡ Doubt
is_doubt_by Doubt is = refl
is_doubt_by Queued is = absurd cc
is_doubt_by Taken is = absurd cc
is_doubt_by Withdrawn is = absurd cc

is_withdrawn_by : (state : LegState) → is_withdrawn state ≡ true → state ≡ Withdrawn
is_withdrawn_by Withdrawn is = refl
is_withdrawn_by Queued is = absurd cc
is_withdrawn_by Taken is = absurd cc
is_withdrawn_by Doubt is = absurd cc

now_by : (doubt gone : Bool) (x y : SentLeg) (old new : List Entry) (id : LegIdParts) → is_doubt x.state ≡ doubt
    → is_withdrawn y.state ≡ gone
    → (Contains (withdrawn_since old new) id → IsNowWithdrawn old new id)
    → Contains (if doubt && gone then x.id ∷ withdrawn_since old new else withdrawn_since old new) id
    → IsNowWithdrawn (Sent x ∷ old) (Sent y ∷ new) id
now_by true true x y old new id doubt gone more (zero, low, is) = record {
  number = 1;
  was = x;
  now = y;
  before = refl;
  there = refl;
  doubt = is_doubt_by x.state doubt;
  gone = is_withdrawn_by y.state gone;
  same = is;
}
now_by true true x y old new id doubt gone more (suc k, low, is) =
    now_more (Sent x) (Sent y) old new id (more (k, omega arith, is))
now_by true false x y old new id doubt gone more there = now_more (Sent x) (Sent y) old new id (more there)
now_by false gone' x y old new id doubt gone more there = now_more (Sent x) (Sent y) old new id (more there)

pub since_named : (old new : List Entry) (id : LegIdParts) → Contains (withdrawn_since old new) id
    → IsNowWithdrawn old new id
since_named [] new id there = absurd (let h = there.1 in omega arith)
since_named (Admin ∷ old) [] id there = absurd (let h = there.1 in omega arith)
since_named (Sent x ∷ old) [] id there = absurd (let h = there.1 in omega arith)
since_named (Admin ∷ old) (y ∷ new) id there = now_more Admin y old new id (since_named old new id there)
since_named (Sent x ∷ old) (Admin ∷ new) id there = now_more (Sent x) Admin old new id (since_named old new id there)
since_named (Sent x ∷ old) (Sent y ∷ new) id there =
    now_by (is_doubt x.state) (is_withdrawn y.state) x y old new id refl refl (λ h. since_named old new id h) there
