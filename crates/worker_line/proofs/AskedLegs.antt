-- From a line to a later one: the legs that were asked to be withdrawn meanwhile are those that are withdrawn on the
-- later line and weren't on the earlier one, and none was asked for twice where legs have ids of their own.
use Rattle.std.proofs.Common.{◌≡◌, ◌<◌, ◌≤◌, ◌⊎◌, ℕ, zero, suc, Bool, true, false, ◌&&◌, List, [], ◌∷◌, ◌++◌, Option, Some, None, refl, sym, ap, subst, ◌∙◌, inl, inr, if◌then◌else◌, arith}
use Rattle.std.specs.List.{Contains, AllByRecursion, IsDistinct}
use Rattle.std.proofs.lemmas.Bool.{cases_Bool, cases_lt}
use Rattle.std.proofs.lemmas.List.Elements.{Contains-append_left, Contains-append_right, Contains-append_cases}
use Rattle.std.proofs.lemmas.Option.{same_Some}
use Rattle.leg.specs.LegId.{LegIdParts}
use Rattle.leg.specs.Numbered.{numbered}
use Rattle.leg.specs.declared.leg.Leg.{Leg}
use Rattle.leg.specs.declared.leg_state.LegState.{LegState}
use Rattle.leg.specs.declared.leg_state.LegState.TheVariants.{Doubt, Withdrawn}
use Rattle.resend.specs.Log.{Entry, SentLeg, is_doubt, state_of}
use Rattle.resend.specs.Log.Entry.{Admin, Sent}
use Rattle.resend.specs.Later.{IsLater, is_withdrawn, withdrawn_since}
use Rattle.session_core.specs.Session.{leg_state}
use Rattle.share_ledger.specs.Entries.{is_same_leg}
use Rattle.share_ledger.proofs.OneMore.{is_same_leg-true}
use Rattle.venue_line.specs.Line.{Line}
use Rattle.venue_line.specs.Copies.{IsLegAt}
use Rattle.venue_line.specs.LineInvariant.{LineInvariant}
use Rattle.venue_line.specs.LineTheorem.{IsWithdrawnLeg}
use Rattle.venue_line.specs.ForGood.{StaysSettled}
use Rattle.venue_line.proofs.Kept.{numbered_there}
use Rattle.venue_line.proofs.ForGood.{state_is}
use Rattle.venue_line.proofs.LegStates.{found, has_state}
use Rattle.venue_line.proofs.PastLines.{IsPast}
use Rattle.schedule.proofs.LegsGone.{gone_since}
use Rattle.schedule.proofs.NamedLegs.{IsNowWithdrawn, named_since, since_named}
use Rattle.worker_line.specs.Gone.{HaveOwnIds, IsGoneLeg}

pub own_before : (a b : Line) → a.left ≤ b.left → StaysSettled a b → HaveOwnIds b → HaveOwnIds a
own_before a b left stays own ordinal other leg more low lower here there same =
    own ordinal other leg more (omega arith) (omega arith) (stays.released ordinal leg here)
    (stays.released other more there) same

-- lists of legs in which none stands twice
pub none_in : (id : LegIdParts) → Contains [] id → ⊥
none_in id there = (let h = there.1 in omega arith)

first_in : (id : LegIdParts) (ids : List LegIdParts) → Contains (id ∷ ids) id
first_in id ids = (0, omega arith, refl)

behind_in : (first id : LegIdParts) (ids : List LegIdParts) → Contains ids id → Contains (first ∷ ids) id
behind_in first id ids there = (suc there.0, (let h = there.1 in omega arith), there.2)

pub differs : (x y : LegIdParts) → (x ≡ y → ⊥) → is_same_leg x y ≡ false
differs x y other =
    elim (cases_Bool (is_same_leg x y)) [ inl same ↦ absurd (other (is_same_leg-true x y same)) | inr is ↦ is ]

all_of : (P : LegIdParts → Type 0) (ids : List LegIdParts) → ((id : LegIdParts) → Contains ids id → P id)
    → AllByRecursion P ids
all_of P [] each = tt
all_of P (id ∷ ids) each = (each id (first_in id ids), all_of P ids (λ other there. each other (behind_in id other ids there)))

all_more : (P : LegIdParts → Type 0) (xs ys : List LegIdParts) → AllByRecursion P xs → AllByRecursion P ys
    → AllByRecursion P (xs ++ ys)
all_more P [] ys first more = more
all_more P (x ∷ xs) ys first more = (first.0, all_more P xs ys first.1 more)

pub distinct-none : IsDistinct is_same_leg []
unfolding IsDistinct
distinct-none = tt

distinct-cons : (id : LegIdParts) (ids : List LegIdParts)
    → ((other : LegIdParts) → Contains ids other → id ≡ other → ⊥) → IsDistinct is_same_leg ids
    → IsDistinct is_same_leg (id ∷ ids)
unfolding IsDistinct
distinct-cons id ids others more =
    (all_of (λ y. is_same_leg id y ≡ false) ids (λ other there. differs id other (others other there)), more)

pub distinct-append : (xs ys : List LegIdParts) → IsDistinct is_same_leg xs → IsDistinct is_same_leg ys
    → ((id : LegIdParts) → Contains xs id → Contains ys id → ⊥) → IsDistinct is_same_leg (xs ++ ys)
unfolding IsDistinct
distinct-append [] ys first more apart = more
distinct-append (x ∷ xs) ys first more apart = (
  all_more (λ y. is_same_leg x y ≡ false) xs ys first.0
      (all_of (λ y. is_same_leg x y ≡ false) ys
      (λ other there. differs x other
      (λ same. apart other (subst (Contains (x ∷ xs)) same (first_in x xs)) there))),
  distinct-append xs ys first.1 more (λ id here there. apart id (behind_in x id xs here) there),
)

-- a number of a log is that of one leg
abbrev OneNumber : List Entry → Type 0
OneNumber log = (n m : ℕ) (x y : SentLeg) → IsLegAt log n x → IsLegAt log m y → x.id ≡ y.id → n ≡ m

behind_at : (entry : Entry) (log : List Entry) (number : ℕ) (leg : SentLeg) → IsLegAt log number leg
    → IsLegAt (entry ∷ log) (suc number) leg
behind_at entry log zero leg at = absurd cc
behind_at entry log (suc k) leg at = at

one_behind : (entry : Entry) (log : List Entry) → OneNumber (entry ∷ log) → OneNumber log
one_behind entry log one n m x y here there same =
    let e = one (suc n) (suc m) x y (behind_at entry log n x here) (behind_at entry log m y there) same in omega arith

from_one : (log : List Entry) (number : ℕ) (leg : SentLeg) → IsLegAt log number leg → 1 ≤ number
from_one log zero leg at = absurd cc
from_one log (suc k) leg at = omega arith

distinct_by : (b : Bool) (id : LegIdParts) (ids : List LegIdParts)
    → ((other : LegIdParts) → Contains ids other → id ≡ other → ⊥) → IsDistinct is_same_leg ids
    → IsDistinct is_same_leg (if b then id ∷ ids else ids)
distinct_by true id ids others more = distinct-cons id ids others more
distinct_by false id ids others more = more

-- a step names a leg once
since_distinct : (old new : List Entry) → OneNumber old → IsDistinct is_same_leg (withdrawn_since old new)
since_distinct [] new one = distinct-none
since_distinct (Admin ∷ old) [] one = distinct-none
since_distinct (Sent x ∷ old) [] one = distinct-none
since_distinct (Admin ∷ old) (y ∷ new) one = since_distinct old new (one_behind Admin old one)
since_distinct (Sent x ∷ old) (Admin ∷ new) one = since_distinct old new (one_behind (Sent x) old one)
since_distinct (Sent x ∷ old) (Sent y ∷ new) one =
    distinct_by (is_doubt x.state && is_withdrawn y.state) x.id (withdrawn_since old new)
    (λ other there same.
    (let is = since_named old new other there in
    let from = from_one old is.number is.was is.before in
    let e = one 1 (suc is.number) x is.was refl (behind_at (Sent x) old is.number is.was is.before) (same ∙ sym is.same) in
    omega arith))
    (since_distinct old new (one_behind (Sent x) old one))

one_number : (w : Line) → LineInvariant w → HaveOwnIds w → OneNumber w.session.log
one_number w i own n m x y here there same =
    let first = i.copies.sent_released n x here in
    let other = i.copies.sent_released m y there in
    let low = i.copies.sent_left n x here in
    let lower = i.copies.sent_left m y there in
    let level = own x.ordinal y.ordinal first.leg other.leg low.1 lower.1 first.whole other.whole
    (first.same ∙ (same ∙ sym other.same)) in
    elim (cases_lt n m) [
      | inl below ↦ absurd (let rise = i.copies.numbering n m x y here there below in omega arith)
      | inr high ↦
          elim (cases_lt m n) [
            | inl above ↦ absurd (let rise = i.copies.numbering m n y x there here above in omega arith)
            | inr equal ↦ omega arith
          ]
    ]

-- a leg that was asked for: it is withdrawn on the later line, and wasn't on the earlier one
pub record IsAskedLeg (a w : Line) (id : LegIdParts) : Type 0 where
  pub gone : IsGoneLeg w id
  pub fresh : IsWithdrawnLeg a gone.ordinal → ⊥

pub record Asks (a w : Line) (asked : List LegIdParts) : Type 0 where
  pub left : a.left ≤ w.left
  pub stays : StaysSettled a w
  pub each : (id : LegIdParts) → Contains asked id → IsAskedLeg a w id
  pub all : (ordinal : ℕ) (leg : Leg) → numbered ordinal w.released ≡ Some leg → IsWithdrawnLeg w ordinal
      → IsWithdrawnLeg a ordinal ⊎ Contains asked leg.id
  pub once : HaveOwnIds w → IsDistinct is_same_leg asked

-- a leg that was gone on an earlier line is so on a later one, and is the same
module _ (b w : Line) (stays : StaysSettled b w) where
  abbrev pub gone_later : (id : LegIdParts) → IsGoneLeg b id → IsGoneLeg w id
  gone_later id is = record {
    ordinal = is.ordinal;
    leg = is.leg;
    whole = stays.released is.ordinal is.leg is.whole;
    same = is.same;
    withdrawn = stays.withdrawn is.ordinal is.withdrawn;
  }

  pub whole_before : LineInvariant b → (ordinal : ℕ) (leg : Leg) → numbered ordinal w.released ≡ Some leg
      → IsWithdrawnLeg b ordinal → numbered ordinal b.released ≡ Some leg
  whole_before i ordinal leg whole before =
      let within = i.copies.left_released in
      let left = before.left in
      let there = numbered_there ordinal b.released before.from (omega arith) in
      let one : there.0 ≡ leg = same_Some there.0 leg (sym (stays.released ordinal there.0 there.1) ∙ whole) in
      subst (λ (l : Leg). numbered ordinal b.released ≡ Some l) one there.1

  -- a leg that was gone on the earlier line wasn't asked for since
  pub not_again : b.left ≤ w.left → HaveOwnIds w → (id : LegIdParts) → IsGoneLeg b id → IsAskedLeg b w id → ⊥
  not_again left own id x y =
      let low = x.withdrawn.left in
      let same = own x.ordinal y.gone.ordinal x.leg y.gone.leg (omega arith) y.gone.withdrawn.left
      (stays.released x.ordinal x.leg x.whole) y.gone.whole (x.same ∙ sym y.gone.same) in
      y.fresh (subst (IsWithdrawnLeg b) same x.withdrawn)

-- one line after the other
module _ (a b w : Line) (now later : List LegIdParts) (i : LineInvariant b) (first : Asks a b now) (more : Asks b w later) where
  each_both : (id : LegIdParts) → Contains now id ⊎ Contains later id → IsAskedLeg a w id
  each_both id (inl there) =
      let is = first.each id there in
      record { gone = gone_later b w more.stays id is.gone; fresh = is.fresh }
  each_both id (inr there) =
      let is = more.each id there in
      record { gone = is.gone; fresh = λ before. is.fresh (first.stays.withdrawn is.gone.ordinal before) }

  all_both : (ordinal : ℕ) (leg : Leg) → numbered ordinal w.released ≡ Some leg → IsWithdrawnLeg w ordinal
      → IsWithdrawnLeg a ordinal ⊎ Contains (now ++ later) leg.id
  all_both ordinal leg whole gone =
      elim (more.all ordinal leg whole gone) [
        | inr there ↦ inr (Contains-append_right now later leg.id there)
        | inl before ↦
            elim (first.all ordinal leg (whole_before b w more.stays i ordinal leg whole before) before) [
              | inl was ↦ inl was
              | inr new ↦ inr (Contains-append_left now later leg.id new)
            ]
      ]

  pub asks_both : StaysSettled a w → Asks a w (now ++ later)
  asks_both stays = record {
    left = (let x = first.left in let y = more.left in omega arith);
    stays = stays;
    each = λ id there. each_both id (Contains-append_cases now later id there);
    all = all_both;
    once = λ own.
        distinct-append now later (first.once (own_before b w more.left more.stays own)) (more.once own)
        (λ id here there. not_again b w more.stays more.left own id (first.each id here).gone (more.each id there));
  }

-- one step or two, from a line to the next
module _ (a b : Line) (ia : LineInvariant a) (ib : LineInvariant b) (stays : StaysSettled a b) (past : IsPast a b) where
  -- a leg that is withdrawn now was so before, has left since, or is named
  all_by : (asked : List LegIdParts)
      → ((ordinal : ℕ) (leg : Leg) → numbered ordinal b.released ≡ Some leg → a.left < ordinal
      → IsWithdrawnLeg b ordinal → Contains asked leg.id)
      → ((id : LegIdParts) → IsNowWithdrawn a.session.log b.session.log id → Contains asked id)
      → (ordinal : ℕ) (leg : Leg) → numbered ordinal b.released ≡ Some leg → IsWithdrawnLeg b ordinal
      → IsWithdrawnLeg a ordinal ⊎ Contains asked leg.id
  all_by asked lefts sinces ordinal leg whole gone =
      elim (gone_since a b past ia ordinal gone) [
        | inl before ↦ inl before
        | inr (inl above) ↦ inr (lefts ordinal leg whole above gone)
        | inr (inr new) ↦
            (let sent = ib.copies.sent_released new.now.number new.now.now new.now.there in
            let there : numbered ordinal b.released ≡ Some sent.leg =
            subst (λ o. numbered o b.released ≡ Some sent.leg) new.at sent.whole in
            let one : sent.leg ≡ leg = same_Some sent.leg leg (sym there ∙ whole) in
            let same : new.id ≡ leg.id = sym new.named ∙ (sym sent.same ∙ ap (λ (l : Leg). l.id) one) in
            inr (subst (Contains asked) same (sinces new.id new.now)))
      ]

  -- no leg leaves, and none is withdrawn
  pub asks_none : b.left ≡ a.left
      → ((id : LegIdParts) → IsNowWithdrawn a.session.log b.session.log id → ⊥) → Asks a b []
  asks_none left spares = record {
    left = past.left;
    stays = stays;
    each = λ id there. absurd (none_in id there);
    all = all_by [] (λ ordinal leg whole above gone. absurd (let l = gone.left in omega arith))
        (λ id new. absurd (spares id new));
    once = λ own. distinct-none;
  }

  -- no leg leaves, and those that are now withdrawn are named
  named_at : IsLater a.session.log b.session.log → (id : LegIdParts)
      → Contains (withdrawn_since a.session.log b.session.log) id → IsAskedLeg a b id
  named_at later id there =
      let is = since_named a.session.log b.session.log id there in
      let now = later.sent is.number is.was is.before in
      let one : now.0 ≡ is.now = (let e : Some (Sent now.0) ≡ Some (Sent is.now) = sym now.1 ∙ is.there in cc) in
      let ordinal : is.was.ordinal ≡ is.now.ordinal = sym now.2.ordinal ∙ ap (λ (l : SentLeg). l.ordinal) one in
      let sent = ib.copies.sent_released is.number is.now is.there in
      let left = ib.copies.sent_left is.number is.now is.there in
      record {
        gone = record {
          ordinal = is.now.ordinal;
          leg = sent.leg;
          whole = sent.whole;
          same = sent.same ∙ (sym (ap (λ (l : SentLeg). l.id) one) ∙ (now.2.id ∙ is.same));
          withdrawn = record {
            from = left.0;
            left = left.1;
            gone = inr (state_is b ib is.number is.now is.there ∙ ap (λ s. Some s) is.gone);
          };
        };
        fresh = λ before. elim before.gone [
          | inl none ↦ has_state a.session.log is.number is.was is.before
              (ap (λ o. state_of o a.session.log) ordinal ∙ none)
          | inr gone ↦
              (let doubt : leg_state a.session is.now.ordinal ≡ Some Doubt =
              ap (leg_state a.session) (sym ordinal)
              ∙ (state_is a ia is.number is.was is.before ∙ ap (λ s. Some s) is.doubt) in
              absurd (let e : Some Doubt ≡ Some Withdrawn = sym doubt ∙ gone in
              let same = same_Some Doubt Withdrawn e in cc))
        ];
      }

  pub asks_since : b.left ≡ a.left → IsLater a.session.log b.session.log
      → Asks a b (withdrawn_since a.session.log b.session.log)
  asks_since left later = record {
    left = past.left;
    stays = stays;
    each = named_at later;
    all = all_by (withdrawn_since a.session.log b.session.log)
        (λ ordinal leg whole above gone. absurd (let l = gone.left in omega arith))
        (named_since a.session.log b.session.log);
    once = λ own. since_distinct a.session.log b.session.log (one_number a ia (own_before a b past.left stays own));
  }

  -- a leg leaves and is sent
  pub asks_sent : b.left ≡ suc a.left → ((id : LegIdParts) → IsNowWithdrawn a.session.log b.session.log id → ⊥)
      → (number : ℕ) (sent : SentLeg) → IsLegAt b.session.log number sent → sent.ordinal ≡ suc a.left
      → sent.state ≡ Doubt → Asks a b []
  asks_sent left spares number sent there ordinal doubt = record {
    left = past.left;
    stays = stays;
    each = λ id among. absurd (none_in id among);
    all = all_by [] (λ o leg whole above gone. absurd (not_gone o above gone)) (λ id new. absurd (spares id new));
    once = λ own. distinct-none;
  }
    where
      not_gone : (o : ℕ) → a.left < o → IsWithdrawnLeg b o → ⊥
      not_gone o above gone =
          let here : sent.ordinal ≡ o = (let l = gone.left in omega arith) in
          let state : leg_state b.session o ≡ Some Doubt =
          ap (leg_state b.session) (sym here) ∙ (state_is b ib number sent there ∙ ap (λ s. Some s) doubt) in
          elim gone.gone [
            | inl none ↦ (let e : Some Doubt ≡ None = sym state ∙ none in cc)
            | inr now ↦ (let e : Some Doubt ≡ Some Withdrawn = sym state ∙ now in
                let same = same_Some Doubt Withdrawn e in cc)
          ]

  -- a leg leaves and isn't sent
  pub asks_unsent : b.left ≡ suc a.left → b.session.log ≡ a.session.log
      → ((id : LegIdParts) → IsNowWithdrawn a.session.log b.session.log id → ⊥) → (leg : Leg)
      → numbered (suc a.left) b.released ≡ Some leg → Asks a b (leg.id ∷ [])
  asks_unsent left log spares leg whole = record {
    left = past.left;
    stays = stays;
    each = λ id there. subst (IsAskedLeg a b) (alone id there) (record {
      gone = record {
        ordinal = suc a.left;
        leg = leg;
        whole = whole;
        same = refl;
        withdrawn = record {
          from = omega arith;
          left = omega arith;
          gone = inl (no_state (leg_state b.session (suc a.left)) refl);
        };
      };
      fresh = λ before. (let l = before.left in omega arith);
    });
    all = all_by (leg.id ∷ [])
        (λ o other there above gone.
        (let here : o ≡ suc a.left = (let l = gone.left in omega arith) in
        let one : leg ≡ other = same_Some leg other
        (sym whole ∙ (ap (λ k. numbered k b.released) (sym here) ∙ there)) in
        subst (Contains (leg.id ∷ [])) (ap (λ (l : Leg). l.id) one) (first_in leg.id [])))
        (λ id new. absurd (spares id new));
    once = λ own. distinct-cons leg.id [] (λ other there same. none_in other there) distinct-none;
  }
    where
      alone : (id : LegIdParts) → Contains (leg.id ∷ []) id → leg.id ≡ id
      alone id (zero, low, is) = is
      alone id (suc k, low, is) = absurd (omega (arith, low))

      no_state : (state : Option LegState) → leg_state b.session (suc a.left) ≡ state
          → leg_state b.session (suc a.left) ≡ None
      no_state None is = is
      no_state (Some state) is =
          let f = found b.session.log (suc a.left) state is in
          let below = ia.copies.sent_left f.number f.leg (subst (λ l. IsLegAt l f.number f.leg) log f.there) in
          absurd (let e = f.ordinal_is in let l = below.1 in omega arith)
