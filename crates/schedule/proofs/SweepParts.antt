-- The withdrawn part of a sweep is the shares of its withdrawn legs.
use Rattle.std.proofs.Common.{◌≡◌, ◌+◌, ℕ, zero, suc, Bool, true, false, List, [], ◌∷◌, Option, Some, None, refl, sym, ap, subst, ◌∙◌, inl, inr, if◌then◌else◌, arith}
use Rattle.std.specs.Prelude.{slice_get, option_and_then}
use Rattle.std.specs.List.{list_any}
use Rattle.std.proofs.lemmas.Bool.{or_cases, or_left, or_right}
use Rattle.std.proofs.lemmas.List.Sums.{sum_by-cons}
use Rattle.std.proofs.lemmas.Option.{same_Some, slice_get_past}
use Rattle.leg.specs.LegId.{LegIdParts}
use Rattle.leg.specs.Numbered.{numbered}
use Rattle.leg.specs.declared.leg.Leg.{Leg}
use Rattle.leg.specs.declared.leg_state.LegState.{LegState}
use Rattle.leg.specs.declared.leg_state.LegState.TheVariants.{Queued, Doubt, Taken, Withdrawn}
use Rattle.leg.specs.declared.sweep.Routed.{Routed}
use Rattle.share_ledger.specs.Entries.{is_same_leg, is_withdrawn}
use Rattle.share_ledger.specs.declared.booked_leg.BookedLeg.{BookedLeg}
use Rattle.share_ledger.specs.Book.{booked_from, leg_parts, totals_of}
use Rattle.share_ledger.proofs.OneMore.{is_same_leg-refl, is_same_leg-true}
use Rattle.schedule.specs.World.{World, VenueParts, venue_in, released_to, state_of, ids_where, is_withdrawn_leg, withdrawn_ids}
use Rattle.schedule.specs.SweepTheorem.{IsWithdrawn, withdrawn_of}
use Rattle.schedule.proofs.RunsSafely.{IsSafe}
use Rattle.schedule.proofs.OrderHolds.{withdrawn_at, withdrawn_of as withdrawn_state, never, none_past}
use Rattle.schedule.proofs.LegNumbers.{has_order}
use Rattle.schedule.proofs.GoneLegs.{IsGone}
use Rattle.schedule.proofs.BookFollows.{BookFollows}

same_bool : (a b : Bool) → (a ≡ true → b ≡ true) → (b ≡ true → a ≡ true) → a ≡ b
same_bool true true there back = refl
same_bool true false there back = absurd (let e = there refl in cc)
same_bool false true there back = absurd (let e = back refl in cc)
same_bool false false there back = refl

withdrawn_by : (state : Option LegState) → is_withdrawn_leg state ≡ true → state ≡ Some Withdrawn
withdrawn_by (Some Withdrawn) is = refl
withdrawn_by (Some Queued) is = absurd cc
withdrawn_by (Some Doubt) is = absurd cc
withdrawn_by (Some Taken) is = absurd cc
withdrawn_by None is = absurd cc

-- the leg of a number is among those whose state passes a test
any_first : (b : Bool) (id first : LegIdParts) (ids : List LegIdParts) → b ≡ true → is_same_leg id first ≡ true
    → list_any (is_same_leg id) (if b then first ∷ ids else ids) ≡ true
any_first true id first ids is same = or_left (is_same_leg id first) (list_any (is_same_leg id) ids) same
any_first false id first ids is same = absurd cc

any_more : (b : Bool) (id first : LegIdParts) (ids : List LegIdParts) → list_any (is_same_leg id) ids ≡ true
    → list_any (is_same_leg id) (if b then first ∷ ids else ids) ≡ true
any_more true id first ids is = or_right (is_same_leg id first) (list_any (is_same_leg id) ids) is
any_more false id first ids is = is

any_where : (id : LegIdParts) (state : ℕ → Option LegState) (first k : ℕ) (legs : List Leg) (leg : Leg)
    → slice_get legs k ≡ Some leg
    → is_withdrawn_leg (state (first + k)) ≡ true → is_same_leg id leg.id ≡ true
    → list_any (is_same_leg id) (ids_where is_withdrawn_leg state first legs) ≡ true
any_where id state first k [] leg there gone same = absurd cc
any_where id state first zero (x ∷ legs) leg there gone same =
    let one : leg ≡ x = sym (same_Some x leg there) in
    let at : first + 0 ≡ first = omega arith in
    any_first (is_withdrawn_leg (state first)) id x.id (ids_where is_withdrawn_leg state (suc first) legs)
    (ap (λ n. is_withdrawn_leg (state n)) (sym at) ∙ gone) (ap (λ (l : Leg). is_same_leg id l.id) (sym one) ∙ same)
any_where id state first (suc k) (x ∷ legs) leg there gone same =
    let at : suc first + k ≡ first + suc k = omega arith in
    any_more (is_withdrawn_leg (state first)) id x.id (ids_where is_withdrawn_leg state (suc first) legs)
    (any_where id state (suc first) k legs leg there (ap (λ n. is_withdrawn_leg (state n)) at ∙ gone) same)

record AtWithdrawn (id : LegIdParts) (state : ℕ → Option LegState) (first : ℕ) (legs : List Leg) : Type 0 where
  k : ℕ
  leg : Leg
  there : slice_get legs k ≡ Some leg
  gone : is_withdrawn_leg (state (first + k)) ≡ true
  same : is_same_leg id leg.id ≡ true

at_more : (id : LegIdParts) (state : ℕ → Option LegState) (first : ℕ) (x : Leg) (legs : List Leg)
    → AtWithdrawn id state (suc first) legs → AtWithdrawn id state first (x ∷ legs)
at_more id state first x legs is =
    let at : first + suc is.k ≡ suc first + is.k = omega arith in
    record {
      k = suc is.k;
      leg = is.leg;
      there = is.there;
      gone = ap (λ n. is_withdrawn_leg (state n)) at ∙ is.gone;
      same = is.same;
    }

where_by : (b : Bool) (id : LegIdParts) (state : ℕ → Option LegState) (first : ℕ) (x : Leg) (legs : List Leg)
    → is_withdrawn_leg (state first) ≡ b
    → (list_any (is_same_leg id) (ids_where is_withdrawn_leg state (suc first) legs) ≡ true
    → AtWithdrawn id state (suc first) legs)
    → list_any (is_same_leg id) (if b then x.id ∷ ids_where is_withdrawn_leg state
    (suc first) legs else ids_where is_withdrawn_leg state (suc first) legs) ≡ true
    → AtWithdrawn id state first (x ∷ legs)
where_by false id state first x legs gone more is = at_more id state first x legs (more is)
where_by true id state first x legs gone more is =
    let at : first + 0 ≡ first = omega arith in
    elim (or_cases (is_same_leg id x.id)
    (list_any (is_same_leg id) (ids_where is_withdrawn_leg state (suc first) legs)) is) [
      | inl same ↦ record {
        k = 0;
        leg = x;
        there = refl;
        gone = ap (λ n. is_withdrawn_leg (state n)) at ∙ gone;
        same =
            same;
      }
      | inr rest ↦ at_more id state first x legs (more rest)
    ]

where_any : (id : LegIdParts) (state : ℕ → Option LegState) (first : ℕ) (legs : List Leg)
    → list_any (is_same_leg id) (ids_where is_withdrawn_leg state first legs) ≡ true
    → AtWithdrawn id state first legs
where_any id state first [] is = absurd cc
where_any id state first (x ∷ legs) is =
    where_by (is_withdrawn_leg (state first)) id state first x legs refl
    (λ more. where_any id state (suc first) legs more) is

-- withdrawn by its state, and as a leg of the world
module _ (w : World) (safe : IsSafe w) where
  state_gone_by : (v : ℕ) (found : Option VenueParts) → venue_in w v ≡ found → (ordinal : ℕ) (leg : Leg)
      → numbered ordinal (released_to w v) ≡ Some leg
      → IsWithdrawn w v ordinal → IsGone w leg.id
  state_gone_by v None is ordinal leg whole gone =
      let past = none_past w.venues v is in
      let none = slice_get_past w.desk.venues v (let same = safe.desks in omega arith) in
      absurd (never w v is (rw none refl) ordinal Withdrawn (λ e. cc) gone)
  state_gone_by v (Some venue) is ordinal leg whole gone =
      let line = safe.lines v venue is in
      record {
        v = v;
        venue = venue;
        there = is;
        ordinal = ordinal;
        leg = leg;
        whole = whole;
        same = refl;
        gone = withdrawn_at w v venue is line.0 line.1 (safe.orderly v venue is).clean ordinal gone;
      }

  state_gone : (v ordinal : ℕ) (leg : Leg) → numbered ordinal (released_to w v) ≡ Some leg → IsWithdrawn w v ordinal
      → IsGone w leg.id
  state_gone v ordinal leg whole gone = state_gone_by v (venue_in w v) refl ordinal leg whole gone

  gone_state : (id : LegIdParts) (g : IsGone w id) → IsWithdrawn w g.v g.ordinal
  gone_state id g =
      let line = safe.lines g.v g.venue g.there in
      withdrawn_state w g.v g.venue g.there line.0 line.1 (safe.orderly g.v g.venue g.there).clean g.ordinal g.gone

  named_gone : (id : LegIdParts) (v : ℕ) → list_any (is_same_leg id) (withdrawn_ids w v) ≡ true → IsGone w id
  named_gone id v is =
      let at = where_any id (state_of w v) 1 (released_to w v) is in
      let one : suc at.k ≡ 1 + at.k = omega arith in
      let gone : IsWithdrawn w v (suc at.k) = ap (state_of w v) one ∙ withdrawn_by (state_of w v (1 + at.k)) at.gone in
      subst (IsGone w) (sym (is_same_leg-true id at.leg.id at.same)) (state_gone v (suc at.k) at.leg at.there gone)

  gone_named : (id : LegIdParts) (g : IsGone w id) → list_any (is_same_leg id) (withdrawn_ids w g.v) ≡ true
  gone_named id g = by_ordinal g.ordinal g.whole (gone_state id g)
    where
      by_ordinal : (ordinal : ℕ) → numbered ordinal (released_to w g.v) ≡ Some g.leg → IsWithdrawn w g.v ordinal
          → list_any (is_same_leg id) (withdrawn_ids w g.v) ≡ true
      by_ordinal zero whole gone = absurd cc
      by_ordinal (suc k) whole gone =
          let one : 1 + k ≡ suc k = omega arith in
          any_where id (state_of w g.v) 1 k (released_to w g.v) g.leg whole
          (ap (λ n. is_withdrawn_leg (state_of w g.v n)) one ∙ ap is_withdrawn_leg gone)
          (ap (is_same_leg id) g.same ∙ is_same_leg-refl id)

  -- the book has a leg as withdrawn where its venue's withdrawn legs have its number
  pub booked_is : BookFollows w → (number place : ℕ) (legs : List Routed) (routed : Routed)
      → numbered number w.desk.sweeps ≡ Some legs → numbered place legs ≡ Some routed
      → is_withdrawn (record { sweep = number; place = place }) w.book.entries
      ≡ list_any (is_same_leg (record { sweep = number; place = place })) (withdrawn_ids w routed.venue)
  booked_is follows number place legs routed sweep there =
      let id : LegIdParts = record { sweep = number; place = place } in
      same_bool (is_withdrawn id w.book.entries) (list_any (is_same_leg id) (withdrawn_ids w routed.venue))
      (λ held.
      (let g = follows.gone id held in
      let order = has_order g.v w.desk.sweeps g.ordinal g.leg g.whole in
      let from : option_and_then (numbered place) (numbered number w.desk.sweeps) ≡ Some order.routed =
      subst (λ (x : LegIdParts). option_and_then (numbered x.place)
      (numbered x.sweep w.desk.sweeps) ≡ Some order.routed) g.same order.order in
      let here : option_and_then (numbered place) (numbered number w.desk.sweeps) ≡ Some routed =
      ap (option_and_then (numbered place)) sweep ∙ there in
      let one : order.routed ≡ routed = same_Some order.routed routed (sym from ∙ here) in
      let venue : g.v ≡ routed.venue = sym order.venue ∙ ap (λ (r : Routed). r.venue) one in
      ap (λ v. list_any (is_same_leg id) (withdrawn_ids w v)) (sym venue) ∙ gone_named id g))
      (λ named. follows.booked id (named_gone id routed.venue named))

-- from leg to leg of a sweep
sum_from : (w : World) (number place : ℕ) (legs : List Routed)
    → ((j : ℕ) (routed : Routed) → slice_get legs j ≡ Some routed
    → is_withdrawn (record { sweep = number; place = place + j }) w.book.entries
    ≡ list_any (is_same_leg (record { sweep = number; place = place + j })) (withdrawn_ids w routed.venue))
    → (totals_of (booked_from w.book number place legs)).withdrawn ≡ withdrawn_of w number place legs
sum_from w number place [] same = refl
sum_from w number place (routed ∷ legs) same =
    let at : place + 0 ≡ place = omega arith in
    let first = subst (λ p. is_withdrawn (record { sweep = number; place = p }) w.book.entries
    ≡ list_any (is_same_leg (record { sweep = number; place = p })) (withdrawn_ids w routed.venue)) at
    (same 0 routed refl) in
    let rest = sum_from w number (suc place) legs
    (λ j other there.
    (let next : place + suc j ≡ suc place + j = omega arith in
    subst (λ p. is_withdrawn (record { sweep = number; place = p }) w.book.entries
    ≡ list_any (is_same_leg (record { sweep = number; place = p })) (withdrawn_ids w other.venue)) next
    (same (suc j) other there))) in
    sum_by-cons (λ (l : BookedLeg). l.parts.withdrawn)
    (record {
      venue = routed.venue;
      parts =
          leg_parts (record { sweep = number; place = place }) routed.terms.shares w.book;
    })
    (booked_from w.book number (suc place) legs)
    ∙ (ap (λ b. (if b then routed.terms.shares else 0) +
    (totals_of (booked_from w.book number (suc place) legs)).withdrawn) first
    ∙ ap (λ n. (if list_any (is_same_leg (record { sweep = number; place = place }))
    (withdrawn_ids w routed.venue) then routed.terms.shares else 0) + n) rest)

pub withdrawn_part : (w : World) → IsSafe w → BookFollows w → (number : ℕ) (legs : List Routed)
    → numbered number w.desk.sweeps ≡ Some legs
    → (totals_of (booked_from w.book number 1 legs)).withdrawn ≡ withdrawn_of w number 1 legs
withdrawn_part w safe follows number legs there =
    sum_from w number 1 legs
    (λ j routed found.
    (let at : suc j ≡ 1 + j = omega arith in
    subst (λ p. is_withdrawn (record { sweep = number; place = p }) w.book.entries
    ≡ list_any (is_same_leg (record { sweep = number; place = p })) (withdrawn_ids w routed.venue)) at
    (booked_is w safe follows number (suc j) legs routed there found)))
