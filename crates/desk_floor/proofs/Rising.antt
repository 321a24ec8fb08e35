-- The legs released to a venue are in the order of their numbers, so that one of them is found by halving.
use Rattle.std.proofs.Common.{◌≡◌, ℕ, zero, suc, ◌+◌, ◌<◌, ◌≤◌, Bool, true, false, cond, List, [], ◌∷◌, ◌++◌, length, get_or, Option, Some, None, refl, sym, ap, subst, ◌∙◌, inl, inr, arith, if◌then◌else◌}
use Rattle.std.specs.Prelude.{not, ◌==◌, ◌&&◌, nat_lt, slice_get, find}
use Rattle.std.specs.List.Sorted.{IsPartitionedBy}
use Rattle.std.proofs.lemmas.Bool.{not-false, and_left, and_right, and_cases, or_parts, or_cases, or_from, and_parts, cases_Bool, ltb-true, ltb-false, le-ltb, eqb-true, eqb-false, ne_eqb, false≢true}
use Rattle.leg.specs.LegId.{LegIdParts}
use Rattle.leg.specs.declared.leg.Leg.{Leg}
use Rattle.leg.specs.declared.placed_leg.PlacedLeg.{PlacedLeg}
use Rattle.leg.specs.declared.sweep.Routed.{Routed}
use Rattle.share_ledger.specs.Entries.{is_same_leg}
use Rattle.sweep_release.specs.Desk.{DeskParts}
use Rattle.sweep_release.specs.Released.{legs_to, released_from, released}
use Rattle.release_lock.specs.Queues.{placed_from}
use Rattle.desk_floor.specs.Legs.{is_before, IsHalved, one_of, released_under}

-- a number is this one or a later one
pub record IsFrom (sweep place : ℕ) (id : LegIdParts) : Type 0 where
  pub low : sweep ≤ id.sweep
  pub there : id.sweep ≡ sweep → place ≤ id.place

-- the numbers of legs rise from this one on
abbrev pub AreFrom : ℕ → ℕ → List Leg → Type 0
AreFrom sweep place [] = Unit {0}
AreFrom sweep place (leg ∷ legs) = IsFrom sweep place leg.id × AreFrom leg.id.sweep (suc leg.id.place) legs

from_lower : (s p t q : ℕ) (id : LegIdParts) → t ≤ s → (s ≡ t → q ≤ p) → IsFrom s p id → IsFrom t q id
from_lower s p t q id lower within from =
    let low = from.low in
    record {
      low = omega arith;
      there = λ e. (let same : s ≡ t = omega arith in
          let first : q ≤ p = within same in
          let here : id.sweep ≡ s = omega arith in
          let second : p ≤ id.place = from.there here in
          omega arith);
    }

are_lower : (s p t q : ℕ) (legs : List Leg) → t ≤ s → (s ≡ t → q ≤ p) → AreFrom s p legs → AreFrom t q legs
are_lower s p t q [] lower within from = tt
are_lower s p t q (leg ∷ legs) lower within from = (from_lower s p t q leg.id lower within from.0, from.1)

one_more : (b : Bool) (number place : ℕ) (routed : Routed) (legs rest : List Leg)
    → AreFrom number (suc place) (legs ++ rest)
    → AreFrom number place ((if b
    then record { id = record { sweep = number; place = place }; terms = routed.terms } ∷ legs
    else legs) ++ rest)
one_more true number place routed legs rest from = (record { low = omega arith; there = λ e. omega arith }, from)
one_more false number place routed legs rest from =
    are_lower number (suc place) number place (legs ++ rest) (omega arith) (λ e. omega arith) from

legs_rise : (venue number place : ℕ) (legs : List Routed) (rest : List Leg) → AreFrom (suc number) 1 rest
    → AreFrom number place (legs_to venue number place legs ++ rest)
legs_rise venue number place [] rest from =
    are_lower (suc number) 1 number place rest (omega arith) (λ e. absurd (omega arith)) from
legs_rise venue number place (routed ∷ legs) rest from =
    one_more (routed.venue == venue) number place routed (legs_to venue number (suc place) legs) rest
    (legs_rise venue number (suc place) legs rest from)

rises_from : (venue number : ℕ) (sweeps : List (List Routed)) → AreFrom number 1 (released_from venue number sweeps)
rises_from venue number [] = tt
rises_from venue number (legs ∷ sweeps) =
    legs_rise venue number 1 legs (released_from venue (suc number) sweeps) (rises_from venue (suc number) sweeps)

pub rises : (venue : ℕ) (sweeps : List (List Routed)) → AreFrom 1 1 (released venue sweeps)
rises venue sweeps = rises_from venue 1 sweeps

not_before : (a b : LegIdParts) → IsFrom b.sweep b.place a → is_before a b ≡ false
not_before a b from =
    let low = from.low in
    or_from (nat_lt a.sweep b.sweep) (a.sweep == b.sweep && nat_lt a.place b.place) (le-ltb a.sweep b.sweep low)
    (elim (cases_Bool (a.sweep == b.sweep)) [
      | inl same ↦ and_right (a.sweep == b.sweep) (nat_lt a.place b.place)
          (le-ltb a.place b.place (from.there (eqb-true a.sweep b.sweep same)))
      | inr apart ↦ and_left (a.sweep == b.sweep) (nat_lt a.place b.place) apart
    ])

from_not_before : (a b : LegIdParts) → is_before a b ≡ false → IsFrom b.sweep b.place a
from_not_before a b e =
    let parts = or_parts (nat_lt a.sweep b.sweep) (a.sweep == b.sweep && nat_lt a.place b.place) e in
    record {
      low = ltb-false a.sweep b.sweep parts.0;
      there = λ same. elim (and_cases (a.sweep == b.sweep) (nat_lt a.place b.place) parts.1) [
        | inl apart ↦ absurd (eqb-false a.sweep b.sweep apart same)
        | inr here ↦ ltb-false a.place b.place here
      ];
    }

apart_before : (a b : LegIdParts) → is_before a b ≡ true → is_same_leg a b ≡ false
apart_before a b e =
    elim (or_cases (nat_lt a.sweep b.sweep) (a.sweep == b.sweep && nat_lt a.place b.place) e) [
      | inl earlier ↦ and_left (a.sweep == b.sweep) (a.place == b.place)
          (let low = ltb-true a.sweep b.sweep earlier in ne_eqb a.sweep b.sweep (λ same. omega arith))
      | inr here ↦ and_right (a.sweep == b.sweep) (a.place == b.place)
          (let parts = and_parts (a.sweep == b.sweep) (nat_lt a.place b.place) here in
          let low = ltb-true a.place b.place parts.1 in ne_eqb a.place b.place (λ same. omega arith))
    ]

apart_behind : (a b : LegIdParts) → IsFrom b.sweep (suc b.place) a → is_same_leg a b ≡ false
apart_behind a b from =
    elim (cases_Bool (a.sweep == b.sweep)) [
      | inl same ↦ and_right (a.sweep == b.sweep) (a.place == b.place)
          (let low = from.there (eqb-true a.sweep b.sweep same) in ne_eqb a.place b.place (λ e. omega arith))
      | inr apart ↦ and_left (a.sweep == b.sweep) (a.place == b.place) apart
    ]

behind : (a b : LegIdParts) → is_before a b ≡ false → is_same_leg a b ≡ false → IsFrom b.sweep (suc b.place) a
behind a b late apart =
    let from = from_not_before a b late in
    record {
      low = from.low;
      there = λ same. (let low = from.there same in
          elim (and_cases (a.sweep == b.sweep) (a.place == b.place) apart) [
            | inl other ↦ absurd (eqb-false a.sweep b.sweep other same)
            | inr other ↦ (let differ = eqb-false a.place b.place other in omega arith)
          ]);
    }

none_before : (id : LegIdParts) (legs : List Leg) (j : ℕ) (d : Leg) → AreFrom id.sweep id.place legs
    → j < length legs → is_before (get_or legs j d).id id ≡ false
none_before id [] j d from low = absurd (omega arith)
none_before id (leg ∷ legs) zero d from low = not_before leg.id id from.0
none_before id (leg ∷ legs) (suc j) d from low =
    let first = from.0.low in
    none_before id legs j d
    (are_lower leg.id.sweep (suc leg.id.place) id.sweep id.place legs first
    (λ e. (let there = from.0.there e in omega arith)) from.1) (omega arith)

pub partitioned : (id : LegIdParts) (s p : ℕ) (legs : List Leg) → AreFrom s p legs
    → IsPartitionedBy (λ leg. is_before leg.id id) legs
partitioned id s p [] from i j d le low holds = absurd (omega arith)
partitioned id s p (leg ∷ legs) from zero zero d le low holds = holds
partitioned id s p (leg ∷ legs) from zero (suc j) d le low holds =
    elim (cases_Bool (is_before leg.id id)) [
      | inl here ↦ here
      | inr late ↦ absurd (false≢true (sym (none_before id (leg ∷ legs) (suc j) d
          (from_not_before leg.id id late, from.1) low) ∙ holds))
    ]
partitioned id s p (leg ∷ legs) from (suc i) zero d le low holds = absurd (omega arith)
partitioned id s p (leg ∷ legs) from (suc i) (suc j) d le low holds =
    partitioned id leg.id.sweep (suc leg.id.place) legs from.1 i j d (omega arith) (omega arith) holds

abbrev found : LegIdParts → ℕ → List Leg → Option PlacedLeg
found id n legs = find (λ placed. is_same_leg placed.leg.id id) (placed_from n legs)

none_found : (id : LegIdParts) (n : ℕ) (legs : List Leg) → AreFrom id.sweep (suc id.place) legs → found id n legs ≡ None
none_found id n [] from = refl
none_found id n (leg ∷ legs) from =
    let low = from.0.low in
    ap (λ b. cond b (Some (record { ordinal = n; leg = leg })) (found id (suc n) legs)) (apart_behind leg.id id from.0)
    ∙ none_found id (suc n) legs
    (are_lower leg.id.sweep (suc leg.id.place) id.sweep (suc id.place) legs low
    (λ e. (let there = from.0.there e in omega arith)) from.1)

found_here : (id : LegIdParts) (n : ℕ) (leg : Leg) (legs : List Leg) (same : Bool) → is_same_leg leg.id id ≡ same
    → is_before leg.id id ≡ false → AreFrom leg.id.sweep (suc leg.id.place) legs
    → cond same (Some (record { ordinal = n; leg = leg })) (found id (suc n) legs)
    ≡ cond same (Some (record { ordinal = n; leg = leg })) None
found_here id n leg legs true is late from = refl
found_here id n leg legs false is late from =
    let past = behind leg.id id late is in
    let low = past.low in
    none_found id (suc n) legs
    (are_lower leg.id.sweep (suc leg.id.place) id.sweep (suc id.place) legs low
    (λ e. (let there = past.there e in omega arith)) from)

-- where all legs before a place have earlier numbers, and the one there, if there is one, hasn't, the leg of a number is
-- there or nowhere
pub found_at : (id : LegIdParts) (s p n place : ℕ) (legs : List Leg) → AreFrom s p legs → place ≤ length legs
    → ((j : ℕ) (d : Leg) → j < place → is_before (get_or legs j d).id id ≡ true)
    → ((d : Leg) → place < length legs → is_before (get_or legs place d).id id ≡ false)
    → found id n legs ≡ one_of id (n + place) (slice_get legs place)
found_at id s p n zero [] from few early late = refl
found_at id s p n (suc place) [] from few early late = absurd (omega arith)
found_at id s p n zero (leg ∷ legs) from few early late =
    let same : n + 0 ≡ n = omega arith in
    found_here id n leg legs (is_same_leg leg.id id) refl (late leg (omega arith)) from.1
    ∙ ap (λ m. one_of id m (Some leg)) (sym same)
found_at id s p n (suc place) (leg ∷ legs) from few early late =
    let next : suc n + place ≡ n + suc place = omega arith in
    ap (λ b. cond b (Some (record { ordinal = n; leg = leg })) (found id (suc n) legs))
    (apart_before leg.id id (early 0 leg (omega arith)))
    ∙ (found_at id leg.id.sweep (suc leg.id.place) (suc n) place legs from.1 (omega arith)
    (λ j d low. early (suc j) d (omega arith)) (λ d low. late d (omega arith))
    ∙ ap (λ m. one_of id m (slice_get legs place)) next)

-- the leg at a place has the number, by a test that was made of it
pub leg_found : (id : LegIdParts) (legs : List Leg) (place ordinal : ℕ) (leg copy : Leg) → slice_get legs place ≡ Some leg
    → false ≡ not (is_same_leg leg.id id) → copy ≡ leg → ordinal ≡ place + 1
    → Some (record { ordinal = ordinal; leg = copy }) ≡ one_of id (place + 1) (slice_get legs place)
leg_found id legs place ordinal leg copy is same copied counted =
    let alike : is_same_leg leg.id id ≡ true = not-false (is_same_leg leg.id id) (sym same) in
    ap (λ n. Some (record { ordinal = n; leg = copy })) counted
    ∙ (ap (λ l. Some (record { ordinal = place + 1; leg = l })) copied
    ∙ sym (ap (one_of id (place + 1)) is
    ∙ ap (λ b. cond b (Some (record { ordinal = place + 1; leg = leg })) None) alike))

pub there_at : (legs : List Leg) (place : ℕ) (leg : Leg) → place < length legs → leg ≡ get_or legs place leg
    → slice_get legs place ≡ Some leg
there_at [] place leg low is = absurd (omega arith)
there_at (first ∷ legs) zero leg low is = ap Some (sym is)
there_at (first ∷ legs) (suc place) leg low is = there_at legs place leg (omega arith) is

-- so the leg at the place that halving gives is that of the number
pub found_under : (desk : DeskParts) (venue place : ℕ) (id : LegIdParts) (legs : List Leg)
    → legs ≡ released venue desk.sweeps → place ≤ length legs → IsHalved id legs place
    → one_of id (place + 1) (slice_get legs place) ≡ released_under desk venue id
found_under desk venue place id legs are few halves =
    let rise : AreFrom 1 1 legs = subst (AreFrom 1 1) (sym are) (rises venue desk.sweeps) in
    let point = halves (partitioned id 1 1 legs rise) in
    let counted : 1 + place ≡ place + 1 = omega arith in
    sym (ap (λ (l : List Leg). found id 1 l) (sym are)
    ∙ (found_at id 1 1 1 place legs rise few (λ j d low. point.0 j d (omega arith) low)
    (λ d low. point.1 place d (omega arith) low)
    ∙ ap (λ n. one_of id n (slice_get legs place)) counted))
