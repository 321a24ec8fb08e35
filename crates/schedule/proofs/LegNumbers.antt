-- The number of a released leg tells its venue, its ordinal there and its order.
use Rattle.std.proofs.Common.{◌≡◌, ◌==◌, ◌⊎◌, ◌+◌, ℕ, zero, suc, Bool, true, false, List, [], ◌∷◌, ◌++◌, length, Some, refl, sym, ap, subst, ◌∙◌, inl, inr, if◌then◌else◌, arith}
use Rattle.std.specs.Prelude.{slice_get, option_and_then}
use Rattle.std.proofs.lemmas.Bool.Decides.{nat_tests}
use Rattle.std.proofs.lemmas.Option.{same_Some}
use Rattle.leg.specs.LegId.{LegIdParts}
use Rattle.leg.specs.Numbered.{numbered}
use Rattle.leg.specs.declared.leg.Leg.{Leg}
use Rattle.leg.specs.declared.sweep.Routed.{Routed}
use Rattle.sweep_release.specs.Released.{legs_to, released_from, released}

-- the element at a place of two lists, one behind the other
append_cases : {A : Type 0} (k : ℕ) (xs ys : List A) (x : A) → slice_get (xs ++ ys) k ≡ Some x
    → (slice_get xs k ≡ Some x) ⊎ ((j : ℕ) × (k ≡ length xs + j) × (slice_get ys j ≡ Some x))
append_cases k [] ys x is = inr (k, omega arith, is)
append_cases zero (first ∷ xs) ys x is = inl is
append_cases (suc k) (first ∷ xs) ys x is =
    elim (append_cases k xs ys x is) [ inl front ↦ inl front | inr (j, at, back) ↦ inr (j, omega (arith, at), back) ]

-- a leg of a sweep to a venue, where its orders from a place on are these
record ComesFrom (v number place : ℕ) (legs : List Routed) (leg : Leg) : Type 0 where
  at : ℕ
  routed : Routed
  sweep : leg.id.sweep ≡ number
  place_is : leg.id.place ≡ place + at
  there : slice_get legs at ≡ Some routed
  venue : routed.venue ≡ v
  terms : leg.terms ≡ routed.terms

one_more : (v number place : ℕ) (first : Routed) (legs : List Routed) (leg : Leg)
    → ComesFrom v number (suc place) legs leg
    → ComesFrom v number place (first ∷ legs) leg
one_more v number place first legs leg c = record {
  at = suc c.at;
  routed = c.routed;
  sweep = c.sweep;
  place_is = (let p = c.place_is in omega arith);
  there = c.there;
  venue = c.venue;
  terms = c.terms;
}

comes_by : (b : Bool) (v number place k : ℕ) (first : Routed) (legs : List Routed) (leg : Leg) → (first.venue == v) ≡ b
    → ((j : ℕ) → slice_get (legs_to v number (suc place) legs) j ≡ Some leg → ComesFrom v number (suc place) legs leg)
    → slice_get (if b then record {
      id = record { sweep = number; place = place };
      terms =
          first.terms;
    } ∷ legs_to v number (suc place) legs else legs_to v number (suc place) legs) k ≡ Some leg
    → ComesFrom v number place (first ∷ legs) leg
comes_by false v number place k first legs leg test more is = one_more v number place first legs leg (more k is)
comes_by true v number place (suc k) first legs leg test more is = one_more v number place first legs leg (more k is)
comes_by true v number place zero first legs leg test more is =
    let same : record { id = record { sweep = number; place = place }; terms = first.terms } ≡ leg =
    same_Some _ leg is in
    record {
      at = 0;
      routed = first;
      sweep = ap (λ (l : Leg). l.id.sweep) (sym same);
      place_is = (let p = ap (λ (l : Leg). l.id.place) (sym same) in omega arith);
      there = refl;
      venue = (let t = test in grind (arith, nat_tests));
      terms = ap (λ (l : Leg). l.terms) (sym same);
    }

comes_from : (v number place : ℕ) (legs : List Routed) (k : ℕ) (leg : Leg)
    → slice_get (legs_to v number place legs) k ≡ Some leg
    → ComesFrom v number place legs leg
comes_from v number place [] k leg is = absurd cc
comes_from v number place (first ∷ legs) k leg is =
    comes_by (first.venue == v) v number place k first legs leg refl
    (λ j found. comes_from v number (suc place) legs j leg found) is

-- the order of a released leg, where the sweeps have numbers from this one on
record IsOrdered (v number : ℕ) (sweeps : List (List Routed)) (leg : Leg) : Type 0 where
  at : ℕ
  legs : List Routed
  sweep : leg.id.sweep ≡ number + at
  there : slice_get sweeps at ≡ Some legs
  from : ComesFrom v (number + at) 1 legs leg

ordered : (v number : ℕ) (sweeps : List (List Routed)) (k : ℕ) (leg : Leg)
    → slice_get (released_from v number sweeps) k ≡ Some leg
    → IsOrdered v number sweeps leg
ordered v number [] k leg is = absurd cc
ordered v number (legs ∷ sweeps) k leg is =
    elim (append_cases k (legs_to v number 1 legs) (released_from v (suc number) sweeps) leg is) [
      | inl front ↦
          (let c = comes_from v number 1 legs k leg front in
          let same : number ≡ number + 0 = omega arith in
          record {
            at = 0;
            legs = legs;
            sweep = c.sweep ∙ same;
            there = refl;
            from =
                subst (λ n. ComesFrom v n 1 legs leg) same c;
          })
      | inr (j, at, back) ↦
          (let o = ordered v (suc number) sweeps j leg back in
          let same : suc number + o.at ≡ number + suc o.at = omega arith in
          record {
            at = suc o.at;
            legs = o.legs;
            sweep = o.sweep ∙ same;
            there = o.there;
            from = subst (λ n. ComesFrom v n 1 o.legs leg) same o.from;
          })
    ]

-- the order of a leg that was released to a venue
pub record HasOrder (v : ℕ) (sweeps : List (List Routed)) (leg : Leg) : Type 0 where
  pub routed : Routed
  pub order : option_and_then (numbered leg.id.place) (numbered leg.id.sweep sweeps) ≡ Some routed
  pub venue : routed.venue ≡ v
  pub terms : leg.terms ≡ routed.terms

order_by : (sweeps : List (List Routed)) (sweep place at in_sweep : ℕ) (legs : List Routed) (routed : Routed)
    → sweep ≡ suc at → place ≡ suc in_sweep
    → slice_get sweeps at ≡ Some legs → slice_get legs in_sweep ≡ Some routed
    → option_and_then (numbered place) (numbered sweep sweeps) ≡ Some routed
order_by sweeps sweep place at in_sweep legs routed sweep_is place_is there within =
    rw (sweep_is, place_is, there) within

pub has_order : (v : ℕ) (sweeps : List (List Routed)) (ordinal : ℕ) (leg : Leg)
    → numbered ordinal (released v sweeps) ≡ Some leg → HasOrder v sweeps leg
has_order v sweeps zero leg is = absurd cc
has_order v sweeps (suc k) leg is =
    let o = ordered v 1 sweeps k leg is in
    let sweep_is : leg.id.sweep ≡ suc o.at = (let h = o.sweep in omega arith) in
    let place_is : leg.id.place ≡ suc o.from.at = (let h = o.from.place_is in omega arith) in
    record {
      routed = o.from.routed;
      order =
          order_by sweeps leg.id.sweep leg.id.place o.at o.from.at o.legs o.from.routed sweep_is place_is
          o.there o.from.there;
      venue = o.from.venue;
      terms = o.from.terms;
    }

-- a leg's number is of one venue
pub one_venue : (v u : ℕ) (sweeps : List (List Routed)) (ordinal other : ℕ) (leg more : Leg)
    → numbered ordinal (released v sweeps) ≡ Some leg
    → numbered other (released u sweeps) ≡ Some more → leg.id ≡ more.id → v ≡ u
one_venue v u sweeps ordinal other leg more is there same =
    let a = has_order v sweeps ordinal leg is in
    let b = has_order u sweeps other more there in
    let c : option_and_then (numbered leg.id.place) (numbered leg.id.sweep sweeps) ≡ Some b.routed =
    ap (λ (id : LegIdParts). option_and_then (numbered id.place) (numbered id.sweep sweeps)) same ∙ b.order in
    let one = same_Some a.routed b.routed (sym a.order ∙ c) in
    sym a.venue ∙ (ap (λ (r : Routed). r.venue) one ∙ b.venue)

-- and of one ordinal there
one_in : (b : Bool) (v number place k j : ℕ) (first : Routed) (legs : List Routed) (x y : Leg)
    → ((k j : ℕ) → slice_get (legs_to v number (suc place) legs) k ≡ Some x
    → slice_get (legs_to v number (suc place) legs) j ≡ Some y → k ≡ j)
    → slice_get (if b then record {
      id = record { sweep = number; place = place };
      terms =
          first.terms;
    } ∷ legs_to v number (suc place) legs else legs_to v number (suc place) legs) k ≡ Some x
    → slice_get (if b then record {
      id = record { sweep = number; place = place };
      terms =
          first.terms;
    } ∷ legs_to v number (suc place) legs else legs_to v number (suc place) legs) j ≡ Some y
    → x.id ≡ y.id → k ≡ j
one_in false v number place k j first legs x y more is there same = more k j is there
one_in true v number place zero zero first legs x y more is there same = refl
one_in true v number place (suc k) (suc j) first legs x y more is there same = ap suc (more k j is there)
one_in true v number place zero (suc j) first legs x y more is there same =
    let here : place ≡ x.id.place = ap (λ (l : Leg). l.id.place) (same_Some _ x is) in
    let c = comes_from v number (suc place) legs j y there in
    let p = c.place_is in
    let e = ap (λ (id : LegIdParts). id.place) same in
    absurd (omega arith)
one_in true v number place (suc k) zero first legs x y more is there same =
    let here : place ≡ y.id.place = ap (λ (l : Leg). l.id.place) (same_Some _ y there) in
    let c = comes_from v number (suc place) legs k x is in
    let p = c.place_is in
    let e = ap (λ (id : LegIdParts). id.place) same in
    absurd (omega arith)

one_to : (v number place : ℕ) (legs : List Routed) (x y : Leg) → x.id ≡ y.id → (k j : ℕ)
    → slice_get (legs_to v number place legs) k ≡ Some x
    → slice_get (legs_to v number place legs) j ≡ Some y → k ≡ j
one_to v number place [] x y same k j is there = absurd cc
one_to v number place (first ∷ legs) x y same k j is there =
    one_in (first.venue == v) v number place k j first legs x y
    (λ a b left right. one_to v number (suc place) legs x y same a b left right) is there same

one_from : (v number : ℕ) (sweeps : List (List Routed)) (x y : Leg) → x.id ≡ y.id → (k j : ℕ)
    → slice_get (released_from v number sweeps) k ≡ Some x
    → slice_get (released_from v number sweeps) j ≡ Some y → k ≡ j
one_from v number [] x y same k j is there = absurd cc
one_from v number (legs ∷ sweeps) x y same k j is there =
    let e = ap (λ (id : LegIdParts). id.sweep) same in
    elim (append_cases k (legs_to v number 1 legs) (released_from v (suc number) sweeps) x is) [
      | inl front ↦
          elim (append_cases j (legs_to v number 1 legs) (released_from v (suc number) sweeps) y there) [
            | inl too ↦ one_to v number 1 legs x y same k j front too
            | inr (n, at, back) ↦
                (let a = (comes_from v number 1 legs k x front).sweep in
                let b = (ordered v (suc number) sweeps n y back).sweep in
                absurd (omega arith))
          ]
      | inr (n, at, back) ↦
          elim (append_cases j (legs_to v number 1 legs) (released_from v (suc number) sweeps) y there) [
            | inl front ↦
                (let a = (comes_from v number 1 legs j y front).sweep in
                let b = (ordered v (suc number) sweeps n x back).sweep in
                absurd (omega arith))
            | inr (m, from, too) ↦ (let rest = one_from v (suc number) sweeps x y same n m back too in
                omega (arith, at, from))
          ]
    ]

pub one_ordinal : (v : ℕ) (sweeps : List (List Routed)) (ordinal other : ℕ) (leg more : Leg)
    → numbered ordinal (released v sweeps) ≡ Some leg
    → numbered other (released v sweeps) ≡ Some more → leg.id ≡ more.id → ordinal ≡ other
one_ordinal v sweeps zero other leg more is there same = absurd cc
one_ordinal v sweeps (suc k) zero leg more is there same = absurd cc
one_ordinal v sweeps (suc k) (suc j) leg more is there same = ap suc (one_from v 1 sweeps leg more same k j is there)
