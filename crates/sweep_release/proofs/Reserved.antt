-- Memory is reserved at one venue after another.
use Rattle.std.proofs.Common.{◌≡◌, ℕ, ◌+◌, ◌<◌, ◌≤◌, inl, inr, List, length, map, get_or, set, refl, ap, sym, ◌∙◌, subst, arith}
use Rattle.std.specs.Prelude.{sum_by, vec_len, vec_capacity}
use Rattle.std.proofs.lemmas.Bool.{cases_eq}
use Rattle.std.proofs.lemmas.List.{length-set, map-set, set-get_or, get_or_default, get_or-set_same, get_or-set_other}
use Rattle.std.proofs.lemmas.List.Sums.{sum_by-set}
use Rattle.sweep_release.specs.declared.venue.Venue.{Venue}
use Rattle.sweep_release.specs.Gates.{gate_due}
use Rattle.sweep_release.specs.Kept.{venue_seen, entries_due, IsSame, AreSame, HaveSpare}

pub same_all : (venues : List Venue) → AreSame venues venues
same_all venues =
    record {
      many = refl;
      each = λ k other there. record { gate = refl; left = refl; legs = refl; spare = omega arith };
      seen = refl;
      due = refl;
    }

-- one more of them
pub same_more : (before after : List Venue) (at : ℕ) (was now : Venue) → AreSame before after → at < length after
    → was ≡ get_or after at was → IsSame was now → AreSame before (set after at now)
same_more before after at was now h there was_is same =
    let many = h.many in
    let sum = h.due in
    let gate = same.gate in
    let left = same.left in
    let legs = same.legs in
    let spare = same.spare in
    let seen : venue_seen now ≡ venue_seen was = λ k. record { gate = gate k; left = left k } in
    let gates = ap gate_due gate in
    let long = ap length legs in
    let sums : sum_by entries_due (set after at now) + entries_due was ≡ sum_by entries_due after + entries_due now =
    subst (λ v. sum_by entries_due (set after at now) + entries_due v ≡ sum_by entries_due after + entries_due now)
    (sym was_is) (sum_by-set entries_due after at now was there) in
    record {
      many = length-set after at now ∙ many;
      each = λ k other inside.
          (let each = h.each in
          let here = each k other inside in
          elim (cases_eq k at) [
            | inl this ↦
                (let stood : get_or after k other ≡ was = ap (λ n. get_or after n other) this ∙ (get_or_default after at other was there ∙ sym was_is) in
                let put : get_or (set after at now) k other ≡ now = ap (λ n. get_or (set after at now) n other) this ∙ get_or-set_same after at now other there in
                let old : IsSame (get_or before k other) was = subst (IsSame (get_or before k other)) stood here in
                let old_spare = old.spare in
                subst (IsSame (get_or before k other)) (sym put)
                (record {
                  gate = gate ∙ old.gate;
                  left = left ∙ old.left;
                  legs = legs ∙ old.legs;
                  spare = omega (arith, old_spare, spare);
                }))
            | inr differs ↦
                subst (IsSame (get_or before k other)) (sym (get_or-set_other after at k now other differs)) here
          ]);
      seen = map-set venue_seen after at now
          ∙ (ap (λ v. set (map venue_seen after) at v) seen
          ∙ (sym (map-set venue_seen after at was)
          ∙ (ap (map venue_seen) (ap (set after at) was_is ∙ set-get_or after at was) ∙ h.seen)));
      due = omega (arith, sum, sums, gates, long, left);
    }

-- and those up to it have room
pub room_more : (after : List Venue) (at room : ℕ) (now : Venue) → at < length after
    → ((k : ℕ) (other : Venue) → k < at
    → vec_len (get_or after k other).released + room ≤ vec_capacity (get_or after k other).released)
    → vec_len now.released + room ≤ vec_capacity now.released → (k : ℕ) (other : Venue) → k < at + 1
    → vec_len (get_or (set after at now) k other).released + room ≤ vec_capacity (get_or (set after at now) k other).released
room_more after at room now there have this k other inside =
    elim (cases_eq k at) [
      | inl same ↦
          subst (λ v. vec_len v.released + room ≤ vec_capacity v.released)
          (sym (ap (λ n. get_or (set after at now) n other) same ∙ get_or-set_same after at now other there)) this
      | inr differs ↦
          subst (λ v. vec_len v.released + room ≤ vec_capacity v.released)
          (sym (get_or-set_other after at k now other differs)) (have k other (omega (arith, inside, differs)))
    ]

-- a venue that lacks the room now lacked it before
pub lacked : (before after : List Venue) (at room : ℕ) (was : Venue) → AreSame before after → at < length before
    → was ≡ get_or after at was → vec_capacity was.released < vec_len was.released + room → ¬ HaveSpare room before
lacked before after at room was same there was_is full have =
    let first = get_or before at was in
    let each = same.each in
    let here : IsSame first was = subst (IsSame first) (sym was_is) (each at was there) in
    let spare = here.spare in
    let legs = ap length here.legs in
    let had = have at was there in
    omega (arith, spare, legs, had, full, first.released.ok.0, was.released.ok.0)
