-- One place of a sweep more.
use Rattle.std.proofs.Common.{◌≡◌, ℕ, zero, suc, ◌+◌, ◌-◌, ◌≤◌, List, ◌++◌, Option, Some, subst, arith}
use Rattle.std.specs.Prelude.{option_to_list}
use Rattle.leg.specs.LegId.{LegIdParts}
use Rattle.share_ledger.specs.declared.booked_leg.BookedLeg.{BookedLeg}
use Rattle.desk_news.specs.declared.paid.Paid.{Paid}
use Rattle.desk_floor.specs.declared.legs.LegStanding.{LegStanding}
use Rattle.desk_floor.specs.Legs.{ArePlaces, IsPaidLeg, IsPlace, IsStanding}

pub place_told : (venues : ℕ) (id parts : LegIdParts) (booked : BookedLeg) (paid : Paid) (asked told : Option LegStanding)
    → id ≡ parts → IsPaidLeg id (Some (booked, paid)) → IsStanding venues id booked paid asked → asked ≡ told
    → IsPlace venues parts told
place_told venues id parts booked paid asked told same there standing is =
    subst (λ (i : LegIdParts). IsPlace venues i told) same
    (record {
      booked = booked;
      paid = paid;
      there = there;
      standing = subst (λ (leg : Option LegStanding). IsStanding venues id booked paid leg) is standing;
    })

pub places_more : (venues sweep place : ℕ) (legs next : List LegStanding) (told : Option LegStanding) → 1 ≤ place
    → ArePlaces venues sweep (place - 1) legs → IsPlace venues (record { sweep = sweep; place = place }) told
    → next ≡ legs ++ option_to_list told → ArePlaces venues sweep (place + 1 - 1) next
places_more venues sweep zero legs next told low so_far is pushed = absurd (omega (arith, low))
places_more venues sweep (suc before) legs next told low so_far is pushed =
    let first : suc before - 1 ≡ before = omega arith in
    let last : suc before ≡ suc before + 1 - 1 = omega arith in
    subst (λ (n : ℕ). ArePlaces venues sweep n next) last
    (legs, told, subst (λ (n : ℕ). ArePlaces venues sweep n legs) first so_far, is, pushed)
