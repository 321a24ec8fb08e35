use Rattle.std.proofs.Common.{◌≡◌, ◌∙◌, ℕ, pos, Some, nat_abs, to_z, of_z, w16, arith, refl, ap}
use Rattle.std.proofs.lemmas.Int.{ints, to_z-of_z}
use Rattle.jiff.specs.Words.{civil_nanos}
use Rattle.clock.proofs.InRange.{stamp_at_year, stamp_of-civil}
use Rattle.clock.proofs.instant.stamp_at.Goals as goal

pub returns-then-at-lt0 : goal.returns-then-at-lt0
returns-then-at-lt0 c =
    let at = c.to_plain-at.result in
    let now : civil_nanos at ≡ c.args.moment.nanosecond = ap civil_nanos c.to_plain-at.ensures ∙ omega (arith, ints, c.to_datetime.ensures) in
    (at, now, grind (arith, ints, to_z-of_z, c.if-at-lt0.true))

pub returns : goal.returns
returns c =
    let at = c.to_plain-at.result in
    let now : civil_nanos at ≡ c.args.moment.nanosecond = ap civil_nanos c.to_plain-at.ensures ∙ omega (arith, ints, c.to_datetime.ensures) in
    let year : ℕ = nat_abs (to_z w16 (of_z w16 at.date.year)) in
    let is : at.date.year ≡ pos year = grind (arith, ints, to_z-of_z) in
    let some : c.new.result ≡ Some (stamp_at_year at year) = c.new.ensures ∙ stamp_of-civil at year is in
    (at, now, rw some (record { year = is; month = refl; day = refl; hour = refl; minute = refl; second = refl; milli = refl }))
