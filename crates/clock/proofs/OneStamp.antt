-- An instant has one stamp or none.
use Rattle.std.proofs.Common.{◌≡◌, ℤ, pos, ◌<ℤ◌, Option, Some, None, MatchOption, refl, sym, ap, ◌∙◌, arith}
use Rattle.std.proofs.lemmas.Int.{ints}
use Rattle.jiff.proofs.Family.{same_datetime}
use Rattle.jiff.specs.Types.{DateTime}
use Rattle.fix_tags.specs.Stamp.{StampParts}
use Rattle.clock.specs.StampAt.{Shows, IsStampAt}

same_parts : (at : DateTime) (s t : StampParts) → Shows at s → Shows at t → s ≡ t
same_parts at s t p q =
    let year : s.year ≡ t.year = omega (arith, ints, p.year, q.year) in
    λ i. record {
      year = year i;
      month = (sym p.month ∙ q.month) i;
      day = (sym p.day ∙ q.day) i;
      hour = (sym p.hour ∙ q.hour) i;
      minute = (sym p.minute ∙ q.minute) i;
      second = (sym p.second ∙ q.second) i;
      milli = (sym p.milli ∙ q.milli) i;
    }

same_stamp : (at : DateTime) (s t : Option StampParts) → MatchOption s (at.date.year <ℤ pos 0) (Shows at)
    → MatchOption t (at.date.year <ℤ pos 0) (Shows at) → s ≡ t
same_stamp at None None p q = refl
same_stamp at None (Some t) p q = absurd (omega (arith, ints, p, q.year))
same_stamp at (Some s) None p q = absurd (omega (arith, ints, p.year, q))
same_stamp at (Some s) (Some t) p q = ap Some (same_parts at s t p q)

pub one_stamp : (nanos : ℤ) (s t : Option StampParts) → IsStampAt nanos s → IsStampAt nanos t → s ≡ t
one_stamp nanos s t p q =
    let same : p.0 ≡ q.0 = same_datetime p.0 q.0 (p.1 ∙ sym q.1) in
    same_stamp q.0 s t (rw same at p.2) q.2
