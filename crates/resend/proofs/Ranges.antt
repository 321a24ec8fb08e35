-- What a request is answered with, and how a number is judged.
use Rattle.std.proofs.Common.{◌≡◌, ◌≢◌, ◌≤◌, ◌+◌, ◌==◌, ℕ, Bool, true, false, ◌&&◌, ◌||◌, nat_le, min, List, Some, None, refl, if◌then◌else◌, arith}
use Rattle.std.specs.Prelude.{IfSome}
use Rattle.std.proofs.lemmas.Bool.{and_parts, eqb-true}
use Rattle.std.proofs.lemmas.Bool.Decides.{nat_tests}
use Rattle.fix_tags.specs.Range.{is_range}
use Rattle.resend.specs.Log.{Entry, last_number, fill_end, fill_for}
use Rattle.resend.specs.Later.{IsFillFor}

-- the last number of a range lies in it, and no further than each of its bounds
record Ends (sent begin last top end : ℕ) : Type 0 where
  low : begin ≤ end
  was_sent : end ≤ sent
  was_asked : last ≢ 0 → end ≤ last
  below_top : end ≤ top

range_ends : (b : Bool) (sent begin last top : ℕ) → (last == 0) ≡ b → begin ≤ sent → begin ≤ top → (b || nat_le begin last) ≡ true
    → Ends sent begin last top (min top (if b then sent else min sent last))
range_ends true sent begin last top all low below or =
    let none : last ≡ 0 = eqb-true last 0 all in
    record { low = omega arith; was_sent = omega arith; was_asked = λ some. absurd (some none); below_top = omega arith }
range_ends false sent begin last top all low below or =
    let le : begin ≤ last = grind (arith, nat_tests, or) in
    record { low = omega arith; was_sent = omega arith; was_asked = λ some. omega arith; below_top = omega arith }

fill_if : (b : Bool) (begin last top : ℕ) (log : List Entry) → (is_range (last_number log) begin last && nat_le begin top) ≡ b
    → IfSome (if b then Some (record { first = begin; new_number = fill_end (last_number log) last top + 1 }) else None) (IsFillFor begin last top log)
fill_if false begin last top log is = tt
fill_if true begin last top log is =
    let whole = and_parts (is_range (last_number log) begin last) (nat_le begin top) is in
    let range = and_parts (nat_le 1 begin && nat_le begin (last_number log)) (last == 0 || nat_le begin last) whole.0 in
    let low = and_parts (nat_le 1 begin) (nat_le begin (last_number log)) range.0 in
    let one : 1 ≤ begin = grind (arith, nat_tests, low.0) in
    let sent : begin ≤ last_number log = grind (arith, nat_tests, low.1) in
    let below : begin ≤ top = grind (arith, nat_tests, whole.1) in
    let ends = range_ends (last == 0) (last_number log) begin last top refl sent below range.1 in
    record { from_one = one; from_begin = refl; forward = omega arith; was_sent = omega arith; was_asked = λ some. (let h = ends.was_asked some in omega arith); below_top = omega arith }

pub fill_is_for : (begin last top : ℕ) (log : List Entry) → IfSome (fill_for begin last top log) (IsFillFor begin last top log)
fill_is_for begin last top log = fill_if (is_range (last_number log) begin last && nat_le begin top) begin last top log refl
