-- The dollars of the sweeps released: they stay so while these are the same, and grow by a sweep's own when it is placed.
use Rattle.std.proofs.Common.{◌≡◌, ℕ, zero, suc, ◌+◌, ◌*◌, ◌^◌, ◌≤◌, Bool, true, false, List, [], ◌∷◌, length, Option, Some, None, Result, Ok, Err, refl, ap, sym, subst, ◌∙◌, arith}
use Rattle.std.specs.Prelude.{◌==◌, nat_lt, IfSome, OnOk}
use Rattle.std.proofs.lemmas.Bool.Decides.{nat_tests}
use Rattle.std.proofs.lemmas.List.{length-append}
use Rattle.std.proofs.lemmas.List.Sums.{sum_by_push}
use Rattle.leg.specs.Refusing.{◌or_then◌, refused_if}
use Rattle.leg.specs.declared.sweep.Routed.{Routed}
use Rattle.order_limits.specs.declared.dollars.Dollars.{Dollars}
use Rattle.order_limits.specs.declared.over.Excess.{Excess}
use Rattle.order_limits.specs.Day.{MayComeToIf, dollars_of, judged_if, with_sweep}
use Rattle.order_limits.specs.Limits.{LimitParts}
use Rattle.order_limits.specs.Within.{IsWithin}
use Rattle.order_limits.proofs.Within.{law}
use Rattle.order_limits.specs.Money.{sweep_amount}
use Rattle.sweep_release.specs.declared.receipt.Receipt.{Receipt}
use Rattle.sweep_release.specs.declared.release_fault.ReleaseFault.{ReleaseFault}
use Rattle.sweep_release.specs.declared.release_fault.ReleaseFault.TheVariants.{Empty, TooManyLegs}
use Rattle.sweep_release.specs.Desk.{DeskParts, release_refusal}
use Rattle.sweep_release.specs.History.{KeptDesk, without_room}
use Rattle.sweep_release.proofs.Backlog.{none_second}
use Rattle.sweep_release.proofs.KeptReleased.{number_left}
use Rattle.release_lock.specs.Queues.{Pumps, PumpsEach, PumpsIf}
use Rattle.release_lock.specs.Locked.{OnlyTurns, IsDeskDollars, IsPlacedWithin, day_dollars}
use Rattle.release_lock.proofs.Turning.{turned_sweeps, turns_none}
use Rattle.release_lock.proofs.Leaving.{pumped_sweeps}
use Rattle.release_lock.proofs.Placing.{IsReleased}

-- the sweeps are the same

dollars_as : (before after : KeptDesk) (dollars : Dollars) → after.desk.sweeps ≡ before.desk.sweeps
    → IsDeskDollars before dollars → IsDeskDollars after dollars
dollars_as before after dollars same is =
    let many = ap length same in
    let worth = is.worth in
    let numbers = is.numbers in
    record {
      sum = is.sum ∙ ap dollars_of (sym same);
      worth = omega (arith, many, worth);
      numbers = omega (arith, many, numbers);
    }

pub turned_dollars : (before after : KeptDesk) (dollars : Dollars) → OnlyTurns before after
    → IsDeskDollars before dollars → IsDeskDollars after dollars
turned_dollars before after dollars turns = dollars_as before after dollars (turned_sweeps before after turns)

pub same_dollars : (before after : KeptDesk) (dollars : Dollars) → without_room after ≡ without_room before
    → IsDeskDollars before dollars → IsDeskDollars after dollars
same_dollars before after dollars same = turned_dollars before after dollars (turns_none before after same)

pub pumped_dollars : (venue : ℕ) (before after : KeptDesk) (dollars : Dollars) → Pumps venue before after
    → IsDeskDollars before dollars → IsDeskDollars after dollars
pumped_dollars venue before after dollars pumps =
    dollars_as before after dollars (pumped_sweeps venue before after pumps)

pumps_if : (is_so : Bool) (venue : ℕ) (before after : KeptDesk) → PumpsIf is_so venue before after
    → after.desk.sweeps ≡ before.desk.sweeps
pumps_if true venue before after out = pumped_sweeps venue before after out.pumps
pumps_if false venue before after same = ap (λ d. d.desk.sweeps) same

pub pumped_each : (named : ℕ → Bool) (venues : ℕ) (before after : KeptDesk) → PumpsEach named venues before after
    → day_dollars after ≡ day_dollars before
pumped_each named zero before after same = ap day_dollars same
pumped_each named (suc venue) before after each =
    ap dollars_of (pumps_if (named venue) venue each.0 after each.2) ∙ pumped_each named venue before each.0 each.1

-- the sums that the desk has stay far from the greatest of their type
pub few_dollars : (desk : KeptDesk) (dollars : Dollars) → IsDeskDollars desk dollars → dollars.ten_thousandths ≤ 10 ^ 36
few_dollars desk dollars is =
    let worth = is.worth in
    let numbers = is.numbers in
    omega (arith, worth, numbers)

-- what is judged to be within the limits is so

within_if : (limits : Option LimitParts) (placed day : Dollars) (legs : List Routed)
    → judged_if limits placed legs ≡ Ok day → IfSome limits (λ parts. IsWithin parts placed legs)
within_if None placed day legs e = tt
within_if (Some parts) placed day legs e = law parts placed legs day e

pub judged_within : (limits : Option LimitParts) (placed : Dollars) (legs : List Routed) (answer : Result Dollars Excess)
    → answer ≡ judged_if limits placed legs → OnOk answer (IfSome limits (λ parts. IsWithin parts placed legs))
judged_within limits placed legs (Ok day) is = within_if limits placed day legs (sym is)
judged_within limits placed legs (Err excess) is = tt

pub placed_within : (limits : Option LimitParts) (legs seen : List Routed) (before after : KeptDesk) (day : Dollars)
    → seen ≡ legs → IfSome limits (λ parts. IsWithin parts (day_dollars before) seen)
    → day ≡ with_sweep (day_dollars before) seen → MayComeToIf limits day → day_dollars after ≡ day
    → IsPlacedWithin limits legs before after
placed_within limits legs seen before after day same within sum limit now =
    let all : IfSome limits (λ parts. IsWithin parts (day_dollars before) legs)
    = subst (λ (l : List Routed). IfSome limits (λ parts. IsWithin parts (day_dollars before) l)) same within in
    record {
      within = all;
      day = now ∙ (sum ∙ ap (with_sweep (day_dollars before)) same);
      limit = subst (MayComeToIf limits) (sym now) limit;
    }

-- one more was placed

none_first : (a b : Option ReleaseFault) → (a or_then b) ≡ None → a ≡ None
none_first (Some fault) b e = absurd cc
none_first None b e = refl

not_long : (n : ℕ) (long : Bool) → nat_lt 32 n ≡ long → refused_if long TooManyLegs ≡ None → n ≤ 32
not_long n true is e = absurd cc
not_long n false is e = grind (arith, nat_tests)

legs_few : (desk : DeskParts) (legs : List Routed) → release_refusal desk legs ≡ None → length legs ≤ 32
legs_few desk legs e =
    not_long (length legs) (nat_lt 32 (length legs)) refl
    (none_first (refused_if (nat_lt 32 (length legs)) TooManyLegs) _
    (none_second (refused_if (length legs == 0) Empty) _ e))

module _ (legs : List Routed) (before : KeptDesk) (receipt : Receipt) (after : KeptDesk)
    (it : IsReleased legs before receipt after) where
  -- the day comes to the sweep's dollars more
  pub day_more : day_dollars after ≡ with_sweep (day_dollars before) legs
  day_more =
      ap (λ d. dollars_of d.sweeps) it.desk
      ∙ (λ i. record { ten_thousandths = sum_by_push sweep_amount before.desk.sweeps legs i })

  pub released_dollars : (dollars day : Dollars) → IsDeskDollars before dollars
      → day ≡ with_sweep (day_dollars before) legs
      → day.ten_thousandths ≤ (day_dollars before).ten_thousandths + 10 ^ 16 * length legs → IsDeskDollars after day
  released_dollars dollars day is sum few =
      let short = legs_few before.desk legs it.fits in
      let left = number_left before.desk legs it.fits in
      let worth = is.worth in
      let was = ap (λ d. d.ten_thousandths) is.sum in
      let long : length after.desk.sweeps ≡ length before.desk.sweeps + 1
      = ap (λ d. length d.sweeps) it.desk ∙ length-append before.desk.sweeps (legs ∷ []) in
      record {
        sum = sum ∙ sym day_more;
        worth = omega (arith, short, worth, was, long, few);
        numbers = omega (arith, left, long);
      }
