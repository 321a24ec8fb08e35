-- A day: how large it is, and what its callers begin and end with.
use Rattle.std.specs.Prelude.{◌≡◌, ℕ, ◌+◌, ◌*◌, ◌≤◌, List, [], ◌∷◌, sum_by}
use Rattle.exec_collector.specs.Seats.{Seat}
use Rattle.live_load.specs.declared.live_plan.LivePlan.{LivePlan}

-- each number of a plan is in its range
pub record IsLivePlan (plan : LivePlan) : Type 0 where
  pub venues_from : 1 ≤ plan.venues
  pub venues : plan.venues ≤ 16
  pub callers_from : 1 ≤ plan.callers
  pub callers : plan.callers ≤ 64
  pub sweeps_from : 1 ≤ plan.sweeps
  pub sweeps : plan.sweeps ≤ 1000000
  pub cut : plan.cut ≤ 1000000
  pub turns_from : 1 ≤ plan.turns
  pub turns : plan.turns ≤ 1000000

-- a caller before its first sweep: the day's plan, and its seat
pub record Caller : Type 0 where
  pub plan : LivePlan
  pub seat : Seat

abbrev pub caller_of : LivePlan → Seat → Caller
caller_of plan seat = record { plan = plan; seat = seat }

-- what it leaves: its seat, and how many of its sweeps it gave up
pub record CallerLeft : Type 0 where
  pub seat : Seat
  pub unplaced : ℕ

abbrev pub left_of : Seat → ℕ → CallerLeft
left_of seat unplaced = record { seat = seat; unplaced = unplaced }

-- the shares of a sweep: ten for each venue
abbrev pub shares_each : LivePlan → ℕ
shares_each plan = 10 * plan.venues

-- a caller released its sweeps or gave them up: the seat has as many parts, and gained the shares of those that it
-- released
pub record Called (caller : Caller) (left : CallerLeft) : Type 0 where
  pub parts : left.seat.parts ≡ caller.seat.parts
  pub few : left.unplaced ≤ caller.plan.sweeps
  pub shares : left.seat.shares + left.unplaced * shares_each caller.plan
      ≡ caller.seat.shares + caller.plan.sweeps * shares_each caller.plan

-- and so did each of these, in order
abbrev pub AllCalled : List Caller → List CallerLeft → Type 0
AllCalled [] [] = Unit {0}
AllCalled [] (left ∷ ends) = ⊥
AllCalled (caller ∷ callers) [] = ⊥
AllCalled (caller ∷ callers) (left ∷ ends) = Called caller left × AllCalled callers ends

-- what all callers of a day leave: the seats have all parts, and the shares of the sweeps that weren't given up
pub record AreCalled (plan : LivePlan) (ends : List CallerLeft) : Type 0 where
  pub parts : sum_by (λ (left : CallerLeft). left.seat.parts) ends ≡ 1024
  pub few : sum_by (λ (left : CallerLeft). left.unplaced) ends ≤ plan.callers * plan.sweeps
  pub shares : sum_by (λ (left : CallerLeft). left.seat.shares) ends
      + sum_by (λ (left : CallerLeft). left.unplaced) ends * shares_each plan
      ≡ plan.callers * (plan.sweeps * shares_each plan)
