-- The rule of a ring: the legs popped, followed by the legs in the ring, are the legs pushed.
use Rattle.std.specs.Prelude.{◌≡◌, ℕ, Bool, true, List, [], ◌∷◌, ◌++◌}
use mathlib.Core.Option.{some}
use lib.ListN.{get_elem?}
use Rattle.leg.specs.declared.placed_leg.PlacedLeg.{PlacedLeg}
use Rattle.venue_queue.specs.declared.rule.Hand.{Hand}

-- what a pass may do, and what it did
abbrev pub hand : Bool → Bool → List PlacedLeg → List PlacedLeg → Hand
hand feeds drains pushed popped = record { feeds = feeds; drains = drains; pushed = pushed; popped = popped }

-- it pushed one leg more, or popped one leg more
abbrev pub with_pushed : PlacedLeg → Hand → Hand
with_pushed leg v = hand v.feeds v.drains (v.pushed ++ leg ∷ []) v.popped

abbrev pub with_popped : PlacedLeg → Hand → Hand
with_popped leg v = hand v.feeds v.drains v.pushed (v.popped ++ leg ∷ [])

-- the number of the pass that pushes, that of the one that pops, and all that was pushed and popped
pub record RingParts : Type 0 where
  pub feeder : ℕ
  pub drainer : ℕ
  pub pushed : List PlacedLeg
  pub popped : List PlacedLeg

-- a pass that may push has the feeder's number, and pushed all that was pushed; so with popping
pub record Fits (ring : RingParts) (number : ℕ) (v : Hand) : Type 0 where
  pub feeds : v.feeds ≡ true → (number ≡ ring.feeder) × (v.pushed ≡ ring.pushed)
  pub drains : v.drains ≡ true → (number ≡ ring.drainer) × (v.popped ≡ ring.popped)

-- the rule, of the legs in the ring and what each pass knows
pub record Kept (items : List PlacedLeg) (views : List Hand) : Type 0 where
  pub ring : RingParts
  pub in_order : ring.pushed ≡ ring.popped ++ items
  pub fits : (number : ℕ) (v : Hand) → get_elem? views number ≡ some v → Fits ring number v

-- the last legs pushed are these
abbrev pub EndsWith : List PlacedLeg → List PlacedLeg → Type 0
EndsWith pushed items = (popped : List PlacedLeg) × (pushed ≡ popped ++ items)

-- a pass with both ends knows that what was pushed is what was popped and then what the ring holds
abbrev pub BothEnds : Hand → List PlacedLeg → Type 0
BothEnds v items = v.feeds ≡ true → v.drains ≡ true → v.pushed ≡ v.popped ++ items
