-- What a worker takes from its venue's ring, and what it asks of the gate with that.
use Rattle.std.specs.Prelude.{◌≡◌, Bool, [], ◌∷◌, ◌++◌, length, Option, MatchOption, Result, is_ok}
use Rattle.leg.specs.Answering.{Answers}
use Rattle.leg.specs.declared.placed_leg.PlacedLeg.{PlacedLeg}
use Rattle.sweep_release.specs.declared.gate_fault.GateFault.{GateFault}
use Rattle.sweep_release.specs.declared.gate_fault.GateFault.TheVariants.{OutOfMemory}
use Rattle.sweep_release.specs.History.{KeptDesk, without_room}
use Rattle.release_lock.specs.Locked.{Replays}
use Rattle.release_lock.specs.Queues.{Took, raise}

-- the same venue's, with this leg behind the others
abbrev pub with_taken : Took → PlacedLeg → Took
with_taken took leg = record took { taken = took.taken ++ leg ∷ [] }

-- the next leg was taken, if there was one
abbrev pub TakesNext : Took → Took → Option PlacedLeg → Type 0
TakesNext before after next = MatchOption next (after ≡ before) (λ leg. after ≡ with_taken before leg)

-- the gate of what was taken was to go up at a desk, and this says whether it is
pub record Raises (took : Took) (before : KeptDesk) (raised : Bool) (after : KeptDesk) : Type 0 where
  pub answer : Result (Unit {0}) GateFault
  pub said : raised ≡ is_ok answer
  pub answers : Answers OutOfMemory (without_room before)
      (raise (without_room before) took.venue (length took.taken)) answer (without_room after)
  pub replays : Replays before × Replays after
