-- Why a line of one of several venues can't be done again.
use Rattle.std.proofs.Common.{◌≡◌, ◌≤◌, ℕ, List, length, map, slice_get, Some, ap, sym, ◌∙◌, arith}
use Rattle.std.specs.Option.{option_map}
use Rattle.std.proofs.lemmas.Option.{slice_get-map}
use Rattle.journal_folder.specs.declared.restart_fault.RestartFault.{RestartFault}
use Rattle.journal_folder.specs.declared.restart_fault.RestartFault.TheVariants.{Folder, Desk, Venue, Ended, DeskLine, VenueLine, OutOfMemory}
use Rattle.day_restart.specs.Redoing.{IsVenueFault, IsVenuesFault}

-- the fault of a line of one venue is one of these
pub among : {A : Type 0} (name : A → List ℕ) (lines : A → ℕ) (xs : List A) (place : ℕ) (x : A) (at : ℕ)
    (fault : RestartFault) → slice_get xs place ≡ Some x → at ≤ lines x → IsVenueFault (name x) at fault
    → IsVenuesFault (map (λ p. (name p, lines p)) xs) fault
among name lines xs place x at OutOfMemory there within is = tt
among name lines xs place x at (VenueLine venue k) there within is = (
  place,
  lines x,
  slice_get-map (λ p. (name p, lines p)) xs place
      ∙ (ap (option_map (λ p. (name p, lines p))) there ∙ ap (λ v. Some (v, lines x)) (sym is.0)),
  (let k_is = is.1 in omega (arith, within)),
)
among name lines xs place x at (Folder why) there within is = absurd is
among name lines xs place x at (Desk why) there within is = absurd is
among name lines xs place x at (Venue venue why) there within is = absurd is
among name lines xs place x at (Ended time) there within is = absurd is
among name lines xs place x at (DeskLine k) there within is = absurd is
