-- The sweeps that were placed under references.
use Rattle.std.specs.Prelude.{◌≡◌, ◌≢◌, ℕ, List, Option, Some, None}
use Rattle.std.specs.List.{AllPairs}
use Rattle.std.specs.Map.{lookup}
use Rattle.std.specs.Str.{bytes_eq}
use Rattle.leg.specs.declared.sweep.Routed.{Routed}
use Rattle.sweep_refs.specs.declared.placement.Found.{Found}
use Rattle.sweep_refs.specs.declared.placement.Found.TheVariants.{Nothing, Same, Others}
use Rattle.sweep_refs.specs.declared.placement.Placement.{Placement}

-- a sweep that was placed, and the reference before it
abbrev pub Entry : Type 0
Entry = List ℕ × Placement

-- the entries, in the order in which they were placed, and how many more may be noted without memory
pub record RefBookParts : Type 0 where
  pub placed : List Entry
  pub room : ℕ

-- what was placed under a reference: the first entry that has it
abbrev pub placed_under : List Entry → List ℕ → Option Placement
placed_under entries reference = lookup (bytes_eq reference) entries

-- no two entries have one reference
abbrev pub AreDistinct : List Entry → Type 0
AreDistinct entries = AllPairs (λ one other. one.0 ≢ other.0) entries

-- what a reference was used for, where these legs are submitted under it, by what was placed under it
abbrev pub UsedFor : Option Placement → List Routed → Found → Type 0
UsedFor None legs found = found ≡ Nothing
UsedFor (Some placement) legs Nothing = ⊥
UsedFor (Some placement) legs (Same number shares) =
    placement ≡ record { number = number; shares = shares; legs = legs }
UsedFor (Some placement) legs Others = placement.legs ≢ legs

-- the same, in a book of these entries
abbrev pub Finds : List Entry → List ℕ → List Routed → Found → Type 0
Finds entries reference legs found = UsedFor (placed_under entries reference) legs found
