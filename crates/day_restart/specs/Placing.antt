-- How the sweeps of a desk are placed again, a line at a time.
use Rattle.std.specs.Prelude.{◌≡◌, ◌≤◌, ℕ, ◌+◌, List, [], ◌∷◌, ◌++◌, length, map, option_to_list, Option, Some, Ok}
use Rattle.std.specs.List.{AllZip}
use Rattle.share_ledger.specs.Entries.{sweep_shares}
use Rattle.leg.specs.declared.sweep.Routed.{Routed}
use Rattle.sweep_refs.specs.Placed.{Entry}
use Rattle.sweep_refs.specs.declared.submission.Submission.{Submission}
use Rattle.sweep_text.specs.declared.command.Command.TheVariants.{Sweep}
use Rattle.sweep_text.specs.Line.{line_says}
use Rattle.sweep_release.specs.Desk.{DeskParts}
use Rattle.journal_words.specs.Desk.{desk_said}
use Rattle.session_worker.specs.Restoring.{StartParts, TakesMore}
use Rattle.journal_folder.specs.declared.restart_fault.RestartFault.{RestartFault}
use Rattle.journal_folder.specs.declared.restart_fault.RestartFault.TheVariants.{DeskLine, OutOfMemory}
use Rattle.day_restart.specs.declared.desk_past.PlacedAgain.{PlacedAgain}
use Rattle.day_restart.specs.Restored.{entries_of, entry_of, legs_in, legs_placed, placed_as, restored_desk, shares_in, up_to_most}

-- a caller's line asks for this sweep
abbrev pub asks_for : List (List ℕ) → List ℕ → Submission → Type 0
asks_for names asked submission = line_says names asked ≡ Ok (Sweep submission)

-- a line of the desk's journal says that this was placed under this number
abbrev pub IsPlacing : List (List ℕ) → List ℕ → ℕ → Submission → Type 0
IsPlacing names line number submission = placed_as names number (desk_said line) ≡ Some submission

-- this line can't be done again, or there is no memory for it
abbrev pub IsLineFault : ℕ → RestartFault → Type 0
IsLineFault line OutOfMemory = Unit {0}
IsLineFault line (DeskLine at) = at ≡ line
IsLineFault line fault = ⊥

-- one of so many lines can't, or there is no memory for it
abbrev pub IsDeskFault : ℕ → RestartFault → Type 0
IsDeskFault lines OutOfMemory = Unit {0}
IsDeskFault lines (DeskLine at) = (1 ≤ at) × (at ≤ lines)
IsDeskFault lines fault = ⊥

-- what was placed again, as its caller counts it: the entries of the references, the legs and the shares
pub record PlacedParts : Type 0 where
  pub entries : List Entry
  pub legs : ℕ
  pub shares : ℕ

abbrev pub parts_of : PlacedAgain → PlacedParts
parts_of again = record {
  entries = map (λ p. (p.reference, p.placement)) again.refs.items;
  legs = again.legs;
  shares = again.shares;
}

abbrev pub none_placed : PlacedParts
none_placed = record { entries = []; legs = 0; shares = 0 }

-- a sweep of these legs and so many shares is counted, under a reference if it has one
abbrev pub AddsPlaced : Option (List ℕ) → ℕ → ℕ → List Routed → PlacedParts → PlacedParts → Type 0
AddsPlaced reference number shares legs before after =
    after ≡ record {
      entries = before.entries
          ++ map (λ r. (r, record { number = number; shares = shares; legs = legs })) (option_to_list reference);
      legs = up_to_most (before.legs + length legs);
      shares = up_to_most (before.shares + shares);
    }

-- a sweep more was placed under this number
abbrev pub with_placed : ℕ → Submission → PlacedParts → PlacedParts
with_placed number submission placed = record {
  entries = placed.entries ++ entry_of number submission;
  legs = up_to_most (placed.legs + length submission.sweep.legs);
  shares = up_to_most (placed.shares + sweep_shares submission.sweep.legs);
}

-- a line says which sweep was placed next, and that was placed again
abbrev pub PlacesLine : List (List ℕ) → List ℕ → DeskParts → PlacedParts → DeskParts → PlacedParts → Type 0
PlacesLine names line desk placed after now =
    (submission : Submission) × IsPlacing names line (length desk.sweeps + 1) submission
    × (after.sweeps ≡ desk.sweeps ++ submission.sweep.legs ∷ [])
    × (now ≡ with_placed (length desk.sweeps + 1) submission placed)

-- lines say which sweeps were placed, and these were placed again, at a desk at which none was
pub record ArePlaced (names lines : List (List ℕ)) (desk : DeskParts) (placed : PlacedParts) : Type 0 where
  pub submissions : List Submission
  pub said : restored_desk names lines ≡ Some submissions
  pub released : desk.sweeps ≡ legs_placed submissions
  pub entries : placed.entries ≡ entries_of submissions
  pub legs : placed.legs ≡ up_to_most (legs_in submissions)
  pub shares : placed.shares ≡ up_to_most (shares_in submissions)

-- each of these took more legs
abbrev pub AllTakeMore : List StartParts → List StartParts → Type 0
AllTakeMore before after = AllZip TakesMore before after
