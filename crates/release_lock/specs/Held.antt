-- Venues that are held, all of them or some: no gate of theirs is up.
use Rattle.std.specs.Prelude.{◌≡◌, ℕ, zero, suc, Bool, true, false, ◌||◌, List, ◌++◌, length, slice_get, unwrap_or, Result, Err}
use Rattle.std.specs.List.{list_all}
use Rattle.sweep_release.specs.declared.desk_entry.DeskEntry.{DeskEntry}
use Rattle.sweep_release.specs.declared.desk_entry.DeskEntry.TheVariants.{Released, Up, Down, Shut, Taken, Dropped}
use Rattle.sweep_release.specs.declared.gate_fault.GateFault.{GateFault}
use Rattle.sweep_release.specs.declared.gate_fault.GateFault.TheVariants.{NotDrained}
use Rattle.sweep_release.specs.Desk.{DeskParts, gate_of, is_up, gate_down}
use Rattle.sweep_release.specs.History.{KeptDesk, replay, history}

-- whether a venue is held: the desk is halted, or the venue is paused
abbrev pub is_held : Bool → List Bool → ℕ → Bool
is_held halted paused venue = halted || unwrap_or (slice_get paused venue) false

-- no gate of a venue that is held is up
abbrev pub KeepsDown : Bool → List Bool → DeskParts → Type 0
KeepsDown halted paused desk =
    (venue : ℕ) → is_held halted paused venue ≡ true → is_up (gate_of desk venue) ≡ false

-- each gate of the venues below this one that is up is put down; and each of the desk
abbrev pub down_below : ℕ → DeskParts → DeskParts
down_below zero desk = desk
down_below (suc venue) desk = gate_down (down_below venue desk) venue

abbrev pub all_down : DeskParts → DeskParts
all_down desk = down_below (length desk.venues) desk

-- whether a call puts a gate down, or shuts one
abbrev pub is_lowering : DeskEntry → Bool
is_lowering (Down venue) = true
is_lowering (Shut venue) = true
is_lowering (Up venue) = false
is_lowering (Released sweep) = false
is_lowering (Taken venue) = false
is_lowering (Dropped venue) = false

-- a desk after gates were put down or shut, and nothing else was asked of it that changes it
pub record OnlyLowers (before after : KeptDesk) : Type 0 where
  pub calls : List DeskEntry
  pub lowers : list_all is_lowering calls ≡ true
  pub desk : after.desk ≡ replay before.desk calls
  pub history_is : after.history ≡ before.history ++ history before.desk calls

-- a gate that was to go up is down, and stays so, since its venue is held
pub record IsHeldBack (venue : ℕ) (before : KeptDesk) (answer : Result (Unit {0}) GateFault) (after : KeptDesk)
    : Type 0 where
  pub says : answer ≡ Err NotDrained
  pub down : is_up (gate_of before.desk venue) ≡ false
  pub same : after ≡ before
