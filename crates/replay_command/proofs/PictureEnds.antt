-- How a run ends that writes a picture.
use Rattle.std.proofs.Common.{◌≡◌, ℕ, true, List, Option, Result, Ok, Err, inl, inr}
use Rattle.std.specs.Prelude.{IfErr, is_none}
use Rattle.replay_command.specs.declared.asked.Asked.{Asked}
use Rattle.replay_command.specs.declared.fault.CommandFault.{CommandFault}
use Rattle.replay_command.specs.Fault.{IsOfPicture}
use Rattle.replay_command.specs.Running.{EndsAsked, EndsScript, all_done}

-- the script came to its end, and the picture was written, or failed
pub picture_ends : (input before after : Option (List ℕ)) (asked : Asked) (saved : Result (Unit {0}) CommandFault)
    → EndsScript input before after asked all_done → IfErr saved IsOfPicture
    → IfErr saved (λ (fault : CommandFault). is_none asked.ladder ≡ true → ⊥)
    → EndsAsked input before after asked saved
picture_ends input before after asked (Ok tt) ends only named = inl ends
picture_ends input before after asked (Err fault) ends only named = inr (only, named, ends)
