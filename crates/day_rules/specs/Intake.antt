-- The log of the lines that a desk took: which sweeps were placed.
use Rattle.std.specs.Prelude.{ℕ, suc, Bool, true, false, not, ◌&&◌, List, [], ◌∷◌, ◌++◌, codes, ◌==◌, Option, Some, None, Result, Ok, length, nat_le, if◌then◌else◌}
use Rattle.std.specs.List.{ends_with, starts_with}
use Rattle.std.specs.Str.{bytes_eq}
use Rattle.leg.specs.declared.sweep.Routed.{Routed}
use Rattle.message_log.specs.declared.direction.Direction.{Direction}
use Rattle.message_log.specs.declared.direction.Direction.TheVariants.{Sent, Received}
use Rattle.share_ledger.specs.Entries.{sweep_shares}
use Rattle.desk_answers.specs.Answer.{answer_text}
use Rattle.sweep_text.specs.Line.{line_says}
use Rattle.desk_answers.specs.declared.answer.Answer.TheVariants.{Placed}
use Rattle.sweep_text.specs.declared.command.Command.{Command}
use Rattle.sweep_text.specs.declared.command.Command.TheVariants.{Sweep}
use Rattle.sweep_text.specs.declared.line_fault.LineFault.{LineFault}

-- the names of the venues; the legs of the sweep that the last line asked for; and the sweeps that were placed, in
-- order, of which the first has number 1
pub record IntakeParts : Type 0 where
  pub names : List (List ℕ)
  pub asked : Option (List Routed)
  pub sweeps : List (List Routed)

abbrev pub legs_asked : Result Command LineFault → Option (List Routed)
legs_asked (Ok (Sweep submission)) = Some submission.sweep.legs
legs_asked _ = None

-- whether an answer says that a sweep was placed: it begins with `placed `, and doesn't end with ` again`, as one does
-- of a sweep that was placed before
abbrev pub is_placing : List ℕ → Bool
is_placing text =
    starts_with (λ a b. a == b) text (codes "placed ") && not (ends_with (λ a b. a == b) text (codes " again"))

-- whether it says so of a sweep of this number and these legs
abbrev pub is_placed_as : ℕ → List Routed → List ℕ → Bool
is_placed_as number legs text =
    nat_le (length legs) 32 && bytes_eq text (answer_text (Placed number (sweep_shares legs)))

-- of the sweep that was asked for, under the next number
abbrev pub places : List (List Routed) → Option (List Routed) → List ℕ → Bool
places sweeps None text = false
places sweeps (Some legs) text = is_placed_as (suc (length sweeps)) legs text

-- a line or an answer is one that the log may have: an answer that places a sweep places the one that was asked for,
-- under the next number
abbrev pub fits : Direction → List ℕ → IntakeParts → Bool
fits Sent text i = true
fits Received text i = if is_placing text then places i.sweeps i.asked text else true

abbrev pub placed_with : Option (List Routed) → List (List Routed) → List (List Routed)
placed_with None sweeps = sweeps
placed_with (Some legs) sweeps = sweeps ++ legs ∷ []

abbrev pub sweeps_after : List ℕ → IntakeParts → List (List Routed)
sweeps_after text i =
    if is_placing text && places i.sweeps i.asked text then placed_with i.asked i.sweeps else i.sweeps

-- what is known behind it
abbrev pub taken_in : Direction → List ℕ → IntakeParts → IntakeParts
taken_in Sent text i = record i { asked = legs_asked (line_says i.names text) }
taken_in Received text i = record i { asked = None; sweeps = sweeps_after text i }
