-- What a line of QuickFIX's FileLog says by what stands at its places.
use Rattle.std.proofs.Common.{◌≡◌, ℕ, ◌≤◌, List, length, take, drop, Some, None, Ok, Err, refl, ◌∙◌}
use Rattle.std.proofs.lemmas.Bool.{le-ltb}
use Rattle.fix_tags.specs.Stamp.{StampParts, stamp_read}
use Rattle.log_text.specs.Quickfix.{past_digits, past_mark, quickfix_at_places, quickfix_said}
use Rattle.log_text.specs.declared.fault.LineFault.TheVariants.{Mark}

-- a line that is long enough
long_line : (line : List ℕ) → 24 ≤ length line → quickfix_said line ≡ quickfix_at_places line
long_line line long = rw (le-ltb (length line) 24 long) refl

-- it says its message
pub said_of_parts : (line message : List ℕ) (stamp : StampParts) → 24 ≤ length line
    → stamp_read (take 21 line) ≡ Some stamp → past_mark (past_digits (drop 21 line)) ≡ Some message
    → quickfix_said line ≡ Ok (record { stamp = stamp; message = message })
said_of_parts line message stamp long at_front behind_it = long_line line long ∙ rw (at_front, behind_it) refl

-- or has no mark
pub lacks_mark : (line : List ℕ) (stamp : StampParts) → 24 ≤ length line
    → stamp_read (take 21 line) ≡ Some stamp → past_mark (past_digits (drop 21 line)) ≡ None
    → quickfix_said line ≡ Err Mark
lacks_mark line stamp long at_front behind_it = long_line line long ∙ rw (at_front, behind_it) refl
