-- What a line says by what stands at its places.
use Rattle.std.proofs.Common.{◌≡◌, ℕ, ◌-◌, ◌≤◌, List, length, take, drop, Some, Ok, Err, refl, sym, ap, ◌∙◌, length-drop}
use Rattle.std.proofs.Math.Seq.{take-length}
use Rattle.std.proofs.lemmas.Bool.{le-ltb}
use Rattle.fix_tags.specs.Stamp.{StampParts, stamp_read}
use Rattle.message_log.specs.declared.direction.Direction.{Direction}
use Rattle.log_text.specs.Line.{ReadsLine, direction_said, line_said, said_at_places}
use Rattle.log_text.specs.Message.{ReadsMessage, message_said}
use Rattle.log_text.specs.declared.fault.LineFault.{LineFault}
use Rattle.log_text.specs.declared.fault.LineFault.TheVariants.{Short, Time, Direction as NoDirection, Byte, Escape, Mark, Parties, OutOfMemory}

-- all that stands behind a place
pub rest_at : (place : ℕ) (line : List ℕ) → take (length line - place) (drop place line) ≡ drop place line
rest_at place line =
    ap (λ n. take n (drop place line)) (sym (length-drop place line)) ∙ take-length (drop place line)

-- a line that is long enough
long_line : (line : List ℕ) → 24 ≤ length line → line_said line ≡ said_at_places line
long_line line long = rw (le-ltb (length line) 24 long) refl

-- it says its message
pub said_of_parts : (line message : List ℕ) (stamp : StampParts) (direction : Direction) → 24 ≤ length line
    → stamp_read (take 21 line) ≡ Some stamp → direction_said (take 3 (drop 21 line)) ≡ Some direction
    → message_said (drop 24 line) ≡ Ok message
    → line_said line ≡ Ok (record { stamp = stamp; direction = direction; message = message })
said_of_parts line message stamp direction long at_front behind_it last =
    long_line line long ∙ rw (at_front, behind_it, last) refl

-- or its message's fault
fault_of_parts : (line : List ℕ) (stamp : StampParts) (direction : Direction) (fault : LineFault) → 24 ≤ length line
    → stamp_read (take 21 line) ≡ Some stamp → direction_said (take 3 (drop 21 line)) ≡ Some direction
    → message_said (drop 24 line) ≡ Err fault → line_said line ≡ Err fault
fault_of_parts line stamp direction fault long at_front behind_it last =
    long_line line long ∙ rw (at_front, behind_it, last) refl

pub reads_fault : (line message : List ℕ) (stamp : StampParts) (direction : Direction) (fault : LineFault)
    → 24 ≤ length line
    → stamp_read (take 21 line) ≡ Some stamp → direction_said (take 3 (drop 21 line)) ≡ Some direction
    → ReadsMessage (message_said (drop 24 line)) (Err fault) message → ReadsLine (line_said line) (Err fault) message
reads_fault line message stamp direction Short long first second last = fault_of_parts line stamp direction Short long first second last
reads_fault line message stamp direction Time long first second last = fault_of_parts line stamp direction Time long first second last
reads_fault line message stamp direction NoDirection long first second last =
    fault_of_parts line stamp direction NoDirection long first second last
reads_fault line message stamp direction Byte long first second last = fault_of_parts line stamp direction Byte long first second last
reads_fault line message stamp direction Escape long first second last = fault_of_parts line stamp direction Escape long first second last
reads_fault line message stamp direction Mark long first second last = fault_of_parts line stamp direction Mark long first second last
reads_fault line message stamp direction Parties long first second last =
    fault_of_parts line stamp direction Parties long first second last
reads_fault line message stamp direction OutOfMemory long first second last = tt
