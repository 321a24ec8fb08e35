-- The fault of a line's words is that of the line.
use Rattle.std.proofs.Common.{◌≡◌, ℕ, ◌≤◌, List, length, take, drop, Some, refl, sym, ap, subst}
use Rattle.std.specs.Prelude.{Result, Err}
use Rattle.std.proofs.lemmas.Bool.{le-ltb}
use Rattle.fix_tags.specs.Stamp.{StampParts, stamp_read}
use Rattle.journal_words.specs.declared.fault.WordsFault.{WordsFault}
use Rattle.journal_words.specs.declared.fault.WordsFault.TheVariants.{Time, Word, Leg, Message, OutOfMemory}
use Rattle.journal_words.specs.Deed.{DeedSaid, Timed}
use Rattle.journal_words.specs.Reading.{ReadsDeed, ReadsTimed, at_time, behind_space, other_said}

pub timed_fault : (stamp : StampParts) (said : Result DeedSaid WordsFault) (why : WordsFault) (fields : List ℕ)
    → ReadsDeed said (Err why) fields → ReadsTimed (at_time stamp said) (Err why) fields
timed_fault stamp said Time fields reads = ap (at_time stamp) reads
timed_fault stamp said Word fields reads = ap (at_time stamp) reads
timed_fault stamp said Leg fields reads = ap (at_time stamp) reads
timed_fault stamp said Message fields reads = ap (at_time stamp) reads
timed_fault stamp said OutOfMemory fields reads = tt

other_at : (line : List ℕ) (stamp : StampParts) → 22 ≤ length line → stamp_read (take 21 line) ≡ Some stamp
    → other_said line ≡ at_time stamp (behind_space (drop 21 line))
unfolding other_said
other_at line stamp long time = rw (le-ltb (length line) 22 long, time) refl

pub other_fault : (line : List ℕ) (stamp : StampParts) (why : WordsFault) (fields : List ℕ) → 22 ≤ length line
    → stamp_read (take 21 line) ≡ Some stamp → ReadsDeed (behind_space (drop 21 line)) (Err why) fields
    → ReadsTimed (other_said line) (Err why) fields
other_fault line stamp why fields long time reads =
    subst (λ (r : Result Timed WordsFault). ReadsTimed r (Err why) fields) (sym (other_at line stamp long time))
    (timed_fault stamp (behind_space (drop 21 line)) why fields reads)
