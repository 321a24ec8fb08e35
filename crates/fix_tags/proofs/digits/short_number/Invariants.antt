use Rattle.std.proofs.Common.{◌≡◌, true, take}
use Rattle.fix_tags.specs.Digits.{digits_number, all_digits}
use Rattle.fix_tags.proofs.digits.short_number.Given as goal

-- the bytes so far are digits, and the value is what they write
abbrev pub invariant-loop-byte : goal.invariant-loop-byte
invariant-loop-byte l =
    (l.value ≡ digits_number (take l.byte-index l.bytes)) × (all_digits (take l.byte-index l.bytes) ≡ true)
