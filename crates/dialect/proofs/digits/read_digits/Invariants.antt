use Rattle.std.proofs.Common.{◌≡◌, ◌≤◌, drop}
use Rattle.dialect.specs.Digits.{number_up_to}
use Rattle.dialect.proofs.digits.read_digits.Given as goal

abbrev pub invariant-loop-byte : goal.invariant-loop-byte
invariant-loop-byte l =
    (l.number ≤ l.fn.greatest)
    × (number_up_to l.fn.base l.fn.greatest l.number (drop l.byte-index l.text) ≡ number_up_to l.fn.base l.fn.greatest 0 l.text)
