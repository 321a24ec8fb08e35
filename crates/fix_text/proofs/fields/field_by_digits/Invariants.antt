use Rattle.std.proofs.Common.{◌≡◌, ◌≤◌, length}
use Rattle.fix_text.specs.Reading.{field_from, field_of}
use Rattle.fix_text.proofs.fields.field_by_digits.Given as goal

abbrev pub invariant-loop-rest : goal.invariant-loop-rest
invariant-loop-rest l = (field_from l.tag l.rest ≡ field_of l.part) × (l.tag ≤ 999999)

abbrev pub decreases-loop-rest : goal.decreases-loop-rest
decreases-loop-rest l = length l.rest
