use Rattle.std.proofs.Common.{◌≡◌, take}
use Rattle.sweep_refs.proofs.ref_book.are_same.Given as goal

abbrev pub invariant-loop-i : goal.invariant-loop-i
invariant-loop-i l = take l.i l.legs ≡ take l.i l.others
