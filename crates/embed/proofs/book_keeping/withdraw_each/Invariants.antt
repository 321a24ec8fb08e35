use Rattle.std.proofs.Common.{◌≡◌, drop}
use Rattle.embed.specs.Keeping.{withdraw_each}
use Rattle.embed.proofs.book_keeping.withdraw_each.Given as goal

abbrev pub invariant-loop-id : goal.invariant-loop-id
invariant-loop-id l = withdraw_each (drop l.id-index l.ids) l.book ≡ withdraw_each l.ids l.initial.book
