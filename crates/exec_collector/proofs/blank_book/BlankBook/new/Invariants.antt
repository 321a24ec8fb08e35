use Rattle.std.proofs.Common.{◌≡◌, ◌≤◌, length, vec_capacity}
use Rattle.exec_collector.specs.Blank.{AreBlank}
use Rattle.exec_collector.proofs.blank_book.BlankBook.new.Given as goal

abbrev pub invariant-loop-number : goal.invariant-loop-number
invariant-loop-number l =
    (length l.lists.items ≡ l.number) × AreBlank 0 l.lists.items × (l.venues ≤ vec_capacity l.lists)
