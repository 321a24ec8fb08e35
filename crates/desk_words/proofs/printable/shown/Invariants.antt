use Rattle.std.proofs.Common.{◌≡◌, ◌-◌, ◌≤◌, ◌++◌, length, drop}
use Rattle.std.specs.List.{All}
use Rattle.desk_words.specs.Printable.{IsPrintableByte, shown}
use Rattle.desk_words.proofs.printable.shown.Given as goal

abbrev pub invariant-loop-byte : goal.invariant-loop-byte
invariant-loop-byte g l = record {
  so_far : shown g.row.N l.text ≡ l.bytes.items ++ shown (g.row.N - length l.bytes.items) (drop l.byte-index l.text);
  short : length l.bytes.items ≤ g.row.N;
  printable : All IsPrintableByte l.bytes.items;
}
