use Rattle.std.proofs.Common.{◌≡◌, ◌++◌, take}
use Rattle.std.specs.Prelude.{string_bytes}
use Rattle.journal_log.specs.Head.{in_one_line}
use Rattle.journal_log.proofs.venue_head.append_line.Given as goal

abbrev pub invariant-loop-byte : goal.invariant-loop-byte
invariant-loop-byte l =
    string_bytes l.words ≡ string_bytes l.initial.words ++ in_one_line (take l.byte-index l.text)
