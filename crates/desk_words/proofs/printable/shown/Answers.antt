use Rattle.std.proofs.Common.{◌≤◌, length, length-append, arith, ◌≡◌, ◌++◌, get_or, ap}
use Rattle.std.proofs.lemmas.Grind.{common_steps}
use Rattle.std.specs.List.{All}
use Rattle.std.proofs.lemmas.List.Elements.{All-append}
use Rattle.desk_words.specs.Printable.{IsPrintableByte, byte_shown}
use Rattle.desk_words.proofs.ShownBytes.{shown_more}
use Rattle.desk_words.proofs.printable.shown.Goals as goal

pub loop-byte-preserved : goal.loop-byte-preserved
loop-byte-preserved g c =
    let before = c.loop-byte.bytes.items in
    let piece = c.byte_shown-piece.result.items in
    let grew_by : c.try_extend_from_slice.new.self.items ≡ before ++ piece = grind (arith, common_steps) in
    let grew : c.try_extend_from_slice.new.self.items
    ≡ before ++ byte_shown (get_or c.args.text.now c.loop-byte.byte-index 0) =
    rw (← c.byte_shown-piece.ensures.value) grew_by in
    let short : length c.try_extend_from_slice.new.self.items ≤ g.row.N =
    omega (arith, ap length grew_by, length-append before piece) in
    let both : All IsPrintableByte (before ++ piece) =
    All-append IsPrintableByte before piece c.loop-byte.invariant.printable c.byte_shown-piece.ensures.printable in
    let printable : All IsPrintableByte c.try_extend_from_slice.new.self.items = rw grew_by both in
    record {
      so_far = shown_more _ _ _ _ _ (omega arith) c.loop-byte.invariant.so_far grew short;
      short = short;
      printable = printable;
    }
