use Rattle.std.proofs.Common.{map, sym, ap, ◌∙◌}
use Rattle.journal_folder.specs.Head.{head_of}
use Rattle.journal_folder.proofs.Founds.{first_of, lines_taken, some_lines}
use Rattle.journal_folder.proofs.found.Found.take_lines.Goals as goal

pub returns-in-None : goal.returns-in-None
returns-in-None c =
    let head = c.in-Some.head in
    let lines = c.args.lines.items in
    let some = some_lines _ lines c.is_empty.result c.args.lines.ok.0 c.is_empty.ensures c.if-is_empty.false in
    lines_taken c.go_on.result c.args.self.now c.go_on.new.self c.args.file (map (λ line. line.items) lines)
    (map (λ line. line.items) c.remove-line.new.self.items) c.remove-line.result.items
    (head.file, head.after, head.words.now)
    (first_of lines c.remove-line.new.self.items c.remove-line.result some c.remove-line.ensures.value
    c.remove-line.ensures.items)
    (ap head_of (sym c.as_slice.ensures.value) ∙ sym c.in-Some.ensures)
    (sym c.head_fault.ensures ∙ c.in-None.is) c.go_on.ensures
