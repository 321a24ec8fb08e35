use Rattle.std.proofs.Common.{ap, subst, ◌∙◌}
use Rattle.std.specs.Io.KnownBytes.{Appends}
use Rattle.day_check.specs.LogCheck.{log_parts}
use Rattle.day_check.specs.LogChecked.{LogParts}
use Rattle.day_check.specs.LogText.{style_of}
use Rattle.day_check.specs.Tallies.{breaks_a_rule}
use Rattle.day_check.proofs.LogPrinted.{told}
use Rattle.day_check.proofs.checked_log.print_log.Goals as goal

pub returns : goal.returns
returns g c =
    let s = style_of c.args.printing.now in
    let a = g.W.Write.contents c.args.out.now in
    let b = g.W.Write.contents c.print.new.out in
    let d = g.W.Write.contents c.check_lines.new.out in
    let e = g.W.Write.contents c.print-2.new.out in
    let so = c.in_ok-log.ensures in
    let log = c.in_ok-log.log in record {
      lines = so.lines;
      is_cut = log.is_cut;
      read = so.read;
      day = ap (λ (l : LogParts). l.day) so.parts;
      broken = c.is_broken.ensures ∙ ap (λ (l : LogParts). breaks_a_rule l.tallies) so.parts;
      own = ap (λ (l : LogParts). l.is_own) so.parts;
      printed = λ off. told s c.args.printing.now.log.now so.lines log.is_cut (log_parts log) a b d e c.in_ok-head.head.items
          c.in_ok-end.end.items so.parts (c.in_ok-head.ensures off) (c.in_ok-end.ensures off)
          (subst (Appends a b) c.deref.ensures.value c.in_ok-print.ensures.ok) (so.printed off)
          (subst (Appends d e) c.deref-2.ensures.value c.in_ok-print-2.ensures.ok);
    }
