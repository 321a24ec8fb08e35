use Rattle.std.proofs.Common.{◌≡◌, List, [], ◌∷◌, ◌++◌, ap, arith}
use Rattle.std.specs.Prelude.{◌==◌}
use Rattle.std.specs.Str.{bytes_eq}
use Rattle.std.proofs.lemmas.Grind.{common_steps}
use Rattle.log_rules.specs.Kept.{first_report}
use Rattle.log_rules.specs.KeptReport.{ReportParts, kept_report}
use Rattle.log_rules.proofs.FirstReport.{first_pushed}
use Rattle.log_rules.proofs.reports.Reports.push.Goals as goal

pub invariant_of-self-2 : goal.invariant_of-self-2
invariant_of-self-2 c =
    let reports : List ReportParts = c.self.inside.items.items in
    let r : ReportParts = kept_report c.args.number c.args.order c.args.said.now in
    let more : c.push_reserved.new.self.items ≡ reports ++ r ∷ [] = grind (arith, common_steps) in (
      λ number.
          let test = λ (s : ReportParts). s.number == number in
          let kept = c.in_ok-keep.ensures.ok number in
          let before = c.self.invariant.0 number in
          let pushed = first_pushed test reports r in
          let more_then = ap (first_report test) more in
          grind (arith, common_steps, kept, before, pushed, more_then),
      λ exec.
          let test = λ (s : ReportParts). bytes_eq s.exec exec in
          let kept = c.keep-2.ensures exec in
          let same = c.in_ok-reserve-2.ensures.same exec in
          let before = c.self.invariant.1 exec in
          let pushed = first_pushed test reports r in
          let more_then = ap (first_report test) more in
          grind (arith, common_steps, kept, same, before, pushed, more_then),
    )
