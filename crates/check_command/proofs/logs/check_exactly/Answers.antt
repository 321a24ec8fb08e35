use Rattle.std.proofs.Common.{rules, refl, Some, None}
use Rattle.day_check.proofs.LinesRead.{nothing}
use Rattle.check_command.proofs.logs.check_exactly.Goals as goal

pub returns-in-None : goal.returns-in-None
returns-in-None g c = record {
  said = None;
  held = search rules;
  is_so = refl;
  printed = λ off. nothing (g.W.Write.contents c.args.out.now);
}

pub returns-in_ok-is_broken-in-Some : goal.returns-in_ok-is_broken-in-Some
returns-in_ok-is_broken-in-Some g c =
    let said = c.in_ok-is_broken-in-Some.ensures in record {
      said = Some (record { held = said.held; broken = said.broken });
      held = search rules;
      is_so = said.is_so;
      printed = said.printed;
    }
