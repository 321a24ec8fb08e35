use Rattle.std.proofs.Common.{◌≡◌, List, map, length, take, drop, ◌++◌, ap, sym, ◌∙◌, arith}
use Rattle.std.specs.Prelude.{◌==◌}
use Rattle.std.specs.Str.{bytes_eq}
use Rattle.std.proofs.lemmas.Grind.{common_steps}
use Rattle.log_rules.specs.Ledger.{newest_place}
use Rattle.log_rules.specs.Order.{OrderParts, withdrawn_by}
use Rattle.log_rules.proofs.KeepsIds.{keeps_id, keeps_number, newest_mapped, withdrawn_keeps}
use Rattle.log_rules.proofs.orders.Orders.withdraw_from.Goals as goal

pub invariant_of-self : goal.invariant_of-self
invariant_of-self c =
    let orders : List OrderParts = c.self.inside.items.items in
    let change : OrderParts → OrderParts = withdrawn_by c.args.settled c.args.expected in
    let keeps = withdrawn_keeps c.args.settled c.args.expected in
    let changed : map change orders ≡ take c.self.inside.items.len
    (c.withdraw.new.orders ++ drop (length c.withdraw.new.orders) orders) = grind (arith, common_steps) in (
      λ id.
          let test = λ (o : OrderParts). bytes_eq o.id id in
          c.self.invariant.0 id ∙ sym (newest_mapped test change orders (keeps_id change id keeps))
          ∙ ap (newest_place test) changed,
      λ number.
          let test = λ (o : OrderParts). o.number == number in
          c.self.invariant.1 number ∙ sym (newest_mapped test change orders (keeps_number change number keeps))
          ∙ ap (newest_place test) changed,
    )
