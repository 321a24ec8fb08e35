use Rattle.std.proofs.Common.{◌≡◌, List, length, take, drop, ◌++◌, Some, ap, sym, ◌∙◌, arith}
use Rattle.std.specs.Prelude.{◌==◌}
use Rattle.std.specs.Str.{bytes_eq}
use Rattle.std.proofs.lemmas.Grind.{common_steps}
use Rattle.log_rules.specs.Ledger.{newest_order, newest_place, order_changed}
use Rattle.log_rules.specs.Order.{OrderParts, reported}
use Rattle.log_rules.proofs.KeepsIds.{keeps_id, keeps_number, newest_changed, summed_keeps}
use Rattle.log_rules.proofs.NewestKept.{newest_within}
use Rattle.log_rules.proofs.orders.Orders.sum_up.Goals as goal

pub sum_up_at-requires : goal.sum_up_at-requires
sum_up_at-requires c =
    let orders : List OrderParts = c.self.inside.items.items in
    let id = c.args.said.now.id in
    let found : newest_order orders id ≡ Some c.in-Some.place =
    grind (arith, common_steps, c.self.invariant.0 id) in
    let within = newest_within (λ o. bytes_eq o.id id) orders c.in-Some.place found in
    grind (arith, common_steps, within)

pub invariant_of-self : goal.invariant_of-self
invariant_of-self c =
    let orders : List OrderParts = c.self.inside.items.items in
    let said = c.args.said.now in
    let change : OrderParts → OrderParts = reported said in
    let place = c.in-Some.place in
    let keeps = summed_keeps said.cum said.leaves in
    let changed : order_changed change place orders ≡ take c.self.inside.items.len
    (c.sum_up_at.new.orders ++ drop (length c.sum_up_at.new.orders) orders) = grind (arith, common_steps) in (
      λ id.
          let test = λ (o : OrderParts). bytes_eq o.id id in
          c.self.invariant.0 id ∙ sym (newest_changed test change place orders (keeps_id change id keeps))
          ∙ ap (newest_place test) changed,
      λ number.
          let test = λ (o : OrderParts). o.number == number in
          c.self.invariant.1 number ∙ sym (newest_changed test change place orders (keeps_number change number keeps))
          ∙ ap (newest_place test) changed,
    )
