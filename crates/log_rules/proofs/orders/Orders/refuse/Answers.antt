use Rattle.std.proofs.Common.{◌≡◌, List, length, take, drop, ◌++◌, Some, ap, sym, ◌∙◌, arith}
use Rattle.std.specs.Prelude.{◌==◌}
use Rattle.std.specs.Str.{bytes_eq}
use Rattle.std.proofs.lemmas.Grind.{common_steps}
use Rattle.log_rules.specs.Ledger.{newest_place, newest_under, order_changed}
use Rattle.log_rules.specs.Order.{OrderParts, refused}
use Rattle.log_rules.proofs.KeepsIds.{keeps_id, keeps_number, newest_changed, refused_keeps}
use Rattle.log_rules.proofs.NewestKept.{newest_within}
use Rattle.log_rules.proofs.orders.Orders.refuse.Goals as goal

pub refuse_at-requires : goal.refuse_at-requires
refuse_at-requires c =
    let orders : List OrderParts = c.self.inside.items.items in
    let found : newest_under orders c.args.number ≡ Some c.in-Some.place =
    grind (arith, common_steps, c.self.invariant.1 c.args.number) in
    let within = newest_within (λ o. o.number == c.args.number) orders c.in-Some.place found in
    grind (arith, common_steps, within)

pub invariant_of-self : goal.invariant_of-self
invariant_of-self c =
    let orders : List OrderParts = c.self.inside.items.items in
    let place = c.in-Some.place in
    let changed : order_changed refused place orders ≡ take c.self.inside.items.len
    (c.refuse_at.new.orders ++ drop (length c.refuse_at.new.orders) orders) = grind (arith, common_steps) in (
      λ id.
          let test = λ (o : OrderParts). bytes_eq o.id id in
          c.self.invariant.0 id ∙ sym (newest_changed test refused place orders (keeps_id refused id refused_keeps))
          ∙ ap (newest_place test) changed,
      λ number.
          let test = λ (o : OrderParts). o.number == number in
          c.self.invariant.1 number
          ∙ sym (newest_changed test refused place orders (keeps_number refused number refused_keeps))
          ∙ ap (newest_place test) changed,
    )
