use Rattle.std.proofs.Common.{◌≡◌, List, [], ◌∷◌, ◌++◌, ap, arith}
use Rattle.std.specs.Prelude.{◌==◌}
use Rattle.std.specs.Str.{bytes_eq}
use Rattle.std.proofs.lemmas.Grind.{common_steps}
use Rattle.log_rules.specs.Ledger.{newest_place}
use Rattle.log_rules.specs.Order.{OrderParts, new_order}
use Rattle.log_rules.proofs.NewestKept.{newest_pushed}
use Rattle.log_rules.proofs.orders.Orders.push.Goals as goal

pub invariant_of-self-2 : goal.invariant_of-self-2
invariant_of-self-2 c =
    let orders : List OrderParts = c.self.inside.items.items in
    let o : OrderParts = new_order c.args.number c.args.said.now in
    let more : c.push_reserved.new.self.items ≡ orders ++ o ∷ [] = grind (arith, common_steps) in (
      λ id.
          let test = λ (p : OrderParts). bytes_eq p.id id in
          let set = c.set-2.ensures id in
          let same = c.in_ok-reserve-2.ensures.same id in
          let kept = c.self.invariant.0 id in
          let pushed = newest_pushed test orders o in
          let more_then = ap (newest_place test) more in
          grind (arith, common_steps, set, same, kept, pushed, more_then),
      λ number.
          let test = λ (p : OrderParts). p.number == number in
          let set = c.in_ok-set.ensures.ok number in
          let kept = c.self.invariant.1 number in
          let pushed = newest_pushed test orders o in
          let more_then = ap (newest_place test) more in
          grind (arith, common_steps, set, kept, pushed, more_then),
    )
