use Rattle.std.proofs.Common.{◌≡◌, ℕ, List, length, set, ap, sym, ◌∙◌, arith}
use Rattle.log_rules.specs.Order.{OrderParts, withdrawn_by}
use Rattle.log_rules.proofs.Partly.{all_changed, one_more_changed, partly}
use Rattle.log_rules.proofs.orders.withdraw.Goals as goal

pub loop-order-preserved : goal.loop-order-preserved
loop-order-preserved c =
    let change : OrderParts → OrderParts = withdrawn_by c.args.settled c.args.expected in
    let now : List OrderParts = c.loop-order.orders in
    let i : ℕ = c.loop-order.order-index in
    one_more_changed change i c.args.orders.now now (set now i c.withdraw.new.self) c.order-item.result
    (omega arith) c.loop-order.invariant c.order-item.is (ap (set now i) (c.withdraw.ensures ∙ ap change (sym c.order-item.is)))

pub returns : goal.returns
returns c =
    let change : OrderParts → OrderParts = withdrawn_by c.args.settled c.args.expected in
    let ended : c.loop-order.order-index ≡ length c.args.orders.now = omega arith in
    c.loop-order.invariant ∙ ap (λ n. partly change n c.args.orders.now) ended ∙ all_changed change c.args.orders.now
