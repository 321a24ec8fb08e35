use Rattle.std.proofs.Common.{List, slice_set, ap, sym, ◌∙◌}
use Rattle.log_rules.specs.Order.{OrderParts, refused}
use Rattle.log_rules.proofs.ChangedAt.{set_is_changed}
use Rattle.log_rules.proofs.orders.refuse_at.Goals as goal

pub returns : goal.returns
returns c =
    let orders : List OrderParts = c.args.orders.now in
    let o : OrderParts = c.index-orders-place.result in
    let at_place = c.index-orders-place.is in
    ap (λ p. slice_set orders c.args.place p) (c.refuse.ensures ∙ ap refused (sym at_place))
    ∙ set_is_changed refused c.args.place orders o c.requires at_place
