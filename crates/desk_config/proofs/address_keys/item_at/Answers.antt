use Rattle.std.proofs.Common.{ap, ◌∙◌}
use Rattle.toml.specs.View.{items_view}
use Rattle.desk_config.specs.Addresses.{item_at}
use Rattle.desk_config.proofs.Views.{item_found}
use Rattle.desk_config.proofs.address_keys.item_at.Goals as goal

pub returns : goal.returns
returns c =
    item_found c.deref.result.now c.args.index c.get.result c.get.ensures.lookup
    ∙ ap (λ vs. item_at c.args.index (items_view vs)) c.deref.ensures.value
