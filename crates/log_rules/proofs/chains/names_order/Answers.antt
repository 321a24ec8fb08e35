use Rattle.std.proofs.Common.{◌==◌, rules, tests}
use Rattle.std.proofs.lemmas.Iterator.Search.{any_from_yields_List}
use Rattle.std.proofs.lemmas.Iterator.Splits.{YieldsList-from_slice_split}
use Rattle.log_rules.specs.Chains.{carries_id}
use Rattle.log_rules.proofs.chains.names_order.Goals as goal

pub returns : goal.returns
returns c =
    any_from_yields_List (λ field. carries_id field c.args.id.now) _ _ c.any.result c.any.ensures.ran
    (YieldsList-from_slice_split _ (λ x. x == 1) c.args.bytes.now c.split.ensures.rest c.split.ensures.done c.split.ensures.closure (λ x b q k. search (rules, tests)))
    (λ x b q k. search (rules, tests))
