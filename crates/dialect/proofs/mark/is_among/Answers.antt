use Rattle.std.proofs.Common.{◌==◌, rules, tests}
use Rattle.std.specs.Str.{bytes_eq}
use Rattle.std.proofs.lemmas.Iterator.Search.{any_from_yields_List}
use Rattle.std.proofs.lemmas.Iterator.Splits.{YieldsList-from_slice_split}
use Rattle.dialect.specs.Mark.{is_among}
use Rattle.dialect.proofs.mark.is_among.Goals as goal

pub returns : goal.returns
unfolding is_among
returns c =
    any_from_yields_List (λ part. bytes_eq part c.args.value.now) _ _ c.any.result c.any.ensures.ran
    (YieldsList-from_slice_split _ (λ x. x == 32) c.args.text.now c.split.ensures.rest c.split.ensures.done c.split.ensures.closure (λ x b q k. search (rules, tests)))
    (λ x b q k. search (rules, tests))
