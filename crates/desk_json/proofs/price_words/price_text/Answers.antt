use Rattle.std.proofs.Common.{◌∙◌}
use Rattle.sweep_text.proofs.PriceUtf8.{utf8_of_price}
use Rattle.desk_json.proofs.price_words.price_text.Goals as goal

pub text_of-requires : goal.text_of-requires
text_of-requires c =
    utf8_of_price c.as_slice.result.now c.args.price c.ranges.price.fits (c.as_slice.ensures.value ∙ c.requires)
