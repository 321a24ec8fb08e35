-- Lemmas: the laws of the dialect Plain.
use Rattle.std.proofs.Common.{inl, refl, arith}
use Rattle.fix_tags.proofs.ReadBack.{price_of-price_short}
use Rattle.dialect.specs.Lemmas.FieldLaws.{short_field}
use Rattle.dialect.specs.Lemmas.MarkLaws.{sweep_mark_read, sweep_mark_there, short_sweep_mark}
use Rattle.dialect.specs.Lemmas.ValueLaws.{short_id, short_price, short_symbol}
use Rattle.dialect.specs.Lemmas.PlainIdLaws.{plain_id_of-text, plain_id_of-Some}
use Rattle.dialect.specs.Lemmas.SymbolLaws.{joined_symbol_back, joined_symbol_says}
use Rattle.dialect.specs.Spelling.{IsSpelling}
use Rattle.dialect.specs.Plain.{plain}

pub plain_is_spelling : IsSpelling plain
plain_is_spelling = record {
  id_reads_back = plain_id_of-text;
  id_says = plain_id_of-Some;
  id_short = short_id;
  mark_is_read = sweep_mark_read;
  mark_is_there = sweep_mark_there;
  mark_short = short_sweep_mark;
  mark_apart = (refl, (refl, (refl, (refl, (refl, (refl, (refl, (refl, (refl, tt)))))))));
  price_reads_back = λ price range. price_of-price_short price range.low range.high;
  price_short = short_price;
  symbol_tags = λ symbol. inl refl;
  symbol_short = λ symbol range. (short_field 55 _ refl (short_symbol 46 symbol (λ e. omega arith) range), tt);
  symbol_reads_back = λ symbol fields range root suffix. joined_symbol_back 46 symbol fields (omega arith) range root;
  symbol_says = λ symbol fields read. joined_symbol_says 46 symbol fields read;
  extra_few = omega arith;
  extra_short = tt;
  extra_apart = (refl, (refl, (refl, (refl, (refl, (refl, (refl, (refl, (refl, tt)))))))));
  extra_unmarked = refl;
  extra_once = refl;
}
