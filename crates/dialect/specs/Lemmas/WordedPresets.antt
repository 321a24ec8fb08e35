-- Lemmas: the three dialects are tables, which spell all that they spell.
use Rattle.std.proofs.Common.{◌≡◌, ℕ, ◌+◌, Bool, true, false, List, [], ◌∷◌, ◌++◌, codes, refl}
use Rattle.fix_text.specs.Tagged.{Tagged}
use Rattle.leg.specs.LegId.{LegIdParts}
use Rattle.leg.specs.Symbol.{SymbolParts}
use Rattle.dialect.specs.declared.words.IdShape.{IdShape}
use Rattle.dialect.specs.declared.words.IdShape.TheVariants as id
use Rattle.dialect.specs.declared.words.PriceShape.{PriceShape}
use Rattle.dialect.specs.declared.words.PriceShape.TheVariants as price
use Rattle.dialect.specs.declared.words.SymbolShape.{SymbolShape}
use Rattle.dialect.specs.declared.words.SymbolShape.TheVariants as symbol
use Rattle.dialect.specs.declared.words.Words.{Words}
use Rattle.dialect.specs.Fields.{has_no}
use Rattle.dialect.specs.Mark.{is_among}
use Rattle.dialect.specs.Spelling.{SpellingParts}
use Rattle.dialect.specs.Plain.{plain, plain_id_of}
use Rattle.dialect.specs.Split4.{split4, split4_id_text, split4_id_of, split4_symbol_in}
use Rattle.dialect.specs.Coded.{coded, coded_id_text, coded_id_of}
use Rattle.dialect.specs.Words.{shaped_id_text, shaped_id_of, shaped_price, shaped_symbol_fields, shaped_symbol_in, words_spelling, is_id_shape, is_symbol_shape, is_price_shape, is_mark, is_words, are_extra, worded, spelling_by}

pub plain_words : Words
plain_words = record {
  id = id.Short;
  mark_tag = 18;
  mark_value = record { items = codes "f" };
  mark_among = true;
  price = price.Short;
  symbol = symbol.Joined 46;
  extra = record { items = [] };
}

pub split_words : Words
split_words = record {
  id = id.Parted 10 12 45;
  mark_tag = 18;
  mark_value = record { items = codes "f" };
  mark_among = true;
  price = price.Four;
  symbol = symbol.Parted;
  extra = record { items = [] };
}

pub coded_words : Words
coded_words = record {
  id = id.Joined 16 16;
  mark_tag = 9001;
  mark_value = record { items = codes "Y" };
  mark_among = false;
  price = price.Four;
  symbol = symbol.Joined 47;
  extra = record { items = [] };
}

-- they are taken
plain_taken : is_words plain_words ≡ true
unfolding is_words are_extra is_id_shape is_mark is_price_shape is_symbol_shape is_among plain_words
plain_taken = refl

split_taken : is_words split_words ≡ true
unfolding is_words are_extra is_id_shape is_mark is_price_shape is_symbol_shape is_among split_words
split_taken = refl

coded_taken : is_words coded_words ≡ true
unfolding is_words are_extra is_id_shape is_mark is_price_shape is_symbol_shape is_among coded_words
coded_taken = refl

-- the table Plain is Plain
pub plain_same : worded plain_words ≡ plain
unfolding is_words are_extra is_id_shape is_mark is_price_shape is_symbol_shape is_among plain_words shaped_id_text shaped_id_of shaped_price shaped_symbol_fields shaped_symbol_in
plain_same = refl

pub split_same : worded split_words ≡ split4
unfolding is_words are_extra is_id_shape is_mark is_price_shape is_symbol_shape is_among split_words shaped_id_text shaped_id_of shaped_price shaped_symbol_fields shaped_symbol_in split4_id_text split4_id_of
split_same = refl

pub coded_same : worded coded_words ≡ coded
unfolding is_words are_extra is_id_shape is_mark is_price_shape is_symbol_shape is_among coded_words shaped_id_text shaped_id_of shaped_price shaped_symbol_fields shaped_symbol_in coded_id_text coded_id_of
coded_same = refl
