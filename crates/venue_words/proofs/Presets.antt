-- The dialects are tables that are taken.
use Rattle.std.proofs.Common.{◌≡◌, Bool, true, ◌&&◌, refl}
use Rattle.std.proofs.lemmas.Bool.{and_parts}
use Rattle.dialect.specs.declared.any_dialect.AnyDialect.{AnyDialect}
use Rattle.dialect.specs.declared.any_dialect.AnyDialect.TheVariants.{Plain, Split4, Coded}
use Rattle.dialect.specs.declared.words.Words.{Words}
use Rattle.dialect.specs.Mark.{is_among}
use Rattle.dialect.specs.Words.{is_words, is_id_shape, is_mark, is_symbol_shape, is_price_shape, are_extra}
use Rattle.venue_words.specs.Table.{is_table, is_shown, preset_words}

pub preset_is_table : (dialect : AnyDialect) → is_table (preset_words dialect) ≡ true
unfolding is_table is_words are_extra is_id_shape is_mark is_price_shape is_symbol_shape is_among
preset_is_table Plain = refl
preset_is_table Split4 = refl
preset_is_table Coded = refl

pub is_taken : (w : Words) → is_table w ≡ true → is_words w ≡ true
unfolding is_table
is_taken w ok = (and_parts (is_words w) (is_shown w) ok).0
