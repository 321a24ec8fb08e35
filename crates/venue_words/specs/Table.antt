-- Which tables a venue may have.
use Rattle.std.specs.Prelude.{ℕ, Bool, true, false, ◌&&◌, ◌||◌, not, ◌==◌, nat_lt, List, [], codes, Option, Some, None, if◌then◌else◌}
use Rattle.std.specs.List.{list_all}
use Rattle.std.specs.Option.{is_some}
use Rattle.desk_words.specs.Printable.{printable_of}
use Rattle.dialect.specs.declared.any_dialect.AnyDialect.{AnyDialect}
use Rattle.dialect.specs.declared.any_dialect.AnyDialect.TheVariants as preset
use Rattle.dialect.specs.declared.words.IdShape.{IdShape}
use Rattle.dialect.specs.declared.words.IdShape.TheVariants as id
use Rattle.dialect.specs.declared.words.PriceShape.{PriceShape}
use Rattle.dialect.specs.declared.words.PriceShape.TheVariants as price
use Rattle.dialect.specs.declared.words.SymbolShape.TheVariants as symbol
use Rattle.dialect.specs.declared.words.Words.{Words}
use Rattle.dialect.specs.Words.{is_words}
use Rattle.venue_words.specs.Field.{is_data_tag, is_session_tag}

-- a shape of which an example can be given: of decimal or hexadecimal digits
abbrev pub is_shown_id : IdShape → Bool
is_shown_id id.Short = true
is_shown_id (id.Parted base width separator) = base == 10 || base == 16
is_shown_id (id.Joined base width) = base == 10 || base == 16

-- at least four decimals are all four of them
abbrev pub is_shown_price : PriceShape → Bool
is_shown_price price.Short = true
is_shown_price price.Four = true
is_shown_price (price.Least more) = nat_lt more 3

-- a field that a text can be: none that the session writes itself, none of data, with a printable value
abbrev pub is_shown_field : ℕ → List ℕ → Bool
is_shown_field tag value = not (is_session_tag tag) && (not (is_data_tag tag) && is_some (printable_of 24 value))

-- the mark stands among others in ExecInst (18) alone (FIX 4.4 Volume 1, data type MultipleValueString)
abbrev pub is_shown_mark : Words → Bool
is_shown_mark w =
    is_shown_field w.mark_tag w.mark_value.items
    && (if w.mark_tag == 18 then w.mark_among else not w.mark_among)

-- whether a text shows all that a table says
abbrev pub is_shown : Words → Bool
is_shown w =
    is_shown_id w.id && (is_shown_mark w
    && (is_shown_price w.price && list_all (λ f. is_shown_field f.tag f.value.items) w.extra.items))

-- whether a venue may have a table
unfoldable pub is_table : Words → Bool
is_table w = is_words w && is_shown w

-- a table that a venue may have
abbrev pub taken : Words → Option Words
taken w = if is_table w then Some w else None

-- the table of a dialect
abbrev pub preset_words : AnyDialect → Words
preset_words preset.Plain = record {
  id = id.Short;
  mark_tag = 18;
  mark_value = record { items = codes "f" };
  mark_among = true;
  price = price.Short;
  symbol = symbol.Joined 46;
  extra = record { items = [] };
}
preset_words preset.Split4 = record {
  id = id.Parted 10 12 45;
  mark_tag = 18;
  mark_value = record { items = codes "f" };
  mark_among = true;
  price = price.Four;
  symbol = symbol.Parted;
  extra = record { items = [] };
}
preset_words preset.Coded = record {
  id = id.Joined 16 16;
  mark_tag = 9001;
  mark_value = record { items = codes "Y" };
  mark_among = false;
  price = price.Four;
  symbol = symbol.Joined 47;
  extra = record { items = [] };
}
