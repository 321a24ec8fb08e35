-- The dialect Plain: each value in its shortest form.
use Rattle.std.specs.Prelude.{ℕ, List, [], ◌∷◌, Option, Some, None, option_and_then, ◌==◌, if◌then◌else◌}
use Rattle.fix_tags.specs.Price.{price_short}
use Rattle.leg.specs.LegId.{LegIdParts, leg_id_text}
use Rattle.leg.specs.Symbol.{symbol_text}
use Rattle.dialect.specs.Fields.{required_as, field}
use Rattle.dialect.specs.Split.{parts_round}
use Rattle.dialect.specs.Ordinal.{ordinal_of}
use Rattle.dialect.specs.Mark.{sweep_mark, has_sweep_mark}
use Rattle.dialect.specs.JoinedSymbol.{joined_symbol_of}
use Rattle.dialect.specs.Spelling.{SpellingParts}

-- the sweep's number and the place round the first `L`
abbrev pub numbers_of : List ℕ → Option LegIdParts
numbers_of text =
    option_and_then (λ (parts : List ℕ × List ℕ).
    option_and_then (λ sweep.
    option_and_then (λ place. Some (record { sweep = sweep; place = place }))
    (ordinal_of 32 parts.1))
    (ordinal_of 999_999_999_999 parts.0))
    (parts_round 76 text)

-- a leg's number: `S`, the sweep's number, `L` and the place, as `S12L3`
unfoldable pub plain_id_of : List ℕ → Option LegIdParts
plain_id_of [] = None
plain_id_of (c ∷ cs) = if c == 83 then numbers_of cs else None

-- a leg's number as `S12L3`, ExecInst `f`, a price as `10.25`, and a symbol as `BRK.B`
abbrev pub plain : SpellingParts
plain = record {
  id_text = leg_id_text;
  id_of = plain_id_of;
  mark = sweep_mark;
  is_marked = has_sweep_mark;
  price_text = price_short;
  symbol_fields = λ symbol. field 55 (symbol_text symbol) ∷ [];
  symbol_in = λ fields. required_as (joined_symbol_of 46) fields 55;
  extra = [];
}
