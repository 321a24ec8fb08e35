-- Lemmas: a mark that was written is read.
use Rattle.std.proofs.Common.{◌≡◌, ℕ, Bool, true, false, List, codes, Option, Some, None, refl, ap, ◌∙◌, arith}
use Rattle.std.specs.Option.{option_map_or}
use Rattle.fix_text.specs.Tagged.{Tagged, value_of}
use Rattle.dialect.specs.Lemmas.FieldLaws.{short_field}
use Rattle.dialect.specs.ShortFields.{IsShortField}
use Rattle.dialect.specs.Lemmas.ValueLaws.{short_byte}
use Rattle.dialect.specs.Mark.{is_among, CarriesMark, sweep_mark, has_sweep_mark}

-- an instruction that stands alone is there
is_among-alone : is_among (codes "f") (codes "f") ≡ true
unfolding is_among
is_among-alone = refl

pub sweep_mark_read : (fields : List Tagged) → value_of fields 18 ≡ Some (codes "f") → has_sweep_mark fields ≡ true
sweep_mark_read fields there =
    ap (λ o. option_map_or (is_among (codes "f")) o false) there ∙ is_among-alone

-- a field that passes a test is there
pub value_passes : (test : List ℕ → Bool) (o : Option (List ℕ)) → option_map_or test o false ≡ true
    → (text : List ℕ) × (o ≡ Some text) × (test text ≡ true)
value_passes test None e = cc
value_passes test (Some text) e = (text, refl, e)

pub sweep_mark_there : (fields : List Tagged) → has_sweep_mark fields ≡ true → CarriesMark sweep_mark fields
sweep_mark_there fields is =
    let found = value_passes (is_among (codes "f")) (value_of fields 18) is in
    record { text = found.0; there = found.1; among = found.2 }

pub short_sweep_mark : IsShortField sweep_mark
short_sweep_mark = short_field 18 _ refl (short_byte 102 (λ e. omega arith))
