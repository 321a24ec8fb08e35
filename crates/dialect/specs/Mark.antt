-- Instructions of an order (FIX 4.4 Volume 1, data type MultipleValueString).
use Rattle.std.specs.Prelude.{◌≡◌, ℕ, Bool, true, List, Some, codes, ◌==◌}
use Rattle.std.specs.List.{list_any, slice_split}
use Rattle.std.specs.Str.{bytes_eq}
use Rattle.fix_text.specs.Tagged.{Tagged, value_of}
use Rattle.dialect.specs.Fields.{has_value, field}

-- whether a value stands among those of a text, which single spaces part
unfoldable pub is_among : List ℕ → List ℕ → Bool
is_among value text = list_any (λ part. bytes_eq part value) (slice_split (λ c. c == 32) text)

-- fields carry a mark: its tag is there, with the mark's value among those of the field
pub record CarriesMark (mark : Tagged) (fields : List Tagged) : Type 0 where
  pub text : List ℕ
  pub there : value_of fields mark.tag ≡ Some text
  pub among : is_among mark.value text ≡ true

-- an intermarket sweep: ExecInst (18) `f` (FIX 4.4 Volume 4, NewOrderSingle)
abbrev pub sweep_mark : Tagged
sweep_mark = field 18 (codes "f")

-- `f` stands among the instructions
abbrev pub has_sweep_mark : List Tagged → Bool
has_sweep_mark fields = has_value (is_among (codes "f")) fields 18
