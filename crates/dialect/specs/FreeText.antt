-- A text that a venue picks, which is kept as it came (FIX 4.4 Volume 1, data type String).
use Rattle.std.specs.Prelude.{ℕ, Bool, ◌&&◌, List, length, Option, Some, None, IsTrue, nat_le, if◌then◌else◌}
use Rattle.fix_text.specs.Text.{is_writable_value}

-- whether a text is 1 to this many bytes, none of them SOH
abbrev pub is_free_text : ℕ → List ℕ → Bool
is_free_text greatest text = nat_le (length text) greatest && is_writable_value text

-- a text is 1 to this many bytes, none of them SOH
abbrev pub IsFreeText : ℕ → List ℕ → Type 0
IsFreeText greatest text = IsTrue (is_free_text greatest text)

-- the text, where it is of this form
abbrev pub free_text_of : ℕ → List ℕ → Option (List ℕ)
free_text_of greatest text = if is_free_text greatest text then Some text else None
