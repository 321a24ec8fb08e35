-- The written text of fields (FIX 4.4 Volume 1, "Message Format"): `tag=value` and SOH for each.
use Rattle.std.specs.Prelude.{ℕ, List, [], ◌∷◌, ◌++◌, length, Bool, false, ◌&&◌, not, ◌==◌, nat_lt, nat_le}
use Rattle.std.specs.List.{flat_map, list_all, list_any}
use Rattle.std.specs.Fmt.{decimal}
use Rattle.fix_text.specs.Tagged.{Tagged}

-- `tag=value` and SOH
abbrev pub field_text : Tagged → List ℕ
field_text field = decimal field.tag ++ 61 ∷ field.value ++ 1 ∷ []

-- the fields, one after the other
abbrev pub fields_text : List Tagged → List ℕ
fields_text fields = flat_map field_text fields

-- a tag that can be written: 1 to 999,999, and none of the frame's own 8, 9 and 10
abbrev pub is_writable_tag : ℕ → Bool
is_writable_tag tag = nat_lt 0 tag && nat_le tag 999999 && not (tag == 8) && not (tag == 9) && not (tag == 10)

-- whether a value holds SOH
abbrev pub holds_soh : List ℕ → Bool
holds_soh value = list_any (λ byte. byte == 1) value

-- a value that can be written: it isn't empty and holds no SOH
abbrev pub is_writable_value : List ℕ → Bool
is_writable_value value = not (length value == 0) && not (holds_soh value)

-- a list of fields begins with MsgType (35)
abbrev pub begins_with_type : List Tagged → Bool
begins_with_type [] = false
begins_with_type (field ∷ fields) = field.tag == 35

-- the tags of a frame's body: the first is 35, and each can be written
abbrev pub has_writable_tags : List Tagged → Bool
has_writable_tags fields = begins_with_type fields && list_all (λ field. is_writable_tag field.tag) fields

-- the values of a frame's body: each can be written
abbrev pub has_writable_values : List Tagged → Bool
has_writable_values fields = list_all (λ field. is_writable_value field.value) fields

-- no value holds SOH
abbrev pub have_no_soh : List Tagged → Bool
have_no_soh fields = list_all (λ field. not (holds_soh field.value)) fields
