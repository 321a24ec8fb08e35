-- Lines of JSON (RFC 8259).
use Rattle.std.specs.Prelude.{ℕ, ◌+◌, ◌-◌, ◌/◌, ◌%◌, List, [], ◌∷◌, ◌++◌, codes, decimal, nat_lt, ◌==◌, if◌then◌else◌}
use Rattle.day_check.specs.declared.json.Member.{Member}
use Rattle.day_check.specs.declared.json.Value.{Value}
use Rattle.day_check.specs.declared.json.Value.TheVariants.{Text, Number}

abbrev pub hex_digit : ℕ → ℕ
hex_digit value = if nat_lt value 10 then 48 + value else 97 + (value - 10)

-- a byte in a string: a quote and a backslash behind a backslash, a control character by its number, any other as it is
abbrev pub json_byte : ℕ → List ℕ
json_byte c =
    if c == 34 then codes "\\\""
    else (if c == 92 then codes "\\\\"
    else (if nat_lt c 32 then codes "\\u00" ++ hex_digit (c / 16) ∷ hex_digit (c % 16) ∷ [] else c ∷ []))

abbrev pub json_text : List ℕ → List ℕ
json_text [] = []
json_text (c ∷ cs) = json_byte c ++ json_text cs

-- a string
abbrev pub json_string : List ℕ → List ℕ
json_string text = 34 ∷ json_text text ++ 34 ∷ []

abbrev pub json_value : Value → List ℕ
json_value (Text text) = json_string text.now
json_value (Number number) = decimal number

abbrev pub json_member : Member → List ℕ
json_member m = json_string m.name.now ++ 58 ∷ json_value m.value

-- members behind a mark, with the object's end
abbrev pub json_members : ℕ → List Member → List ℕ
json_members mark [] = codes "}\n"
json_members mark (m ∷ ms) = mark ∷ json_member m ++ json_members 44 ms

-- an object of these members, in a line
abbrev pub json_line : List Member → List ℕ
json_line members = json_members 123 members
