-- A frame as it is written (FIX 4.4 Volume 2, "Message structure", BodyLength and CheckSum).
use Rattle.std.specs.Prelude.{◌≡◌, ℕ, ◌+◌, ◌/◌, ◌%◌, ◌≤◌, List, [], ◌∷◌, ◌++◌, length, sum, codes, Option, Some, None, nat_lt, not, if◌then◌else◌}
use Rattle.std.specs.Fmt.{decimal}
use Rattle.std.specs.Global.{Vec}
use Rattle.std.specs.Vec.{vec_len, vec_capacity}
use Rattle.fix_text.specs.Tagged.{Tagged}
use Rattle.fix_text.specs.Text.{fields_text, has_writable_tags, has_writable_values}
use Rattle.fix_text.specs.declared.fault.TextFault.{TextFault}
use Rattle.fix_text.specs.declared.fault.TextFault.TheVariants.{BadTag, BadValue, TooLong}

-- a number below 1,000 in three digits
abbrev pub three_digits : ℕ → List ℕ
three_digits n = (48 + n / 100) ∷ (48 + n / 10 % 10) ∷ (48 + n % 10) ∷ []

-- `8=FIX.4.4|9=n|` before a body of n bytes, with `|` for SOH
abbrev pub header_text : ℕ → List ℕ
header_text n = codes "8=FIX.4.4" ++ 1 ∷ codes "9=" ++ decimal n ++ 1 ∷ []

-- `10=ddd|`, where ddd is the sum of all bytes before it modulo 256
abbrev pub trailer_text : List ℕ → List ℕ
trailer_text before = codes "10=" ++ three_digits (sum before % 256) ++ 1 ∷ []

-- the header and the body, with the trailer behind them
abbrev pub framed : List ℕ → List ℕ
framed body = let before = header_text (length body) ++ body in before ++ trailer_text before

-- the one written frame of these fields
abbrev pub frame_text : List Tagged → List ℕ
frame_text fields = framed (fields_text fields)

-- why these fields can't be written as a frame: each fault is tried over all fields before the next
abbrev pub frame_refusal : List Tagged → Option TextFault
frame_refusal fields =
    if not (has_writable_tags fields) then Some BadTag
    else (if not (has_writable_values fields) then Some BadValue
    else (if nat_lt 4096 (length (fields_text fields)) then Some TooLong else None))

-- a buffer has room for a text
abbrev pub HasRoom : Vec ℕ → List ℕ → Type 0
HasRoom out text = vec_len out + length text ≤ vec_capacity out

-- new is old with a text behind it, and has no less room
abbrev pub Appends : Vec ℕ → Vec ℕ → List ℕ → Type 0
Appends old new text =
    (new.items ≡ old.items ++ text) × (vec_len new ≡ vec_len old + length text) × (vec_capacity old ≤ vec_capacity new)
