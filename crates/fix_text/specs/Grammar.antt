-- The text of a frame, apart from any reader (FIX 4.4 Volume 2, "Message structure", BodyLength and CheckSum).
use Rattle.std.specs.Prelude.{◌≡◌, ℕ, ◌+◌, ◌-◌, ◌*◌, ◌<◌, ◌≤◌, List, [], ◌∷◌, ◌++◌, length, codes, sum, ◌%◌, false, IsTrue}
use Rattle.std.specs.Str.{all_ascii_digits}
use Rattle.fix_text.specs.Tagged.{Tagged}
use Rattle.fix_text.specs.Text.{fields_text, begins_with_type, holds_soh}
use Rattle.fix_text.specs.Frame.{three_digits}

-- the number that decimal digits write behind those of n
abbrev pub number_after : ℕ → List ℕ → ℕ
number_after n [] = n
number_after n (digit ∷ digits) = number_after (10 * n + (digit - 48)) digits

-- the number that decimal digits write
abbrev pub digits_number : List ℕ → ℕ
digits_number digits = number_after 0 digits

-- `8=FIX.4.4|9=`, with `|` for SOH
abbrev pub opening : List ℕ
opening = codes "8=FIX.4.4" ++ 1 ∷ codes "9="

-- the header with these digits of BodyLength (9)
abbrev pub header_of : List ℕ → List ℕ
header_of digits = opening ++ (digits ++ 1 ∷ [])

-- the trailer with these digits of CheckSum (10)
abbrev pub trailer_of : List ℕ → List ℕ
trailer_of check = codes "10=" ++ (check ++ 1 ∷ [])

-- the digits of a BodyLength: 1 to 6, leading zeros allowed, with a value of 1 to 4,096
pub record IsLength (digits : List ℕ) (n : ℕ) : Type 0 where
  pub few : length digits ≤ 6
  pub each : IsTrue (all_ascii_digits digits)
  pub value : digits_number digits ≡ n
  pub positive : 0 < n
  pub bound : n ≤ 4096

-- the last byte is SOH
pub record EndsInSoh (bytes : List ℕ) : Type 0 where
  pub front : List ℕ
  pub ends : bytes ≡ front ++ 1 ∷ []

-- the digits of a CheckSum: three
pub record IsCheck (digits : List ℕ) (n : ℕ) : Type 0 where
  pub three : length digits ≡ 3
  pub each : IsTrue (all_ascii_digits digits)
  pub value : digits_number digits ≡ n

-- a frame, valid or not: the header, a body of the length that it says, whose last byte is SOH, and the trailer
pub record IsFrame (bytes : List ℕ) : Type 0 where
  pub digits : List ℕ
  pub body : List ℕ
  pub check : List ℕ
  pub number : ℕ
  pub bytes_are : bytes ≡ (header_of digits ++ body) ++ trailer_of check
  pub length_is : IsLength digits (length body)
  pub body_ends : EndsInSoh body
  pub check_is : IsCheck check number

-- a field as it can be read: a tag of 1 to 999,999, and a value without SOH, which may be empty
pub record IsField (field : Tagged) : Type 0 where
  pub positive : 0 < field.tag
  pub bound : field.tag ≤ 999999
  pub value : holds_soh field.value ≡ false

-- each of them is a field as it can be read
abbrev pub AreFields : List Tagged → Type 0
AreFields [] = Unit {0}
AreFields (field ∷ fields) = IsField field × AreFields fields

-- a valid frame of these fields: they are its body, the first is MsgType (35), and the trailer has the sum of all bytes
-- before it modulo 256
pub record IsValidFrame (bytes : List ℕ) (fields : List Tagged) : Type 0 where
  pub digits : List ℕ
  pub bytes_are : bytes ≡ (header_of digits ++ fields_text fields)
      ++ trailer_of (three_digits (sum (header_of digits ++ fields_text fields) % 256))
  pub length_is : IsLength digits (length (fields_text fields))
  pub typed : IsTrue (begins_with_type fields)
  pub fields_are : AreFields fields

-- the bytes begin with a frame
pub record BeginsWithFrame (bytes : List ℕ) : Type 0 where
  pub frame : List ℕ
  pub rest : List ℕ
  pub parts : bytes ≡ frame ++ rest
  pub is_frame : IsFrame frame

-- the bytes are less than a frame, and more may make them one: there may be none yet
pub record IsBeginning (bytes : List ℕ) : Type 0 where
  pub more : List ℕ
  pub some : 0 < length more
  pub is_frame : IsFrame (bytes ++ more)

-- no frame begins so, and none can
pub record IsNeither (bytes : List ℕ) : Type 0 where
  pub no_frame : BeginsWithFrame bytes → ⊥
  pub no_beginning : IsBeginning bytes → ⊥

-- what is passed at a place of a stream: a valid frame with its fields, a frame that isn't valid, or one byte
pub data Pass : Type 0 where
  Given : List ℕ → List Tagged → Pass
  Garbled : List ℕ → Pass
  Skipped : ℕ → Pass

-- so bytes are passed, and these are left: a byte alone only where no frame begins and none can
abbrev pub Takes : Pass → List ℕ → List ℕ → Type 0
Takes (Given text fields) bytes rest = (bytes ≡ text ++ rest) × IsValidFrame text fields
Takes (Garbled text) bytes rest = (bytes ≡ text ++ rest) × IsFrame text
    × ((fields : List Tagged) → IsValidFrame text fields → ⊥)
Takes (Skipped byte) bytes rest = (bytes ≡ byte ∷ rest) × (BeginsWithFrame bytes → ⊥) × (IsBeginning bytes → ⊥)

-- so bytes are passed one after the other
abbrev pub Passes : List Pass → List ℕ → List ℕ → Type 0
Passes [] bytes rest = bytes ≡ rest
Passes (pass ∷ passes) bytes rest = (after : List ℕ) × Takes pass bytes after × Passes passes after rest

-- the fields of the valid frames among what was passed
abbrev pub given_of : List Pass → List (List Tagged)
given_of [] = []
given_of (Given text fields ∷ passes) = fields ∷ given_of passes
given_of (Garbled text ∷ passes) = given_of passes
given_of (Skipped byte ∷ passes) = given_of passes

-- how many frames were not valid
abbrev pub garbled_of : List Pass → ℕ
garbled_of [] = 0
garbled_of (Given text fields ∷ passes) = garbled_of passes
garbled_of (Garbled text ∷ passes) = garbled_of passes + 1
garbled_of (Skipped byte ∷ passes) = garbled_of passes

-- how many bytes were passed alone
abbrev pub skipped_of : List Pass → ℕ
skipped_of [] = 0
skipped_of (Given text fields ∷ passes) = skipped_of passes
skipped_of (Garbled text ∷ passes) = skipped_of passes
skipped_of (Skipped byte ∷ passes) = skipped_of passes + 1
