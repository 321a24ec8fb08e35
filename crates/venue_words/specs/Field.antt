-- A field that a table has, as a text.
use Rattle.std.specs.Prelude.{ℕ, Bool, ◌||◌, ◌&&◌, ◌==◌, nat_le, List, codes, Option, Some, None, option_and_then, Result, Ok, Err, if◌then◌else◌}
use Rattle.dialect.specs.Split.{parts_round}
use Rattle.dialect.specs.declared.words.Extra.{Extra}
use Rattle.desk_words.specs.Printable.{printable_of}
use Rattle.fix_tags.specs.App.{is_header_tag, is_frame_tag}
use Rattle.fix_tags.specs.Digits.{within}
use Rattle.fix_tags.specs.Number.{number_of}
use Rattle.venue_words.specs.declared.fault.FieldFault.{FieldFault}
use Rattle.venue_words.specs.declared.fault.FieldFault.TheVariants.{NoField, OfSession, OfData, InOrder, OfMark, Twice, TooMany, Spaced, Full, NoHeader, OfOrder, OfLogon, OfPassword}

-- a tag that the session writes itself: of the frame, the header or the trailer (FIX 4.4 Volume 2)
abbrev pub is_session_tag : ℕ → Bool
is_session_tag tag =
    is_header_tag tag || is_frame_tag tag || tag == 89 || tag == 90 || tag == 91 || tag == 93 || tag == 212
    || tag == 213 || tag == 627 || tag == 628 || tag == 629 || tag == 630

-- a tag of data, which may hold any byte, or of its length (FIX 4.4 Volume 1)
abbrev pub is_data_tag : ℕ → Bool
is_data_tag tag =
    nat_le 348 tag && nat_le tag 365 || tag == 95 || tag == 96 || tag == 445 || tag == 446 || tag == 618
    || tag == 619 || tag == 621 || tag == 622

-- a tag
abbrev pub tag_of : List ℕ → Option ℕ
tag_of text = option_and_then (within 1 999_999) (number_of text)

-- a field of a tag and a value, where both are there
abbrev pub pair_by : Option ℕ → Option (List ℕ) → Option Extra
pair_by (Some tag) (Some value) = Some (record { tag = tag; value = record { items = value } })
pair_by _ _ = None

-- the field that a text is, as `528=P`: a tag, and 1 to 24 printable characters
abbrev pub pair_in : List ℕ × List ℕ → Option Extra
pair_in parts = pair_by (tag_of parts.0) (printable_of 24 parts.1)

abbrev pub pair_of : List ℕ → Option Extra
pair_of text = option_and_then pair_in (parts_round 61 text)

-- a field that an order can be told to carry
abbrev pub field_or_fault : Option Extra → Result Extra FieldFault
field_or_fault None = Err NoField
field_or_fault (Some field) =
    if is_session_tag field.tag then Err OfSession else (if is_data_tag field.tag then Err OfData else Ok field)

abbrev pub field_of : List ℕ → Result Extra FieldFault
field_of text = field_or_fault (pair_of text)

-- why a field isn't taken
abbrev pub field_fault_text : FieldFault → List ℕ
field_fault_text NoField =
    codes "it has to be TAG=VALUE, a tag from 1 to 999999 and 1 to 24 printable characters"
field_fault_text OfSession = codes "its tag is one that the session writes itself"
field_fault_text OfData = codes "its tag is one of data"
field_fault_text InOrder = codes "every order has its tag already"
field_fault_text OfMark = codes "its tag is the mark's"
field_fault_text Twice = codes "an earlier field has its tag"
field_fault_text TooMany = codes "an order takes 16 at most"
field_fault_text Spaced = codes "its value has a space"
field_fault_text Full = codes "a header or a Logon takes 8 at most"
field_fault_text NoHeader = codes "its tag has to be 50, 57, 115, 116, 128, 129, 142 to 145, or 5000 or more"
field_fault_text OfOrder = codes "a field of order has its tag"
field_fault_text OfLogon = codes "the Logon has its tag already"
field_fault_text OfPassword = codes "its tag is the password's: name a password_file"
