-- How a message is dressed: fields behind its header, and behind those of a Logon (FIX 4.4 Volume 2, "Standard Message
-- Header" and "Logon"). BodyLength (9) and CheckSum (10) are those of what the frame then holds.
use Rattle.std.specs.Prelude.{ℕ, zero, suc, Bool, true, false, ◌&&◌, List, [], ◌∷◌, ◌++◌, length, take, drop, Option, Some, None, ◌==◌, if◌then◌else◌}
use Rattle.fix_text.specs.Tagged.{Tagged, value_of}
use Rattle.fix_text.specs.Frame.{frame_text}
use Rattle.fix_tags.specs.App.{is_header_tag}
use Rattle.fix_tags.specs.Dress.{Dress}
use Rattle.fix_tags.specs.Message.{text_field}

-- how many fields the header has: the first ones whose tag is one of the header's
abbrev pub header_size : List Tagged → ℕ
header_size [] = 0
header_size (f ∷ fields) = if is_header_tag f.tag then suc (header_size fields) else 0

-- whether a MsgType (35) is that of a Logon
abbrev pub is_logon_kind : Option (List ℕ) → Bool
is_logon_kind None = false
is_logon_kind (Some []) = false
is_logon_kind (Some (c ∷ [])) = c == 65
is_logon_kind (Some (c ∷ d ∷ ds)) = false

-- what stands behind the fields of a message
abbrev pub last_fields : Dress → List Tagged → List Tagged
last_fields d fields = if is_logon_kind (value_of fields 35) then d.logon else []

-- the fields of a message, dressed
abbrev pub dressed_fields : Dress → List Tagged → List Tagged
dressed_fields d fields =
    let size = header_size fields in
    take size fields ++ (d.header ++ (drop size fields ++ last_fields d fields))

-- its frame
abbrev pub dressed_frame : Dress → List Tagged → List ℕ
dressed_frame d fields = frame_text (dressed_fields d fields)

-- the fields of a venue's dress, and the password (554) behind those of a Logon
abbrev pub dress_of : List Tagged → List Tagged → Option (List ℕ) → Dress
dress_of header logon secret = record { header = header; logon = logon ++ text_field 554 secret }

-- whether nothing is put on
abbrev pub is_bare : Dress → Bool
is_bare d = length d.header == 0 && length d.logon == 0
