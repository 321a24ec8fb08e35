-- Which fields belong to an application message, and not to its header or trailer (FIX 4.4 Volume 2).
use Rattle.std.specs.Prelude.{ℕ, Bool, ◌&&◌, ◌||◌, not, List, ◌==◌}
use Rattle.std.specs.List.{list_all}
use Rattle.fix_text.specs.Tagged.{Tagged}
use Rattle.fix_text.specs.Text.{is_writable_tag, is_writable_value}

-- a tag of the header that each message is read and written with
abbrev pub is_own_header_tag : ℕ → Bool
is_own_header_tag tag =
    tag == 35 || tag == 49 || tag == 56 || tag == 34 || tag == 43 || tag == 97 || tag == 52 || tag == 122

-- a tag of the header that a venue may want beside: it is passed over where it is read
abbrev pub is_other_header_tag : ℕ → Bool
is_other_header_tag tag =
    tag == 50 || tag == 57 || tag == 115 || tag == 116 || tag == 128 || tag == 129 || tag == 142 || tag == 143
    || tag == 144 || tag == 145 || tag == 347 || tag == 369

-- a tag of the header
abbrev pub is_header_tag : ℕ → Bool
is_header_tag tag = is_own_header_tag tag || is_other_header_tag tag

-- a tag of the frame itself: BeginString, BodyLength and CheckSum
abbrev pub is_frame_tag : ℕ → Bool
is_frame_tag tag = tag == 8 || tag == 9 || tag == 10

-- a field that an application message takes when it is read
abbrev pub is_app_tag : ℕ → Bool
is_app_tag tag = not (is_header_tag tag) && not (is_frame_tag tag)

-- a field that an application message can be written with
abbrev pub is_app_field : Tagged → Bool
is_app_field field = is_writable_tag field.tag && not (is_header_tag field.tag) && is_writable_value field.value

-- fields that an application message can be written with
abbrev pub are_app_fields : List Tagged → Bool
are_app_fields fields = list_all is_app_field fields
