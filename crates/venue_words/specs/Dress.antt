-- Fields that a venue wants beside those that the session writes itself.
use Rattle.std.specs.Prelude.{ℕ, Bool, true, ◌||◌, ◌&&◌, not, ◌==◌, nat_le, List, [], ◌∷◌, ◌++◌, length, Option, Some, None, Result, Ok, Err, if◌then◌else◌}
use Rattle.std.specs.List.{list_all, list_any}
use Rattle.std.specs.Option.{is_some}
use Rattle.desk_words.specs.Printable.{printable_of}
use Rattle.dialect.specs.declared.words.Extra.{Extra}
use Rattle.dialect.specs.declared.words.Words.{Words}
use Rattle.venue_words.specs.declared.fault.FieldFault.{FieldFault}
use Rattle.venue_words.specs.declared.fault.FieldFault.TheVariants.{NoField, OfSession, OfData, OfMark, Twice, Full, NoHeader, OfOrder, OfLogon, OfPassword}
use Rattle.venue_words.specs.declared.words.VenueWords.{VenueWords}
use Rattle.venue_words.specs.declared.words.VenueWords.TheVariants.{Preset, Table}
use Rattle.venue_words.specs.Field.{is_data_tag, is_session_tag, pair_of}
use Rattle.venue_words.specs.Table.{preset_words}

-- fields of every header, and fields of the Logon alone
pub record DressParts : Type 0 where
  pub header : List Extra
  pub logon : List Extra

-- a tag of the header that only a venue can want (FIX 4.4 Volume 2, StandardHeader), or one of its own
abbrev pub is_venue_header_tag : ℕ → Bool
is_venue_header_tag tag =
    nat_le 5000 tag || tag == 50 || tag == 57 || tag == 115 || tag == 116 || tag == 128 || tag == 129 || tag == 142
    || tag == 143 || tag == 144 || tag == 145

-- a tag that the Logon has already: EncryptMethod, HeartBtInt, ResetSeqNumFlag and NextExpectedMsgSeqNum
abbrev pub is_own_logon_tag : ℕ → Bool
is_own_logon_tag tag = tag == 98 || tag == 108 || tag == 141 || tag == 789

-- a tag of the Logon that a venue can want; Password (554) isn't among them
abbrev pub is_logon_tag : ℕ → Bool
is_logon_tag tag =
    not (is_session_tag tag) && (not (is_data_tag tag) && (not (is_own_logon_tag tag) && not (tag == 554)))

abbrev pub is_header_field : Extra → Bool
is_header_field field = is_venue_header_tag field.tag && is_some (printable_of 24 field.value.items)

abbrev pub is_logon_field : Extra → Bool
is_logon_field field = is_logon_tag field.tag && is_some (printable_of 24 field.value.items)

-- whether one of the fields has this tag
abbrev pub has_tag : List Extra → ℕ → Bool
has_tag fields tag = list_any (λ f. f.tag == tag) fields

-- whether no two of the fields have one tag
abbrev pub are_apart : List Extra → Bool
are_apart [] = true
are_apart (first ∷ rest) = not (has_tag rest first.tag) && are_apart rest

-- whether none of the fields of a Logon has the tag of one of a header
abbrev pub are_beside : List Extra → List Extra → Bool
are_beside header logon = list_all (λ f. not (has_tag header f.tag)) logon

-- whether these are fields that a venue can want, no two of one tag
unfoldable pub is_dress : DressParts → Bool
is_dress dress =
    list_all is_header_field dress.header && (list_all is_logon_field dress.logon && (are_apart dress.header
    && (are_apart dress.logon && are_beside dress.header dress.logon)))

-- nothing besides
abbrev pub no_dress : DressParts
no_dress = record { header = []; logon = [] }

-- these fields, where a venue can want them
abbrev pub dress_or : FieldFault → DressParts → Result DressParts FieldFault
dress_or fault dress = if is_dress dress then Ok dress else Err fault

-- what an order carries already, if it carries a field of this tag
abbrev pub fault_in : Words → ℕ → Option FieldFault
fault_in w tag =
    if tag == w.mark_tag then Some OfMark else (if has_tag w.extra.items tag then Some OfOrder else None)

abbrev pub fault_among : VenueWords → ℕ → Option FieldFault
fault_among (Preset name) tag = fault_in (preset_words name) tag
fault_among (Table w) tag = fault_in w tag

-- why no header takes one more field of this tag
abbrev pub header_fault : ℕ → FieldFault
header_fault tag = if is_venue_header_tag tag then Twice else NoHeader

-- why no Logon does
abbrev pub logon_fault : ℕ → FieldFault
logon_fault tag =
    if is_session_tag tag then OfSession
    else (if is_data_tag tag then OfData
    else (if is_own_logon_tag tag then OfLogon else (if tag == 554 then OfPassword else Twice)))

-- with one more field of every header, which no order of these words carries already
abbrev pub header_more : DressParts → Extra → DressParts
header_more dress field = record { header = dress.header ++ field ∷ []; logon = dress.logon }

abbrev pub header_unless : DressParts → Extra → Option FieldFault → Result DressParts FieldFault
header_unless dress field (Some fault) = Err fault
header_unless dress field None =
    if length dress.header == 8 then Err Full else dress_or (header_fault field.tag) (header_more dress field)

abbrev pub header_by : DressParts → VenueWords → Option Extra → Result DressParts FieldFault
header_by dress words None = Err NoField
header_by dress words (Some field) = header_unless dress field (fault_among words field.tag)

unfoldable pub with_header : DressParts → VenueWords → List ℕ → Result DressParts FieldFault
with_header dress words text = header_by dress words (pair_of text)

-- with one more field of the Logon
abbrev pub logon_more : DressParts → Extra → DressParts
logon_more dress field = record { header = dress.header; logon = dress.logon ++ field ∷ [] }

abbrev pub logon_by : DressParts → Option Extra → Result DressParts FieldFault
logon_by dress None = Err NoField
logon_by dress (Some field) =
    if length dress.logon == 8 then Err Full else dress_or (logon_fault field.tag) (logon_more dress field)

unfoldable pub with_logon : DressParts → List ℕ → Result DressParts FieldFault
with_logon dress text = logon_by dress (pair_of text)
