-- What a venue's messages carry beside: fields behind the header of each message, and fields behind those of a Logon.
use Rattle.std.specs.Prelude.{◌≡◌, ℕ, ◌≤◌, Bool, true, false, ◌&&◌, ◌||◌, not, ◌==◌, nat_le, List, [], ◌∷◌, ◌++◌, length}
use Rattle.std.specs.List.{list_all}
use Rattle.fix_text.specs.Tagged.{Tagged}
use Rattle.fix_text.specs.Text.{is_writable_tag, is_writable_value}
use Rattle.fix_tags.specs.App.{is_header_tag, is_other_header_tag}
use Rattle.fix_tags.specs.Body.{Body}
use Rattle.fix_tags.specs.declared.body.Body.TheVariants.{Session, App}
use Rattle.fix_tags.specs.declared.session_body.SessionBody.TheVariants.{Logon, Heartbeat, TestRequest, ResendRequest, Reject, GapFill, Reset, Logout, BusinessReject}
use Rattle.fix_tags.specs.declared.envelope.Envelope.{Envelope}
use Rattle.fix_tags.specs.Message.{header_fields, body_fields}
use Rattle.fix_tags.specs.Stamp.{StampParts, stamp_text}

pub record Dress : Type 0 where
  pub header : List Tagged
  pub logon : List Tagged

-- of no venue's
abbrev pub undressed : Dress
undressed = record { header = []; logon = [] }

-- behind a Logon alone
abbrev pub behind_logon : Dress → Body → List Tagged
behind_logon d (Session (Logon heart reset next)) = d.logon
behind_logon d _ = []

-- the fields of a message that is sent at a time, in written order
abbrev pub dressed_fields : Dress → Envelope → StampParts → List Tagged
dressed_fields d e stamp =
    header_fields e (stamp_text stamp) ++ (d.header ++ (body_fields e.body ++ behind_logon d e.body))

-- a field that may stand behind a header: one of the header's that no message has of its own, of at most 32 bytes
abbrev pub is_header_extra : Tagged → Bool
is_header_extra f = is_other_header_tag f.tag && (is_writable_value f.value && nat_le (length f.value) 32)

-- a tag of a Logon's own fields
abbrev pub is_logon_tag : ℕ → Bool
is_logon_tag tag = tag == 98 || tag == 108 || tag == 141 || tag == 789

-- a field that may stand behind a Logon, of at most 64 bytes
abbrev pub is_logon_extra : Tagged → Bool
is_logon_extra f =
    (is_writable_tag f.tag && (not (is_header_tag f.tag) && not (is_logon_tag f.tag)))
    && (is_writable_value f.value && nat_le (length f.value) 64)

-- eight at most of each
abbrev pub is_dress : Dress → Bool
is_dress d =
    (list_all is_header_extra d.header && nat_le (length d.header) 8)
    && (list_all is_logon_extra d.logon && nat_le (length d.logon) 8)
