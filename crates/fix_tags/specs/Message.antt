-- What a message is written as (FIX 4.4 Volume 2): the fields of its header and of its body.
use Rattle.std.specs.Prelude.{◌≡◌, Result, Err, MatchOption, IsOkUnless, OnOk, OnErr, ℕ, ◌+◌, ◌<◌, List, [], ◌∷◌, ◌++◌, length, Bool, true, false, ◌&&◌, ◌||◌, not, ◌==◌, nat_lt, nat_le, Option, Some, None, codes, if◌then◌else◌}
use Rattle.std.specs.Fmt.{decimal}
use Rattle.std.specs.Global.{Vec}
use Rattle.std.specs.Vec.{vec_len, vec_capacity}
use Rattle.fix_text.specs.Tagged.{Tagged}
use Rattle.fix_text.specs.Frame.{frame_text, frame_refusal}
use Rattle.fix_text.specs.declared.fault.TextFault.{TextFault}
use Rattle.fix_text.specs.declared.fault.TextFault.TheVariants as text
use Rattle.fix_text.specs.Text.{fields_text, has_writable_tags, has_writable_values, is_writable_value}
use Rattle.fix_tags.specs.App.{is_app_field}
use Rattle.fix_tags.specs.Stamp.{StampParts, stamp_text}
use Rattle.fix_tags.specs.Body.{Body}
use Rattle.fix_tags.specs.declared.body.Body.TheVariants.{Session, App}
use Rattle.fix_tags.specs.declared.session_body.SessionBody.TheVariants.{Logon, Heartbeat, TestRequest, ResendRequest, Reject, GapFill, Reset, Logout, BusinessReject}
use Rattle.fix_tags.specs.declared.envelope.Envelope.{Envelope}
use Rattle.fix_tags.specs.declared.write_fault.WriteFault.{WriteFault}
use Rattle.fix_tags.specs.declared.write_fault.WriteFault.TheVariants.{BadValue, TooLong}

-- one field
abbrev pub field : ℕ → List ℕ → Tagged
field tag value = record { tag = tag; value = value }

-- a field of a number, in the shortest decimal
abbrev pub number_field : ℕ → ℕ → Tagged
number_field tag number = field tag (decimal number)

-- a field of a number, if there is one
abbrev pub option_field : ℕ → Option ℕ → List Tagged
option_field tag None = []
option_field tag (Some number) = number_field tag number ∷ []

-- a field of a text, if there is one
abbrev pub text_field : ℕ → Option (List ℕ) → List Tagged
text_field tag None = []
text_field tag (Some text) = field tag text ∷ []

-- `Y` where the flag is set, and else no field
abbrev pub flag_field : ℕ → Bool → List Tagged
flag_field tag flag = if flag then field tag (codes "Y") ∷ [] else []

-- MsgType (35)
abbrev pub kind_of : Body → List ℕ
kind_of (Session (Logon heart reset next)) = codes "A"
kind_of (Session (Heartbeat id)) = codes "0"
kind_of (Session (TestRequest id)) = codes "1"
kind_of (Session (ResendRequest begin last)) = codes "2"
kind_of (Session (Reject number)) = codes "3"
kind_of (Session (GapFill new_number)) = codes "4"
kind_of (Session (Reset new_number)) = codes "4"
kind_of (Session Logout) = codes "5"
kind_of (Session (BusinessReject number)) = codes "j"
kind_of (App kind fields) = kind

-- the fields behind the header
abbrev pub body_fields : Body → List Tagged
body_fields (Session (Logon heart reset next)) =
    field 98 (codes "0") ∷ number_field 108 heart ∷ flag_field 141 reset ++ option_field 789 next
body_fields (Session (Heartbeat id)) = text_field 112 id
body_fields (Session (TestRequest id)) = field 112 id ∷ []
body_fields (Session (ResendRequest begin last)) = number_field 7 begin ∷ number_field 16 last ∷ []
body_fields (Session (Reject number)) = number_field 45 number ∷ []
body_fields (Session (GapFill new_number)) = field 123 (codes "Y") ∷ number_field 36 new_number ∷ []
body_fields (Session (Reset new_number)) = field 123 (codes "N") ∷ number_field 36 new_number ∷ []
body_fields (Session Logout) = []
body_fields (Session (BusinessReject number)) =
    option_field 45 number ++ field 372 (codes "D") ∷ field 380 (codes "0") ∷ []
body_fields (App kind fields) = fields

-- the sending time again as the original one (122), where the message may have been sent before
abbrev pub original_time : Bool → List ℕ → List Tagged
original_time poss_dup time = if poss_dup then field 122 time ∷ [] else []

-- the header's fields from PossDupFlag (43) on
abbrev pub marks_and_time : Bool → Bool → List ℕ → List Tagged
marks_and_time poss_dup poss_resend time =
    flag_field 43 poss_dup ++ flag_field 97 poss_resend ++ field 52 time ∷ original_time poss_dup time

-- the header
abbrev pub header_fields : Envelope → List ℕ → List Tagged
header_fields e time =
    field 35 (kind_of e.body) ∷ field 49 e.sender ∷ field 56 e.target ∷ number_field 34 e.number
    ∷ marks_and_time e.poss_dup e.poss_resend time

-- the fields of a message that is sent at a time, in written order
abbrev pub envelope_fields : Envelope → StampParts → List Tagged
envelope_fields e stamp = header_fields e (stamp_text stamp) ++ body_fields e.body

-- whether one byte is the kind of a message of the session
abbrev pub is_session_byte : ℕ → Bool
is_session_byte c =
    c == 65 || c == 48 || c == 49 || c == 50 || c == 51 || c == 52 || c == 53 || c == 106

-- whether a kind is one of the session's
abbrev pub is_session_kind : List ℕ → Bool
is_session_kind [] = false
is_session_kind (c ∷ []) = is_session_byte c
is_session_kind (c ∷ d ∷ ds) = false

-- a kind that an application message may have: 1 to 8 bytes without SOH, and none of the session's
abbrev pub is_app_kind : List ℕ → Bool
is_app_kind kind = is_writable_value kind && nat_le (length kind) 8 && not (is_session_kind kind)

-- a TestReqID (112): 1 to 64 bytes without SOH
abbrev pub is_test_id : List ℕ → Bool
is_test_id id = is_writable_value id && nat_le (length id) 64

-- the fault of a tag whose value isn't as it must be
abbrev pub unless_ok : Bool → ℕ → Option WriteFault
unless_ok ok tag = if ok then None else Some (BadValue tag)

-- the first of two faults
infixr 5 ◌or_then◌
abbrev pub ◌or_then◌ : Option WriteFault → Option WriteFault → Option WriteFault
(Some fault) or_then next = Some fault
None or_then next = next

-- a number from the least to the greatest one
abbrev pub is_between : ℕ → ℕ → ℕ → Bool
is_between least greatest number = nat_le least number && nat_le number greatest

-- a number that a field may name: one that another message has or may get
abbrev pub is_reference : ℕ → Bool
is_reference number = is_between 0 999999999 number

-- a number that a message may have (34)
abbrev pub is_message_number : ℕ → Bool
is_message_number number = is_between 1 999999998 number

-- a heartbeat interval (108), in seconds
abbrev pub is_heart : ℕ → Bool
is_heart seconds = is_between 0 999999 seconds

-- a number that is expected next (789)
abbrev pub is_next_number : ℕ → Bool
is_next_number number = is_between 1 999999999 number

-- the first of the fields of an application message that can't be written
abbrev pub app_fault : List Tagged → Option WriteFault
app_fault [] = None
app_fault (f ∷ fields) = if is_app_field f then app_fault fields else Some (BadValue f.tag)

-- why a body's kind can't be written
abbrev pub kind_fault : Body → Option WriteFault
kind_fault (App kind fields) = unless_ok (is_app_kind kind) 35
kind_fault _ = None

-- the first field of a Logon that can't be written
abbrev pub logon_fault : ℕ → Option ℕ → Option WriteFault
logon_fault heart None = unless_ok (is_heart heart) 108
logon_fault heart (Some next) = unless_ok (is_heart heart) 108 or_then unless_ok (is_next_number next) 789

-- the first field of a ResendRequest that can't be written
abbrev pub resend_request_fault : ℕ → ℕ → Option WriteFault
resend_request_fault begin last = unless_ok (is_reference begin) 7 or_then unless_ok (is_reference last) 16

-- the first field of a body that can't be written, in written order
abbrev pub body_fault : Body → Option WriteFault
body_fault (Session (Logon heart reset next)) = logon_fault heart next
body_fault (Session (Heartbeat None)) = None
body_fault (Session (Heartbeat (Some id))) = unless_ok (is_test_id id) 112
body_fault (Session (TestRequest id)) = unless_ok (is_test_id id) 112
body_fault (Session (ResendRequest begin last)) = resend_request_fault begin last
body_fault (Session (Reject number)) = unless_ok (is_reference number) 45
body_fault (Session (GapFill new_number)) = unless_ok (is_reference new_number) 36
body_fault (Session (Reset new_number)) = unless_ok (is_reference new_number) 36
body_fault (Session Logout) = None
body_fault (Session (BusinessReject None)) = None
body_fault (Session (BusinessReject (Some number))) = unless_ok (is_reference number) 45
body_fault (App kind fields) = app_fault fields

-- the first field of a message that can't be written, in written order
abbrev pub field_fault : Envelope → Option WriteFault
field_fault e = kind_fault e.body or_then (unless_ok (is_message_number e.number) 34 or_then body_fault e.body)

-- whether the fields of a message take more than 4,096 bytes
abbrev pub is_too_long : Envelope → StampParts → Bool
is_too_long e stamp = nat_lt 4096 (length (fields_text (envelope_fields e stamp)))

-- why a message can't be written: its first bad tag in written order, or that it is too long
abbrev pub envelope_refusal : Envelope → StampParts → Option WriteFault
envelope_refusal e stamp = field_fault e or_then (if is_too_long e stamp then Some TooLong else None)

-- fields that can be written one by one: the first is MsgType (35), each tag is one, and no value is empty or holds SOH
abbrev pub AreWritable : List Tagged → Type 0
AreWritable fields = (has_writable_tags fields ≡ true) × (has_writable_values fields ≡ true)

-- what a call says that writes these fields as a frame at the end of a buffer: why it refuses, what the buffer holds,
-- and that it wants memory only where the buffer had no room for the frame
pub record WritesFrame (fields : List Tagged) (old new : Vec ℕ) (result : Result (Unit {0}) TextFault) : Type 0 where
  pub refusal : MatchOption (frame_refusal fields) (IsOkUnless result text.OutOfMemory) (λ fault. result ≡ Err fault)
  pub ok : OnOk result (new.items ≡ old.items ++ frame_text fields)
  pub err : OnErr result (new.items ≡ old.items)
  pub full : result ≡ Err text.OutOfMemory → vec_capacity old < vec_len old + length (frame_text fields)
