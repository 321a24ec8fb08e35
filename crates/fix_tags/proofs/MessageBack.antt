-- A message that can be written is read back from its fields as itself, whatever the time.
use Rattle.std.proofs.Common.{◌≡◌, ℕ, true, List, ◌++◌, Some, None, Ok, refl}
use Rattle.fix_tags.specs.CompId.{is_comp_id}
use Rattle.fix_tags.specs.Stamp.{StampParts, stamp_text}
use Rattle.fix_tags.specs.Reading.{short_text, body_read, envelope_read}
use Rattle.fix_tags.specs.Message.{is_message_number, is_app_kind, kind_of, kind_fault, body_fault, field_fault, unless_ok, ◌or_then◌, header_fields, body_fields, envelope_fields}
use Rattle.fix_tags.specs.Body.{Body}
use Rattle.fix_tags.specs.declared.body.Body.TheVariants.{Session, App}
use Rattle.fix_tags.specs.declared.session_body.SessionBody.TheVariants.{Logon, Heartbeat, TestRequest, ResendRequest, Reject, GapFill, Reset, Logout, BusinessReject}
use Rattle.fix_tags.specs.declared.envelope.Envelope.{Envelope}
use Rattle.fix_tags.proofs.HeaderBack.{read-header}
use Rattle.fix_tags.proofs.Bodies.{unless_ok-none, or_then-first, or_then-second, short_text-written, message_number_reads, resend_request_back, reject_back, gap_fill_back, reset_back, business_reject_back, heartbeat_back, test_request_back, logout_back, logon_back}
use Rattle.fix_tags.proofs.Apps.{app_kind_parts, app_back, are_outside, app_fields_outside, value_of-outside}

kind_reads : (body : Body) → kind_fault body ≡ None → short_text 8 (kind_of body) ≡ Some (kind_of body)
kind_reads (Session (Logon heart reset next)) none = refl
kind_reads (Session (Heartbeat id)) none = refl
kind_reads (Session (TestRequest id)) none = refl
kind_reads (Session (ResendRequest begin last)) none = refl
kind_reads (Session (Reject number)) none = refl
kind_reads (Session (GapFill new_number)) none = refl
kind_reads (Session (Reset new_number)) none = refl
kind_reads (Session Logout) none = refl
kind_reads (Session (BusinessReject number)) none = refl
kind_reads (App kind fields) none =
    let parts = app_kind_parts kind (unless_ok-none (is_app_kind kind) 35 none) in short_text-written 8 kind parts.0 parts.1

-- no field of a body has a tag of the header
body_outside : (body : Body) → body_fault body ≡ None → are_outside (body_fields body) ≡ true
body_outside (Session (Logon heart true None)) none = refl
body_outside (Session (Logon heart true (Some next))) none = refl
body_outside (Session (Logon heart _ None)) none = refl
body_outside (Session (Logon heart _ (Some next))) none = refl
body_outside (Session (Heartbeat None)) none = refl
body_outside (Session (Heartbeat (Some id))) none = refl
body_outside (Session (TestRequest id)) none = refl
body_outside (Session (ResendRequest begin last)) none = refl
body_outside (Session (Reject number)) none = refl
body_outside (Session (GapFill new_number)) none = refl
body_outside (Session (Reset new_number)) none = refl
body_outside (Session Logout) none = refl
body_outside (Session (BusinessReject None)) none = refl
body_outside (Session (BusinessReject (Some number))) none = refl
body_outside (App kind fields) none = app_fields_outside fields none

-- the body reads back behind any header
body_back : (e : Envelope) (time : List ℕ) (body : Body) → kind_fault body ≡ None → body_fault body ≡ None → body_read (kind_of body) (header_fields e time ++ body_fields body) ≡ Ok body
body_back e time (Session (Logon heart reset next)) kind none = logon_back e time heart reset next none
body_back e time (Session (Heartbeat id)) kind none = heartbeat_back e time id none
body_back e time (Session (TestRequest id)) kind none = test_request_back e time id none
body_back e time (Session (ResendRequest begin last)) kind none = resend_request_back e time begin last none
body_back e time (Session (Reject number)) kind none = reject_back e time number none
body_back e time (Session (GapFill new_number)) kind none = gap_fill_back e time new_number none
body_back e time (Session (Reset new_number)) kind none = reset_back e time new_number none
body_back e time (Session Logout) kind none = logout_back e time
body_back e time (Session (BusinessReject number)) kind none = business_reject_back e time number none
body_back e time (App app_kind fields) kind none = app_back e time app_kind fields (unless_ok-none (is_app_kind app_kind) 35 kind) none

-- a written message is read back from its fields as itself
pub envelope_read-written : (e : Envelope) (stamp : StampParts) → is_comp_id e.sender ≡ true → is_comp_id e.target ≡ true → field_fault e ≡ None
    → envelope_read (envelope_fields e stamp) ≡ Ok e
envelope_read-written e stamp sender target none =
    let kind = or_then-first (kind_fault e.body) (unless_ok (is_message_number e.number) 34 or_then body_fault e.body) none in
    let rest = or_then-second (kind_fault e.body) (unless_ok (is_message_number e.number) 34 or_then body_fault e.body) none in
    let number = unless_ok-none (is_message_number e.number) 34 (or_then-first (unless_ok (is_message_number e.number) 34) (body_fault e.body) rest) in
    let body = or_then-second (unless_ok (is_message_number e.number) 34) (body_fault e.body) rest in
    let outside = body_outside e.body body in
    read-header e (stamp_text stamp) (body_fields e.body) (kind_reads e.body kind) sender target (message_number_reads e.number number)
    (value_of-outside (body_fields e.body) 43 outside refl) (value_of-outside (body_fields e.body) 97 outside refl) (body_back e (stamp_text stamp) e.body kind body)
