-- What is known of a message that is read from a frame, whose values hold no SOH.
use Rattle.std.proofs.Common.{◌≡◌, ℕ, Bool, List, Option, Some, None, Ok, sym, ap, subst, ◌∙◌}
use Rattle.std.specs.Prelude.{IsTrue, IfSome}
use Rattle.fix_text.specs.Tagged.{Tagged, value_of}
use Rattle.fix_text.specs.Text.{have_no_soh}
use Rattle.fix_text.proofs.NoSoh.{value_holds_no_soh, kept_hold_no_soh}
use Rattle.fix_tags.specs.App.{is_app_tag}
use Rattle.fix_tags.specs.CompId.{comp_id_of}
use Rattle.fix_tags.specs.Header.{IsHeader}
use Rattle.fix_tags.specs.Message.{is_message_number, kind_of}
use Rattle.fix_tags.specs.Readable.{HasNoSoh, HaveNoSoh, IsRead}
use Rattle.fix_tags.specs.Reading.{required, short_text, number_if, body_read, message_of, envelope_read}
use Rattle.fix_tags.specs.Says.{SaysBody}
use Rattle.fix_tags.specs.Body.{Body}
use Rattle.fix_tags.specs.declared.body.Body.TheVariants.{Session, App}
use Rattle.fix_tags.specs.declared.session_body.SessionBody.TheVariants.{Logon, Heartbeat, TestRequest, ResendRequest, Reject, GapFill, Reset, Logout, BusinessReject}
use Rattle.fix_tags.specs.declared.envelope.Envelope.{Envelope}
use Rattle.fix_tags.proofs.Steps.{required-Ok, comp_id_of-Some, says_number, says_text}
use Rattle.fix_tags.proofs.Readings.{message_number_from, body_is, is_reading}

-- the header, by what was read of it
pub header_is : (fields : List Tagged) (kind sender target : List ℕ) (number : ℕ) → required fields 35 (short_text 8) ≡ Ok kind
    → required fields 49 comp_id_of ≡ Ok sender → required fields 56 comp_id_of ≡ Ok target
    → required fields 34 (number_if is_message_number) ≡ Ok number → IsHeader kind sender target number fields
header_is fields kind sender target number first second third fourth =
    let kind_says = says_text fields 35 8 kind first in
    let from = required-Ok fields 49 comp_id_of sender second in
    let to = required-Ok fields 56 comp_id_of target third in
    let numbered = message_number_from number (says_number fields 34 is_message_number number fourth).1 in
    record {
      kind_there = kind_says.0;
      kind_short = kind_says.1;
      sender_is = (comp_id_of-Some from.0 sender from.2).1;
      target_is = (comp_id_of-Some to.0 target to.2).1;
      number_from = numbered.0;
      number_to = numbered.1;
    }

id_no_soh : (fields : List Tagged) (id : Option (List ℕ)) → IsTrue (have_no_soh fields) → value_of fields 112 ≡ id → IfSome id HasNoSoh
id_no_soh fields (Some id) none is = value_holds_no_soh fields 112 id none is
id_no_soh fields None none is = tt

-- a body, by what the fields say
body_no_soh : (fields : List Tagged) (body : Body) → IsTrue (have_no_soh fields) → value_of fields 35 ≡ Some (kind_of body)
    → SaysBody fields body → HaveNoSoh body
body_no_soh fields (Session (Logon heart reset next)) none kind says = tt
body_no_soh fields (Session (Heartbeat id)) none kind says = id_no_soh fields id none says
body_no_soh fields (Session (TestRequest id)) none kind says = value_holds_no_soh fields 112 id none says
body_no_soh fields (Session (ResendRequest begin last)) none kind says = tt
body_no_soh fields (Session (Reject number)) none kind says = tt
body_no_soh fields (Session (GapFill new_number)) none kind says = tt
body_no_soh fields (Session (Reset new_number)) none kind says = tt
body_no_soh fields (Session Logout) none kind says = tt
body_no_soh fields (Session (BusinessReject number)) none kind says = tt
body_no_soh fields (App app_kind kept) none kind says = (
  value_holds_no_soh fields 35 app_kind none kind,
  subst (λ (fs : List Tagged). IsTrue (have_no_soh fs)) (sym says) (kept_hold_no_soh (λ f. is_app_tag f.tag) fields none),
)

-- the message of a header and a body
pub message_is : (fields : List Tagged) (kind sender target : List ℕ) (number : ℕ) (poss_dup poss_resend : Bool) (body : Body)
    → IsTrue (have_no_soh fields) → IsHeader kind sender target number fields → body_read kind fields ≡ Ok body
    → IsRead (message_of sender target number poss_dup poss_resend body)
message_is fields kind sender target number poss_dup poss_resend body none header read =
    let is = body_is kind fields body header.kind_short read in
    record {
      in_range = record {
        sender = header.sender_is;
        target = header.target_is;
        number_from = header.number_from;
        number = header.number_to;
        body = is.range;
      };
      no_soh = body_no_soh fields body none (header.kind_there ∙ ap Some is.kind) is.says;
    }

-- a message that is read from fields
pub no_soh : (fields : List Tagged) (e : Envelope) → IsTrue (have_no_soh fields) → envelope_read fields ≡ Ok e → HaveNoSoh e.body
no_soh fields e none read = let says = is_reading fields e read in body_no_soh fields e.body none says.kind says.body
