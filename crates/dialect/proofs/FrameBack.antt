-- A message that can be written is refused under no header, and read back from its frame, in any dialect.
use Rattle.std.proofs.Common.{◌≡◌, ℕ, ◌*◌, ◌≤◌, Bool, true, false, List, [], ◌∷◌, ◌++◌, length, nat_lt, nat_le, decimal, codes, Option, Some, None, Ok, Err, refl, sym, ap, subst, ◌∙◌, arith, length-append}
use Rattle.std.specs.List.{AllByRecursion}
use Rattle.std.proofs.lemmas.Bool.{and_parts, and_from}
use Rattle.std.proofs.lemmas.Bool.Decides.{nat_tests}
use Rattle.std.proofs.lemmas.Fmt.{length-decimal-le}
use Rattle.fix_text.specs.Tagged.{Tagged}
use Rattle.fix_text.specs.Text.{field_text, fields_text, is_writable_value}
use Rattle.fix_text.specs.Frame.{frame_text}
use Rattle.fix_text.specs.Reading.{Stream}
use Rattle.fix_text.proofs.Lengths.{length-field_text}
use Rattle.fix_text.proofs.Rewritten.{next_begins}
use Rattle.fix_tags.specs.CompId.{IsCompId}
use Rattle.fix_tags.specs.Message.{is_reference, is_message_number, is_heart, is_next_number, is_test_id, kind_of, body_fields, kind_fault, body_fault, field_fault, envelope_fields, envelope_refusal}
use Rattle.fix_tags.specs.Stamp.{StampParts, IsStamp, stamp_text}
use Rattle.fix_tags.proofs.Written.{length-stamp_text}
use Rattle.fix_tags.specs.Body.{Body}
use Rattle.fix_tags.specs.declared.body.Body.TheVariants as body
use Rattle.fix_tags.proofs.AppFits.{header_length, no_app_fault}
use Rattle.fix_tags.proofs.MessageBack.{envelope_read-written}
use Rattle.fix_tags.proofs.WritableFields.{good_message, good_tags, good_values}
use Rattle.leg.specs.declared.leg.Leg.{Leg}
use Rattle.leg.specs.Leg.{IsLeg}
use Rattle.dialect.specs.declared.fault.DialectFault.TheVariants.{NotMarked}
use Rattle.dialect.specs.declared.report.Report.{Report}
use Rattle.dialect.specs.Dialect.{FitsMessage}
use Rattle.dialect.specs.Framed.{IsBody, envelope_of, IsFramed, IsReadAs}
use Rattle.dialect.specs.FreeText.{IsFreeText}
use Rattle.dialect.specs.declared.content.Content.{Content}
use Rattle.dialect.specs.declared.content.Content.TheVariants.{Session, Order, ExecutionReport, Other}
use Rattle.fix_tags.specs.declared.session_body.SessionBody.{SessionBody}
use Rattle.fix_tags.specs.declared.session_body.SessionBody.TheVariants.{Logon, Heartbeat, TestRequest, ResendRequest, Reject, GapFill, Reset, Logout, BusinessReject}
use Rattle.dialect.specs.declared.message.Message.{Message}
use Rattle.dialect.specs.Message.{content_of}
use Rattle.dialect.specs.OrderView.{OrderViewParts, IsOrderView}
use Rattle.dialect.specs.declared.outgoing.Outgoing.{Outgoing}
use Rattle.dialect.specs.Report.{IsReport}
use Rattle.dialect.specs.Wording.{Encoding, Decoding, Wording, IsWording}
use Rattle.dialect.specs.Writable.{IsReference, IsNext, IsTestId, IsRefused, IsInRange, IsWritableContent, IsWritable}

-- ---- short fields of the session's messages

-- a field of a tag below 1,000 with a value of at most 64 bytes
abbrev IsSmall : Tagged → Type 0
IsSmall f = (f.tag ≤ 999) × (length f.value ≤ 64)

length-small : (fields : List Tagged) → AllByRecursion IsSmall fields → length (fields_text fields) ≤ length fields * 69
length-small [] are = omega arith
length-small (first ∷ fields) are =
    let here = length-field_text first in
    let tag = length-decimal-le 3 first.tag (omega arith) (omega (arith, are.0.0)) (omega (arith, are.0.0)) in
    let whole = length-append (field_text first) (fields_text fields) in
    omega (arith, here, tag, whole, are.0.1, length-small fields are.1)

short_number : (n : ℕ) → n ≤ 999999999 → length (decimal n) ≤ 64
short_number n small =
    let nine = length-decimal-le 9 n (omega arith) (omega arith) (omega arith) in omega (arith, nine)

short_id : (id : List ℕ) → IsFreeText 64 id → length id ≤ 64
short_id id range =
    let parts = and_parts (nat_le (length id) 64) (is_writable_value id) range in grind (arith, nat_tests)

test_id_is : (id : List ℕ) → IsFreeText 64 id → is_test_id id ≡ true
test_id_is id range =
    let parts = and_parts (nat_le (length id) 64) (is_writable_value id) range in and_from _ _ parts.1 parts.0

pub number_is : (n : ℕ) → 1 ≤ n → n ≤ 999999998 → is_message_number n ≡ true
number_is n low high = grind (arith, nat_tests)

reference_is : (n : ℕ) → n ≤ 999999999 → is_reference n ≡ true
reference_is n high = grind (arith, nat_tests)

heart_is : (seconds : ℕ) → seconds ≤ 999999 → is_heart seconds ≡ true
heart_is seconds high = grind (arith, nat_tests)

next_is : (n : ℕ) → 1 ≤ n → n ≤ 999999999 → is_next_number n ≡ true
next_is n low high = grind (arith, nat_tests)

-- ---- what is known of the body of a message that can be written

record IsGood (read : Decoding) (content : Content) (b : Body) : Type 0 where
  kind : kind_fault b ≡ None
  body : body_fault b ≡ None
  short_kind : length (kind_of b) ≤ 8
  short : length (fields_text (body_fields b)) ≤ 3000
  says : content_of read b ≡ content

logon_good : (read : Decoding) (heart : ℕ) (reset : Bool) (next : Option ℕ) → heart ≤ 999999 → IsNext next
    → IsGood read (Session (Logon heart reset next)) (body.Session (Logon heart reset next))
logon_good read heart true None low range = record {
  kind = refl;
  body = rw (heart_is heart low) refl;
  short_kind = omega arith;
  short = omega (
    arith,
    length-small (body_fields (body.Session (Logon heart true None))) (
      (omega arith, omega arith),
      ((omega arith, short_number heart (omega arith)), ((omega arith, omega arith), tt)),
    ),
  );
  says = refl;
}
logon_good read heart false None low range = record {
  kind = refl;
  body = rw (heart_is heart low) refl;
  short_kind = omega arith;
  short = omega (
    arith,
    length-small (body_fields (body.Session (Logon heart false None))) (
      (omega arith, omega arith),
      ((omega arith, short_number heart (omega arith)), tt),
    ),
  );
  says = refl;
}
logon_good read heart true (Some next) low range = record {
  kind = refl;
  body = rw (heart_is heart low, next_is next range.0 range.1) refl;
  short_kind = omega arith;
  short = omega (
    arith,
    length-small (body_fields (body.Session (Logon heart true (Some next)))) (
      (omega arith, omega arith),
      (
        (omega arith, short_number heart (omega arith)),
        (
          (omega arith, omega arith),
          (
            (
              omega arith,
              short_number next range.1,
            ),
            tt,
          ),
        ),
      ),
    ),
  );
  says = refl;
}
logon_good read heart false (Some next) low range = record {
  kind = refl;
  body = rw (heart_is heart low, next_is next range.0 range.1) refl;
  short_kind = omega arith;
  short = omega (
    arith,
    length-small (body_fields (body.Session (Logon heart false (Some next)))) (
      (omega arith, omega arith),
      ((omega arith, short_number heart (omega arith)), ((omega arith, short_number next range.1), tt)),
    ),
  );
  says = refl;
}

heartbeat_good : (read : Decoding) (id : Option (List ℕ)) → IsTestId id → IsGood read (Session (Heartbeat id)) (body.Session (Heartbeat id))
heartbeat_good read None range = record { kind = refl; body = refl; short_kind = omega arith; short = omega arith; says = refl }
heartbeat_good read (Some id) range = record {
  kind = refl;
  body = rw (test_id_is id range) refl;
  short_kind = omega arith;
  short = omega (arith, length-small (body_fields (body.Session (Heartbeat (Some id)))) ((omega arith, short_id id range), tt));
  says = refl;
}

test_request_good : (read : Decoding) (id : List ℕ) → IsFreeText 64 id
    → IsGood read (Session (TestRequest id)) (body.Session (TestRequest id))
test_request_good read id range = record {
  kind = refl;
  body = rw (test_id_is id range) refl;
  short_kind = omega arith;
  short = omega (arith, length-small (body_fields (body.Session (TestRequest id))) ((omega arith, short_id id range), tt));
  says = refl;
}

resend_request_good : (read : Decoding) (begin last : ℕ) → IsReference begin → IsReference last
    → IsGood read (Session (ResendRequest begin last)) (body.Session (ResendRequest begin last))
resend_request_good read begin last first second = record {
  kind = refl;
  body = rw (reference_is begin first, reference_is last second) refl;
  short_kind = omega arith;
  short = omega (
    arith,
    length-small (body_fields (body.Session (ResendRequest begin last))) (
      (
        omega arith,
        short_number begin first,
      ),
      ((omega arith, short_number last second), tt),
    ),
  );
  says = refl;
}

reject_good : (read : Decoding) (number : ℕ) → IsReference number → IsGood read (Session (Reject number)) (body.Session (Reject number))
reject_good read number range = record {
  kind = refl;
  body = rw (reference_is number range) refl;
  short_kind = omega arith;
  short = omega (arith, length-small (body_fields (body.Session (Reject number))) ((omega arith, short_number number range), tt));
  says = refl;
}

gap_fill_good : (read : Decoding) (number : ℕ) → IsReference number → IsGood read (Session (GapFill number)) (body.Session (GapFill number))
gap_fill_good read number range = record {
  kind = refl;
  body = rw (reference_is number range) refl;
  short_kind = omega arith;
  short = omega (
    arith,
    length-small (body_fields (body.Session (GapFill number))) (
      (omega arith, omega arith),
      (
        (
          omega arith,
          short_number number range,
        ),
        tt,
      ),
    ),
  );
  says = refl;
}

reset_good : (read : Decoding) (number : ℕ) → IsReference number → IsGood read (Session (Reset number)) (body.Session (Reset number))
reset_good read number range = record {
  kind = refl;
  body = rw (reference_is number range) refl;
  short_kind = omega arith;
  short = omega (
    arith,
    length-small (body_fields (body.Session (Reset number))) (
      (omega arith, omega arith),
      (
        (
          omega arith,
          short_number number range,
        ),
        tt,
      ),
    ),
  );
  says = refl;
}

logout_good : (read : Decoding) → IsGood read (Session Logout) (body.Session Logout)
logout_good read = record { kind = refl; body = refl; short_kind = omega arith; short = omega arith; says = refl }

business_reject_good : (read : Decoding) (number : Option ℕ) → IsRefused number
    → IsGood read (Session (BusinessReject number)) (body.Session (BusinessReject number))
business_reject_good read None range = record {
  kind = refl;
  body = refl;
  short_kind = omega arith;
  short = omega (
    arith,
    length-small (body_fields (body.Session (BusinessReject None))) (
      (omega arith, omega arith),
      ((omega arith, omega arith), tt),
    ),
  );
  says = refl;
}
business_reject_good read (Some number) range = record {
  kind = refl;
  body = rw (reference_is number range) refl;
  short_kind = omega arith;
  short = omega (
    arith,
    length-small (body_fields (body.Session (BusinessReject (Some number)))) (
      (
        omega arith,
        short_number number range,
      ),
      ((omega arith, omega arith), ((omega arith, omega arith), tt)),
    ),
  );
  says = refl;
}

session_good : (read : Decoding) (says : SessionBody) → IsInRange says → IsGood read (Session says) (body.Session says)
session_good read (Logon heart reset next) range = logon_good read heart reset next range.0 range.1
session_good read (Heartbeat id) range = heartbeat_good read id range
session_good read (TestRequest id) range = test_request_good read id range
session_good read (ResendRequest begin last) range = resend_request_good read begin last range.0 range.1
session_good read (Reject number) range = reject_good read number range
session_good read (GapFill number) range = gap_fill_good read number range
session_good read (Reset number) range = reset_good read number range
session_good read Logout range = logout_good read
session_good read (BusinessReject number) range = business_reject_good read number range

-- an application message of one of the two kinds
order_good : (read : Decoding) (leg : Leg) (fields : List Tagged) → FitsMessage fields → read.order fields ≡ Ok leg
    → IsGood read (Order (Ok leg)) (body.App (codes "D") fields)
order_good read leg fields fits is = record {
  kind = refl;
  body = no_app_fault fields fits.app;
  short_kind = omega arith;
  short = omega (arith, fits.short);
  says = ap Order is;
}

report_good : (read : Decoding) (report : Report) (fields : List Tagged) → FitsMessage fields
    → read.report fields ≡ Ok report → IsGood read (ExecutionReport (Ok report)) (body.App (codes "8") fields)
report_good read report fields fits is = record {
  kind = refl;
  body = no_app_fault fields fits.app;
  short_kind = omega arith;
  short = omega (arith, fits.short);
  says = ap ExecutionReport is;
}

-- ---- in a dialect's terms

-- what is written is read back and fits a message
pub record Agrees (w : Encoding) (read : Decoding) : Type 0 where
  pub order_back : (leg : Leg) (stamp : StampParts) (fields : List Tagged) → w.IsOrder leg stamp fields
      → read.order fields ≡ Ok leg
  pub order_fits : (leg : Leg) (stamp : StampParts) (fields : List Tagged) → w.IsOrder leg stamp fields
      → FitsMessage fields
  pub report_back : (report : Report) (view : OrderViewParts) (fields : List Tagged) → w.IsReport report view fields
      → read.report fields ≡ Ok report
  pub report_fits : (report : Report) (view : OrderViewParts) (fields : List Tagged) → w.IsReport report view fields
      → FitsMessage fields

pub agrees_of : (w : Wording) → IsWording w → Agrees w.encoding w.decoding
agrees_of w laws = record {
  order_back = laws.order_reads_back;
  order_fits = laws.order_fits;
  report_back = laws.report_reads_back;
  report_fits = laws.report_fits;
}

good_from : (read : Decoding) (content : Content) (own b : Body) → b ≡ own → IsGood read content own
    → IsGood read content b
good_from read content own b is good = subst (IsGood read content) (sym is) good

good : (w : Encoding) (read : Decoding) (stamp : StampParts) (beside : Option OrderViewParts) (content : Content)
    (b : Body) → Agrees w read → IsWritableContent beside content → IsBody w stamp beside content b
    → IsGood read content b
good w read stamp beside (Session says) b agrees range is = good_from read _ _ b is (session_good read says range)
good w read stamp beside (Order (Ok leg)) b agrees range is =
    good_from read _ _ b is.body_is (order_good read leg is.fields (agrees.order_fits leg stamp is.fields is.written)
    (agrees.order_back leg stamp is.fields is.written))
good w read stamp beside (Order (Err fault)) b agrees range is = absurd range
good w read stamp (Some view) (ExecutionReport (Ok report)) b agrees range is =
    good_from read _ _ b is.body_is (report_good read report is.fields
    (agrees.report_fits report view is.fields is.written) (agrees.report_back report view is.fields is.written))
good w read stamp None (ExecutionReport (Ok report)) b agrees range is = absurd range
good w read stamp beside (ExecutionReport (Err fault)) b agrees range is = absurd range
good w read stamp beside Other b agrees range is = absurd range

-- ---- its frame

not_long : (n : ℕ) → n ≤ 4096 → nat_lt 4096 n ≡ false
not_long n short = grind (arith, nat_tests)

-- the fields of a message under its header, where the body is good
module _ (m : Message) (b : Body) (stamp : StampParts) (kind : kind_fault b ≡ None) (says : body_fault b ≡ None) (short_kind : length (kind_of b) ≤ 8) (short : length (fields_text (body_fields b)) ≤ 3000) (from : IsCompId m.from) (to : IsCompId m.to) (number : is_message_number m.number ≡ true) where
  faultless : field_fault (envelope_of m b) ≡ None
  faultless = rw (kind, number, says) refl

  fits_frame : length (fields_text (envelope_fields (envelope_of m b) stamp)) ≤ 4096
  fits_frame =
      let at_most = header_length (envelope_of m b) (stamp_text stamp) (body_fields b) short_kind from to number
      (omega (arith, length-stamp_text stamp)) in
      omega (arith, at_most, short)

  unrefused : envelope_refusal (envelope_of m b) stamp ≡ None
  unrefused = rw (faultless, not_long (length (fields_text (envelope_fields (envelope_of m b) stamp))) fits_frame) refl

  read_again : (read : Decoding) (stream : Stream) (rest : List ℕ) → content_of read b ≡ m.content
      → stream.rest ≡ frame_text (envelope_fields (envelope_of m b) stamp) ++ rest → IsReadAs read stream rest m
  read_again read stream rest seen begins =
      let fields : List Tagged = envelope_fields (envelope_of m b) stamp in
      let good_fields = good_message (envelope_of m b) stamp from to faultless in
      record {
        fields = fields;
        next = next_begins stream fields rest
            (record { tags = good_tags fields good_fields; values = good_values fields good_fields; short = fits_frame; bytes = begins });
        envelope = envelope_of m b;
        is_read = envelope_read-written (envelope_of m b) stamp from to faultless;
        is_decoded = ap (λ (c : Content). record m { content = c }) seen;
      }

-- a message that can be written is never refused
pub never_refused : (w : Encoding) (read : Decoding) (stamp : StampParts) (out : Outgoing) (b : Body) → Agrees w read
    → IsWritable out → IsBody w stamp out.beside out.message.content b
    → envelope_refusal (envelope_of out.message b) stamp ≡ None
never_refused w read stamp out b agrees range is =
    let fine = good w read stamp out.beside out.message.content b agrees range.content is in
    unrefused out.message b stamp fine.kind fine.body fine.short_kind fine.short range.from range.to (number_is out.message.number range.number_from range.number_to)

-- a dialect of no orders and no reports
abbrev no_writers : Encoding
no_writers = record { IsOrder = λ leg stamp fields. ⊥; IsReport = λ report view fields. ⊥; most_fields = 0 }

abbrev no_readers : Decoding
no_readers = record { order = λ fields. Err NotMarked; report = λ fields. Err NotMarked }

none_agree : Agrees no_writers no_readers
none_agree = record {
  order_back = λ leg stamp fields is. absurd is;
  order_fits = λ leg stamp fields is. absurd is;
  report_back = λ report view fields is. absurd is;
  report_fits = λ report view fields is. absurd is;
}

-- a message of the session that can be written is never refused
pub session_unrefused : (stamp : StampParts) (out : Outgoing) (says : SessionBody) → IsWritable out
    → out.message.content ≡ Session says → envelope_refusal (envelope_of out.message (body.Session says)) stamp ≡ None
session_unrefused stamp out says range is =
    never_refused no_writers no_readers stamp out (body.Session says) none_agree range
    (subst (λ (content : Content). IsBody no_writers stamp out.beside content (body.Session says)) (sym is) refl)

-- its frame is read back
pub frame_back : (w : Encoding) (read : Decoding) (stamp : StampParts) (out : Outgoing) (bytes rest : List ℕ)
    (stream : Stream) → Agrees w read → IsWritable out → IsFramed w stamp out bytes → stream.rest ≡ bytes ++ rest
    → IsReadAs read stream rest out.message
frame_back w read stamp out bytes rest stream agrees range is begins =
    let fine = good w read stamp out.beside out.message.content is.says agrees range.content is.is_body in
    let begins_so : stream.rest ≡ frame_text (envelope_fields
    (envelope_of out.message is.says) stamp) ++ rest = begins ∙ ap (λ (text : List ℕ). text ++ rest) is.written in
    read_again out.message is.says stamp fine.kind fine.body fine.short_kind fine.short range.from range.to (number_is out.message.number range.number_from range.number_to) read stream rest fine.says begins_so

-- ---- there is a frame

-- there are fields for every order and report in range
pub record Exists (w : Encoding) : Type 0 where
  pub order : (leg : Leg) (stamp : StampParts) → IsLeg leg → IsStamp stamp
      → (fields : List Tagged) × w.IsOrder leg stamp fields
  pub report : (report : Report) (view : OrderViewParts) → IsReport report → IsOrderView view
      → view.leg.id ≡ report.id → (fields : List Tagged) × w.IsReport report view fields

pub exists_of : (w : Wording) → IsWording w → Exists w.encoding
exists_of w laws = record { order = laws.order_exists; report = laws.report_exists }

body_exists : (w : Encoding) (stamp : StampParts) (beside : Option OrderViewParts) (content : Content) → Exists w
    → IsStamp stamp → IsWritableContent beside content → (b : Body) × IsBody w stamp beside content b
body_exists w stamp beside (Session says) exist at range = (body.Session says, refl)
body_exists w stamp beside (Order (Ok leg)) exist at range =
    let order = exist.order leg stamp range at in
    (body.App (codes "D") order.0, record { fields = order.0; written = order.1; body_is = refl })
body_exists w stamp beside (Order (Err fault)) exist at range = absurd range
body_exists w stamp (Some view) (ExecutionReport (Ok report)) exist at range =
    let written = exist.report report view range.report_in_range range.view_in_range range.own_leg in
    (body.App (codes "8") written.0, record { fields = written.0; written = written.1; body_is = refl })
body_exists w stamp None (ExecutionReport (Ok report)) exist at range = absurd range
body_exists w stamp beside (ExecutionReport (Err fault)) exist at range = absurd range
body_exists w stamp beside Other exist at range = absurd range

pub frame_exists : (w : Encoding) (stamp : StampParts) (out : Outgoing) → Exists w → IsStamp stamp → IsWritable out
    → (bytes : List ℕ) × IsFramed w stamp out bytes
frame_exists w stamp out exist at range =
    let written = body_exists w stamp out.beside out.message.content exist at range.content in (
      frame_text (envelope_fields (envelope_of out.message written.0) stamp),
      record { says = written.0; is_body = written.1; written = refl },
    )
