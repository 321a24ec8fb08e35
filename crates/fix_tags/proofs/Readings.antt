-- What is known of a message that was read: its ranges, and what the fields say.
use Rattle.std.proofs.Common.{◌≡◌, ◌==◌, ℕ, ◌≤◌, Bool, true, false, cond, List, [], ◌∷◌, codes, Option, Some, None, Result, Ok, IsSome, refl, sym, ap, subst, ◌∙◌, arith}
use Rattle.std.specs.Prelude.{Err, IfOk, IfSome, filter}
use Rattle.std.specs.List.{list_all}
use Rattle.std.proofs.lemmas.Bool.{eqb-true}
use Rattle.std.proofs.lemmas.Bool.Decides.{nat_tests}
use Rattle.fix_text.specs.Tagged.{Tagged, value_of}
use Rattle.fix_tags.specs.App.{is_app_tag}
use Rattle.fix_tags.specs.CompId.{comp_id_of}
use Rattle.fix_tags.specs.Message.{is_reference, is_heart, is_message_number, is_next_number, is_session_byte, is_session_kind, kind_of}
use Rattle.fix_tags.specs.Readable.{IsShortText, IsReference, IsNextNumber, IsReadableBody, IsReadable}
use Rattle.fix_tags.specs.Reading.{Gives, required, optional, flag_at, short_text, some_text, number_if, some_number, no_encryption, anything, logon_read, heartbeat_read, test_request_read, resend_request_read, reject_read, reset_or_fill, sequence_reset_read, business_reject_read, app_read, body_of_byte, body_read, envelope_read}
use Rattle.fix_tags.specs.Says.{SaysNumber, SaysFlag, SaysBody, IsReadingOf}
use Rattle.fix_tags.specs.Body.{Body}
use Rattle.fix_tags.specs.declared.body.Body.TheVariants.{Session, App}
use Rattle.fix_tags.specs.declared.session_body.SessionBody.TheVariants.{Logon, Heartbeat, TestRequest, ResendRequest, Reject, Logout, BusinessReject}
use Rattle.fix_tags.specs.declared.envelope.Envelope.{Envelope}
use Rattle.fix_tags.specs.declared.tag_fault.TagFault.{TagFault}
use Rattle.fix_tags.proofs.Steps.{step, same_ok, required-Ok, comp_id_of-Some, IfAny, says_number, says_number_if_any, says_text, says_text_if_any, says_flag, says_no_encryption}

-- the ranges of numbers
reference_from : (n : ℕ) → is_reference n ≡ true → IsReference n
reference_from n is = grind (arith, nat_tests)

heart_from : (n : ℕ) → is_heart n ≡ true → n ≤ 999999
heart_from n is = grind (arith, nat_tests)

next_from : (n : ℕ) → is_next_number n ≡ true → IsNextNumber n
next_from n is = (grind (arith, nat_tests), grind (arith, nat_tests))

pub message_number_from : (n : ℕ) → is_message_number n ≡ true → (1 ≤ n) × (n ≤ 999999998)
message_number_from n is = (grind (arith, nat_tests), grind (arith, nat_tests))

next_if_any : (next : Option ℕ) → IfAny is_next_number next → IfSome next IsNextNumber
next_if_any (Some n) is = next_from n is
next_if_any None is = tt

reference_if_any : (number : Option ℕ) → IfAny is_reference number → IfSome number IsReference
reference_if_any (Some n) is = reference_from n is
reference_if_any None is = tt

-- what is known of a body that was read under this kind
pub record IsBody (text : List ℕ) (fields : List Tagged) (body : Body) : Type 0 where
  pub kind : text ≡ kind_of body
  pub says : SaysBody fields body
  pub range : IsReadableBody body

is_body : (text : List ℕ) (fields : List Tagged) (read body : Body) → IsBody text fields read
    → ◌≡◌ {A = Result Body TagFault} (Ok read) (Ok body) → IsBody text fields body
is_body text fields read body is e = subst (IsBody text fields) (same_ok read body e) is

logon_is : (fields : List Tagged) (body : Body) → logon_read fields ≡ Ok body → IsBody (codes "A") fields body
logon_is fields body e =
    step _ (required fields 98 no_encryption) body e (λ encryption first e1.
    step _ (required fields 108 (number_if is_heart)) body e1 (λ heart second e2.
    step _ (flag_at fields 141) body e2 (λ reset third e3.
    step _ (optional fields 789 (some_number is_next_number) None) body e3 (λ next fourth e4.
    let seconds = says_number fields 108 is_heart heart second in
    let expected = says_number_if_any fields 789 is_next_number next fourth in
    is_body (codes "A") fields (Session (Logon heart reset next)) body (record {
      kind = refl;
      says = record {
        encryption = says_no_encryption fields encryption first;
        heart = seconds.0;
        reset = says_flag fields 141 reset third;
        next = expected.0;
      };
      range = (heart_from heart seconds.1, next_if_any next expected.1);
    }) e4))))

heartbeat_is : (fields : List Tagged) (body : Body) → heartbeat_read fields ≡ Ok body → IsBody (codes "0") fields body
heartbeat_is fields body e =
    step _ (optional fields 112 some_text None) body e (λ id first e1.
    let found = says_text_if_any fields 112 id first in
    is_body (codes "0") fields (Session (Heartbeat id)) body (record { kind = refl; says = found.0; range = found.1 }) e1)

test_request_is : (fields : List Tagged) (body : Body) → test_request_read fields ≡ Ok body
    → IsBody (codes "1") fields body
test_request_is fields body e =
    step _ (required fields 112 (short_text 64)) body e (λ id first e1.
    let found = says_text fields 112 64 id first in
    is_body (codes "1") fields (Session (TestRequest id)) body (record { kind = refl; says = found.0; range = found.1 }) e1)

resend_request_is : (fields : List Tagged) (body : Body) → resend_request_read fields ≡ Ok body
    → IsBody (codes "2") fields body
resend_request_is fields body e =
    step _ (required fields 7 (number_if is_reference)) body e (λ begin first e1.
    step _ (required fields 16 (number_if is_reference)) body e1 (λ last second e2.
    let from = says_number fields 7 is_reference begin first in
    let upto = says_number fields 16 is_reference last second in
    is_body (codes "2") fields (Session (ResendRequest begin last)) body (record {
      kind = refl;
      says = (from.0, upto.0);
      range = (reference_from begin from.1, reference_from last upto.1);
    }) e2))

reject_is : (fields : List Tagged) (body : Body) → reject_read fields ≡ Ok body → IsBody (codes "3") fields body
reject_is fields body e =
    step _ (required fields 45 (number_if is_reference)) body e (λ number first e1.
    let found = says_number fields 45 is_reference number first in
    is_body (codes "3") fields (Session (Reject number)) body
    (record { kind = refl; says = found.0; range = reference_from number found.1 }) e1)

reset_or_fill_is : (fields : List Tagged) (fills : Bool) (number : ℕ) → SaysFlag fields 123 fills
    → SaysNumber fields 36 number → IsReference number → IsBody (codes "4") fields (reset_or_fill fills number)
reset_or_fill_is fields true number flag says range = record { kind = refl; says = (flag, says); range = range }
reset_or_fill_is fields false number flag says range = record { kind = refl; says = (flag, says); range = range }

sequence_reset_is : (fields : List Tagged) (body : Body) → sequence_reset_read fields ≡ Ok body
    → IsBody (codes "4") fields body
sequence_reset_is fields body e =
    step _ (flag_at fields 123) body e (λ fills first e1.
    step _ (required fields 36 (number_if is_reference)) body e1 (λ number second e2.
    let found = says_number fields 36 is_reference number second in
    is_body (codes "4") fields (reset_or_fill fills number) body
    (reset_or_fill_is fields fills number (says_flag fields 123 fills first) found.0 (reference_from number found.1)) e2))

business_reject_is : (fields : List Tagged) (body : Body) → business_reject_read fields ≡ Ok body
    → IsBody (codes "j") fields body
business_reject_is fields body e =
    step _ (optional fields 45 (some_number is_reference) None) body e (λ number first e1.
    let found = says_number_if_any fields 45 is_reference number first in
    is_body (codes "j") fields (Session (BusinessReject number)) body
    (record { kind = refl; says = found.0; range = reference_if_any number found.1 }) e1)

logout_is : (fields : List Tagged) (body : Body) → ◌≡◌ {A = Result Body TagFault} (Ok (Session Logout)) (Ok body) → IsBody (codes "5") fields body
logout_is fields body e = is_body (codes "5") fields (Session Logout) body (record { kind = refl; says = tt; range = tt }) e

-- the fields that are kept are the application's
kept_by : (b : Bool) (f : Tagged) (fields : List Tagged) → is_app_tag f.tag ≡ b
    → list_all (λ f. is_app_tag f.tag) fields ≡ true
    → list_all (λ f. is_app_tag f.tag) (cond b (f ∷ fields) fields) ≡ true
kept_by true f fields is rest = rw (is, rest) refl
kept_by false f fields is rest = rest

all_kept : (fields : List Tagged) → list_all (λ f. is_app_tag f.tag) (filter (λ f. is_app_tag f.tag) fields) ≡ true
all_kept [] = refl
all_kept (f ∷ fields) = kept_by (is_app_tag f.tag) f (filter (λ f. is_app_tag f.tag) fields) refl (all_kept fields)

app_is : (kind : List ℕ) (fields : List Tagged) (body : Body) → IsShortText 8 kind → is_session_kind kind ≡ false
    → app_read kind fields ≡ Ok body → IsBody kind fields body
app_is kind fields body short other e =
    is_body kind fields (App kind (filter (λ f. is_app_tag f.tag) fields)) body
    (record { kind = refl; says = refl; range = (short, other, all_kept fields) }) e

-- a test and what is read where it passes
chosen : {P : Type 0} (b : Bool) (x y : Result Body TagFault) (body : Body) → (b ≡ true → x ≡ Ok body → P)
    → (b ≡ false → y ≡ Ok body → P) → cond b x y ≡ Ok body → P
chosen true x y body here later e = here refl e
chosen false x y body here later e = later refl e

byte_is : (c d : ℕ) (fields : List Tagged) (body : Body) → (c == d) ≡ true → IsBody (d ∷ []) fields body
    → IsBody (c ∷ []) fields body
byte_is c d fields body same is = subst (λ (k : ℕ). IsBody (k ∷ []) fields body) (sym (eqb-true c d same)) is

body_of_byte_is : (c : ℕ) (fields : List Tagged) (body : Body) → IsShortText 8 (c ∷ [])
    → body_of_byte c fields ≡ Ok body → IsBody (c ∷ []) fields body
body_of_byte_is c fields body short e =
    chosen (c == 65) _ _ body (λ same read. byte_is c 65 fields body same (logon_is fields body read)) (λ n65 e0.
    chosen (c == 48) _ _ body (λ same read. byte_is c 48 fields body same (heartbeat_is fields body read)) (λ n48 e1.
    chosen (c == 49) _ _ body (λ same read. byte_is c 49 fields body same (test_request_is fields body read)) (λ n49 e2.
    chosen (c == 50) _ _ body (λ same read. byte_is c 50 fields body same (resend_request_is fields body read))
    (λ n50 e3.
    chosen (c == 51) _ _ body (λ same read. byte_is c 51 fields body same (reject_is fields body read)) (λ n51 e4.
    chosen (c == 52) _ _ body (λ same read. byte_is c 52 fields body same (sequence_reset_is fields body read))
    (λ n52 e5.
    chosen (c == 53) _ _ body (λ same read. byte_is c 53 fields body same (logout_is fields body read)) (λ n53 e6.
    chosen (c == 106) _ _ body (λ same read. byte_is c 106 fields body same (business_reject_is fields body read))
    (λ n106 e7.
    let other : is_session_byte c ≡ false = rw (n65, n48, n49, n50, n51, n52, n53, n106) refl in
    app_is (c ∷ []) fields body short other e7) e6) e5) e4) e3) e2) e1) e0) e

pub body_is : (kind : List ℕ) (fields : List Tagged) (body : Body) → IsShortText 8 kind → body_read kind fields ≡ Ok body
    → IsBody kind fields body
body_is [] fields body short e = app_is [] fields body short refl e
body_is (c ∷ []) fields body short e = body_of_byte_is c fields body short e
body_is (c ∷ d ∷ ds) fields body short e = app_is (c ∷ d ∷ ds) fields body short refl e

is_there : (o : Option (List ℕ)) (text : List ℕ) → o ≡ Some text → IsSome o
is_there (Some value) text e = refl
is_there None text e = cc

-- what is known of a message that was read
pub record IsRead (e : Envelope) (fields : List Tagged) : Type 0 where
  pub range : IsReadable e
  pub says : IsReadingOf e fields

-- a message that is read from fields is in range, and the fields say it
pub envelope_read-Ok : (fields : List Tagged) (e : Envelope) → envelope_read fields ≡ Ok e → IsRead e fields
unfolding envelope_read
envelope_read-Ok fields e read =
    step _ (required fields 35 (short_text 8)) e read (λ kind first e1.
    step _ (required fields 49 comp_id_of) e e1 (λ sender second e2.
    step _ (required fields 56 comp_id_of) e e2 (λ target third e3.
    step _ (required fields 34 (number_if is_message_number)) e e3 (λ number fourth e4.
    step _ (required fields 52 anything) e e4 (λ time fifth e5.
    step _ (flag_at fields 43) e e5 (λ poss_dup sixth e6.
    step _ (flag_at fields 97) e e6 (λ poss_resend seventh e7.
    step _ (body_read kind fields) e e7 (λ body eighth e8.
    let is : Envelope =
    record { sender = sender; target = target; number = number; poss_dup = poss_dup; poss_resend = poss_resend; body = body } in
    let kind_says = says_text fields 35 8 kind first in
    let from = required-Ok fields 49 comp_id_of sender second in
    let sender_is = comp_id_of-Some from.0 sender from.2 in
    let to = required-Ok fields 56 comp_id_of target third in
    let target_is = comp_id_of-Some to.0 target to.2 in
    let number_says = says_number fields 34 is_message_number number fourth in
    let numbered = message_number_from number number_says.1 in
    let sent = required-Ok fields 52 anything time fifth in
    let body_says = body_is kind fields body kind_says.1 eighth in
    subst (λ (e : Envelope). IsRead e fields) (same_ok is e e8) (record {
      range = record {
        sender = sender_is.1;
        target = target_is.1;
        number_from = numbered.0;
        number = numbered.1;
        body = body_says.range;
      };
      says = record {
        kind = kind_says.0 ∙ ap Some body_says.kind;
        sender = from.1 ∙ ap Some sender_is.0;
        target = to.1 ∙ ap Some target_is.0;
        number = number_says.0;
        time = is_there (value_of fields 52) sent.0 sent.1;
        poss_dup = says_flag fields 43 poss_dup sixth;
        poss_resend = says_flag fields 97 poss_resend seventh;
        body = body_says.says;
      };
    })))))))))

pub in_range : (fields : List Tagged) (e : Envelope) → envelope_read fields ≡ Ok e → IsReadable e
in_range fields e read = (envelope_read-Ok fields e read).range

pub is_reading : (fields : List Tagged) (e : Envelope) → envelope_read fields ≡ Ok e → IsReadingOf e fields
is_reading fields e read = (envelope_read-Ok fields e read).says

-- what is known of each message that these fields are read as is known of an answer
pub of_given : {P : Envelope → Type 0} (fields : List Tagged) (answer : Result Envelope TagFault)
    → ((e : Envelope) → envelope_read fields ≡ Ok e → P e) → Gives (λ e. e) answer (envelope_read fields) → IfOk answer P
of_given fields (Ok e) known read = known e read
of_given fields (Err fault) known read = tt
