-- What the fields say is read: the declarative words pin the message.
use Rattle.std.proofs.Common.{◌≡◌, inl, inr, ℕ, ◌≤◌, Bool, true, false, ◌&&◌, nat_lt, nat_le, List, length, codes, Option, Some, None, Ok, IsSome, refl, sym, ap, ◌∙◌, arith}
use Rattle.std.specs.Prelude.{IfSome}
use Rattle.std.proofs.lemmas.Bool.Decides.{nat_tests}
use Rattle.fix_text.specs.Tagged.{Tagged, value_of}
use Rattle.fix_tags.specs.CompId.{comp_id_of}
use Rattle.fix_tags.specs.Flag.{flag_of}
use Rattle.fix_tags.specs.Message.{is_between, is_reference, is_message_number, is_next_number, kind_of}
use Rattle.fix_tags.specs.Readable.{IsShortText, IsReference, IsNextNumber, IsReadableBody, IsReadable}
use Rattle.fix_tags.specs.Reading.{required, optional, flag_at, short_text, some_text, number_if, some_number, no_encryption, anything, body_read, envelope_read}
use Rattle.fix_tags.specs.Says.{SaysNumber, SaysNumberIfAny, SaysFlag, SaysBody, IsReadingOf}
use Rattle.fix_tags.specs.Body.{Body}
use Rattle.fix_tags.specs.declared.body.Body.TheVariants.{Session, App}
use Rattle.fix_tags.specs.declared.session_body.SessionBody.TheVariants.{Logon, Heartbeat, TestRequest, ResendRequest, Reject, GapFill, Reset, Logout, BusinessReject}
use Rattle.fix_tags.specs.declared.envelope.Envelope.{Envelope}
use Rattle.fix_tags.proofs.Apps.{app_kind}
use Rattle.fix_tags.proofs.HeaderBack.{bind_ok, required-found}
use Rattle.fix_tags.proofs.ReadBack.{comp_id_of-is}

passes : (least greatest n : ℕ) → least ≤ n → n ≤ greatest → is_between least greatest n ≡ true
passes least greatest n low high = grind (arith, nat_tests)

number_read : (fields : List Tagged) (tag least greatest n : ℕ) → SaysNumber fields tag n → least ≤ n → n ≤ greatest
    → required fields tag (number_if (is_between least greatest)) ≡ Ok n
number_read fields tag least greatest n says low high =
    required-found fields tag (number_if (is_between least greatest)) says.text n says.there
    (rw (says.reads_as, passes least greatest n low high) refl)

reference_read : (fields : List Tagged) (tag n : ℕ) → SaysNumber fields tag n → IsReference n
    → required fields tag (number_if is_reference) ≡ Ok n
reference_read fields tag n says high = number_read fields tag 0 999999999 n says (omega arith) high

next_read : (fields : List Tagged) (next : Option ℕ) → SaysNumberIfAny fields 789 next → IfSome next IsNextNumber
    → optional fields 789 (some_number is_next_number) None ≡ Ok next
next_read fields (Some n) says range = rw (says.there, says.reads_as, passes 1 999999999 n range.0 range.1) refl
next_read fields None says range = rw says refl

reference_if_any_read : (fields : List Tagged) (number : Option ℕ) → SaysNumberIfAny fields 45 number → IfSome number IsReference
    → optional fields 45 (some_number is_reference) None ≡ Ok number
reference_if_any_read fields (Some n) says range =
    rw (says.there, says.reads_as, passes 0 999999999 n (omega arith) range) refl
reference_if_any_read fields None says range = rw says refl

text_passes : (most n : ℕ) → 1 ≤ n → n ≤ most → (nat_lt 0 n && nat_le n most) ≡ true
text_passes most n low high = grind (arith, nat_tests)

short_text_read : (most : ℕ) (text : List ℕ) → IsShortText most text → short_text most text ≡ Some text
short_text_read most text short = rw (text_passes most (length text) short.0 short.1) refl

id_if_any_read : (fields : List Tagged) (id : Option (List ℕ)) → value_of fields 112 ≡ id → IfSome id (IsShortText 64)
    → optional fields 112 some_text None ≡ Ok id
id_if_any_read fields (Some id) says range = rw (says, short_text_read 64 id range) refl
id_if_any_read fields None says range = rw says refl

flag_read : (fields : List Tagged) (tag : ℕ) (flag : Bool) → SaysFlag fields tag flag → flag_at fields tag ≡ Ok flag
unfolding flag_of
flag_read fields tag true says = rw says refl
flag_read fields tag false (inl says) = rw says refl
flag_read fields tag false (inr says) = rw says refl

-- a body
said_body : (fields : List Tagged) (body : Body) → SaysBody fields body → IsReadableBody body
    → body_read (kind_of body) fields ≡ Ok body
said_body fields (Session (Logon heart reset next)) says range =
    let seconds = number_read fields 108 0 999999 heart says.heart (omega arith) range.0 in
    let encryption = required-found fields 98 no_encryption (codes "0") (codes "0") says.encryption refl in
    rw (encryption, seconds, flag_read fields 141 reset says.reset, next_read fields next says.next range.1) refl
said_body fields (Session (Heartbeat id)) says range = rw (id_if_any_read fields id says range) refl
said_body fields (Session (TestRequest id)) says range =
    rw (required-found fields 112 (short_text 64) id id says (short_text_read 64 id range)) refl
said_body fields (Session (ResendRequest begin last)) says range =
    rw (reference_read fields 7 begin says.0 range.0, reference_read fields 16 last says.1 range.1) refl
said_body fields (Session (Reject number)) says range = rw (reference_read fields 45 number says range) refl
said_body fields (Session (GapFill number)) says range =
    rw (flag_read fields 123 true says.0, reference_read fields 36 number says.1 range) refl
said_body fields (Session (Reset number)) says range =
    rw (flag_read fields 123 false says.0, reference_read fields 36 number says.1 range) refl
said_body fields (Session Logout) says range = refl
said_body fields (Session (BusinessReject number)) says range = rw (reference_if_any_read fields number says range) refl
said_body fields (App kind kept) says range =
    app_kind kind fields range.1 ∙ ap (λ (fields : List Tagged). Ok (App kind fields)) (sym says)

kind_short : (body : Body) → IsReadableBody body → IsShortText 8 (kind_of body)
kind_short (Session (Logon heart reset next)) range = (omega arith, omega arith)
kind_short (Session (Heartbeat id)) range = (omega arith, omega arith)
kind_short (Session (TestRequest id)) range = (omega arith, omega arith)
kind_short (Session (ResendRequest begin last)) range = (omega arith, omega arith)
kind_short (Session (Reject number)) range = (omega arith, omega arith)
kind_short (Session (GapFill number)) range = (omega arith, omega arith)
kind_short (Session (Reset number)) range = (omega arith, omega arith)
kind_short (Session Logout) range = (omega arith, omega arith)
kind_short (Session (BusinessReject number)) range = (omega arith, omega arith)
kind_short (App kind fields) range = range.0

time_read : (fields : List Tagged) (o : Option (List ℕ)) → value_of fields 52 ≡ o → IsSome o
    → (time : List ℕ) × (required fields 52 anything ≡ Ok time)
time_read fields (Some time) is there = (time, rw is refl)
time_read fields None is there = absurd cc

-- a message in range that the fields say is the one that is read
pub said_is_read : (e : Envelope) (fields : List Tagged) → IsReadable e → IsReadingOf e fields → envelope_read fields ≡ Ok e
unfolding envelope_read
said_is_read e fields range says =
    let kind = required-found fields 35 (short_text 8) (kind_of e.body) (kind_of e.body) says.kind
    (short_text_read 8 (kind_of e.body) (kind_short e.body range.body)) in
    let sender = required-found fields 49 comp_id_of e.sender e.sender says.sender
    (comp_id_of-is e.sender range.sender) in
    let target = required-found fields 56 comp_id_of e.target e.target says.target
    (comp_id_of-is e.target range.target) in
    let number = number_read fields 34 1 999999998 e.number says.number range.number_from range.number in
    let time = time_read fields (value_of fields 52) refl says.time in
    bind_ok (required fields 35 (short_text 8)) _ _ _ kind
    (bind_ok (required fields 49 comp_id_of) _ _ _ sender
    (bind_ok (required fields 56 comp_id_of) _ _ _ target
    (bind_ok (required fields 34 (number_if is_message_number)) _ _ _ number
    (bind_ok (required fields 52 anything) _ _ _ time.1
    (bind_ok (flag_at fields 43) _ _ _ (flag_read fields 43 e.poss_dup says.poss_dup)
    (bind_ok (flag_at fields 97) _ _ _ (flag_read fields 97 e.poss_resend says.poss_resend)
    (bind_ok (body_read (kind_of e.body) fields) _ _ _ (said_body fields e.body says.body range.body) refl)))))))
