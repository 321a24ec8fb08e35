-- What fields are read as (FIX 4.4 Volume 2): the message, or the first fault, a missing field before a bad one.
use Rattle.std.specs.Prelude.{◌≡◌, ℕ, List, [], ◌∷◌, length, Bool, false, ◌&&◌, ◌==◌, nat_lt, nat_le, Option, Some, None, Result, Ok, Err, filter, option_and_then, if◌then◌else◌}
use Rattle.fix_text.specs.Then.{◌>>=◌}
use Rattle.fix_text.specs.Tagged.{Tagged, value_of}
use Rattle.fix_tags.specs.App.{is_app_tag}
use Rattle.fix_tags.specs.CompId.{comp_id_of}
use Rattle.fix_tags.specs.Flag.{flag_of}
use Rattle.fix_tags.specs.Number.{number_of}
use Rattle.fix_tags.specs.Message.{is_reference, is_heart, is_message_number, is_next_number}
use Rattle.fix_tags.specs.Body.{Body}
use Rattle.fix_tags.specs.declared.body.Body.TheVariants.{Session, App}
use Rattle.fix_tags.specs.declared.session_body.SessionBody.TheVariants.{Logon, Heartbeat, TestRequest, ResendRequest, Reject, GapFill, Reset, Logout, BusinessReject}
use Rattle.fix_tags.specs.declared.envelope.Envelope.{Envelope}
use Rattle.fix_tags.specs.declared.tag_fault.TagFault.{TagFault}
use Rattle.fix_tags.specs.declared.tag_fault.TagFault.TheVariants.{Missing, BadField}

-- what a call answers, seen by view, is what is read
abbrev pub Gives : {X Y : Type 0} → (X → Y) → Result X TagFault → Result Y TagFault → Type 0
Gives view (Ok x) read = read ≡ Ok (view x)
Gives view (Err fault) read = read ≡ Err fault

-- a value, or the fault of its tag
abbrev pub good : {A : Type 0} → ℕ → Option A → Result A TagFault
good tag (Some x) = Ok x
good tag None = Err (BadField tag)

-- what the value of a field is read as, if the field is there
abbrev pub wanted : {A : Type 0} → ℕ → (List ℕ → Option A) → Option (List ℕ) → Result A TagFault
wanted tag read (Some value) = good tag (read value)
wanted tag read None = Err (Missing tag)

-- a field that must be there
abbrev pub required : {A : Type 0} → List Tagged → ℕ → (List ℕ → Option A) → Result A TagFault
required fields tag read = wanted tag read (value_of fields tag)

-- what the value of a field is read as, or the default of a field that isn't there
abbrev pub or_default : {A : Type 0} → ℕ → (List ℕ → Option A) → A → Option (List ℕ) → Result A TagFault
or_default tag read default (Some value) = good tag (read value)
or_default tag read default None = Ok default

-- a field that may be missing, with what is then read
abbrev pub optional : {A : Type 0} → List Tagged → ℕ → (List ℕ → Option A) → A → Result A TagFault
optional fields tag read default = or_default tag read default (value_of fields tag)

-- a flag, which is N where it is missing
abbrev pub flag_at : List Tagged → ℕ → Result Bool TagFault
flag_at fields tag = optional fields tag flag_of false

-- a value that passes a test
abbrev pub passing : {A : Type 0} → (A → Bool) → A → Option A
passing test x = if test x then Some x else None

-- any value: the field only has to be there
abbrev pub anything : List ℕ → Option (List ℕ)
anything value = Some value

-- the number of a text, if it passes a test
abbrev pub number_if : (ℕ → Bool) → List ℕ → Option ℕ
number_if test value = option_and_then (passing test) (number_of value)

-- a text of 1 to so many bytes
abbrev pub short_text : ℕ → List ℕ → Option (List ℕ)
short_text most value = passing (λ v. nat_lt 0 (length v) && nat_le (length v) most) value

-- a text that may be missing
abbrev pub some_text : List ℕ → Option (Option (List ℕ))
some_text value = option_and_then (λ v. Some (Some v)) (short_text 64 value)

-- a number that may be missing
abbrev pub some_number : (ℕ → Bool) → List ℕ → Option (Option ℕ)
some_number test value = option_and_then (λ n. Some (Some n)) (number_if test value)

-- EncryptMethod (98): none
abbrev pub no_encryption : List ℕ → Option (List ℕ)
no_encryption (zero_digit ∷ []) = passing (λ v. zero_digit == 48) (zero_digit ∷ [])
no_encryption _ = None

abbrev pub logon_read : List Tagged → Result Body TagFault
logon_read fields = do
  encryption ← required fields 98 no_encryption
  heart ← required fields 108 (number_if is_heart)
  reset ← flag_at fields 141
  next ← optional fields 789 (some_number is_next_number) None
  Ok (Session (Logon heart reset next))

abbrev pub heartbeat_read : List Tagged → Result Body TagFault
heartbeat_read fields = do
  id ← optional fields 112 some_text None
  Ok (Session (Heartbeat id))

abbrev pub test_request_read : List Tagged → Result Body TagFault
test_request_read fields = do
  id ← required fields 112 (short_text 64)
  Ok (Session (TestRequest id))

abbrev pub resend_request_read : List Tagged → Result Body TagFault
resend_request_read fields = do
  begin ← required fields 7 (number_if is_reference)
  last ← required fields 16 (number_if is_reference)
  Ok (Session (ResendRequest begin last))

abbrev pub reject_read : List Tagged → Result Body TagFault
reject_read fields = do
  number ← required fields 45 (number_if is_reference)
  Ok (Session (Reject number))

-- a SequenceReset is a gap fill where GapFillFlag (123) is set
abbrev pub reset_or_fill : Bool → ℕ → Body
reset_or_fill fills new_number = if fills then Session (GapFill new_number) else Session (Reset new_number)

abbrev pub sequence_reset_read : List Tagged → Result Body TagFault
sequence_reset_read fields = do
  fills ← flag_at fields 123
  new_number ← required fields 36 (number_if is_reference)
  Ok (reset_or_fill fills new_number)

abbrev pub business_reject_read : List Tagged → Result Body TagFault
business_reject_read fields = do
  number ← optional fields 45 (some_number is_reference) None
  Ok (Session (BusinessReject number))

-- an application message takes the fields that aren't the header's nor the frame's
abbrev pub app_read : List ℕ → List Tagged → Result Body TagFault
app_read kind fields = Ok (App kind (filter (λ f. is_app_tag f.tag) fields))

-- a kind of one byte
abbrev pub body_of_byte : ℕ → List Tagged → Result Body TagFault
body_of_byte c fields =
    if c == 65 then logon_read fields
    else (if c == 48 then heartbeat_read fields
    else (if c == 49 then test_request_read fields
    else (if c == 50 then resend_request_read fields
    else (if c == 51 then reject_read fields
    else (if c == 52 then sequence_reset_read fields
    else (if c == 53 then Ok (Session Logout)
    else (if c == 106 then business_reject_read fields
    else app_read (c ∷ []) fields)))))))

-- the body of a kind
abbrev pub body_read : List ℕ → List Tagged → Result Body TagFault
body_read (c ∷ []) fields = body_of_byte c fields
body_read kind fields = app_read kind fields

-- the message of these parts
abbrev pub message_of : List ℕ → List ℕ → ℕ → Bool → Bool → Body → Envelope
message_of sender target number poss_dup poss_resend body = record {
  sender = sender;
  target = target;
  number = number;
  poss_dup = poss_dup;
  poss_resend = poss_resend;
  body = body;
}

-- the message of this kind and header, from its marks on
abbrev pub message_read : List ℕ → List ℕ → List ℕ → ℕ → List Tagged → Result Envelope TagFault
message_read kind sender target number fields = do
  poss_dup ← flag_at fields 43
  poss_resend ← flag_at fields 97
  body ← body_read kind fields
  Ok (message_of sender target number poss_dup poss_resend body)

-- the message of a frame's fields
unfoldable pub envelope_read : List Tagged → Result Envelope TagFault
envelope_read fields = do
  kind ← required fields 35 (short_text 8)
  sender ← required fields 49 comp_id_of
  target ← required fields 56 comp_id_of
  number ← required fields 34 (number_if is_message_number)
  time ← required fields 52 anything
  message_read kind sender target number fields
