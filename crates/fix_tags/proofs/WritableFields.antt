-- The fields of a message without a fault can be written as a frame's.
use Rattle.std.proofs.Common.{◌≡◌, ◌≢◌, ℕ, ◌^◌, ◌<◌, Bool, true, false, ◌&&◌, not, List, [], ◌∷◌, ◌++◌, length, Some, None, ◌==◌, nat_le, decimal, refl, arith}
use Rattle.std.specs.List.{list_all}
use Rattle.std.proofs.lemmas.Bool.{and_parts, and_from}
use Rattle.std.proofs.lemmas.Bool.Decides.{nat_tests}
use Rattle.std.proofs.lemmas.List.Folds.{list_all-append}
use Rattle.fix_text.specs.Tagged.{Tagged}
use Rattle.fix_text.specs.Text.{holds_soh, is_writable_value, is_writable_tag, has_writable_values}
use Rattle.fix_tags.specs.App.{is_header_tag, is_app_field}
use Rattle.fix_tags.specs.CompId.{IsCompId}
use Rattle.fix_tags.specs.Message.{number_field, kind_of, body_fields, header_fields, is_test_id, is_app_kind, is_message_number, is_reference, is_heart, is_next_number, unless_ok, ◌or_then◌, app_fault, kind_fault, body_fault, field_fault}
use Rattle.fix_tags.specs.Stamp.{StampParts, stamp_text}
use Rattle.fix_tags.proofs.Written.{HasNoDelimiter, HasNoDelimiter-decimal, HasNoDelimiter-comp_id, HasNoDelimiter-stamp_text, nonempty-decimal, nonempty-comp_id, length-stamp_text}
use Rattle.fix_tags.specs.Body.{Body}
use Rattle.fix_tags.specs.declared.body.Body.TheVariants.{Session, App}
use Rattle.fix_tags.specs.declared.session_body.SessionBody.TheVariants.{Logon, Heartbeat, TestRequest, ResendRequest, Reject, GapFill, Reset, Logout, BusinessReject}
use Rattle.fix_tags.specs.declared.envelope.Envelope.{Envelope}
use Rattle.fix_tags.proofs.Lookups.{marks}
use Rattle.fix_tags.proofs.Bodies.{unless_ok-none, or_then-first, or_then-second, if_passed}
use Rattle.fix_tags.proofs.Apps.{app_kind_parts}

other_byte : (b : ℕ) → b ≢ 1 → (b == 1) ≡ false
other_byte b other = grind (arith, nat_tests)

no_soh : (text : List ℕ) → HasNoDelimiter text → holds_soh text ≡ false
no_soh [] none = refl
no_soh (b ∷ bs) none = rw (other_byte b none.0, no_soh bs none.1) refl

not_empty : (n : ℕ) → 0 < n → not (n == 0) ≡ true
not_empty n some = grind (arith, nat_tests)

-- a text that isn't empty and holds no SOH can be written
pub is_writable_value-from : (text : List ℕ) → 0 < length text → HasNoDelimiter text → is_writable_value text ≡ true
is_writable_value-from text some none = rw (not_empty (length text) some, no_soh text none) refl

pub is_writable_value-decimal : (n : ℕ) → n < 2 ^ 64 → is_writable_value (decimal n) ≡ true
is_writable_value-decimal n fits = is_writable_value-from (decimal n) (nonempty-decimal n fits) (HasNoDelimiter-decimal n fits)

pub is_writable_value-comp_id : (text : List ℕ) → IsCompId text → is_writable_value text ≡ true
is_writable_value-comp_id text is = is_writable_value-from text (nonempty-comp_id text is) (HasNoDelimiter-comp_id text is)

pub is_writable_value-stamp_text : (s : StampParts) → is_writable_value (stamp_text s) ≡ true
is_writable_value-stamp_text s = is_writable_value-from (stamp_text s) (omega (arith, length-stamp_text s)) (HasNoDelimiter-stamp_text s)

-- a field that can be written
abbrev pub is_good : Tagged → Bool
is_good f = is_writable_tag f.tag && is_writable_value f.value

-- fields that can be written
abbrev pub are_good : List Tagged → Bool
are_good fields = list_all is_good fields

pub are_good-append : (xs ys : List Tagged) → are_good xs ≡ true → are_good ys ≡ true → are_good (xs ++ ys) ≡ true
are_good-append xs ys first second = rw (list_all-append is_good xs ys, first, second) refl

pub good_tags : (fields : List Tagged) → are_good fields ≡ true → list_all (λ f. is_writable_tag f.tag) fields ≡ true
good_tags [] good = refl
good_tags (f ∷ fields) good =
    let parts = and_parts (is_good f) (are_good fields) good in
    rw ((and_parts (is_writable_tag f.tag) (is_writable_value f.value) parts.0).0, good_tags fields parts.1) refl

pub good_values : (fields : List Tagged) → are_good fields ≡ true → has_writable_values fields ≡ true
good_values [] good = refl
good_values (f ∷ fields) good =
    let parts = and_parts (is_good f) (are_good fields) good in
    rw ((and_parts (is_writable_tag f.tag) (is_writable_value f.value) parts.0).1, good_values fields parts.1) refl

good_number : (tag n : ℕ) → is_writable_tag tag ≡ true → n < 2 ^ 64 → is_good (number_field tag n) ≡ true
good_number tag n writable fits = and_from (is_writable_tag tag) (is_writable_value (decimal n)) writable (is_writable_value-decimal n fits)

good_apps : (fields : List Tagged) → app_fault fields ≡ None → are_good fields ≡ true
good_apps [] none = refl
good_apps (f ∷ fields) none =
    let here = if_passed (is_app_field f) (app_fault fields) f.tag none in
    let parts = and_parts (is_writable_tag f.tag && not (is_header_tag f.tag)) (is_writable_value f.value) here.0 in
    let tags = and_parts (is_writable_tag f.tag) (not (is_header_tag f.tag)) parts.0 in
    rw (tags.0, parts.1, good_apps fields here.1) refl

small_reference : (n : ℕ) → is_reference n ≡ true → n < 2 ^ 64
small_reference n is = grind (arith, nat_tests)

small_heart : (n : ℕ) → is_heart n ≡ true → n < 2 ^ 64
small_heart n is = grind (arith, nat_tests)

small_next : (n : ℕ) → is_next_number n ≡ true → n < 2 ^ 64
small_next n is = grind (arith, nat_tests)

small_number : (n : ℕ) → is_message_number n ≡ true → n < 2 ^ 64
small_number n is = grind (arith, nat_tests)

good_reference : (tag n : ℕ) → is_writable_tag tag ≡ true → unless_ok (is_reference n) tag ≡ None → is_good (number_field tag n) ≡ true
good_reference tag n writable none = good_number tag n writable (small_reference n (unless_ok-none (is_reference n) tag none))

good_heart : (n : ℕ) → unless_ok (is_heart n) 108 ≡ None → is_good (number_field 108 n) ≡ true
good_heart n none = good_number 108 n refl (small_heart n (unless_ok-none (is_heart n) 108 none))

good_next : (n : ℕ) → unless_ok (is_next_number n) 789 ≡ None → is_good (number_field 789 n) ≡ true
good_next n none = good_number 789 n refl (small_next n (unless_ok-none (is_next_number n) 789 none))

test_id_writable : (id : List ℕ) → unless_ok (is_test_id id) 112 ≡ None → is_writable_value id ≡ true
test_id_writable id none = (and_parts (is_writable_value id) (nat_le (length id) 64) (unless_ok-none (is_test_id id) 112 none)).0

-- the fields of a body without a fault can be written
pub good_body : (body : Body) → body_fault body ≡ None → are_good (body_fields body) ≡ true
good_body (Session (Logon heart true None)) none = rw (good_heart heart none) refl
good_body (Session (Logon heart false None)) none = rw (good_heart heart none) refl
good_body (Session (Logon heart true (Some next))) none =
    let first = good_heart heart (or_then-first (unless_ok (is_heart heart) 108) (unless_ok (is_next_number next) 789) none) in
    let second = good_next next (or_then-second (unless_ok (is_heart heart) 108) (unless_ok (is_next_number next) 789) none) in
    rw (first, second) refl
good_body (Session (Logon heart false (Some next))) none =
    let first = good_heart heart (or_then-first (unless_ok (is_heart heart) 108) (unless_ok (is_next_number next) 789) none) in
    let second = good_next next (or_then-second (unless_ok (is_heart heart) 108) (unless_ok (is_next_number next) 789) none) in
    rw (first, second) refl
good_body (Session (Heartbeat None)) none = refl
good_body (Session (Heartbeat (Some id))) none = rw (test_id_writable id none) refl
good_body (Session (TestRequest id)) none = rw (test_id_writable id none) refl
good_body (Session (ResendRequest begin last)) none =
    let first = good_reference 7 begin refl (or_then-first (unless_ok (is_reference begin) 7) (unless_ok (is_reference last) 16) none) in
    let second = good_reference 16 last refl (or_then-second (unless_ok (is_reference begin) 7) (unless_ok (is_reference last) 16) none) in
    rw (first, second) refl
good_body (Session (Reject number)) none = rw (good_reference 45 number refl none) refl
good_body (Session (GapFill new_number)) none = rw (good_reference 36 new_number refl none) refl
good_body (Session (Reset new_number)) none = rw (good_reference 36 new_number refl none) refl
good_body (Session Logout) none = refl
good_body (Session (BusinessReject None)) none = refl
good_body (Session (BusinessReject (Some number))) none = rw (good_reference 45 number refl none) refl
good_body (App kind fields) none = good_apps fields none

kind_writable : (body : Body) → kind_fault body ≡ None → is_writable_value (kind_of body) ≡ true
kind_writable (Session (Logon heart reset next)) none = refl
kind_writable (Session (Heartbeat id)) none = refl
kind_writable (Session (TestRequest id)) none = refl
kind_writable (Session (ResendRequest begin last)) none = refl
kind_writable (Session (Reject number)) none = refl
kind_writable (Session (GapFill new_number)) none = refl
kind_writable (Session (Reset new_number)) none = refl
kind_writable (Session Logout) none = refl
kind_writable (Session (BusinessReject number)) none = refl
kind_writable (App kind fields) none = (app_kind_parts kind (unless_ok-none (is_app_kind kind) 35 none)).0

good_marks : (dup resend : Bool) (time : List ℕ) (fields : List Tagged) → is_writable_value time ≡ true → are_good fields ≡ true → are_good (marks dup resend time fields) ≡ true
good_marks true true time fields writable good = rw (writable, good) refl
good_marks true false time fields writable good = rw (writable, good) refl
good_marks false true time fields writable good = rw (writable, good) refl
good_marks false false time fields writable good = rw (writable, good) refl

-- the fields of a message without a fault can be written
pub good_message : (e : Envelope) (s : StampParts) → IsCompId e.sender → IsCompId e.target → field_fault e ≡ None → are_good (header_fields e (stamp_text s) ++ body_fields e.body) ≡ true
good_message e s sender target none =
    let kind = or_then-first (kind_fault e.body) (unless_ok (is_message_number e.number) 34 or_then body_fault e.body) none in
    let rest = or_then-second (kind_fault e.body) (unless_ok (is_message_number e.number) 34 or_then body_fault e.body) none in
    let number = unless_ok-none (is_message_number e.number) 34 (or_then-first (unless_ok (is_message_number e.number) 34) (body_fault e.body) rest) in
    let body = or_then-second (unless_ok (is_message_number e.number) 34) (body_fault e.body) rest in
    rw (kind_writable e.body kind, is_writable_value-comp_id e.sender sender, is_writable_value-comp_id e.target target, is_writable_value-decimal e.number (small_number e.number number))
    (good_marks e.poss_dup e.poss_resend (stamp_text s) (body_fields e.body) (is_writable_value-stamp_text s) (good_body e.body body))
