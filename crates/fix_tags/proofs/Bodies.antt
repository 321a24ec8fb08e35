-- Each body of a written message reads back as itself.
use Rattle.std.proofs.Common.{◌≡◌, ℕ, ◌≤◌, Bool, true, false, cond, ◌&&◌, List, [], ◌∷◌, ◌++◌, length, Option, Some, None, Ok, ◌==◌, nat_lt, nat_le, not, codes, refl, ap, arith}
use Rattle.std.specs.Fmt.{decimal}
use Rattle.std.specs.Prelude.{filter, option_and_then}
use Rattle.std.proofs.lemmas.Bool.Decides.{nat_tests}
use Rattle.fix_text.specs.Tagged.{Tagged, value_of}
use Rattle.std.proofs.lemmas.Bool.{and_parts, not-true}
use Rattle.fix_text.specs.Text.{is_writable_value, is_writable_tag, holds_soh}
use Rattle.fix_tags.specs.App.{is_app_tag, is_app_field, is_header_tag}
use Rattle.fix_tags.specs.Flag.{flag_of}
use Rattle.fix_tags.proofs.ReadBack.{number_of-decimal}
use Rattle.fix_tags.specs.Reading.{required, flag_at, short_text, some_text, number_if, body_read}
use Rattle.fix_tags.specs.Message.{is_reference, is_heart, is_next_number, is_message_number, is_test_id, unless_ok, ◌or_then◌, header_fields, body_fields, body_fault, app_fault, field, number_field, option_field, flag_field}
use Rattle.fix_tags.specs.declared.body.Body.TheVariants.{Session}
use Rattle.fix_tags.specs.declared.session_body.SessionBody.TheVariants.{Logon, Heartbeat, TestRequest, ResendRequest, Reject, GapFill, Reset, Logout, BusinessReject}
use Rattle.fix_tags.specs.declared.envelope.Envelope.{Envelope}
use Rattle.fix_tags.specs.declared.write_fault.WriteFault.{WriteFault}
use Rattle.fix_tags.specs.declared.write_fault.WriteFault.TheVariants.{BadValue}
use Rattle.fix_tags.proofs.Lookups.{IsOutside, value_of-header}
use Rattle.fix_tags.proofs.HeaderBack.{required-found}

-- no fault: the test passed
pub unless_ok-none : (ok : Bool) (tag : ℕ) → unless_ok ok tag ≡ None → ok ≡ true
unless_ok-none true tag none = refl
unless_ok-none false tag none = absurd cc

pub or_then-first : (a b : Option WriteFault) → (a or_then b) ≡ None → a ≡ None
or_then-first (Some fault) b none = absurd cc
or_then-first None b none = refl

pub or_then-second : (a b : Option WriteFault) → (a or_then b) ≡ None → b ≡ None
or_then-second (Some fault) b none = absurd cc
or_then-second None b none = none

-- a written number reads back where it passes the test
pub number_if-decimal : (test : ℕ → Bool) (n : ℕ) → n ≤ 999999999999 → test n ≡ true → number_if test (decimal n) ≡ Some n
number_if-decimal test n small passes = rw (number_of-decimal n small, passes) refl

reference_small : (n : ℕ) → is_reference n ≡ true → n ≤ 999999999999
reference_small n is = grind (arith, nat_tests)

heart_small : (n : ℕ) → is_heart n ≡ true → n ≤ 999999999999
heart_small n is = grind (arith, nat_tests)

next_small : (n : ℕ) → is_next_number n ≡ true → n ≤ 999999999999
next_small n is = grind (arith, nat_tests)

message_number_small : (n : ℕ) → is_message_number n ≡ true → n ≤ 999999999999
message_number_small n is = grind (arith, nat_tests)

pub message_number_reads : (n : ℕ) → is_message_number n ≡ true → number_if is_message_number (decimal n) ≡ Some n
message_number_reads n is = number_if-decimal is_message_number n (message_number_small n is) is

reference_reads : (n : ℕ) (tag : ℕ) → unless_ok (is_reference n) tag ≡ None → number_if is_reference (decimal n) ≡ Some n
reference_reads n tag none = let is = unless_ok-none (is_reference n) tag none in number_if-decimal is_reference n (reference_small n is) is

-- a length that isn't 0 is above it
some_length : (n : ℕ) → not (n == 0) ≡ true → nat_lt 0 n ≡ true
some_length n is = grind (arith, nat_tests)

-- a written text is one of 1 to so many bytes
pub short_text-written : (most : ℕ) (text : List ℕ) → is_writable_value text ≡ true → nat_le (length text) most ≡ true → short_text most text ≡ Some text
short_text-written most text writable short =
    let some = some_length (length text) (and_parts (not (length text == 0)) (not (holds_soh text)) writable).0 in
    rw (some, short) refl

test_id_reads : (id : List ℕ) (tag : ℕ) → unless_ok (is_test_id id) tag ≡ None → short_text 64 id ≡ Some id
test_id_reads id tag none =
    let is = and_parts (is_writable_value id) (nat_le (length id) 64) (unless_ok-none (is_test_id id) tag none) in
    short_text-written 64 id is.0 is.1

-- a chain of tests without a fault: this one passed, and there is none after it
pub if_passed : (b : Bool) (next : Option WriteFault) (tag : ℕ) → cond b next (Some (BadValue tag)) ≡ None → (b ≡ true) × (next ≡ None)
if_passed true next tag none = (refl, none)
if_passed false next tag none = absurd cc

-- a tag that can be written and isn't the header's belongs to the application
app_tag_from : (tag : ℕ) → is_writable_tag tag ≡ true → not (is_header_tag tag) ≡ true → is_app_tag tag ≡ true
app_tag_from tag writable outside =
    let not10 = and_parts (nat_lt 0 tag && nat_le tag 999999 && not (tag == 8) && not (tag == 9)) (not (tag == 10)) writable in
    let not9 = and_parts (nat_lt 0 tag && nat_le tag 999999 && not (tag == 8)) (not (tag == 9)) not10.0 in
    let not8 = and_parts (nat_lt 0 tag && nat_le tag 999999) (not (tag == 8)) not9.0 in
    rw (outside, not-true (tag == 8) not8.1, not-true (tag == 9) not9.1, not-true (tag == 10) not10.1) refl

-- fields that can be written are all read as the application's
pub app_fields_kept : (fields : List Tagged) → app_fault fields ≡ None → filter (λ f. is_app_tag f.tag) fields ≡ fields
app_fields_kept [] none = refl
app_fields_kept (f ∷ fields) none =
    let here = if_passed (is_app_field f) (app_fault fields) f.tag none in
    let parts = and_parts (is_writable_tag f.tag && not (is_header_tag f.tag)) (is_writable_value f.value) here.0 in
    let tags = and_parts (is_writable_tag f.tag) (not (is_header_tag f.tag)) parts.0 in
    rw (app_tag_from f.tag tags.0 tags.1, app_fields_kept fields here.1) refl

module _ (e : Envelope) (time : List ℕ) where
  behind : (fields : List Tagged) (tag : ℕ) → IsOutside tag → value_of (header_fields e time ++ fields) tag ≡ value_of fields tag
  behind = value_of-header e time

  pub resend_request_back : (begin last : ℕ) → body_fault (Session (ResendRequest begin last)) ≡ None
      → body_read (codes "2") (header_fields e time ++ body_fields (Session (ResendRequest begin last))) ≡ Ok (Session (ResendRequest begin last))
  resend_request_back begin last none =
      let all : List Tagged = header_fields e time ++ body_fields (Session (ResendRequest begin last)) in
      let at7 = behind (body_fields (Session (ResendRequest begin last))) 7 (record { kind = refl; sender = refl; target = refl; number = refl; dup = refl; resend = refl; time = refl; original = refl }) in
      let at16 = behind (body_fields (Session (ResendRequest begin last))) 16 (record { kind = refl; sender = refl; target = refl; number = refl; dup = refl; resend = refl; time = refl; original = refl }) in
      let first = reference_reads begin 7 (or_then-first (unless_ok (is_reference begin) 7) (unless_ok (is_reference last) 16) none) in
      let second = reference_reads last 16 (or_then-second (unless_ok (is_reference begin) 7) (unless_ok (is_reference last) 16) none) in
      rw (required-found all 7 (number_if is_reference) (decimal begin) begin at7 first, required-found all 16 (number_if is_reference) (decimal last) last at16 second) refl

  pub reject_back : (number : ℕ) → body_fault (Session (Reject number)) ≡ None → body_read (codes "3") (header_fields e time ++ body_fields (Session (Reject number))) ≡ Ok (Session (Reject number))
  reject_back number none =
      let all : List Tagged = header_fields e time ++ body_fields (Session (Reject number)) in
      rw (required-found all 45 (number_if is_reference) (decimal number) number (behind (body_fields (Session (Reject number))) 45 (record { kind = refl; sender = refl; target = refl; number = refl; dup = refl; resend = refl; time = refl; original = refl })) (reference_reads number 45 none)) refl

  pub gap_fill_back : (number : ℕ) → body_fault (Session (GapFill number)) ≡ None → body_read (codes "4") (header_fields e time ++ body_fields (Session (GapFill number))) ≡ Ok (Session (GapFill number))
  unfolding flag_of
  gap_fill_back number none =
      let all : List Tagged = header_fields e time ++ body_fields (Session (GapFill number)) in
      let at123 = behind (body_fields (Session (GapFill number))) 123 (record { kind = refl; sender = refl; target = refl; number = refl; dup = refl; resend = refl; time = refl; original = refl }) in
      let set : flag_at all 123 ≡ Ok true = rw at123 refl in
      rw (set, required-found all 36 (number_if is_reference) (decimal number) number (behind (body_fields (Session (GapFill number))) 36 (record { kind = refl; sender = refl; target = refl; number = refl; dup = refl; resend = refl; time = refl; original = refl })) (reference_reads number 36 none)) refl

  pub reset_back : (number : ℕ) → body_fault (Session (Reset number)) ≡ None → body_read (codes "4") (header_fields e time ++ body_fields (Session (Reset number))) ≡ Ok (Session (Reset number))
  unfolding flag_of
  reset_back number none =
      let all : List Tagged = header_fields e time ++ body_fields (Session (Reset number)) in
      let at123 = behind (body_fields (Session (Reset number))) 123 (record { kind = refl; sender = refl; target = refl; number = refl; dup = refl; resend = refl; time = refl; original = refl }) in
      let unset : flag_at all 123 ≡ Ok false = rw at123 refl in
      rw (unset, required-found all 36 (number_if is_reference) (decimal number) number (behind (body_fields (Session (Reset number))) 36 (record { kind = refl; sender = refl; target = refl; number = refl; dup = refl; resend = refl; time = refl; original = refl })) (reference_reads number 36 none)) refl

  pub business_reject_back : (number : Option ℕ) → body_fault (Session (BusinessReject number)) ≡ None → body_read (codes "j") (header_fields e time ++ body_fields (Session (BusinessReject number))) ≡ Ok (Session (BusinessReject number))
  business_reject_back None none = rw (behind (body_fields (Session (BusinessReject None))) 45 (record { kind = refl; sender = refl; target = refl; number = refl; dup = refl; resend = refl; time = refl; original = refl })) refl
  business_reject_back (Some n) none = rw (behind (body_fields (Session (BusinessReject (Some n)))) 45 (record { kind = refl; sender = refl; target = refl; number = refl; dup = refl; resend = refl; time = refl; original = refl }), reference_reads n 45 none) refl

  pub heartbeat_back : (id : Option (List ℕ)) → body_fault (Session (Heartbeat id)) ≡ None → body_read (codes "0") (header_fields e time ++ body_fields (Session (Heartbeat id))) ≡ Ok (Session (Heartbeat id))
  heartbeat_back None none = rw (behind [] 112 (record { kind = refl; sender = refl; target = refl; number = refl; dup = refl; resend = refl; time = refl; original = refl })) refl
  heartbeat_back (Some id) none =
      let found : value_of (header_fields e time ++ body_fields (Session (Heartbeat (Some id)))) 112 ≡ Some id = behind (body_fields (Session (Heartbeat (Some id)))) 112 (record { kind = refl; sender = refl; target = refl; number = refl; dup = refl; resend = refl; time = refl; original = refl }) in
      let reads : some_text id ≡ Some (Some id) = ap (option_and_then (λ (v : List ℕ). Some (Some v))) (test_id_reads id 112 none) in
      rw (found, reads) refl

  pub test_request_back : (id : List ℕ) → body_fault (Session (TestRequest id)) ≡ None → body_read (codes "1") (header_fields e time ++ body_fields (Session (TestRequest id))) ≡ Ok (Session (TestRequest id))
  test_request_back id none =
      rw (required-found (header_fields e time ++ body_fields (Session (TestRequest id))) 112 (short_text 64) id id (behind (body_fields (Session (TestRequest id))) 112 (record { kind = refl; sender = refl; target = refl; number = refl; dup = refl; resend = refl; time = refl; original = refl })) (test_id_reads id 112 none)) refl

  pub logout_back : body_read (codes "5") (header_fields e time ++ body_fields (Session Logout)) ≡ Ok (Session Logout)
  logout_back = refl

  -- the heartbeat interval of a written Logon reads back
  heart_back : (heart : ℕ) (behind_it : List Tagged) → is_heart heart ≡ true
      → required (header_fields e time ++ field 98 (codes "0") ∷ number_field 108 heart ∷ behind_it) 108 (number_if is_heart) ≡ Ok heart
  heart_back heart behind_it is =
      required-found (header_fields e time ++ field 98 (codes "0") ∷ number_field 108 heart ∷ behind_it) 108 (number_if is_heart) (decimal heart) heart
      (behind (field 98 (codes "0") ∷ number_field 108 heart ∷ behind_it) 108 (record { kind = refl; sender = refl; target = refl; number = refl; dup = refl; resend = refl; time = refl; original = refl }))
      (number_if-decimal is_heart heart (heart_small heart is) is)

  pub logon_back : (heart : ℕ) (reset : Bool) (next : Option ℕ) → body_fault (Session (Logon heart reset next)) ≡ None
      → body_read (codes "A") (header_fields e time ++ body_fields (Session (Logon heart reset next))) ≡ Ok (Session (Logon heart reset next))
  unfolding flag_of
  logon_back heart true None none =
      let fields : List Tagged = body_fields (Session (Logon heart true None)) in
      rw (behind fields 98 (record { kind = refl; sender = refl; target = refl; number = refl; dup = refl; resend = refl; time = refl; original = refl }), heart_back heart (flag_field 141 true ++ []) (unless_ok-none (is_heart heart) 108 none), behind fields 141 (record { kind = refl; sender = refl; target = refl; number = refl; dup = refl; resend = refl; time = refl; original = refl }), behind fields 789 (record { kind = refl; sender = refl; target = refl; number = refl; dup = refl; resend = refl; time = refl; original = refl })) refl
  logon_back heart false None none =
      let fields : List Tagged = body_fields (Session (Logon heart false None)) in
      rw (behind fields 98 (record { kind = refl; sender = refl; target = refl; number = refl; dup = refl; resend = refl; time = refl; original = refl }), heart_back heart [] (unless_ok-none (is_heart heart) 108 none), behind fields 141 (record { kind = refl; sender = refl; target = refl; number = refl; dup = refl; resend = refl; time = refl; original = refl }), behind fields 789 (record { kind = refl; sender = refl; target = refl; number = refl; dup = refl; resend = refl; time = refl; original = refl })) refl
  logon_back heart true (Some next) none =
      let fields : List Tagged = body_fields (Session (Logon heart true (Some next))) in
      let heart_is = unless_ok-none (is_heart heart) 108 (or_then-first (unless_ok (is_heart heart) 108) (unless_ok (is_next_number next) 789) none) in
      let next_is = unless_ok-none (is_next_number next) 789 (or_then-second (unless_ok (is_heart heart) 108) (unless_ok (is_next_number next) 789) none) in
      rw (behind fields 98 (record { kind = refl; sender = refl; target = refl; number = refl; dup = refl; resend = refl; time = refl; original = refl }), heart_back heart (flag_field 141 true ++ option_field 789 (Some next)) heart_is, behind fields 141 (record { kind = refl; sender = refl; target = refl; number = refl; dup = refl; resend = refl; time = refl; original = refl }), behind fields 789 (record { kind = refl; sender = refl; target = refl; number = refl; dup = refl; resend = refl; time = refl; original = refl }), number_if-decimal is_next_number next (next_small next next_is) next_is) refl
  logon_back heart false (Some next) none =
      let fields : List Tagged = body_fields (Session (Logon heart false (Some next))) in
      let heart_is = unless_ok-none (is_heart heart) 108 (or_then-first (unless_ok (is_heart heart) 108) (unless_ok (is_next_number next) 789) none) in
      let next_is = unless_ok-none (is_next_number next) 789 (or_then-second (unless_ok (is_heart heart) 108) (unless_ok (is_next_number next) 789) none) in
      rw (behind fields 98 (record { kind = refl; sender = refl; target = refl; number = refl; dup = refl; resend = refl; time = refl; original = refl }), heart_back heart (option_field 789 (Some next)) heart_is, behind fields 141 (record { kind = refl; sender = refl; target = refl; number = refl; dup = refl; resend = refl; time = refl; original = refl }), behind fields 789 (record { kind = refl; sender = refl; target = refl; number = refl; dup = refl; resend = refl; time = refl; original = refl }), number_if-decimal is_next_number next (next_small next next_is) next_is) refl
