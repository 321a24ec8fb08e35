-- A written message reads back as itself.
use Rattle.std.proofs.Common.{◌≡◌, ℕ, Bool, true, false, List, ◌++◌, Option, Some, None, Result, Ok, refl, ◌∙◌, ap}
use Rattle.std.specs.Fmt.{decimal}
use Rattle.fix_text.specs.Then.{◌>>=◌}
use Rattle.fix_text.specs.Tagged.{Tagged, value_of}
use Rattle.fix_tags.specs.CompId.{is_comp_id, comp_id_of}
use Rattle.fix_tags.specs.Flag.{flag_of}
use Rattle.fix_tags.specs.Reading.{required, flag_at, short_text, number_if, anything, body_read, envelope_read}
use Rattle.fix_tags.specs.Message.{is_message_number, kind_of, header_fields}
use Rattle.fix_tags.specs.declared.envelope.Envelope.{Envelope}
use Rattle.fix_tags.specs.declared.tag_fault.TagFault.{TagFault}
use Rattle.fix_tags.proofs.Lookups.{flag_or, value_of-time, value_of-dup, value_of-resend}

-- what a step gives is handed on
pub bind_ok : {A B : Type 0} (r : Result A TagFault) (x : A) (f : A → Result B TagFault) (y : Result B TagFault) → r ≡ Ok x → f x ≡ y → (r >>= f) ≡ y
bind_ok r x f y found next = rw found next

-- a field that is there and reads well
pub required-found : {A : Type 0} (fields : List Tagged) (tag : ℕ) (read : List ℕ → Option A) (value : List ℕ) (x : A) → value_of fields tag ≡ Some value → read value ≡ Some x → required fields tag read ≡ Ok x
required-found fields tag read value x found reads = rw (found, reads) refl

-- a written flag reads back
flag_at-written : (fields : List Tagged) (tag : ℕ) (flag : Bool) → value_of fields tag ≡ flag_or flag None → flag_at fields tag ≡ Ok flag
unfolding flag_of
flag_at-written fields tag true found = rw found refl
flag_at-written fields tag false found = rw found refl

-- a written header reads back, with the body that its fields read as
pub read-header : (e : Envelope) (time : List ℕ) (fields : List Tagged)
    → short_text 8 (kind_of e.body) ≡ Some (kind_of e.body) → is_comp_id e.sender ≡ true → is_comp_id e.target ≡ true
    → number_if is_message_number (decimal e.number) ≡ Some e.number
    → value_of fields 43 ≡ None → value_of fields 97 ≡ None
    → body_read (kind_of e.body) (header_fields e time ++ fields) ≡ Ok e.body
    → envelope_read (header_fields e time ++ fields) ≡ Ok e
unfolding envelope_read
read-header e time fields kind sender target number no_dup no_resend body =
    let all : List Tagged = header_fields e time ++ fields in
    let h35 : required all 35 (short_text 8) ≡ Ok (kind_of e.body) = required-found all 35 (short_text 8) (kind_of e.body) (kind_of e.body) refl kind in
    let h49 : required all 49 comp_id_of ≡ Ok e.sender = required-found all 49 comp_id_of e.sender e.sender refl (rw sender refl) in
    let h56 : required all 56 comp_id_of ≡ Ok e.target = required-found all 56 comp_id_of e.target e.target refl (rw target refl) in
    let h34 : required all 34 (number_if is_message_number) ≡ Ok e.number = required-found all 34 (number_if is_message_number) (decimal e.number) e.number refl number in
    let h52 : required all 52 anything ≡ Ok time = required-found all 52 anything time time (value_of-time e.poss_dup e.poss_resend time fields) refl in
    let h43 : flag_at all 43 ≡ Ok e.poss_dup = flag_at-written all 43 e.poss_dup (value_of-dup e.poss_dup e.poss_resend time fields ∙ ap (flag_or e.poss_dup) no_dup) in
    let h97 : flag_at all 97 ≡ Ok e.poss_resend = flag_at-written all 97 e.poss_resend (value_of-resend e.poss_dup e.poss_resend time fields ∙ ap (flag_or e.poss_resend) no_resend) in
    bind_ok (required all 35 (short_text 8)) _ _ _ h35
    (bind_ok (required all 49 comp_id_of) _ _ _ h49
    (bind_ok (required all 56 comp_id_of) _ _ _ h56
    (bind_ok (required all 34 (number_if is_message_number)) _ _ _ h34
    (bind_ok (required all 52 anything) _ _ _ h52
    (bind_ok (flag_at all 43) _ _ _ h43
    (bind_ok (flag_at all 97) _ _ _ h97
    (bind_ok (body_read (kind_of e.body) all) _ _ _ body refl)))))))
