-- What stands behind a header, or behind a Logon, is passed over by whoever reads the message.
use Rattle.std.proofs.Common.{◌≡◌, ◌==◌, ℕ, Bool, true, false, cond, ◌&&◌, ◌||◌, not, eqb, List, [], ◌∷◌, ◌++◌, length, nat_le, codes, Option, Some, None, Result, Ok, Err, refl, sym, ap, ap₂, ◌∙◌}
use Rattle.std.specs.Prelude.{filter}
use Rattle.std.specs.List.{list_all}
use Rattle.std.proofs.lemmas.Bool.{and_parts, eqb-true}
use Rattle.fix_text.specs.Then.{◌>>=◌}
use Rattle.fix_text.specs.Tagged.{Tagged, value_of}
use Rattle.fix_tags.specs.App.{is_app_tag, is_own_header_tag, is_other_header_tag, is_header_tag, is_frame_tag}
use Rattle.fix_text.specs.Text.{is_writable_tag, is_writable_value}
use Rattle.fix_tags.specs.CompId.{comp_id_of}
use Rattle.fix_tags.specs.Dress.{is_header_extra, is_logon_tag, is_logon_extra}
use Rattle.fix_tags.specs.Flag.{flag_of}
use Rattle.fix_tags.specs.Body.{Body}
use Rattle.fix_tags.specs.declared.body.Body.TheVariants.{Session, App}
use Rattle.fix_tags.specs.declared.session_body.SessionBody.TheVariants.{Logon, Heartbeat, TestRequest, ResendRequest, Reject, GapFill, Reset, Logout, BusinessReject}
use Rattle.fix_tags.specs.declared.tag_fault.TagFault.{TagFault}
use Rattle.fix_tags.specs.declared.envelope.Envelope.{Envelope}
use Rattle.fix_tags.specs.Message.{is_reference, is_heart, is_message_number, is_next_number}
use Rattle.fix_tags.specs.Reading.{wanted, or_default, required, optional, flag_at, number_if, some_number, short_text, some_text, no_encryption, anything, logon_read, heartbeat_read, test_request_read, resend_request_read, reject_read, sequence_reset_read, business_reject_read, app_read, body_of_byte, body_read, message_read, message_of, reset_or_fill, envelope_read}

-- two lists of fields in which all that a message is read from is the same
pub record IsReadAlike (f g : List Tagged) : Type 0 where
  pub value : (tag : ℕ) → is_other_header_tag tag ≡ false → value_of f tag ≡ value_of g tag
  pub apps : filter (λ x. is_app_tag x.tag) f ≡ filter (λ x. is_app_tag x.tag) g

bind_same : {A B : Type 0} (r s : Result A TagFault) (k l : A → Result B TagFault) → r ≡ s → ((x : A) → k x ≡ l x)
    → (r >>= k) ≡ (s >>= l)
bind_same (Ok x) s k l is same = same x ∙ ap (λ t. t >>= l) is
bind_same (Err fault) s k l is same = ap (λ t. t >>= l) is

module _ (f g : List Tagged) (alike : IsReadAlike f g) where
  req : {A : Type 0} (tag : ℕ) (read : List ℕ → Option A) → is_other_header_tag tag ≡ false
      → required f tag read ≡ required g tag read
  req tag read own = ap (wanted tag read) (alike.value tag own)

  opt : {A : Type 0} (tag : ℕ) (read : List ℕ → Option A) (default : A) → is_other_header_tag tag ≡ false
      → optional f tag read default ≡ optional g tag read default
  opt tag read default own = ap (or_default tag read default) (alike.value tag own)

  logon_same : logon_read f ≡ logon_read g
  logon_same =
      bind_same _ _ _ _ (req 98 no_encryption refl) (λ encryption.
      bind_same _ _ _ _ (req 108 (number_if is_heart) refl) (λ heart.
      bind_same _ _ _ _ (opt 141 flag_of false refl) (λ reset.
      bind_same _ _ _ _ (opt 789 (some_number is_next_number) None refl) (λ next. refl))))

  sequence_reset_same : sequence_reset_read f ≡ sequence_reset_read g
  sequence_reset_same =
      bind_same _ _ _ _ (opt 123 flag_of false refl) (λ fills.
      bind_same _ _ _ _ (req 36 (number_if is_reference) refl) (λ number. refl))

  resend_same : resend_request_read f ≡ resend_request_read g
  resend_same =
      bind_same _ _ _ _ (req 7 (number_if is_reference) refl) (λ begin.
      bind_same _ _ _ _ (req 16 (number_if is_reference) refl) (λ last. refl))

  app_same : (kind : List ℕ) → app_read kind f ≡ app_read kind g
  app_same kind = ap (λ fields. Ok (App kind fields)) alike.apps

  either : (b : Bool) (r s t u : Result Body TagFault) → r ≡ s → t ≡ u → cond b r t ≡ cond b s u
  either b r s t u p q = ap₂ (λ x y. cond b x y) p q

  byte_same : (c : ℕ) → body_of_byte c f ≡ body_of_byte c g
  byte_same c =
      either (c == 65) _ _ _ _ logon_same
      (either (c == 48) _ _ _ _ (bind_same _ _ _ _ (opt 112 some_text None refl) (λ id. refl))
      (either (c == 49) _ _ _ _ (bind_same _ _ _ _ (req 112 (short_text 64) refl) (λ id. refl))
      (either (c == 50) _ _ _ _ resend_same
      (either (c == 51) _ _ _ _ (bind_same _ _ _ _ (req 45 (number_if is_reference) refl) (λ number. refl))
      (either (c == 52) _ _ _ _ sequence_reset_same
      (either (c == 53) _ _ _ _ refl
      (either (c == 106) _ _ _ _ (bind_same _ _ _ _ (opt 45 (some_number is_reference) None refl) (λ number. refl))
      (app_same (c ∷ [])))))))))

  body_same : (kind : List ℕ) → body_read kind f ≡ body_read kind g
  body_same [] = app_same []
  body_same (c ∷ []) = byte_same c
  body_same (c ∷ d ∷ ds) = app_same (c ∷ d ∷ ds)

  message_same : (kind sender target : List ℕ) (number : ℕ)
      → message_read kind sender target number f ≡ message_read kind sender target number g
  message_same kind sender target number =
      bind_same _ _ _ _ (opt 43 flag_of false refl) (λ dup.
      bind_same _ _ _ _ (opt 97 flag_of false refl) (λ resend.
      bind_same _ _ _ _ (body_same kind) (λ body. refl)))

  pub envelope_same : envelope_read f ≡ envelope_read g
  unfolding envelope_read
  envelope_same =
      bind_same _ _ _ _ (req 35 (short_text 8) refl) (λ kind.
      bind_same _ _ _ _ (req 49 comp_id_of refl) (λ sender.
      bind_same _ _ _ _ (req 56 comp_id_of refl) (λ target.
      bind_same _ _ _ _ (req 34 (number_if is_message_number) refl) (λ number.
      bind_same _ _ _ _ (req 52 anything refl) (λ time. message_same kind sender target number)))))

-- a field that stands behind a header is none that is read, nor one of the application's
other : (b : Tagged) (tag : ℕ) (hit : Bool) → (b.tag == tag) ≡ hit → is_other_header_tag b.tag ≡ true
    → is_other_header_tag tag ≡ false → (b.tag == tag) ≡ false
other b tag false is header own = is
other b tag true is header own =
    let same : is_other_header_tag tag ≡ true = sym (ap is_other_header_tag (eqb-true b.tag tag is)) ∙ header in
    absurd cc

behind_value : (beside back : List Tagged) (tag : ℕ) → list_all is_header_extra beside ≡ true
    → is_other_header_tag tag ≡ false → value_of (beside ++ back) tag ≡ value_of back tag
behind_value [] back tag are own = refl
behind_value (b ∷ beside) back tag are own =
    let parts = and_parts (is_header_extra b) (list_all is_header_extra beside) are in
    let header = (and_parts (is_other_header_tag b.tag) (is_writable_value b.value && nat_le (length b.value) 32) parts.0).0 in
    let miss = other b tag (b.tag == tag) refl header own in
    ap (λ h. cond h (Some b.value) (value_of (beside ++ back) tag)) miss ∙ behind_value beside back tag parts.1 own

value_passed : (front beside back : List Tagged) (tag : ℕ) → list_all is_header_extra beside ≡ true
    → is_other_header_tag tag ≡ false → value_of (front ++ (beside ++ back)) tag ≡ value_of (front ++ back) tag
value_passed [] beside back tag are own = behind_value beside back tag are own
value_passed (f ∷ front) beside back tag are own =
    ap (λ o. cond (f.tag == tag) (Some f.value) o) (value_passed front beside back tag are own)

by_own : (own beside : Bool) → beside ≡ true → (frame : Bool) → (not (own || beside) && not frame) ≡ false
by_own true beside is frame = refl
by_own false true is frame = refl
by_own false false is frame = cc

no_app : (tag : ℕ) → is_other_header_tag tag ≡ true → is_app_tag tag ≡ false
no_app tag header = by_own (is_own_header_tag tag) (is_other_header_tag tag) header (is_frame_tag tag)

apps_behind : (beside back : List Tagged) → list_all is_header_extra beside ≡ true
    → filter (λ x. is_app_tag x.tag) (beside ++ back) ≡ filter (λ x. is_app_tag x.tag) back
apps_behind [] back are = refl
apps_behind (b ∷ beside) back are =
    let parts = and_parts (is_header_extra b) (list_all is_header_extra beside) are in
    let header = (and_parts (is_other_header_tag b.tag) (is_writable_value b.value && nat_le (length b.value) 32) parts.0).0 in
    let rest = filter (λ x. is_app_tag x.tag) (beside ++ back) in
    ap (λ h. cond h (b ∷ rest) rest) (no_app b.tag header) ∙ apps_behind beside back parts.1

apps_passed : (front beside back : List Tagged) → list_all is_header_extra beside ≡ true
    → filter (λ x. is_app_tag x.tag) (front ++ (beside ++ back)) ≡ filter (λ x. is_app_tag x.tag) (front ++ back)
apps_passed [] beside back are = apps_behind beside back are
apps_passed (f ∷ front) beside back are =
    ap (λ xs. cond (is_app_tag f.tag) (f ∷ xs) xs) (apps_passed front beside back are)

pub header_passed : (front beside back : List Tagged) → list_all is_header_extra beside ≡ true
    → envelope_read (front ++ (beside ++ back)) ≡ envelope_read (front ++ back)
header_passed front beside back are =
    envelope_same (front ++ (beside ++ back)) (front ++ back) (record {
      value = λ tag own. value_passed front beside back tag are own;
      apps = apps_passed front beside back are;
    })

-- a tag that is read of a Logon, in its header or among its own
abbrev pub is_read_of_logon : ℕ → Bool
is_read_of_logon tag = is_own_header_tag tag || is_logon_tag tag

not_read : (x : Tagged) (tag : ℕ) (hit : Bool) → (x.tag == tag) ≡ hit
    → (not (is_own_header_tag x.tag || is_other_header_tag x.tag) && not (is_logon_tag x.tag)) ≡ true
    → is_read_of_logon tag ≡ true → (x.tag == tag) ≡ false
not_read x tag false is beside read = is
not_read x tag true is beside read =
    let moved : is_read_of_logon x.tag ≡ true = ap is_read_of_logon (eqb-true x.tag tag is) ∙ read in
    absurd (neither (is_own_header_tag x.tag) (is_other_header_tag x.tag) (is_logon_tag x.tag) moved beside) where
      neither : (own other logon : Bool) → (own || logon) ≡ true → (not (own || other) && not logon) ≡ true → ⊥
      neither true other logon p q = absurd cc
      neither false true true p q = absurd cc
      neither false true false p q = absurd cc
      neither false false true p q = absurd cc
      neither false false false p q = absurd cc

none_there : (extra : List Tagged) (tag : ℕ) → list_all is_logon_extra extra ≡ true → is_read_of_logon tag ≡ true
    → value_of extra tag ≡ None
none_there [] tag are read = refl
none_there (x ∷ extra) tag are read =
    let parts = and_parts (is_logon_extra x) (list_all is_logon_extra extra) are in
    let first = and_parts (is_writable_tag x.tag && (not (is_header_tag x.tag) && not (is_logon_tag x.tag)))
    (is_writable_value x.value && nat_le (length x.value) 64) parts.0 in
    let tags = and_parts (is_writable_tag x.tag) (not (is_header_tag x.tag) && not (is_logon_tag x.tag)) first.0 in
    ap (λ h. cond h (Some x.value) (value_of extra tag)) (not_read x tag (x.tag == tag) refl tags.1 read)
    ∙ none_there extra tag parts.1 read

before : (front extra : List Tagged) (tag : ℕ) → list_all is_logon_extra extra ≡ true → is_read_of_logon tag ≡ true
    → value_of (front ++ extra) tag ≡ value_of front tag
before [] extra tag are read = none_there extra tag are read
before (f ∷ front) extra tag are read =
    ap (λ o. cond (f.tag == tag) (Some f.value) o) (before front extra tag are read)

bind_at : {A B : Type 0} (r s : Result A TagFault) (a : A) (k l : A → Result B TagFault) → r ≡ Ok a → s ≡ Ok a
    → k a ≡ l a → (r >>= k) ≡ (s >>= l)
bind_at r s a k l p q same = ap (λ t. t >>= k) p ∙ same ∙ sym (ap (λ t. t >>= l) q)

module _ (front extra : List Tagged) (are : list_all is_logon_extra extra ≡ true) where
  must : {A : Type 0} (tag : ℕ) (read : List ℕ → Option A) → is_read_of_logon tag ≡ true
      → required (front ++ extra) tag read ≡ required front tag read
  must tag read own = ap (wanted tag read) (before front extra tag are own)

  may : {A : Type 0} (tag : ℕ) (read : List ℕ → Option A) (default : A) → is_read_of_logon tag ≡ true
      → optional (front ++ extra) tag read default ≡ optional front tag read default
  may tag read default own = ap (or_default tag read default) (before front extra tag are own)

  -- what stands behind a Logon is passed over
  pub logon_passed : value_of front 35 ≡ Some (codes "A") → envelope_read (front ++ extra) ≡ envelope_read front
  unfolding envelope_read
  logon_passed kind_is =
      bind_at _ _ (codes "A") _ _ (ap (wanted 35 (short_text 8)) (before front extra 35 are refl ∙ kind_is))
      (ap (wanted 35 (short_text 8)) kind_is)
      (bind_same _ _ _ _ (must 49 comp_id_of refl) (λ sender.
      bind_same _ _ _ _ (must 56 comp_id_of refl) (λ target.
      bind_same _ _ _ _ (must 34 (number_if is_message_number) refl) (λ number.
      bind_same _ _ _ _ (must 52 anything refl) (λ time.
      bind_same _ _ _ _ (may 43 flag_of false refl) (λ dup.
      bind_same _ _ _ _ (may 97 flag_of false refl) (λ resend.
      bind_same _ _ _ _ (bind_same _ _ _ _ (must 98 no_encryption refl) (λ encryption.
      bind_same _ _ _ _ (must 108 (number_if is_heart) refl) (λ heart.
      bind_same _ _ _ _ (may 141 flag_of false refl) (λ reset.
      bind_same _ _ _ _ (may 789 (some_number is_next_number) None refl) (λ next. refl)))))
      (λ body. refl))))))))
