-- A written application message reads back as itself.
use Rattle.std.proofs.Common.{◌≡◌, ℕ, Bool, true, false, ◌&&◌, ◌||◌, not, List, [], ◌∷◌, ◌++◌, length, None, Ok, ◌==◌, nat_le, refl, ◌∙◌, ap}
use Rattle.std.specs.Prelude.{filter}
use Rattle.std.specs.List.{list_all}
use Rattle.std.proofs.lemmas.Bool.{and_parts, and_from, not-true, eqb-true, false_from_ne_true}
use Rattle.fix_text.specs.Tagged.{Tagged, value_of}
use Rattle.fix_text.specs.Text.{is_writable_value, is_writable_tag}
use Rattle.fix_tags.specs.App.{is_app_tag, is_app_field, is_header_tag}
use Rattle.fix_tags.specs.Reading.{body_of_byte, body_read, app_read}
use Rattle.fix_tags.specs.Message.{is_session_byte, is_session_kind, is_app_kind, app_fault, header_fields}
use Rattle.fix_tags.specs.declared.body.Body.TheVariants.{App}
use Rattle.fix_tags.specs.declared.envelope.Envelope.{Envelope}
use Rattle.fix_tags.proofs.Lookups.{marks}
use Rattle.fix_tags.proofs.Bodies.{if_passed, app_fields_kept}

-- both of two tests failed
or_parts : (x y : Bool) → (x || y) ≡ false → (x ≡ false) × (y ≡ false)
or_parts true y e = absurd cc
or_parts false y e = (refl, e)

-- a byte that is no kind of the session's is one of the application's
app_byte : (c : ℕ) (fields : List Tagged) → is_session_byte c ≡ false → body_of_byte c fields ≡ app_read (c ∷ []) fields
app_byte c fields outside =
    let j = or_parts (c == 65 || c == 48 || c == 49 || c == 50 || c == 51 || c == 52 || c == 53) (c == 106) outside in
    let five = or_parts (c == 65 || c == 48 || c == 49 || c == 50 || c == 51 || c == 52) (c == 53) j.0 in
    let four = or_parts (c == 65 || c == 48 || c == 49 || c == 50 || c == 51) (c == 52) five.0 in
    let three = or_parts (c == 65 || c == 48 || c == 49 || c == 50) (c == 51) four.0 in
    let two = or_parts (c == 65 || c == 48 || c == 49) (c == 50) three.0 in
    let one = or_parts (c == 65 || c == 48) (c == 49) two.0 in
    let nought = or_parts (c == 65) (c == 48) one.0 in
    rw (nought.0, nought.1, one.1, two.1, three.1, four.1, five.1, j.1) refl

-- a kind that is none of the session's is read as the application's
pub app_kind : (kind : List ℕ) (fields : List Tagged) → is_session_kind kind ≡ false → body_read kind fields ≡ app_read kind fields
app_kind [] fields outside = refl
app_kind (c ∷ []) fields outside = app_byte c fields outside
app_kind (c ∷ d ∷ ds) fields outside = refl

filter-marks : (dup resend : Bool) (time : List ℕ) (fields : List Tagged) → filter (λ f. is_app_tag f.tag) (marks dup resend time fields) ≡ filter (λ f. is_app_tag f.tag) fields
filter-marks true true time fields = refl
filter-marks true false time fields = refl
filter-marks false true time fields = refl
filter-marks false false time fields = refl

-- the header's fields aren't the application's
filter-header : (e : Envelope) (time : List ℕ) (fields : List Tagged) → filter (λ f. is_app_tag f.tag) (header_fields e time ++ fields) ≡ filter (λ f. is_app_tag f.tag) fields
filter-header e time fields = filter-marks e.poss_dup e.poss_resend time fields

pub app_kind_parts : (kind : List ℕ) → is_app_kind kind ≡ true → (is_writable_value kind ≡ true) × (nat_le (length kind) 8 ≡ true) × (is_session_kind kind ≡ false)
app_kind_parts kind is =
    let outer = and_parts (is_writable_value kind && nat_le (length kind) 8) (not (is_session_kind kind)) is in
    let inner = and_parts (is_writable_value kind) (nat_le (length kind) 8) outer.0 in
    (inner.0, inner.1, not-true (is_session_kind kind) outer.1)

pub app_back : (e : Envelope) (time kind : List ℕ) (fields : List Tagged) → is_app_kind kind ≡ true → app_fault fields ≡ None
    → body_read kind (header_fields e time ++ fields) ≡ Ok (App kind fields)
app_back e time kind fields is none =
    app_kind kind (header_fields e time ++ fields) (app_kind_parts kind is).2
    ∙ ap (λ (kept : List Tagged). Ok (App kind kept)) (filter-header e time fields ∙ app_fields_kept fields none)

-- a tag of the header and one that isn't are two
apart : (a b : ℕ) → a ≡ b → is_header_tag a ≡ false → is_header_tag b ≡ true → ⊥
apart a b same outside header = let moved : is_header_tag a ≡ true = ap is_header_tag same ∙ header in absurd cc

-- fields of which none has a tag of the header
abbrev pub are_outside : List Tagged → Bool
are_outside fields = list_all (λ f. not (is_header_tag f.tag)) fields

-- the fields of an application message that can be written are such
pub app_fields_outside : (fields : List Tagged) → app_fault fields ≡ None → are_outside fields ≡ true
app_fields_outside [] none = refl
app_fields_outside (f ∷ fields) none =
    let here = if_passed (is_app_field f) (app_fault fields) f.tag none in
    let tags = and_parts (is_writable_tag f.tag && not (is_header_tag f.tag)) (is_writable_value f.value) here.0 in
    and_from _ _ (and_parts (is_writable_tag f.tag) (not (is_header_tag f.tag)) tags.0).1 (app_fields_outside fields here.1)

-- no such field has a tag of the header
pub value_of-outside : (fields : List Tagged) (tag : ℕ) → are_outside fields ≡ true → is_header_tag tag ≡ true → value_of fields tag ≡ None
value_of-outside [] tag outside header = refl
value_of-outside (f ∷ fields) tag outside header =
    let parts = and_parts (not (is_header_tag f.tag)) (are_outside fields) outside in
    let here = not-true (is_header_tag f.tag) parts.0 in
    let other = false_from_ne_true (f.tag == tag) (λ same. apart f.tag tag (eqb-true f.tag tag same) here header) in
    rw (other, value_of-outside fields tag parts.1 header) refl
