-- What holds of dressed frames.
use Rattle.std.proofs.Common.{◌≡◌, ◌==◌, ℕ, zero, suc, ◌≤◌, nat_lt, Bool, true, false, cond, not, IsTrue, ◌&&◌, List, [], ◌∷◌, ◌++◌, length, take, drop, codes, Option, Some, None, refl, sym, ap, ap₂, subst, ◌∙◌, append_assoc, arith}
use Rattle.std.specs.Prelude.{option_and_then}
use Rattle.std.specs.List.{list_all}
use Rattle.std.proofs.lemmas.Bool.{and_parts, eqb-true}
use Rattle.std.proofs.lemmas.List.{append-nil, nil_from_length, take-append-drop}
use Rattle.fix_text.specs.Tagged.{Tagged, value_of}
use Rattle.fix_text.specs.Text.{fields_text, begins_with_type, has_writable_tags, has_writable_values, is_writable_tag, is_writable_value}
use Rattle.fix_text.specs.Frame.{frame_text, frame_refusal}
use Rattle.fix_text.specs.Grammar.{IsValidFrame}
use Rattle.fix_text.specs.declared.fault.TextFault.{TextFault}
use Rattle.fix_text.specs.declared.fault.TextFault.TheVariants.{BadTag, BadValue, TooLong}
use Rattle.fix_text.proofs.FrameTexts.{written_valid}
use Rattle.fix_tags.specs.App.{is_header_tag}
use Rattle.fix_tags.specs.Dress.{Dress, is_header_extra, is_logon_extra}
use Rattle.fix_tags.specs.Reading.{envelope_read}
use Rattle.fix_tags.proofs.Dressed.{header_passed, logon_passed}
use Rattle.dressed_link.specs.Dressing.{header_size, is_logon_kind, last_fields, dressed_fields, dressed_frame, is_bare}
use Rattle.dressed_link.specs.Fronts.{Dressed, dressed_front, front_dressed, unless_refused}
use Rattle.dressed_link.specs.Laws.{can_be_written, can_be_put_on, begins_with_header, ArePutBetween, IsValidAgain}
use Rattle.dressed_link.proofs.Fronts.{dressed_from, front_found}

-- ---- where the fields stand

all_header : (fields : List Tagged) → list_all (λ f. is_header_tag f.tag) (take (header_size fields) fields) ≡ true
all_header [] = refl
all_header (f ∷ fields) = by_tag (is_header_tag f.tag) refl (all_header fields) where
  by_tag : (b : Bool) → is_header_tag f.tag ≡ b
      → list_all (λ f. is_header_tag f.tag) (take (header_size fields) fields) ≡ true
      → list_all (λ f. is_header_tag f.tag) (take (cond b (suc (header_size fields)) 0) (f ∷ fields)) ≡ true
  by_tag true is rest = ap₂ (λ x y. x && y) is rest
  by_tag false is rest = refl

no_header : (fields : List Tagged) → begins_with_header (drop (header_size fields) fields) ≡ false
no_header [] = refl
no_header (f ∷ fields) = by_tag (is_header_tag f.tag) refl (no_header fields) where
  by_tag : (b : Bool) → is_header_tag f.tag ≡ b → begins_with_header (drop (header_size fields) fields) ≡ false
      → begins_with_header (drop (cond b (suc (header_size fields)) 0) (f ∷ fields)) ≡ false
  by_tag true is rest = rest
  by_tag false is rest = is

pub put_between : (d : Dress) (fields : List Tagged) → ArePutBetween d fields
put_between d fields = record {
  header = take (header_size fields) fields;
  body = drop (header_size fields) fields;
  fields_are = sym (take-append-drop (header_size fields) fields);
  all_header = all_header fields;
  no_header = no_header fields;
  dressed_are = refl;
}

-- ---- a bare dress

nothing : (fields : List Tagged) → (length fields == 0) ≡ true → fields ≡ []
nothing fields is = nil_from_length fields (eqb-true (length fields) 0 is)

none_last : (d : Dress) (b : Bool) → d.logon ≡ [] → cond b d.logon [] ≡ []
none_last d true none = none
none_last d false none = refl

pub bare_fields : (d : Dress) (fields : List Tagged) → is_bare d ≡ true → dressed_fields d fields ≡ fields
bare_fields d fields bare =
    let parts = and_parts (length d.header == 0) (length d.logon == 0) bare in
    let size = header_size fields in
    let last : last_fields d fields ≡ [] = none_last d (is_logon_kind (value_of fields 35)) (nothing d.logon parts.1) in
    ap₂ (λ (h l : List Tagged). take size fields ++ (h ++ (drop size fields ++ l))) (nothing d.header parts.0) last
    ∙ ap (λ (l : List Tagged). take size fields ++ l) (append-nil (drop size fields)) ∙ take-append-drop size fields

pub bare_frame : (d : Dress) (fields : List Tagged) → is_bare d ≡ true → dressed_frame d fields ≡ frame_text fields
bare_frame d fields bare = ap frame_text (bare_fields d fields bare)

-- ---- reading

logon_kind : (kind : Option (List ℕ)) → is_logon_kind kind ≡ true → kind ≡ Some (codes "A")
logon_kind None is = cc
logon_kind (Some []) is = cc
logon_kind (Some (c ∷ [])) is = ap (λ (c : ℕ). Some (c ∷ [])) (eqb-true c 65 is)
logon_kind (Some (c ∷ d ∷ ds)) is = cc

last_passed : (d : Dress) (fields : List Tagged) (b : Bool) → is_logon_kind (value_of fields 35) ≡ b
    → list_all is_logon_extra d.logon ≡ true → envelope_read (fields ++ cond b d.logon []) ≡ envelope_read fields
last_passed d fields true is are = logon_passed fields d.logon are (logon_kind (value_of fields 35) is)
last_passed d fields false is are = ap envelope_read (append-nil fields)

pub read_the_same : (d : Dress) (fields : List Tagged) → list_all is_header_extra d.header ≡ true
    → list_all is_logon_extra d.logon ≡ true → envelope_read (dressed_fields d fields) ≡ envelope_read fields
read_the_same d fields header logon =
    let front = take (header_size fields) fields in
    let back = drop (header_size fields) fields in
    header_passed front d.header (back ++ last_fields d fields) header
    ∙ (ap envelope_read (sym (append_assoc front back (last_fields d fields))
    ∙ ap (λ (l : List Tagged). l ++ last_fields d fields) (take-append-drop (header_size fields) fields))
    ∙ last_passed d fields (is_logon_kind (value_of fields 35)) refl logon)

-- ---- writing

-- what a frame can be written with
pub record CanBeWritten (fields : List Tagged) : Type 0 where
  pub tags : IsTrue (has_writable_tags fields)
  pub values : IsTrue (has_writable_values fields)
  pub short : length (fields_text fields) ≤ 4096

by_refusal : (fields : List Tagged) (tags values long : Bool) → has_writable_tags fields ≡ tags
    → has_writable_values fields ≡ values → nat_lt 4096 (length (fields_text fields)) ≡ long
    → cond (not tags) (Some BadTag) (cond (not values) (Some BadValue) (cond long (Some TooLong) None)) ≡ None
    → CanBeWritten fields
by_refusal fields false values long t v l none = absurd cc
by_refusal fields true false long t v l none = absurd cc
by_refusal fields true true true t v l none = absurd cc
by_refusal fields true true false t v l none = record { tags = t; values = v; short = within l } where
  within : nat_lt 4096 (length (fields_text fields)) ≡ false → length (fields_text fields) ≤ 4096
  within is = grind (arith, is)

can_be : (fields : List Tagged) → frame_refusal fields ≡ None → CanBeWritten fields
can_be fields none = by_refusal fields _ _ _ refl refl refl none

pub valid_again : (d : Dress) (bytes : List ℕ) (dressed : Dressed) → dressed_front d bytes ≡ Some dressed
    → IsValidAgain d bytes dressed
valid_again d bytes dressed is =
    let from = dressed_from d bytes dressed is in
    let fields = dressed_fields d from.fields in
    let can = can_be fields from.written in
    record {
      fields = from.fields;
      frame = from.text;
      bytes_are = from.bytes_are;
      valid = from.valid;
      valid_again = subst (λ (text : List ℕ). IsValidFrame text fields) (sym from.text_is)
          (written_valid fields can.tags can.values can.short);
    }

-- ---- what is taken

all_of : (P : Tagged → Bool) (xs ys : List Tagged) → list_all P xs ≡ true → list_all P ys ≡ true
    → list_all P (xs ++ ys) ≡ true
all_of P [] ys x y = y
all_of P (f ∷ xs) ys x y =
    let parts = and_parts (P f) (list_all P xs) x in ap₂ (λ a b. a && b) parts.0 (all_of P xs ys parts.1 y)

first_of_all : (P : Tagged → Bool) (n : ℕ) (xs : List Tagged) → list_all P xs ≡ true → list_all P (take n xs) ≡ true
first_of_all P zero xs all = refl
first_of_all P (suc n) [] all = refl
first_of_all P (suc n) (f ∷ xs) all =
    let parts = and_parts (P f) (list_all P xs) all in ap₂ (λ a b. a && b) parts.0 (first_of_all P n xs parts.1)

last_of_all : (P : Tagged → Bool) (n : ℕ) (xs : List Tagged) → list_all P xs ≡ true → list_all P (drop n xs) ≡ true
last_of_all P zero xs all = all
last_of_all P (suc n) [] all = refl
last_of_all P (suc n) (f ∷ xs) all = last_of_all P n xs (and_parts (P f) (list_all P xs) all).1

last_all : (P : Tagged → Bool) (d : Dress) (b : Bool) → list_all P d.logon ≡ true → list_all P (cond b d.logon []) ≡ true
last_all P d true all = all
last_all P d false all = refl

-- what holds of each field, and of each that is put on, holds of each dressed one
all_dressed : (P : Tagged → Bool) (d : Dress) (fields : List Tagged) → list_all P fields ≡ true
    → list_all P d.header ≡ true → list_all P d.logon ≡ true → list_all P (dressed_fields d fields) ≡ true
all_dressed P d fields own header logon =
    let size = header_size fields in
    all_of P (take size fields) _ (first_of_all P size fields own)
    (all_of P d.header _ header
    (all_of P (drop size fields) _ (last_of_all P size fields own)
    (last_all P d (is_logon_kind (value_of fields 35)) logon)))

typed_still : (d : Dress) (fields : List Tagged) → begins_with_type fields ≡ true
    → begins_with_type (dressed_fields d fields) ≡ true
typed_still d [] typed = cc
typed_still d (f ∷ fields) typed = by_header (is_header_tag f.tag) (ap is_header_tag (eqb-true f.tag 35 typed)) where
  by_header : (b : Bool) → b ≡ true → begins_with_type (take (cond b (suc (header_size fields)) 0) (f ∷ fields)
      ++ (d.header ++ (drop (cond b (suc (header_size fields)) 0) (f ∷ fields) ++ last_fields d (f ∷ fields)))) ≡ true
  by_header true is = typed
  by_header false is = absurd cc

each_tag : (fields : List Tagged) → list_all can_be_written fields ≡ true
    → (list_all (λ f. is_writable_tag f.tag) fields ≡ true) × (list_all (λ f. is_writable_value f.value) fields ≡ true)
each_tag [] all = (refl, refl)
each_tag (f ∷ fields) all =
    let parts = and_parts (can_be_written f) (list_all can_be_written fields) all in
    let first = and_parts (is_writable_tag f.tag) (is_writable_value f.value) parts.0 in
    let rest = each_tag fields parts.1 in
    (ap₂ (λ a b. a && b) first.0 rest.0, ap₂ (λ a b. a && b) first.1 rest.1)

not_refused : (fields : List Tagged) → has_writable_tags fields ≡ true → has_writable_values fields ≡ true
    → length (fields_text fields) ≤ 4096 → frame_refusal fields ≡ None
not_refused fields tags values short =
    let long : nat_lt 4096 (length (fields_text fields)) ≡ false = grind (arith, short) in
    ap (λ t. cond (not t) (Some BadTag) (cond (not (has_writable_values fields)) (Some BadValue)
    (cond (nat_lt 4096 (length (fields_text fields))) (Some TooLong) None))) tags
    ∙ ap₂ (λ v l. cond (not v) (Some BadValue) (cond l (Some TooLong) None)) values long

pub taken_dressed : (d : Dress) (fields : List Tagged) (rest : List ℕ) → can_be_put_on d ≡ true
    → frame_refusal fields ≡ None → length (fields_text (dressed_fields d fields)) ≤ 4096
    → dressed_front d (frame_text fields ++ rest) ≡ Some (record { text = dressed_frame d fields; rest = rest })
taken_dressed d fields rest on written short =
    let can = can_be fields written in
    let own = and_parts (begins_with_type fields) (list_all (λ f. is_writable_tag f.tag) fields) can.tags in
    let parts = and_parts (list_all can_be_written d.header) (list_all can_be_written d.logon) on in
    let header = each_tag d.header parts.0 in
    let logon = each_tag d.logon parts.1 in
    let tags : has_writable_tags (dressed_fields d fields) ≡ true =
    ap₂ (λ a b. a && b) (typed_still d fields own.0)
    (all_dressed (λ f. is_writable_tag f.tag) d fields own.1 header.0 logon.0) in
    let values = all_dressed (λ f. is_writable_value f.value) d fields can.values header.1 logon.1 in
    ap (option_and_then (front_dressed d))
    (front_found (frame_text fields) rest fields (written_valid fields can.tags can.values can.short))
    ∙ ap (λ refusal. unless_refused refusal (record { text = dressed_frame d fields; rest = rest }))
    (not_refused (dressed_fields d fields) tags values short)
