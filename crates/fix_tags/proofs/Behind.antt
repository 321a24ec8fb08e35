-- The fields of an application message among those of a frame, and what is left of these behind the header's.
use Rattle.std.proofs.Common.{◌≡◌, ℕ, Bool, true, false, eqb, List, [], ◌∷◌, None, refl, sym, ap, ◌∙◌}
use Rattle.std.specs.Prelude.{filter}
use Rattle.std.proofs.lemmas.Bool.{eqb-true}
use Rattle.fix_text.specs.Tagged.{Tagged, value_of, left_after}
use Rattle.fix_tags.specs.App.{is_app_tag}

abbrev pub apps : List Tagged → List Tagged
apps fields = filter (λ f. is_app_tag f.tag) fields

app_here : (hit : Bool) (field : Tagged) (fields : List Tagged) (tag : ℕ) → eqb field.tag tag ≡ hit → is_app_tag tag ≡ true
    → value_of (apps fields) tag ≡ value_of fields tag → value_of (apps (field ∷ fields)) tag ≡ value_of (field ∷ fields) tag
app_here true field fields tag is app later =
    let same : is_app_tag field.tag ≡ true = ap is_app_tag (eqb-true field.tag tag is) ∙ app in
    rw (same, is) refl
app_here false field fields tag is app later = app_miss (is_app_tag field.tag) refl where
  app_miss : (kept : Bool) → is_app_tag field.tag ≡ kept → value_of (apps (field ∷ fields)) tag ≡ value_of (field ∷ fields) tag
  app_miss true kept = rw (kept, is) later
  app_miss false kept = rw (kept, is) later

-- a tag of the application has among its fields the value that it has among all
pub app_value : (fields : List Tagged) (tag : ℕ) → is_app_tag tag ≡ true → value_of (apps fields) tag ≡ value_of fields tag
app_value [] tag app = refl
app_value (field ∷ fields) tag app = app_here (eqb field.tag tag) field fields tag refl app (app_value fields tag app)

none_here : (hit kept : Bool) (field : Tagged) (fields : List Tagged) (tag : ℕ) → eqb field.tag tag ≡ hit → is_app_tag field.tag ≡ kept
    → is_app_tag tag ≡ false → value_of (apps fields) tag ≡ None → value_of (apps (field ∷ fields)) tag ≡ None
none_here hit false field fields tag is out header later = rw out later
none_here false true field fields tag is app header later = rw (app, is) later
none_here true true field fields tag is app header later =
    let same : is_app_tag tag ≡ true = sym (ap is_app_tag (eqb-true field.tag tag is)) ∙ app in
    absurd cc

-- and no other tag has one there
pub no_app_value : (fields : List Tagged) (tag : ℕ) → is_app_tag tag ≡ false → value_of (apps fields) tag ≡ None
no_app_value [] tag header = refl
no_app_value (field ∷ fields) tag header =
    none_here (eqb field.tag tag) (is_app_tag field.tag) field fields tag refl refl header (no_app_value fields tag header)

other_here : (hit : Bool) (field : Tagged) (fields : List Tagged) (tag other : ℕ) → eqb field.tag tag ≡ hit → eqb tag other ≡ false
    → value_of (left_after tag (field ∷ fields)) other ≡ value_of (field ∷ fields) other
other_here true field fields tag other is apart =
    let miss : eqb field.tag other ≡ false = ap (λ (t : ℕ). eqb t other) (eqb-true field.tag tag is) ∙ apart in
    rw (is, miss) refl
other_here false field fields tag other is apart = rw is refl

-- another tag has the value that it had
pub other_value : (tag other : ℕ) (fields : List Tagged) → eqb tag other ≡ false → value_of (left_after tag fields) other ≡ value_of fields other
other_value tag other [] apart = refl
other_value tag other (field ∷ fields) apart = other_here (eqb field.tag tag) field fields tag other refl apart

left_here : (hit : Bool) (field : Tagged) (fields : List Tagged) (tag : ℕ) → eqb field.tag tag ≡ hit → is_app_tag tag ≡ false
    → apps (left_after tag (field ∷ fields)) ≡ apps (field ∷ fields)
left_here true field fields tag is header =
    let none : is_app_tag field.tag ≡ false = ap is_app_tag (eqb-true field.tag tag is) ∙ header in
    rw (is, none) refl
left_here false field fields tag is header = rw is refl

-- behind a field of the header the application's fields are the same
pub left_apps : (tag : ℕ) (fields : List Tagged) → is_app_tag tag ≡ false → apps (left_after tag fields) ≡ apps fields
left_apps tag [] header = refl
left_apps tag (field ∷ fields) header = left_here (eqb field.tag tag) field fields tag refl header

-- ---- the header's fields, asked for in their order

module _ (fields : List Tagged) where
  abbrev pub behind_kind : List Tagged
  behind_kind = left_after 35 fields

  abbrev pub behind_sender : List Tagged
  behind_sender = left_after 49 behind_kind

  abbrev pub behind_target : List Tagged
  behind_target = left_after 56 behind_sender

  abbrev pub behind_number : List Tagged
  behind_number = left_after 34 behind_target

  abbrev pub behind_time : List Tagged
  behind_time = left_after 52 behind_number

  abbrev pub behind_poss_dup : List Tagged
  behind_poss_dup = left_after 43 behind_time

  pub sender_value : value_of behind_kind 49 ≡ value_of fields 49
  sender_value = other_value 35 49 fields refl

  pub target_value : value_of behind_sender 56 ≡ value_of fields 56
  target_value = other_value 49 56 behind_kind refl ∙ other_value 35 56 fields refl

  pub number_value : value_of behind_target 34 ≡ value_of fields 34
  number_value = other_value 56 34 behind_sender refl ∙ other_value 49 34 behind_kind refl ∙ other_value 35 34 fields refl

  pub time_value : value_of behind_number 52 ≡ value_of fields 52
  time_value =
      other_value 34 52 behind_target refl ∙ other_value 56 52 behind_sender refl ∙ other_value 49 52 behind_kind refl
      ∙ other_value 35 52 fields refl

  pub poss_dup_value : value_of behind_time 43 ≡ value_of fields 43
  poss_dup_value =
      other_value 52 43 behind_number refl ∙ other_value 34 43 behind_target refl ∙ other_value 56 43 behind_sender refl
      ∙ other_value 49 43 behind_kind refl ∙ other_value 35 43 fields refl

  pub poss_resend_value : value_of behind_poss_dup 97 ≡ value_of fields 97
  poss_resend_value =
      other_value 43 97 behind_time refl ∙ other_value 52 97 behind_number refl ∙ other_value 34 97 behind_target refl
      ∙ other_value 56 97 behind_sender refl ∙ other_value 49 97 behind_kind refl ∙ other_value 35 97 fields refl

  -- the application's fields are all behind the header's
  pub apps_behind : apps (left_after 97 behind_poss_dup) ≡ apps fields
  apps_behind =
      left_apps 97 behind_poss_dup refl ∙ left_apps 43 behind_time refl ∙ left_apps 52 behind_number refl
      ∙ left_apps 34 behind_target refl ∙ left_apps 56 behind_sender refl ∙ left_apps 49 behind_kind refl
      ∙ left_apps 35 fields refl
