-- The header of a message that is being read (FIX 4.4 Volume 2, "Standard Message Header"), as far as the marks.
use Rattle.std.specs.Prelude.{◌≡◌, ℕ, ◌≤◌, List, Some, filter}
use Rattle.std.specs.Option.{option_map}
use Rattle.fix_text.specs.FrameFields.{fields_in}
use Rattle.fix_text.specs.Tagged.{Tagged, value_of}
use Rattle.fix_tags.specs.App.{is_app_tag}
use Rattle.fix_tags.specs.CompId.{IsCompId}
use Rattle.fix_tags.specs.declared.header_fields.HeaderFields.{HeaderFields}
use Rattle.fix_tags.specs.Readable.{IsShortText}

-- the kind is that of the fields, and each part is in its range
pub record IsHeader (kind sender target : List ℕ) (number : ℕ) (fields : List Tagged) : Type 0 where
  pub kind_there : value_of fields 35 ≡ Some kind
  pub kind_short : IsShortText 8 kind
  pub sender_is : IsCompId sender
  pub target_is : IsCompId target
  pub number_from : 1 ≤ number
  pub number_to : number ≤ 999_999_998

-- the values are the first of their tags, and the application's fields are all in what is left
pub record IsFoundIn (header : HeaderFields) (fields : List Tagged) : Type 0 where
  pub kind : option_map (λ v. v.now) header.kind ≡ value_of fields 35
  pub sender : option_map (λ v. v.now) header.sender ≡ value_of fields 49
  pub target : option_map (λ v. v.now) header.target ≡ value_of fields 56
  pub number : option_map (λ v. v.now) header.number ≡ value_of fields 34
  pub sending_time : option_map (λ v. v.now) header.sending_time ≡ value_of fields 52
  pub poss_dup : option_map (λ v. v.now) header.poss_dup ≡ value_of fields 43
  pub poss_resend : option_map (λ v. v.now) header.poss_resend ≡ value_of fields 97
  pub left : filter (λ f. is_app_tag f.tag) (fields_in header.left) ≡ filter (λ f. is_app_tag f.tag) fields
