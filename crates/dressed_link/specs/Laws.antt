-- What is said of dressed frames beside how they are made.
use Rattle.std.specs.Prelude.{◌≡◌, Bool, true, false, ◌&&◌, ℕ, List, [], ◌∷◌, ◌++◌}
use Rattle.std.specs.List.{list_all}
use Rattle.fix_text.specs.Tagged.{Tagged}
use Rattle.fix_text.specs.Text.{is_writable_tag, is_writable_value}
use Rattle.fix_text.specs.Grammar.{IsValidFrame}
use Rattle.fix_tags.specs.App.{is_header_tag}
use Rattle.fix_tags.specs.Dress.{Dress}
use Rattle.dressed_link.specs.Dressing.{dressed_fields, last_fields}
use Rattle.dressed_link.specs.Fronts.{Dressed}

-- a field that a frame can be written with
abbrev pub can_be_written : Tagged → Bool
can_be_written f = is_writable_tag f.tag && is_writable_value f.value

-- a dress that a frame can be written with
abbrev pub can_be_put_on : Dress → Bool
can_be_put_on d = list_all can_be_written d.header && list_all can_be_written d.logon

-- whether fields begin with one of the header
abbrev pub begins_with_header : List Tagged → Bool
begins_with_header [] = false
begins_with_header (f ∷ fields) = is_header_tag f.tag

-- of the fields of a message all stand where they stood, the dress behind the header and behind the last one
pub record ArePutBetween (d : Dress) (fields : List Tagged) : Type 0 where
  pub header : List Tagged
  pub body : List Tagged
  pub fields_are : fields ≡ header ++ body
  pub all_header : list_all (λ f. is_header_tag f.tag) header ≡ true
  pub no_header : begins_with_header body ≡ false
  pub dressed_are : dressed_fields d fields ≡ header ++ (d.header ++ (body ++ last_fields d fields))

-- a valid frame stood at the front, and what was made of it is one
pub record IsValidAgain (d : Dress) (bytes : List ℕ) (dressed : Dressed) : Type 0 where
  pub fields : List Tagged
  pub frame : List ℕ
  pub bytes_are : bytes ≡ frame ++ dressed.rest
  pub valid : IsValidFrame frame fields
  pub valid_again : IsValidFrame dressed.text (dressed_fields d fields)
