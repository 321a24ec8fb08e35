-- Fields that an application message takes, with short values.
use Rattle.std.specs.Prelude.{◌≡◌, ◌≤◌, ℕ, true, ◌&&◌, not, List, length}
use Rattle.fix_text.specs.Tagged.{Tagged}
use Rattle.fix_text.specs.Text.{is_writable_tag, is_writable_value}
use Rattle.fix_tags.specs.App.{is_header_tag}

-- a value that can be written, of at most 32 bytes
pub record IsShortValue (value : List ℕ) : Type 0 where
  pub writable : is_writable_value value ≡ true
  pub short : length value ≤ 32

-- a field that every order of a venue carries besides: one that an application message takes, of at most 24 bytes
pub record IsExtraField (f : Tagged) : Type 0 where
  pub tag : (is_writable_tag f.tag && not (is_header_tag f.tag)) ≡ true
  pub writable : is_writable_value f.value ≡ true
  pub short : length f.value ≤ 24

-- a field that an application message takes, with such a value
pub record IsShortField (f : Tagged) : Type 0 where
  pub tag : (is_writable_tag f.tag && not (is_header_tag f.tag)) ≡ true
  pub value : IsShortValue f.value
