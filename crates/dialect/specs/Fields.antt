-- Reading and writing one field, with its fault.
use Rattle.std.specs.Prelude.{ℕ, Bool, true, false, ◌&&◌, not, ◌==◌, List, [], ◌∷◌, ◌++◌, ◌≡◌, Option, Some, Result}
use Rattle.std.specs.List.{AllByRecursion, list_all}
use Rattle.std.specs.Option.{ok_or, option_map_or}
use Rattle.std.specs.Str.{bytes_eq}
use Rattle.fix_text.specs.Then.{◌>>=◌}
use Rattle.fix_text.specs.Tagged.{Tagged, value_of}
pub use Rattle.fix_tags.specs.Message.{field}
use Rattle.dialect.specs.declared.fault.DialectFault.{DialectFault}
use Rattle.dialect.specs.declared.fault.DialectFault.TheVariants.{Missing, Bad}

-- the value of a field that must be there
abbrev pub required : List Tagged → ℕ → Result (List ℕ) DialectFault
required fields tag = ok_or (value_of fields tag) (Missing tag)

-- what the value of a field that must be there reads as
abbrev pub required_as : {A : Type 0} → (List ℕ → Option A) → List Tagged → ℕ → Result A DialectFault
required_as reads fields tag = required fields tag >>= λ text. ok_or (reads text) (Bad tag)

-- a field is there, and its value reads as this
pub record ReadsAs {A : Type 0} (reads : List ℕ → Option A) (fields : List Tagged) (tag : ℕ) (x : A) : Type 0 where
  pub text : List ℕ
  pub there : value_of fields tag ≡ Some text
  pub reads_as : reads text ≡ Some x

-- whether a field is there and passes a test
abbrev pub has_value : (List ℕ → Bool) → List Tagged → ℕ → Bool
has_value test fields tag = option_map_or test (value_of fields tag) false

-- whether a text is this one
abbrev pub is_text : List ℕ → List ℕ → Bool
is_text text other = bytes_eq other text

-- new is old with some fields behind it
abbrev pub IsGrown : List Tagged → List Tagged → Type 0
IsGrown old new = (more : List Tagged) × (new ≡ old ++ more)

-- no field of the list has this tag
abbrev pub has_no : ℕ → List Tagged → Bool
has_no tag fields = list_all (λ f. not (tag == f.tag)) fields

-- no tag stands twice
abbrev pub has_each_once : List Tagged → Bool
has_each_once [] = true
has_each_once (first ∷ fields) = has_no first.tag fields && has_each_once fields

-- each field is the first of its tag in this list
abbrev pub AreIn : List Tagged → List Tagged → Type 0
AreIn fields expected = AllByRecursion (λ f. value_of fields f.tag ≡ Some f.value) expected
