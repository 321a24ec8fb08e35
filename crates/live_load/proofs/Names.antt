-- The name that a text is.
use Rattle.std.proofs.Common.{◌≡◌, ℕ, Bool, true, false, List, Some, None, refl, sym, ◌∙◌}
use Rattle.std.specs.Prelude.{Option, if◌then◌else◌}
use Rattle.desk_words.specs.VenueName.{venue_name_of, is_name}

some_same : (is : Bool) (text name : List ℕ) → (if is then Some text else None) ≡ Some name → name ≡ text
some_same true text name found = sym (cc found)
some_same false text name found = absurd (cc found)

-- a text that is a name is that name
pub named : (text name : List ℕ) → venue_name_of text ≡ Some name → name ≡ text
named text name found = some_same (is_name text) text name found
