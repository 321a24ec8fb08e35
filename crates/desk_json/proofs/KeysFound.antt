-- The first key of an object that a test finds.
use Rattle.std.proofs.Common.{◌≡◌, ℕ, List, [], ◌∷◌, Bool, true, false, cond, refl}
use Rattle.std.specs.Prelude.{Option, Some, find, string_bytes, String}
use Rattle.std.specs.Option.{option_map}
use Rattle.std.specs.Map as map
use Rattle.std.specs.declared.alloc.Global.{Global}
use Rattle.serde_json.specs.View.{members_view}
use Rattle.serde_json.specs.declared.value.Value.{Value}
use Rattle.desk_json.specs.Leg.{keys_of}

step : (found : Bool) (key : String Global) (later : Option (List ℕ)) (rest : Option (String Global))
    → later ≡ option_map string_bytes rest
    → cond found (Some (string_bytes key)) later ≡ option_map string_bytes (cond found (Some key) rest)
step true key later rest is = refl
step false key later rest is = is

-- what is found among the keys is found among the texts that they are
pub found_key : (test : List ℕ → Bool) (members : List (String Global × Value))
    → find test (keys_of (members_view members))
    ≡ option_map string_bytes (find (λ key. test (string_bytes key)) (map.keys_of members))
found_key test [] = refl
found_key test (member ∷ members) =
    step (test (string_bytes member.0)) member.0 (find test (keys_of (members_view members)))
    (find (λ key. test (string_bytes key)) (map.keys_of members)) (found_key test members)
