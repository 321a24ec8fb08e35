-- The keys of a leg in JSON.
use Rattle.std.specs.Prelude.{ℕ, List, Bool, ◌||◌, codes}
use Rattle.std.specs.Str.{bytes_eq}
use Rattle.desk_json.specs.declared.key.Key.{Key}
use Rattle.desk_json.specs.declared.key.Key.TheVariants.{Venue, Symbol, Side, Shares, Price}

-- a key as it stands in the JSON
abbrev pub key_text : Key → List ℕ
key_text Venue = codes "venue"
key_text Symbol = codes "symbol"
key_text Side = codes "side"
key_text Shares = codes "shares"
key_text Price = codes "price"

-- whether a text is one of the five
abbrev pub is_leg_key : List ℕ → Bool
is_leg_key key =
    bytes_eq key (codes "venue") || bytes_eq key (codes "symbol") || bytes_eq key (codes "side")
    || bytes_eq key (codes "shares") || bytes_eq key (codes "price")
