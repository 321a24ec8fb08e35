-- The leg that a JSON value asks for.
use Rattle.std.specs.Prelude.{ℕ, ⊤, List, [], ◌∷◌, codes, Option, Some, None, position, find, Result, Ok, Err, not, nat_le, ◌&&◌, if◌then◌else◌}
use Rattle.std.specs.Option.{option_map}
use Rattle.std.specs.Result.{result_ok}
use Rattle.std.specs.Prelude.{option_and_then}
use Rattle.std.specs.Str.{bytes_eq}
use Rattle.serde_json.specs.Data.{Data, Members, no_members, member}
use Rattle.serde_json.specs.Find.{as_number, as_object, as_str, as_u64, get}
use Rattle.fix_tags.specs.Price.{price_of}
use Rattle.leg.specs.Symbol.{SymbolParts}
use Rattle.leg.specs.Terms.{TermsParts, terms_of}
use Rattle.leg.specs.declared.side.Side.{Side}
use Rattle.leg.specs.declared.side.Side.TheVariants as side
use Rattle.leg.specs.declared.sweep.Routed.{Routed}
use Rattle.dialect.specs.JoinedSymbol.{joined_symbol_of}
use Rattle.desk_words.specs.Printable.{shown}
use Rattle.sweep_text.specs.Legs.{and_then, or_fault}
use Rattle.desk_json.specs.Key.{is_leg_key, key_text}
use Rattle.desk_json.specs.declared.key.Key.{Key}
use Rattle.desk_json.specs.declared.key.Key.TheVariants as keys
use Rattle.desk_json.specs.declared.key_fault.KeyFault.{KeyFault}
use Rattle.desk_json.specs.declared.key_fault.KeyFault.TheVariants.{NoObject, Unknown, Missing, NotText, NotNumber, NoVenue, BadSymbol, BadSide, BadShares, BadPrice}

-- the keys of members, in the order of their bytes
abbrev pub keys_of : Members → List (List ℕ)
keys_of no_members = []
keys_of (member key value rest) = key ∷ keys_of rest

-- the first key that a leg doesn't have
abbrev pub other_leg_key : Members → Option (List ℕ)
other_leg_key members = option_map (shown 200) (find (λ key. not (is_leg_key key)) (keys_of members))

-- a fault, where there is such a key
abbrev pub unknown : Option (List ℕ) → Result ⊤ KeyFault
unknown None = Ok tt
unknown (Some key) = Err (Unknown key)

-- a leg is an object with no other keys
abbrev pub only_leg_keys : Data → Result ⊤ KeyFault
only_leg_keys leg = and_then (or_fault NoObject (as_object leg)) (λ members. unknown (other_leg_key members))

-- the value of a key
abbrev pub member_at : Data → Key → Result Data KeyFault
member_at leg key = or_fault (Missing key) (get (key_text key) leg)

-- the text that a key's value has to be
abbrev pub text_in : Data → Key → Result (List ℕ) KeyFault
text_in value key = or_fault (NotText key) (as_str value)

-- the venue of a name, by its place
abbrev pub venue_of : List (List ℕ) → List ℕ → Result ℕ KeyFault
venue_of names word = or_fault (NoVenue (shown 200 word)) (position (λ name. bytes_eq name word) names)

abbrev pub venue_in : List (List ℕ) → Data → Result ℕ KeyFault
venue_in names value = and_then (text_in value keys.Venue) (venue_of names)

abbrev pub symbol_in : Data → Result SymbolParts KeyFault
symbol_in value = and_then (text_in value keys.Symbol)
    (λ word. or_fault (BadSymbol (shown 200 word)) (joined_symbol_of 46 word))

abbrev pub side_of : List ℕ → Result Side KeyFault
side_of word =
    if bytes_eq word (codes "buy") then Ok side.Buy
    else (if bytes_eq word (codes "sell") then Ok side.Sell else Err (BadSide (shown 200 word)))

abbrev pub side_in : Data → Result Side KeyFault
side_in value = and_then (text_in value keys.Side) side_of

-- a whole number from 1 to 1,000,000
abbrev pub shares_of : ℕ → Result ℕ KeyFault
shares_of shares = if nat_le 1 shares && nat_le shares 1_000_000 then Ok shares else Err (BadShares shares)

abbrev pub shares_in : Data → Result ℕ KeyFault
shares_in value = and_then (or_fault NotNumber (option_and_then as_u64 (as_number value))) shares_of

-- a price in dollars, as text
abbrev pub price_in : Data → Result ℕ KeyFault
price_in value = and_then (text_in value keys.Price) (λ word. or_fault (BadPrice (shown 200 word)) (price_of word))

-- what a leg buys or sells
unfoldable pub terms_in : Data → Data → Data → Data → Result TermsParts KeyFault
terms_in symbol side shares price =
    and_then (symbol_in symbol) (λ parts. and_then (side_in side) (λ which.
    and_then (shares_in shares) (λ n. and_then (price_in price) (λ limit.
    or_fault (BadShares n) (result_ok (terms_of parts which n limit))))))

-- the leg of five values
unfoldable pub leg_of : List (List ℕ) → Data → Data → Data → Data → Data → Result Routed KeyFault
leg_of names venue symbol side shares price =
    and_then (venue_in names venue) (λ at. and_then (terms_in symbol side shares price) (λ terms.
    Ok (record { venue = at; terms = terms })))

-- the leg of a value, or its first fault
unfoldable pub leg_in : List (List ℕ) → Data → Result Routed KeyFault
leg_in names leg =
    and_then (only_leg_keys leg) (λ _.
    and_then (member_at leg keys.Venue) (λ venue. and_then (member_at leg keys.Symbol) (λ symbol.
    and_then (member_at leg keys.Side) (λ side. and_then (member_at leg keys.Shares) (λ shares.
    and_then (member_at leg keys.Price) (λ price. leg_of names venue symbol side shares price))))))
