-- The legs that the words of a line ask for.
use Rattle.std.specs.Prelude.{ℕ, List, [], ◌∷◌, codes, Option, Some, None, position, Result, Ok, Err, if◌then◌else◌}
use Rattle.std.specs.Str.{bytes_eq}
use Rattle.fix_tags.specs.Digits.{within}
use Rattle.fix_tags.specs.Number.{number_of}
use Rattle.fix_tags.specs.Price.{price_of}
use Rattle.leg.specs.declared.side.Side.{Side}
use Rattle.leg.specs.declared.side.Side.TheVariants.{Buy, Sell}
use Rattle.leg.specs.declared.sweep.Routed.{Routed}
use Rattle.leg.specs.Symbol.{SymbolParts}
use Rattle.leg.specs.Terms.{TermsParts, terms_of}
use Rattle.std.specs.Result.{result_ok}
use Rattle.dialect.specs.JoinedSymbol.{joined_symbol_of}
use Rattle.desk_words.specs.Printable.{shown}
use Rattle.sweep_text.specs.declared.line_fault.LineFault.{LineFault}
use Rattle.sweep_text.specs.declared.line_fault.LineFault.TheVariants.{Extra, Short, NoVenue, BadSymbol, BadSide, BadShares, BadPrice}
use Rattle.std.specs.Prelude.{option_and_then}

-- one step behind another, where the first found no fault
abbrev pub and_then : {A B E : Type 0} → Result A E → (A → Result B E) → Result B E
and_then (Ok a) next = next a
and_then (Err fault) next = Err fault

-- what an answer's value is
abbrev pub result_map : {A B E : Type 0} → (A → B) → Result A E → Result B E
result_map f (Ok a) = Ok (f a)
result_map f (Err fault) = Err fault

-- what was read, or a fault where nothing was
abbrev pub or_fault : {A E : Type 0} → E → Option A → Result A E
or_fault fault None = Err fault
or_fault fault (Some a) = Ok a

-- the venue of a name, by its place
abbrev pub venue_in : List (List ℕ) → List ℕ → Result ℕ LineFault
venue_in names word = or_fault (NoVenue (shown 200 word)) (position (λ name. bytes_eq name word) names)

abbrev pub symbol_in : List ℕ → Result SymbolParts LineFault
symbol_in word = or_fault (BadSymbol (shown 200 word)) (joined_symbol_of 46 word)

abbrev pub side_in : List ℕ → Result Side LineFault
side_in word =
    if bytes_eq word (codes "buy") then Ok Buy
    else (if bytes_eq word (codes "sell") then Ok Sell else Err (BadSide (shown 200 word)))

-- digits, of a value from 1 to 1,000,000
abbrev pub shares_in : List ℕ → Result ℕ LineFault
shares_in word = or_fault (BadShares (shown 200 word)) (option_and_then (within 1 1_000_000) (number_of word))

-- a price in dollars
abbrev pub price_in : List ℕ → Result ℕ LineFault
price_in word = or_fault (BadPrice (shown 200 word)) (price_of word)

-- what a leg buys or sells
unfoldable pub terms_in : List ℕ → List ℕ → List ℕ → List ℕ → Result TermsParts LineFault
terms_in symbol side shares price =
    and_then (symbol_in symbol) (λ parts. and_then (side_in side) (λ which.
    and_then (shares_in shares) (λ n. and_then (price_in price) (λ limit.
    or_fault (BadPrice (shown 200 price)) (result_ok (terms_of parts which n limit))))))

-- the leg of five words
unfoldable pub leg_of : List (List ℕ) → List ℕ → List ℕ → List ℕ → List ℕ → List ℕ → Result Routed LineFault
leg_of names venue symbol side shares price =
    and_then (venue_in names venue) (λ at. and_then (terms_in symbol side shares price) (λ terms.
    Ok (record { venue = at; terms = terms })))

-- a leg before others
abbrev pub before : Result Routed LineFault → Result (List Routed) LineFault → Result (List Routed) LineFault
before leg legs = and_then leg (λ first. and_then legs (λ rest. Ok (first ∷ rest)))

-- the legs, parted by `+`, or the first fault
abbrev pub legs_of : List (List ℕ) → List (List ℕ) → Result (List Routed) LineFault
legs_of names (v ∷ symbol ∷ side ∷ shares ∷ price ∷ []) = before (leg_of names v symbol side shares price) (Ok [])
legs_of names (v ∷ symbol ∷ side ∷ shares ∷ price ∷ plus ∷ words) =
    before (leg_of names v symbol side shares price)
    (if bytes_eq plus (codes "+") then legs_of names words else Err (Extra (shown 200 plus)))
legs_of names _ = Err Short

-- behind a leg: nothing, or `+` and more legs
abbrev pub more_legs : List (List ℕ) → List (List ℕ) → Result (List Routed) LineFault
more_legs names [] = Ok []
more_legs names (plus ∷ words) =
    if bytes_eq plus (codes "+") then legs_of names words else Err (Extra (shown 200 plus))

-- a leg that was read, before those of the words behind it
abbrev pub leg_then : List (List ℕ) → Result Routed LineFault → List (List ℕ) → Result (List Routed) LineFault
leg_then names leg words = before leg (more_legs names words)
