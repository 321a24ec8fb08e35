-- The words that are written of a leg are read as that leg.
use Rattle.std.proofs.Common.{◌≡◌, ◌≢◌, ℕ, ◌<◌, ◌≤◌, cond, ltb, List, [], length, get_or, Some, None, refl, ap, ◌∙◌, arith, decimal}
use Rattle.std.specs.Prelude.{Ok}
use Rattle.std.specs.List.{AllPairs, position_or_len}
use Rattle.std.specs.Str.{bytes_eq}
use Rattle.std.proofs.lemmas.Bool.{false_from_ne_true}
use Rattle.std.proofs.lemmas.Bool.Decides.{nat_tests}
use Rattle.std.proofs.lemmas.List.Sums.{position_or_len_is}
use Rattle.std.proofs.lemmas.Slice.Eq.{bytes_eq-Decides}
use Rattle.fix_tags.specs.Digits.{within}
use Rattle.fix_tags.specs.Price.{price_short}
use Rattle.fix_tags.proofs.ReadBack.{number_of-decimal, price_of-price_short}
use Rattle.leg.specs.Side.{side_text}
use Rattle.leg.specs.Symbol.{SymbolParts, IsSymbol, symbol_text}
use Rattle.leg.specs.Terms.{TermsParts, IsTerms}
use Rattle.leg.proofs.InRange.{terms_of-parts}
use Rattle.leg.specs.declared.side.Side.{Side}
use Rattle.leg.specs.declared.side.Side.TheVariants.{Buy, Sell}
use Rattle.leg.specs.declared.sweep.Routed.{Routed}
use Rattle.dialect.specs.Lemmas.SymbolLaws.{joined_symbol_of-text}
use Rattle.desk_words.specs.Printable.{shown}
use Rattle.sweep_text.specs.declared.line_fault.LineFault.TheVariants.{NoVenue, BadSymbol, BadPrice}
use Rattle.sweep_text.specs.Legs.{or_fault, venue_in, symbol_in, side_in, shares_in, price_in, terms_in, leg_of}
use Rattle.sweep_text.specs.Written.{AreNames, IsNamed, name_of}
use Rattle.sweep_text.proofs.WordsWritten.{name_at}

-- a name that no earlier venue has is found at its place
first_at : (names : List (List ℕ)) (venue : ℕ) → venue < length names → AllPairs (λ one other. one ≢ other) names
    → position_or_len (λ name. bytes_eq name (get_or names venue [])) names ≡ venue
first_at names venue within apart =
    position_or_len_is (λ name. bytes_eq name (get_or names venue [])) names venue [] (omega arith)
    (λ k below. false_from_ne_true _ (λ same. apart k venue [] below within
    ((bytes_eq-Decides (get_or names k []) (get_or names venue [])).0 same)))
    (λ _. (bytes_eq-Decides (get_or names venue []) (get_or names venue [])).1 refl)

there : (n at size : ℕ) → n ≡ at → at < size → cond (ltb n size) (Some n) None ≡ Some at
there n at size same within = grind (arith, nat_tests)

pub venue_back : (names : List (List ℕ)) (venue : ℕ) → AreNames names → venue < length names
    → venue_in names (name_of names venue) ≡ Ok venue
venue_back names venue are within =
    ap (venue_in names) (name_at names venue within)
    ∙ ap (or_fault (NoVenue (shown 200 (get_or names venue []))))
    (there _ venue (length names) (first_at names venue within are.apart) within)

pub symbol_back : (symbol : SymbolParts) → IsSymbol symbol → symbol_in (symbol_text symbol) ≡ Ok symbol
symbol_back symbol range =
    ap (or_fault (BadSymbol (shown 200 (symbol_text symbol)))) (joined_symbol_of-text 46 symbol (omega arith) range)

pub side_back : (side : Side) → side_in (side_text side) ≡ Ok side
side_back Buy = refl
side_back Sell = refl

in_limits : (n : ℕ) → 1 ≤ n → n ≤ 1_000_000 → within 1 1_000_000 n ≡ Some n
in_limits n low high = grind (arith, nat_tests)

pub shares_back : (n : ℕ) → 1 ≤ n → n ≤ 1_000_000 → shares_in (decimal n) ≡ Ok n
shares_back n low high =
    rw (number_of-decimal n (omega arith), in_limits n low high) refl

pub price_back : (price : ℕ) → 1 ≤ price → price ≤ 9_999_999_999 → price_in (price_short price) ≡ Ok price
price_back price low high =
    ap (or_fault (BadPrice (shown 200 (price_short price)))) (price_of-price_short price low high)

pub terms_back : (terms : TermsParts) → IsTerms terms
    → terms_in (symbol_text terms.symbol) (side_text terms.side) (decimal terms.shares) (price_short terms.price)
    ≡ Ok terms
unfolding terms_in
terms_back terms range =
    let shares = shares_back terms.shares range.shares.low range.shares.high in
    let price = price_back terms.price range.price.low range.price.high in
    rw (symbol_back terms.symbol range.symbol, side_back terms.side, shares, price, terms_of-parts terms range) refl

pub leg_back : (names : List (List ℕ)) (leg : Routed) → AreNames names → IsNamed names leg
    → leg_of names (name_of names leg.venue) (symbol_text leg.terms.symbol) (side_text leg.terms.side)
    (decimal leg.terms.shares) (price_short leg.terms.price) ≡ Ok leg
unfolding leg_of
leg_back names leg are is =
    rw (venue_back names leg.venue are is.venue, terms_back leg.terms is.in_range.terms) refl
