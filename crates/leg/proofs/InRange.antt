-- The constructors answer `Ok` exactly at parts that are in range.
use Rattle.std.proofs.Common.{◌≡◌, ℕ, Bool, true, false, List, Ok, Err, refl, arith, subst, if◌then◌else◌}
use Rattle.std.specs.List.{All, list_all}
use Rattle.std.proofs.lemmas.Bool.Decides.{nat_tests}
use Rattle.std.proofs.lemmas.List.Sums.{list_all-from_AllPass, AllPass-from_list_all}
use Rattle.leg.specs.declared.fault.LegFault.{LegFault}
use Rattle.leg.specs.declared.fault.LegFault.TheVariants.{BadSymbol, BadShares, BadPrice}
use Rattle.leg.specs.declared.side.Side.{Side}
use Rattle.leg.specs.Symbol.{SymbolParts, IsLetter, IsRoot, IsSuffix, IsSymbol, is_letter, is_root, is_suffix, is_symbol, symbol_of}
use Rattle.leg.specs.Terms.{TermsParts, IsShares, IsPrice, IsTerms, is_shares, is_price, terms_of}

is_letter-true : (c : ℕ) → IsLetter c → is_letter c ≡ true
is_letter-true c letter = grind (arith, nat_tests)

are_letters-true : (text : List ℕ) → All IsLetter text → list_all is_letter text ≡ true
are_letters-true text letters =
    list_all-from_AllPass is_letter text (λ k d within. is_letter-true _ (letters k d within))

is_root-true : (text : List ℕ) → IsRoot text → is_root text ≡ true
is_root-true text range = let letters = are_letters-true text range.letters in grind (arith, nat_tests)

is_suffix-true : (text : List ℕ) → IsSuffix text → is_suffix text ≡ true
is_suffix-true text range = let letters = are_letters-true text range.letters in grind (arith, nat_tests)

-- a symbol in range is made of its parts
pub symbol_of-parts : (symbol : SymbolParts) → IsSymbol symbol → symbol_of symbol.root symbol.suffix ≡ Ok symbol
symbol_of-parts symbol range =
    rw (is_root-true symbol.root range.root) (rw (is_suffix-true symbol.suffix range.suffix) refl)

-- terms in range are made of their parts
pub terms_of-parts : (terms : TermsParts) → IsTerms terms → terms_of terms.symbol terms.side terms.shares terms.price ≡ Ok terms
terms_of-parts terms range = grind (arith, nat_tests)

is_letter-tells : (c : ℕ) → is_letter c ≡ true → IsLetter c
is_letter-tells c e = record { from_a = grind (arith, nat_tests); to_z = grind (arith, nat_tests) }

are_letters-tells : (text : List ℕ) → list_all is_letter text ≡ true → All IsLetter text
are_letters-tells text e =
    let pass = AllPass-from_list_all is_letter text e in λ k d within. is_letter-tells _ (pass k d within)

is_root-tells : (text : List ℕ) → is_root text ≡ true → IsRoot text
is_root-tells text e = record {
  some = grind (arith, nat_tests);
  short = grind (arith, nat_tests);
  letters = are_letters-tells text (grind (arith, nat_tests));
}

is_suffix-tells : (text : List ℕ) → is_suffix text ≡ true → IsSuffix text
is_suffix-tells text e = record {
  short = grind (arith, nat_tests);
  letters = are_letters-tells text (grind (arith, nat_tests));
}

chosen : {T : Type 0} (b : Bool) (x y : T) (e : LegFault) → (if b then Ok x else Err e) ≡ Ok y → (b ≡ true) × (x ≡ y)
chosen true x y e h = (refl, cc)
chosen false x y e h = cc

-- what `symbol_of` makes is in range, and has the parts that were given
pub record IsSymbolOf (root suffix : List ℕ) (symbol : SymbolParts) : Type 0 where
  pub root_is : symbol.root ≡ root
  pub suffix_is : symbol.suffix ≡ suffix
  pub in_range : IsSymbol symbol

pub symbol_of-Ok : (root suffix : List ℕ) (symbol : SymbolParts) → symbol_of root suffix ≡ Ok symbol → IsSymbolOf root suffix symbol
symbol_of-Ok root suffix symbol e =
    let parts : SymbolParts = record { root = root; suffix = suffix } in
    let made = chosen (is_symbol parts) parts symbol BadSymbol e in
    let in_range : IsSymbol parts = record { root = is_root-tells root (grind (arith, nat_tests)); suffix = is_suffix-tells suffix (grind (arith, nat_tests)) } in
    subst (IsSymbolOf root suffix) made.1 (record { root_is = refl; suffix_is = refl; in_range = in_range })

is_shares-tells : (shares : ℕ) → is_shares shares ≡ true → IsShares shares
is_shares-tells shares e = record { low = grind (arith, nat_tests); high = grind (arith, nat_tests) }

is_price-tells : (price : ℕ) → is_price price ≡ true → IsPrice price
is_price-tells price e = record { low = grind (arith, nat_tests); high = grind (arith, nat_tests) }

chosen_twice : (a b : Bool) (x y : TermsParts) → (if a then (if b then Ok x else Err BadPrice) else Err BadShares) ≡ Ok y → (a ≡ true) × (b ≡ true) × (x ≡ y)
chosen_twice true true x y h = (refl, refl, cc)
chosen_twice true false x y h = cc
chosen_twice false b x y h = cc

-- what `terms_of` makes has the parts that were given, and is in range where the symbol is
pub record IsTermsOf (symbol : SymbolParts) (side : Side) (shares price : ℕ) (terms : TermsParts) : Type 0 where
  pub symbol_is : terms.symbol ≡ symbol
  pub side_is : terms.side ≡ side
  pub shares_is : terms.shares ≡ shares
  pub price_is : terms.price ≡ price
  pub in_range : IsTerms terms

pub terms_of-Ok : (symbol : SymbolParts) (side : Side) (shares price : ℕ) (terms : TermsParts) → IsSymbol symbol → terms_of symbol side shares price ≡ Ok terms → IsTermsOf symbol side shares price terms
terms_of-Ok symbol side shares price terms symbol_in e =
    let parts : TermsParts = record { symbol = symbol; side = side; shares = shares; price = price } in
    let made = chosen_twice (is_shares shares) (is_price price) parts terms e in
    let in_range : IsTerms parts = record { symbol = symbol_in; shares = is_shares-tells shares made.0; price = is_price-tells price made.1 } in
    subst (IsTermsOf symbol side shares price) made.2 (record { symbol_is = refl; side_is = refl; shares_is = refl; price_is = refl; in_range = in_range })
