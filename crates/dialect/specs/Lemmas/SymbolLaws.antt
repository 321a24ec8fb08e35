-- Lemmas: a symbol in one text is read from its one spelling, and from nothing else.
use Rattle.std.proofs.Common.{◌≡◌, ℕ, ◌<◌, List, [], ◌∷◌, ◌++◌, Option, Some, None, Result, Ok, Err, refl, sym, ap, ap₂, ◌∙◌, arith}
use Rattle.std.specs.List.{All}
use Rattle.std.specs.Result.{result_ok}
use Rattle.std.proofs.lemmas.Bool.Decides.{nat_tests}
use Rattle.std.proofs.lemmas.List.{append-nil}
use Rattle.fix_text.specs.Tagged.{Tagged, value_of}
use Rattle.leg.specs.declared.fault.LegFault.{LegFault}
use Rattle.leg.specs.Symbol.{SymbolParts, IsLetter, IsSymbol, symbol_of, suffix_text, joined_text}
use Rattle.leg.proofs.InRange.{symbol_of-parts, symbol_of-Ok}
use Rattle.dialect.specs.Fields.{required_as, field, AreIn}
use Rattle.dialect.specs.Lemmas.StepLaws.{required_as-Ok}
use Rattle.dialect.specs.Split.{parts_round}
use Rattle.dialect.specs.Lemmas.SplitLaws.{HasNo, parts_round-joined, parts_round-none, parts_round-Some}
use Rattle.dialect.specs.JoinedSymbol.{joined_symbol_of, symbol_of_parts}

no_separator : (separator : ℕ) (text : List ℕ) → separator < 65 → All IsLetter text → HasNo separator text
no_separator separator text low letters = λ k d within. let letter = letters k d within in grind (arith, nat_tests)

-- by whether there is a suffix
joined_by : (separator : ℕ) (root suffix : List ℕ) (symbol : SymbolParts) → HasNo separator root
    → symbol_of root suffix ≡ Ok symbol
    → symbol_of_parts (root ++ suffix_text separator suffix)
    (parts_round separator (root ++ suffix_text separator suffix)) ≡ Some symbol
joined_by separator root [] symbol none is =
    rw (append-nil root, parts_round-none separator root none, is) refl
joined_by separator root (c ∷ cs) symbol none is =
    rw (parts_round-joined separator root (c ∷ cs) none, is) refl

-- for each separator that is no letter
pub joined_symbol_of-text : (separator : ℕ) (symbol : SymbolParts) → separator < 65 → IsSymbol symbol
    → joined_symbol_of separator (joined_text separator symbol) ≡ Some symbol
unfolding joined_symbol_of
joined_symbol_of-text separator symbol low range =
    joined_by separator symbol.root symbol.suffix symbol (no_separator separator symbol.root low range.root.letters)
    (symbol_of-parts symbol range)

-- in the one field of a symbol
pub joined_symbol_back : (separator : ℕ) (symbol : SymbolParts) (fields : List Tagged) → separator < 65
    → IsSymbol symbol → value_of fields 55 ≡ Some (joined_text separator symbol)
    → required_as (joined_symbol_of separator) fields 55 ≡ Ok symbol
joined_symbol_back separator symbol fields low range there =
    rw (there, joined_symbol_of-text separator symbol low range) refl

pub was_ok : (r : Result SymbolParts LegFault) (symbol : SymbolParts) → result_ok r ≡ Some symbol → r ≡ Ok symbol
was_ok (Ok s) symbol e = cc
was_ok (Err fault) symbol e = cc

-- the text of a symbol of these parts
made_of : (separator : ℕ) (root suffix : List ℕ) (symbol : SymbolParts)
    → result_ok (symbol_of root suffix) ≡ Some symbol
    → joined_text separator symbol ≡ root ++ suffix_text separator suffix
made_of separator root suffix symbol e =
    let made = symbol_of-Ok root suffix symbol (was_ok _ symbol e) in
    ap₂ (λ xs ys. xs ++ suffix_text separator ys) made.root_is made.suffix_is

by_parts : (separator : ℕ) (text : List ℕ) (symbol : SymbolParts) (o : Option (List ℕ × List ℕ))
    → parts_round separator text ≡ o → symbol_of_parts text o ≡ Some symbol → joined_text separator symbol ≡ text
by_parts separator text symbol None round e = made_of separator text [] symbol e ∙ append-nil text
by_parts separator text symbol (Some (root, [])) round e = cc
by_parts separator text symbol (Some (root, c ∷ cs)) round e =
    made_of separator root (c ∷ cs) symbol e ∙ sym (parts_round-Some separator text (root, c ∷ cs) round)

-- what is read is what is written
pub joined_symbol_of-Some : (separator : ℕ) (text : List ℕ) (symbol : SymbolParts)
    → joined_symbol_of separator text ≡ Some symbol → joined_text separator symbol ≡ text
unfolding joined_symbol_of
joined_symbol_of-Some separator text symbol e = by_parts separator text symbol (parts_round separator text) refl e

-- in the one field of a symbol
pub joined_symbol_says : (separator : ℕ) (symbol : SymbolParts) (fields : List Tagged)
    → required_as (joined_symbol_of separator) fields 55 ≡ Ok symbol
    → AreIn fields (field 55 (joined_text separator symbol) ∷ [])
joined_symbol_says separator symbol fields e =
    let read = required_as-Ok (joined_symbol_of separator) fields 55 symbol e in
    (read.there ∙ ap Some (sym (joined_symbol_of-Some separator read.text symbol read.reads_as)), tt)
