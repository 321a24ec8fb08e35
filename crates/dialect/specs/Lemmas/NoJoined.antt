-- Lemmas: no spelling joins a root and a suffix with nothing between them.
use Rattle.std.proofs.Common.{◌≡◌, ℕ, ◌≤◌, List, [], ◌∷◌, ◌++◌, length, codes, Some, Ok, Result, refl, sym, ap, ◌∙◌, arith}
use Rattle.std.specs.List.{All}
use Rattle.std.proofs.lemmas.List.Elements.{All-nil, All-cons}
use Rattle.fix_text.specs.Tagged.{Tagged, value_of}
use Rattle.leg.specs.Symbol.{SymbolParts, IsLetter, IsRoot, IsSuffix, IsSymbol}
use Rattle.dialect.specs.declared.fault.DialectFault.{DialectFault}
use Rattle.dialect.specs.Fields.{field}
use Rattle.dialect.specs.Spelling.{SpellingParts, IsSpelling}

-- the symbol is in 55 alone, the suffix right behind the root
abbrev pub JoinsNothing : SpellingParts → Type 0
JoinsNothing s = (symbol : SymbolParts) → s.symbol_fields symbol ≡ field 55 (symbol.root ++ symbol.suffix) ∷ []

-- AB with the suffix C, and ABC
ab_c : SymbolParts
ab_c = record { root = 65 ∷ 66 ∷ []; suffix = 67 ∷ [] }

abc : SymbolParts
abc = record { root = 65 ∷ 66 ∷ 67 ∷ []; suffix = [] }

letter : (c : ℕ) → 65 ≤ c → c ≤ 90 → IsLetter c
letter c low high = record { from_a = low; to_z = high }

none : All IsLetter []
none = All-nil IsLetter

only_c : All IsLetter (67 ∷ [])
only_c = All-cons IsLetter 67 [] (letter 67 (omega arith) (omega arith)) none

ab_is : IsSymbol ab_c
unfolding ab_c
ab_is = record {
  root = record {
    some = omega arith;
    short = omega arith;
    letters = All-cons IsLetter 65 (66 ∷ []) (letter 65 (omega arith) (omega arith))
        (All-cons IsLetter 66 [] (letter 66 (omega arith) (omega arith)) none);
  };
  suffix = record { short = omega arith; letters = only_c };
}

abc_is : IsSymbol abc
unfolding abc
abc_is = record {
  root = record {
    some = omega arith;
    short = omega arith;
    letters = All-cons IsLetter 65 (66 ∷ 67 ∷ []) (letter 65 (omega arith) (omega arith))
        (All-cons IsLetter 66 (67 ∷ []) (letter 66 (omega arith) (omega arith)) only_c);
  };
  suffix = record { short = omega arith; letters = none };
}

same : (a b : SymbolParts) (r : Result SymbolParts DialectFault) → r ≡ Ok a → r ≡ Ok b → a ≡ b
same a b r p q = cc

pub no_joined : (s : SpellingParts) → IsSpelling s → JoinsNothing s → ⊥
unfolding ab_c abc
no_joined s laws joins =
    let fields : List Tagged = field 55 (65 ∷ 66 ∷ 67 ∷ []) ∷ [] in
    let first = laws.symbol_reads_back ab_c fields ab_is (ap (λ fs. value_of fs 55) (sym (joins ab_c)))
    (ap (λ fs. value_of fs 65) (sym (joins ab_c))) in
    let second = laws.symbol_reads_back abc fields abc_is (ap (λ fs. value_of fs 55) (sym (joins abc)))
    (ap (λ fs. value_of fs 65) (sym (joins abc))) in
    let sizes : 2 ≡ 3 = ap (λ (x : SymbolParts). length x.root) (same ab_c abc (s.symbol_in fields) first second) in
    absurd (omega (arith, sizes))
