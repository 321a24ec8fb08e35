-- The symbol of a security: a root and, where there is one, a suffix.
use Rattle.std.specs.Prelude.{ℕ, ◌≤◌, Bool, ◌&&◌, nat_le, List, [], ◌∷◌, ◌++◌, length, Result, Ok, Err, if◌then◌else◌}
use Rattle.std.specs.Char.{is_ascii_uppercase}
use Rattle.std.specs.List.{All, list_all}
use Rattle.leg.specs.declared.fault.LegFault.{LegFault}
use Rattle.leg.specs.declared.fault.LegFault.TheVariants.{BadSymbol}

-- the parts of a symbol
pub record SymbolParts : Type 0 where
  pub root : List ℕ
  pub suffix : List ℕ

-- whether a byte is a letter A to Z
abbrev pub is_letter : ℕ → Bool
is_letter c = is_ascii_uppercase c

-- a byte is a letter A to Z
pub record IsLetter (c : ℕ) : Type 0 where
  pub from_a : 65 ≤ c
  pub to_z : c ≤ 90

-- whether a text is 1 to 6 letters
abbrev pub is_root : List ℕ → Bool
is_root text = nat_le 1 (length text) && nat_le (length text) 6 && list_all is_letter text

-- a text is 1 to 6 letters
pub record IsRoot (text : List ℕ) : Type 0 where
  pub some : 1 ≤ length text
  pub short : length text ≤ 6
  pub letters : All IsLetter text

-- whether a text is at most 3 letters
abbrev pub is_suffix : List ℕ → Bool
is_suffix text = nat_le (length text) 3 && list_all is_letter text

-- a text is at most 3 letters
pub record IsSuffix (text : List ℕ) : Type 0 where
  pub short : length text ≤ 3
  pub letters : All IsLetter text

-- whether both parts of a symbol are in range
abbrev pub is_symbol : SymbolParts → Bool
is_symbol symbol = is_root symbol.root && is_suffix symbol.suffix

-- both parts of a symbol are in range
pub record IsSymbol (symbol : SymbolParts) : Type 0 where
  pub root : IsRoot symbol.root
  pub suffix : IsSuffix symbol.suffix

-- the symbol of a root and a suffix, where both are in range
abbrev pub symbol_of : List ℕ → List ℕ → Result SymbolParts LegFault
symbol_of root suffix =
    let parts : SymbolParts = record { root = root; suffix = suffix } in
    if is_symbol parts then Ok parts else Err BadSymbol

-- the suffix behind a separator, where it has letters
abbrev pub suffix_text : ℕ → List ℕ → List ℕ
suffix_text separator [] = []
suffix_text separator (c ∷ cs) = separator ∷ c ∷ cs

-- the root and, where there is one, the suffix behind a separator
abbrev pub joined_text : ℕ → SymbolParts → List ℕ
joined_text separator symbol = symbol.root ++ suffix_text separator symbol.suffix

-- the symbol as it is printed, as `BRK.B`, or `IBM` with no suffix
abbrev pub symbol_text : SymbolParts → List ℕ
symbol_text symbol = joined_text 46 symbol
