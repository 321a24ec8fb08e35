-- A symbol as it is spelled: its bytes, its length, and that its root and its suffix are found again.
use Rattle.std.proofs.Common.{◌≡◌, ◌⊎◌, ℕ, ◌<◌, ◌≤◌, ◌+◌, suc, add-one, true, false, ◌==◌, List, [], ◌∷◌, ◌++◌, length, get_or, take, drop, inl, inr, refl, sym, arith, length-append, ◌∙◌, ap, subst}
use Rattle.std.specs.List.{All, before_first, after_first, position_or_len}
use Rattle.std.proofs.lemmas.Bool.Decides.{nat_tests}
use Rattle.std.proofs.lemmas.List.Sums.{position_or_len_is}
use Rattle.std.proofs.Math.ListN.{get_or-append}
use Rattle.std.proofs.Math.Seq.{take-append_seam, get_or-append_seam}
use Rattle.std.proofs.lemmas.List.Elements.{All-nil, All-cons, All-append}
use Rattle.leg.specs.Symbol.{SymbolParts, IsLetter, IsSymbol, suffix_text, joined_text}

-- a byte is a letter A to Z or the separator
abbrev pub IsSymbolByte : ℕ → ℕ → Type 0
IsSymbolByte separator c = (c ≡ separator) ⊎ IsLetter c

letters_only : (separator : ℕ) (text : List ℕ) → All IsLetter text → All (IsSymbolByte separator) text
letters_only separator text letters = λ k d within. inr (letters k d within)

suffix_bytes : (separator : ℕ) (suffix : List ℕ) → All IsLetter suffix → All (IsSymbolByte separator) (suffix_text separator suffix)
suffix_bytes separator [] letters = All-nil (IsSymbolByte separator)
suffix_bytes separator (c ∷ cs) letters =
    All-cons (IsSymbolByte separator) separator (c ∷ cs) (inl refl) (letters_only separator (c ∷ cs) letters)

-- only letters A to Z and the separator
pub symbol_bytes : (separator : ℕ) (symbol : SymbolParts) → IsSymbol symbol → All (IsSymbolByte separator) (joined_text separator symbol)
symbol_bytes separator symbol range =
    All-append (IsSymbolByte separator) symbol.root (suffix_text separator symbol.suffix)
    (letters_only separator symbol.root range.root.letters)
    (suffix_bytes separator symbol.suffix range.suffix.letters)

length-suffix_text : (separator : ℕ) (suffix : List ℕ) → length (suffix_text separator suffix) ≤ length suffix + 1
length-suffix_text separator [] = omega arith
length-suffix_text separator (c ∷ cs) = omega arith

-- 1 to 10 bytes
pub record IsSymbolLength (text : List ℕ) : Type 0 where
  pub some : 1 ≤ length text
  pub short : length text ≤ 10

pub length-joined_text : (separator : ℕ) (symbol : SymbolParts) → IsSymbol symbol → IsSymbolLength (joined_text separator symbol)
length-joined_text separator symbol range =
    let suffix = length-suffix_text separator symbol.suffix in
    let whole = length-append symbol.root (suffix_text separator symbol.suffix) in
    record { some = omega arith; short = omega arith }

no_separator : (separator : ℕ) (text : List ℕ) → separator < 65 → All IsLetter text → (k : ℕ) → k < length text → (get_or text k 0 == separator) ≡ false
no_separator separator text low letters k within =
    let letter = letters k 0 within in grind (arith, nat_tests)

at_separator : (separator : ℕ) (root suffix : List ℕ) → length root < length (root ++ suffix_text separator suffix) → (get_or (root ++ suffix_text separator suffix) (length root) 0 == separator) ≡ true
at_separator separator root [] inside = absurd (omega (arith, length-append root []))
at_separator separator root (c ∷ cs) inside =
    let seam = get_or-append_seam root separator (c ∷ cs) 0 in grind (arith, nat_tests)

-- the first separator follows the root
pub separator_at : (separator : ℕ) (symbol : SymbolParts) → separator < 65 → IsSymbol symbol → position_or_len (λ b. b == separator) (joined_text separator symbol) ≡ length symbol.root
separator_at separator symbol low range =
    let whole = length-append symbol.root (suffix_text separator symbol.suffix) in
    position_or_len_is
    (λ b. b == separator)
    (joined_text separator symbol)
    (length symbol.root)
    0
    (omega arith)
    (λ k below. subst (λ c. (c == separator) ≡ false)
    (sym (get_or-append symbol.root (suffix_text separator symbol.suffix) 0 k below))
    (no_separator separator symbol.root low range.root.letters k below))
    (at_separator separator symbol.root symbol.suffix)

-- what stands before the first separator is the root
pub root_before : (separator : ℕ) (symbol : SymbolParts) → separator < 65 → IsSymbol symbol → before_first (λ b. b == separator) (joined_text separator symbol) ≡ symbol.root
root_before separator symbol low range =
    ap (λ n. take n (joined_text separator symbol)) (separator_at separator symbol low range)
    ∙ take-append_seam symbol.root (suffix_text separator symbol.suffix)

behind_seam : (separator : ℕ) (root suffix : List ℕ) → drop (suc (length root)) (root ++ suffix_text separator suffix) ≡ suffix
behind_seam separator [] [] = refl
behind_seam separator [] (c ∷ cs) = refl
behind_seam separator (x ∷ root) suffix = behind_seam separator root suffix

-- what stands after the first separator is the suffix
pub suffix_after : (separator : ℕ) (symbol : SymbolParts) → separator < 65 → IsSymbol symbol → after_first (λ b. b == separator) (joined_text separator symbol) ≡ symbol.suffix
suffix_after separator symbol low range =
    ap (λ n. drop (n + 1) (joined_text separator symbol)) (separator_at separator symbol low range)
    ∙ ap (λ n. drop n (joined_text separator symbol)) (add-one (length symbol.root))
    ∙ behind_seam separator symbol.root symbol.suffix

-- two symbols that are spelled alike are one symbol
pub joined_text_injective : (separator : ℕ) (a b : SymbolParts) → separator < 65 → IsSymbol a → IsSymbol b → joined_text separator a ≡ joined_text separator b → a ≡ b
joined_text_injective separator a b low in_a in_b e =
    let root : a.root ≡ b.root = sym (root_before separator a low in_a) ∙ ap (before_first (λ c. c == separator)) e ∙ root_before separator b low in_b in
    let suffix : a.suffix ≡ b.suffix = sym (suffix_after separator a low in_a) ∙ ap (after_first (λ c. c == separator)) e ∙ suffix_after separator b low in_b in
    λ i. record { root = root i; suffix = suffix i }
