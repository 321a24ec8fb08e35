-- A printable text has no SOH.
use Rattle.std.proofs.Common.{◌≡◌, ℕ, Bool, true, false, nat_le, eqb, List, [], ◌∷◌, length, Some, refl, sym, ap, ◌∙◌, arith, rules, tests}
use Rattle.std.specs.Prelude.{◌&&◌, None, if◌then◌else◌}
use Rattle.std.specs.Char.{is_ascii_graphic}
use Rattle.std.specs.List.{list_all}
use Rattle.std.proofs.lemmas.Bool.{or_from, and_parts}
use Rattle.std.proofs.lemmas.Bool.Decides.{nat_tests}
use Rattle.fix_text.specs.Text.{holds_soh}
use Rattle.dialect.specs.FreeText.{free_text_of, is_free_text}
use Rattle.schedule.specs.Script.{px_word}

not_soh : (byte : ℕ) → is_ascii_graphic byte ≡ true → eqb byte 1 ≡ false
not_soh byte is = grind (arith, nat_tests, is)

no_soh : (text : List ℕ) → list_all is_ascii_graphic text ≡ true → holds_soh text ≡ false
no_soh [] all = refl
no_soh (byte ∷ bytes) all =
    let each = and_parts (is_ascii_graphic byte) (list_all is_ascii_graphic bytes) all in
    or_from (eqb byte 1) (holds_soh bytes) (not_soh byte each.0) (no_soh bytes each.1)

-- the price of a trade is a text that a field can hold
pub px_is_text : (word : List ℕ) → (nat_le 1 (length word) && nat_le (length word) 20 && list_all is_ascii_graphic word) ≡ true
    → free_text_of 20 word ≡ px_word word
px_is_text word is =
    let all : list_all is_ascii_graphic word ≡ true = grind (arith, nat_tests, is) in
    let none : holds_soh word ≡ false = no_soh word all in
    let fits : is_free_text 20 word ≡ true = grind (arith, nat_tests, is, none) in
    ap (λ (b : Bool). if b then Some word else None) (fits ∙ sym is)
