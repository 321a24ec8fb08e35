-- A message that was logged is read back.
use Rattle.std.proofs.Common.{◌≡◌, ℕ, suc, ◌+◌, ◌*◌, ◌/◌, ◌%◌, ◌<◌, true, false, List, [], ◌∷◌, ◌++◌, Some, Ok, refl, sym, ap, ◌∙◌, subst, arith, inl, inr, get_or}
use Rattle.std.proofs.lemmas.Bool.{cases_eq, cases_Bool, ne_eqb}
use Rattle.std.proofs.lemmas.Bool.Decides.{nat_tests}
use Rattle.std.proofs.lemmas.Grind.{common_steps}
use Rattle.desk_words.specs.Printable.{byte_shown, hex_digit, is_printable_byte}
use Rattle.message_log.specs.Line.{byte_logged, logged}
use Rattle.log_text.specs.Message.{behind, byte_of_digits, first_digit, hex_value, message_said, read_on, step, stepped}
use Rattle.log_text.specs.declared.step.Escape.TheVariants.{Closed}
use Rattle.log_text.specs.declared.step.Step.TheVariants.{Byte}

-- a digit reads back
pub digit_back : (value : ℕ) → value < 16 → hex_value (hex_digit value) ≡ Some value
digit_back value small = grind (arith, nat_tests, common_steps)

-- a byte in two digits that is neither printable nor SOH
pub byte_of_digits-at : (c : ℕ) → (c ≡ 1 → ⊥) → is_printable_byte c ≡ false
    → byte_of_digits (c / 16) (Some (c % 16)) ≡ Ok (Byte c)
byte_of_digits-at c not_soh not_printable =
    let whole : 16 * (c / 16) + c % 16 ≡ c = omega arith in
    rw (whole, ne_eqb c 1 not_soh, not_printable) refl

-- a printable byte is written as itself, but for a bar and a backslash
written_plain : (c : ℕ) → (c ≡ 1 → ⊥) → (c ≡ 124 → ⊥) → (c ≡ 92 → ⊥) → is_printable_byte c ≡ true
    → byte_logged c ≡ c ∷ []
unfolding byte_logged byte_shown
written_plain c not_soh not_bar not_backslash printable =
    rw (ne_eqb c 1 not_soh, ne_eqb c 124 not_bar, ne_eqb c 92 not_backslash, printable) refl

-- and read as itself
stepped_plain : (c : ℕ) → (c ≡ 124 → ⊥) → (c ≡ 92 → ⊥) → is_printable_byte c ≡ true → step Closed c ≡ Ok (Byte c)
stepped_plain c not_bar not_backslash printable =
    rw (ne_eqb c 124 not_bar, ne_eqb c 92 not_backslash, printable) refl

-- any other byte but SOH is written in two digits
written_digits : (c : ℕ) → (c ≡ 1 → ⊥) → (c ≡ 124 → ⊥) → (c ≡ 92 → ⊥) → is_printable_byte c ≡ false
    → byte_logged c ≡ 92 ∷ 120 ∷ hex_digit (c / 16) ∷ hex_digit (c % 16) ∷ []
unfolding byte_logged byte_shown
written_digits c not_soh not_bar not_backslash not_printable =
    rw (ne_eqb c 1 not_soh, ne_eqb c 124 not_bar, ne_eqb c 92 not_backslash, not_printable) refl

-- one byte reads back
abbrev ReadsBack : List ℕ → ℕ → Type 0
ReadsBack rest c = read_on (byte_logged c ++ rest) Closed ≡ behind (c ∷ []) (read_on rest Closed)

soh_back : (rest : List ℕ) → ReadsBack rest 1
unfolding byte_logged
soh_back rest = refl

bar_back : (rest : List ℕ) → ReadsBack rest 124
unfolding byte_logged
bar_back rest = refl

backslash_back : (rest : List ℕ) → ReadsBack rest 92
unfolding byte_logged byte_shown
backslash_back rest = refl

plain_back : (c : ℕ) (rest : List ℕ) → (c ≡ 1 → ⊥) → (c ≡ 124 → ⊥) → (c ≡ 92 → ⊥) → is_printable_byte c ≡ true
    → ReadsBack rest c
plain_back c rest not_soh not_bar not_backslash printable =
    ap (λ text. read_on (text ++ rest) Closed) (written_plain c not_soh not_bar not_backslash printable)
    ∙ ap (stepped (read_on rest)) (stepped_plain c not_bar not_backslash printable)

digits_back : (c : ℕ) (rest : List ℕ) → c < 256 → (c ≡ 1 → ⊥) → (c ≡ 124 → ⊥) → (c ≡ 92 → ⊥)
    → is_printable_byte c ≡ false → ReadsBack rest c
digits_back c rest small not_soh not_bar not_backslash not_printable =
    ap (λ text. read_on (text ++ rest) Closed) (written_digits c not_soh not_bar not_backslash not_printable)
    ∙ ap (λ high. stepped (read_on (hex_digit (c % 16) ∷ rest)) (first_digit high)) (digit_back (c / 16) (omega arith))
    ∙ ap (λ low. stepped (read_on rest) (byte_of_digits (c / 16) low)) (digit_back (c % 16) (omega arith))
    ∙ ap (stepped (read_on rest)) (byte_of_digits-at c not_soh not_printable)

byte_back : (c : ℕ) (rest : List ℕ) → c < 256 → ReadsBack rest c
byte_back c rest small =
    elim (cases_eq c 1) [
      | inl soh ↦ subst (ReadsBack rest) (sym soh) (soh_back rest)
      | inr not_soh ↦ elim (cases_eq c 124) [
        | inl bar ↦ subst (ReadsBack rest) (sym bar) (bar_back rest)
        | inr not_bar ↦ elim (cases_eq c 92) [
          | inl backslash ↦ subst (ReadsBack rest) (sym backslash) (backslash_back rest)
          | inr not_backslash ↦ elim (cases_Bool (is_printable_byte c)) [
            | inl printable ↦ plain_back c rest not_soh not_bar not_backslash printable
            | inr not_printable ↦ digits_back c rest small not_soh not_bar not_backslash not_printable
          ]
        ]
      ]
    ]

-- each is a byte
abbrev pub AreBytes : List ℕ → Type 0
AreBytes bytes = (k : ℕ) → get_or bytes k 0 < 256

-- a message reads back
pub message_back : (message : List ℕ) → AreBytes message → message_said (logged message) ≡ Ok message
message_back [] small = refl
message_back (c ∷ cs) small =
    byte_back c (logged cs) (small 0)
    ∙ ap (behind (c ∷ [])) (message_back cs (λ k. small (suc k)))
