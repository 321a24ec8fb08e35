-- What is shown is read back.
use Rattle.std.proofs.Common.{◌≡◌, ℕ, true, false, eqb, List, [], ◌∷◌, ◌++◌, refl, sym, ap, ◌∙◌, inl, inr}
use Rattle.std.proofs.lemmas.Bool.{cases_Bool, eqb-true}
use Rattle.command_line.specs.FrameText.{shown_byte, shown, read_shown, has_soh}

-- a byte is read back, whatever stands behind it
byte_back : (byte : ℕ) (text : List ℕ) → read_shown false (shown_byte byte ++ text) ≡ byte ∷ read_shown false text
byte_back byte text =
    elim (cases_Bool (eqb byte 1)) [
      | inl soh ↦ rw soh (ap (λ (b : ℕ). b ∷ read_shown false text) (sym (eqb-true byte 1 soh)))
      | inr no_soh ↦ rw no_soh (elim (cases_Bool (eqb byte 124)) [
        | inl bar ↦ rw bar (ap (λ (b : ℕ). b ∷ read_shown false text) (sym (eqb-true byte 124 bar)))
        | inr no_bar ↦ rw no_bar (elim (cases_Bool (eqb byte 92)) [
          | inl slash ↦ rw slash (ap (λ (b : ℕ). b ∷ read_shown false text) (sym (eqb-true byte 92 slash)))
          | inr no_slash ↦ rw no_slash (rw (no_slash, no_bar) refl)
        ])
      ])
    ]

read_back : (frame : List ℕ) → read_shown false (shown frame) ≡ frame
read_back [] = refl
read_back (byte ∷ frame) = byte_back byte (shown frame) ∙ ap (λ (bytes : List ℕ). byte ∷ bytes) (read_back frame)

-- no SOH is shown
byte_plain : (byte : ℕ) (text : List ℕ) → has_soh (shown_byte byte ++ text) ≡ has_soh text
byte_plain byte text =
    elim (cases_Bool (eqb byte 1)) [
      | inl soh ↦ rw soh refl
      | inr no_soh ↦ rw no_soh (elim (cases_Bool (eqb byte 124)) [
        | inl bar ↦ rw bar refl
        | inr no_bar ↦ rw no_bar (elim (cases_Bool (eqb byte 92)) [
          | inl slash ↦ rw slash refl
          | inr no_slash ↦ rw no_slash (rw no_soh refl)
        ])
      ])
    ]

plain : (frame : List ℕ) → has_soh (shown frame) ≡ false
plain [] = refl
plain (byte ∷ frame) = byte_plain byte (shown frame) ∙ plain frame

-- so a text that shows a frame has no SOH, and gives that frame
pub text_plain : (text frame : List ℕ) → text ≡ shown frame → has_soh text ≡ false
text_plain text frame is = ap has_soh is ∙ plain frame

pub text_back : (text frame : List ℕ) → text ≡ shown frame → read_shown false text ≡ frame
text_back text frame is = ap (read_shown false) is ∙ read_back frame
