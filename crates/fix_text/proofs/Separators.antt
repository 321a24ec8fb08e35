-- What a search for SOH says of a value.
use Rattle.std.proofs.Common.{◌≡◌, ℕ, zero-le, Bool, true, false, List, Option, Some, None, refl, sym, get_or, ◌==◌}
use Rattle.std.specs.Prelude.{is_some}
use Rattle.std.specs.List.{list_any}
use Rattle.std.proofs.lemmas.List.Recursion.{or_at, or_from_places}
use Rattle.memchr.specs.Find.{IsFirstByte, is_byte}
use Rattle.fix_text.specs.Text.{holds_soh}

not_true : (b : Bool) → (b ≡ true → ⊥) → b ≡ false
not_true b never = elim b as (λ v. (v ≡ true → ⊥) → v ≡ false) [ true ↦ λ h. absurd (h refl) | false ↦ λ _. refl ] never

pub holds_soh-found : (value : List ℕ) (place : Option ℕ) → IsFirstByte (is_byte 1) value place → is_some place ≡ holds_soh value
holds_soh-found value (Some k) found =
    sym (or_at (list_any (λ (b : ℕ). b == 1)) (λ b. b == 1) refl (λ _ _. refl) value k 0 found.0.high found.1)
holds_soh-found value None nowhere =
    sym (or_from_places (list_any (λ (b : ℕ). b == 1)) (λ b. b == 1) refl (λ _ _. refl) value 0 (λ i lt. not_true (get_or value i 0 == 1) (nowhere i (zero-le {n = i}) lt)))
