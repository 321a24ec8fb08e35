use Rattle.std.proofs.Common.{◌≡◌, ℕ, Bool, true, false, List, Some, None, refl, ap, sym, subst}
use Rattle.std.specs.Prelude.{if◌then◌else◌}
use Rattle.std.specs.Str.{is_utf8}
use Rattle.std.proofs.lemmas.Str.{IsUtf8-from_is_utf8, is_utf8-from_IsUtf8}
use Rattle.log_head.proofs.head.text_in.Goals as goal

none : (is_text : Bool) (bytes : List ℕ) → (is_text ≡ true → ⊥) → None ≡ (if is_text then Some bytes else None)
none true bytes isnt = absurd (isnt refl)
none false bytes isnt = refl

pub returns-in-Ok : goal.returns-in-Ok
returns-in-Ok c =
    subst (λ (is_text : Bool). Some c.in-Ok.text.now ≡ (if is_text then Some c.args.bytes.now else None))
    (sym (is_utf8-from_IsUtf8 c.args.bytes.now c.in-Ok.ensures.cases.1)) (ap Some c.in-Ok.ensures.cases.0)

pub returns-in-Err : goal.returns-in-Err
returns-in-Err c =
    none (is_utf8 c.args.bytes.now) c.args.bytes.now
    (λ is_text. c.in-Err.ensures.cases.0 (IsUtf8-from_is_utf8 c.args.bytes.now is_text))
