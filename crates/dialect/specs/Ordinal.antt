-- Numbers that count from 1, in their shortest form.
use Rattle.std.specs.Prelude.{ℕ, Bool, false, ◌&&◌, ◌==◌, List, [], ◌∷◌, Option, Some, None, option_and_then, decimal, nat_le, if◌then◌else◌}
use Rattle.std.specs.Str.{bytes_eq}
use Rattle.fix_tags.specs.Number.{number_of}

-- the number from 1 to a greatest one whose shortest decimal a text is
unfoldable pub ordinal_of : ℕ → List ℕ → Option ℕ
ordinal_of greatest text =
    option_and_then (λ n. if nat_le 1 n && nat_le n greatest && bytes_eq (decimal n) text then Some n else None)
    (number_of text)

-- whether the first byte is '0'
abbrev pub begins_with_zero : List ℕ → Bool
begins_with_zero [] = false
begins_with_zero (c ∷ cs) = c == 48
