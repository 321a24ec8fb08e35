-- A text that is too short for a sweep's number is no leg's number in Coded.
use Rattle.std.proofs.Common.{◌≡◌, ◌==◌, ℕ, ◌<◌, List, length, take, drop, None, refl, arith}
use Rattle.std.proofs.lemmas.Bool.{ne_eqb, cond-false}
use Rattle.std.proofs.lemmas.List.{length-take}
use Rattle.dialect.specs.Digits.{fixed_of}
use Rattle.dialect.specs.Coded.{coded_id_of}
use Rattle.dialect.specs.FixedId.{fixed_id_of}

pub fixed_of-other : (base width greatest : ℕ) (text : List ℕ) → length text < width
    → fixed_of base width greatest text ≡ None
unfolding fixed_of
fixed_of-other base width greatest text short =
    cond-false (length text == width) _ None (ne_eqb (length text) width (λ e. omega arith))

pub coded_id_of-short : (text : List ℕ) → length text < 16 → coded_id_of text ≡ None
unfolding coded_id_of
coded_id_of-short text short =
    rw (fixed_of-other 16 16 999_999_999_999 (take 16 text) (omega (arith, length-take 16 text))) refl

-- nor is one in any width
pub fixed_id_of-short : (base width : ℕ) (text : List ℕ) → length text < width
    → fixed_id_of base width (take width text) (drop width text) ≡ None
fixed_id_of-short base width text short =
    rw (fixed_of-other base width 999_999_999_999 (take width text) (omega (arith, length-take width text))) refl
