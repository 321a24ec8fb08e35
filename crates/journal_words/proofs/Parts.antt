-- A line is its time, a space and words, and words are parted by spaces.
use Rattle.std.proofs.Common.{◌≡◌, ◌==◌, ℕ, ◌+◌, ◌^◌, ◌<◌, ◌≤◌, false, List, [], ◌∷◌, ◌++◌, length, take, drop, get_or, codes, decimal, refl, sym, ap, ◌∙◌, subst, arith, append_assoc, length-append}
use Rattle.std.proofs.lemmas.Bool.Decides.{nat_tests}
use Rattle.std.proofs.lemmas.List.Elements.{All-append}
use Rattle.std.proofs.Math.Seq.{take-append_seam, drop-append_seam}
use Rattle.fix_tags.specs.Stamp.{StampParts, stamp_text}
use Rattle.leg.specs.LegId.{LegIdParts, IsLegId, leg_id_text}
use Rattle.leg.proofs.Digits.{digits_of_decimal}
use Rattle.dialect.specs.Lemmas.SplitLaws.{HasNo}

pub stamp_length : (s : StampParts) → length (stamp_text s) ≡ 21
unfolding stamp_text
stamp_length s = refl

-- a time, and what is behind it
pub time_of : (s : StampParts) (rest : List ℕ) → take 21 (stamp_text s ++ rest) ≡ stamp_text s
time_of s rest =
    subst (λ (n : ℕ). take n (stamp_text s ++ rest) ≡ stamp_text s) (stamp_length s) (take-append_seam (stamp_text s) rest)

pub behind_time : (s : StampParts) (rest : List ℕ) → drop 21 (stamp_text s ++ rest) ≡ rest
behind_time s rest =
    subst (λ (n : ℕ). drop n (stamp_text s ++ rest) ≡ rest) (stamp_length s) (drop-append_seam (stamp_text s) rest)

pub line_length : (s : StampParts) (rest : List ℕ) → length (stamp_text s ++ rest) ≡ 21 + length rest
line_length s rest = omega (arith, length-append (stamp_text s) rest, stamp_length s)

-- a byte alone
pub one : (c : ℕ) → (c == 32) ≡ false → HasNo 32 (c ∷ [])
one c other k d within =
    let first : k ≡ 0 = omega arith in
    subst (λ (j : ℕ). (get_or (c ∷ []) j d == 32) ≡ false) (sym first) other

-- a byte before others
pub more : (c : ℕ) (cs : List ℕ) → (c == 32) ≡ false → HasNo 32 cs → HasNo 32 (c ∷ cs)
more c cs other rest = All-append (λ (b : ℕ). (b == 32) ≡ false) (c ∷ []) cs (one c other) rest

-- no number has a space, and no leg's
pub no_space : (n : ℕ) → n < 2 ^ 64 → HasNo 32 (decimal n)
no_space n small = λ k d within. let digit = digits_of_decimal n small k d within in grind (arith, nat_tests)

pub no_space_in_id : (id : LegIdParts) → IsLegId id → HasNo 32 (leg_id_text id)
no_space_in_id id is =
    let other = λ (b : ℕ). (b == 32) ≡ false in
    All-append other ((codes "S" ++ decimal id.sweep) ++ codes "L") (decimal id.place)
    (All-append other (codes "S" ++ decimal id.sweep) (codes "L")
    (All-append other (codes "S") (decimal id.sweep) (one 83 refl) (no_space id.sweep (let high = is.sweep_high in omega arith)))
    (one 76 refl))
    (no_space id.place (let high = is.place_high in omega arith))
