-- What stands before what is put behind it.
use Rattle.std.proofs.Common.{◌≡◌, ℕ, List, ◌++◌, length, take, ap, ◌∙◌, append_assoc}
use Rattle.std.proofs.Math.Seq.{take-append_seam}

pub front_one : (a b : List ℕ) → take (length a) (a ++ b) ≡ a
front_one a b = take-append_seam a b

pub front_two : (a b c : List ℕ) → take (length a) ((a ++ b) ++ c) ≡ a
front_two a b c = ap (λ (l : List ℕ). take (length a) l) (append_assoc a b c) ∙ take-append_seam a (b ++ c)

pub front_three : (a b c d : List ℕ) → take (length a) (((a ++ b) ++ c) ++ d) ≡ a
front_three a b c d = ap (λ (l : List ℕ). take (length a) l) (append_assoc (a ++ b) c d) ∙ front_two a b (c ++ d)
