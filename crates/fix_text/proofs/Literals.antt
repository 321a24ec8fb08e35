-- A literal, by the two prefixes that decide it.
use Rattle.std.proofs.Common.{◌≡◌, ℕ, Bool, true, false, cond, eqb, List, [], ◌∷◌, length, take, drop, Result, Ok, Err, refl, sym, ap, ◌∙◌}
use Rattle.std.specs.Prelude.{◌&&◌}
use Rattle.std.specs.Cmp.Lexicographic.{pointwise}
use Rattle.std.specs.List.{starts_with}
use Rattle.fix_text.specs.declared.parse.NoFrame.{NoFrame}
use Rattle.fix_text.specs.declared.parse.NoFrame.TheVariants.{Short, Differs}
use Rattle.fix_text.specs.Reading.{literal_at}

-- the bytes begin with the literal
abbrev pub begins : List ℕ → List ℕ → Bool
begins wanted bytes = pointwise eqb (take (length wanted) bytes) wanted

abbrev pub by_prefix : List ℕ → List ℕ → Result (List ℕ) NoFrame
by_prefix wanted bytes = cond (begins wanted bytes) (Ok (drop (length wanted) bytes)) (cond (starts_with eqb wanted bytes) (Err Short) (Err Differs))

prefix_more : (same longer shorter : Bool) (rest : List ℕ) → cond same (cond longer (Ok rest) (cond shorter (Err Short) (Err Differs))) (Err Differs) ≡ cond (same && longer) (Ok rest) (cond (same && shorter) (Err Short) (Err Differs))
prefix_more true longer shorter rest = refl
prefix_more false longer shorter rest = refl

literal_by_prefix : (wanted bytes : List ℕ) → literal_at wanted bytes ≡ by_prefix wanted bytes
unfolding literal_at
literal_by_prefix [] bytes = refl
literal_by_prefix (w ∷ wanted) [] = refl
literal_by_prefix (w ∷ wanted) (b ∷ bytes) =
    ap (λ (r : Result (List ℕ) NoFrame). cond (eqb b w) r (Err Differs)) (literal_by_prefix wanted bytes)
    ∙ prefix_more (eqb b w) (begins wanted bytes) (starts_with eqb wanted bytes) (drop (length wanted) bytes)

-- by what the two tests said
pub literal_by : (wanted bytes : List ℕ) (found short : Bool) → begins wanted bytes ≡ found → starts_with eqb wanted bytes ≡ short → cond found (Ok (drop (length wanted) bytes)) (cond short (Err Short) (Err Differs)) ≡ literal_at wanted bytes
literal_by wanted bytes found short f s =
    ap (λ (b : Bool). cond b (Ok (drop (length wanted) bytes)) (cond short (Err Short) (Err Differs))) (sym f)
    ∙ ap (λ (b : Bool). cond (begins wanted bytes) (Ok (drop (length wanted) bytes)) (cond b (Err Short) (Err Differs))) (sym s)
    ∙ sym (literal_by_prefix wanted bytes)
