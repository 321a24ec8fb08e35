-- The venues with legs in doubt are told one after the other.
use Rattle.std.proofs.Common.{◌≡◌, ◌⊎◌, inl, inr, ℕ, ◌+◌, ◌<◌, List, [], ◌∷◌, ◌++◌, length, drop, get_or, refl, sym, ap, ◌∙◌}
use Rattle.std.specs.Prelude.{option_to_list}
use Rattle.std.proofs.lemmas.List.{append-nil, append_assoc, drop_more}
use Rattle.session_worker.specs.Ends.{WorkerLeft}
use Rattle.desk_day.specs.Doubts.{VenueLegs, doubts_in, if_any, left_in_doubt}

-- one venue more was looked at
pub one_more : (names : List (List ℕ)) (ends : List WorkerLeft) (told now : List VenueLegs) (at next : ℕ)
    (name : List ℕ) (left : WorkerLeft) → next ≡ at + 1 → at < length names → at < length ends → name ≡ get_or names at name
    → left ≡ get_or ends at left → now ≡ told ++ option_to_list (if_any name (left_in_doubt left))
    → told ++ doubts_in (drop at names) (drop at ends) ≡ doubts_in names ends
    → now ++ doubts_in (drop next names) (drop next ends) ≡ doubts_in names ends
one_more names ends told now at next name left next_is within among name_is left_is pushed so_far =
    let one = option_to_list (if_any name (left_in_doubt left)) in
    let later_names = drop (at + 1) names in
    let later_ends = drop (at + 1) ends in
    let names_are : drop at names ≡ name ∷ later_names =
    drop_more names at name within ∙ ap (λ (n : List ℕ). n ∷ later_names) (sym name_is) in
    let ends_are : drop at ends ≡ left ∷ later_ends =
    drop_more ends at left among ∙ ap (λ (e : WorkerLeft). e ∷ later_ends) (sym left_is) in
    ap (λ (n : ℕ). now ++ doubts_in (drop n names) (drop n ends)) next_is
    ∙ ap (λ (l : List VenueLegs). l ++ doubts_in later_names later_ends) pushed
    ∙ append_assoc told one (doubts_in later_names later_ends)
    ∙ ap (λ (n : List (List ℕ)). told ++ doubts_in n (left ∷ later_ends)) (sym names_are)
    ∙ ap (λ (e : List WorkerLeft). told ++ doubts_in (drop at names) e) (sym ends_are)
    ∙ so_far

no_workers : (names : List (List ℕ)) → doubts_in names [] ≡ []
no_workers [] = refl
no_workers (name ∷ names) = refl

none_to_come : (names : List (List ℕ)) (ends : List WorkerLeft) → (names ≡ []) ⊎ (ends ≡ []) → doubts_in names ends ≡ []
none_to_come names ends (inl none) = ap (λ (n : List (List ℕ)). doubts_in n ends) none
none_to_come names ends (inr none) = ap (λ (e : List WorkerLeft). doubts_in names e) none ∙ no_workers names

-- all were looked at
pub all_told : (names : List (List ℕ)) (ends : List WorkerLeft) (told : List VenueLegs) (at : ℕ)
    → (drop at names ≡ []) ⊎ (drop at ends ≡ []) → told ++ doubts_in (drop at names) (drop at ends) ≡ doubts_in names ends
    → told ≡ doubts_in names ends
all_told names ends told at over so_far =
    sym (append-nil told)
    ∙ ap (λ (l : List VenueLegs). told ++ l) (sym (none_to_come (drop at names) (drop at ends) over))
    ∙ so_far
