-- Messages that are noted one after the other.
use Rattle.std.proofs.Common.{◌≡◌, ℕ, eqb, false, length, List, [], ◌∷◌, ◌++◌, take, drop, map, Option, refl, sym, ap, ◌∙◌, append_assoc}
use Rattle.std.proofs.lemmas.List.{map-append}
use Rattle.day_log.specs.Messages.{Split, is_one_frame, last_message, messages_in, short, split, with_message}

-- one message more is noted
pub noted_more : (count : ℕ) (rest : List ℕ) (noted after whole : List (Option (List ℕ)))
    → split rest ≡ with_message (take count rest) (split (drop count rest))
    → after ≡ noted ++ short (take count rest) ∷ []
    → noted ++ map short (split rest).messages ≡ whole
    → after ++ map short (split (drop count rest)).messages ≡ whole
noted_more count rest noted after whole first grew so_far =
    let message = short (take count rest) in
    let others = map short (split (drop count rest)).messages in
    ap (λ (l : List (Option (List ℕ))). l ++ others) grew
    ∙ append_assoc noted (message ∷ []) others
    ∙ ap (λ (s : Split). noted ++ map short s.messages) (sym first)
    ∙ so_far

last_some : (rest : List ℕ) → eqb (length rest) 0 ≡ false → last_message rest ≡ rest ∷ []
last_some [] some = absurd cc
last_some (c ∷ cs) some = refl

-- what is behind the last one is noted too
pub noted_all : (noted so_far after : List (Option (List ℕ))) (bytes rest : List ℕ)
    → is_one_frame bytes ≡ false → rest ≡ (split bytes).rest → eqb (length rest) 0 ≡ false
    → so_far ≡ noted ++ map short (split bytes).messages → after ≡ so_far ++ short rest ∷ []
    → after ≡ noted ++ map short (messages_in bytes)
noted_all noted so_far after bytes rest not_one is some grew last =
    let messages = (split bytes).messages in
    let all : messages_in bytes ≡ messages ++ rest ∷ [] =
    rw not_one (ap (λ (r : List ℕ). messages ++ last_message r) (sym is)
    ∙ ap (λ (l : List (List ℕ)). messages ++ l) (last_some rest some)) in
    last
    ∙ ap (λ (l : List (Option (List ℕ))). l ++ short rest ∷ []) grew
    ∙ append_assoc noted (map short messages) (short rest ∷ [])
    ∙ ap (λ (l : List (Option (List ℕ))). noted ++ l) (sym (map-append short messages (rest ∷ [])))
    ∙ ap (λ (m : List (List ℕ)). noted ++ map short m) (sym all)
