-- The legs of a line, one after the other.
use Rattle.std.proofs.Common.{◌≡◌, ℕ, List, [], ◌∷◌, ◌++◌, refl, sym, ap, ◌∙◌, append_assoc}
use Rattle.std.proofs.lemmas.List.{append-nil}
use Rattle.std.specs.Prelude.{Result, Ok, Err}
use Rattle.leg.specs.declared.sweep.Routed.{Routed}
use Rattle.sweep_text.specs.declared.line_fault.LineFault.{LineFault}
use Rattle.sweep_text.proofs.Faults.{legs_fault}
use Rattle.sweep_text.specs.Legs.{and_then, before, leg_of, leg_then, legs_of, more_legs}

-- the leg of five words, and those behind it
pub legs_of_five : (names : List (List ℕ)) (venue symbol side shares price : List ℕ) (words : List (List ℕ))
    → legs_of names (venue ∷ symbol ∷ side ∷ shares ∷ price ∷ words)
    ≡ before (leg_of names venue symbol side shares price) (more_legs names words)
legs_of_five names venue symbol side shares price [] = refl
legs_of_five names venue symbol side shares price (plus ∷ words) = refl

-- the leg of the next words, and those behind it
pub five_read : (names : List (List ℕ)) (venue symbol side shares price : List ℕ) (words rest : List (List ℕ))
    (answer : Result Routed LineFault) → answer ≡ leg_of names venue symbol side shares price
    → words ≡ symbol ∷ side ∷ shares ∷ price ∷ rest
    → legs_of names (venue ∷ words) ≡ leg_then names answer rest
five_read names venue symbol side shares price words rest answer is stand =
    ap (λ w. legs_of names (venue ∷ w)) stand
    ∙ legs_of_five names venue symbol side shares price rest
    ∙ ap (λ a. before a (more_legs names rest)) (sym is)

pub ruleset five = (legs_of_five, five_read)

-- the legs that were read, and those that are left
abbrev pub onto : List Routed → Result (List Routed) LineFault → Result (List Routed) LineFault
onto front left = and_then left (λ later. Ok (front ++ later))

-- no leg is left
pub onto_none : (front : List Routed) → onto front (Ok []) ≡ Ok front
onto_none front = ap Ok (append-nil front)

-- one more leg was read
pub onto_more : (front : List Routed) (leg : Routed) (left : Result (List Routed) LineFault)
    → onto front (before (Ok leg) left) ≡ onto (front ++ leg ∷ []) left
onto_more front leg (Ok later) = ap Ok (sym (append_assoc front (leg ∷ []) later))
onto_more front leg (Err fault) = refl

pub ruleset steps = (onto_more, onto_none, legs_fault)
