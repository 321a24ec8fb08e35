-- The legs of a release that were read so far.
use Rattle.std.proofs.Common.{◌≡◌, ℕ, Bool, true, false, List, [], ◌∷◌, ◌++◌, Option, Some, None, refl, sym, ap, ◌∙◌}
use Rattle.std.specs.Prelude.{is_some}
use Rattle.leg.specs.declared.sweep.Routed.{Routed}
use Rattle.schedule.specs.Script.{before, legs_of_words}
use Rattle.script.specs.Reading.{legs_from, more_legs}
use Rattle.script.proofs.SoFar.{with_front, one_more, none_more}

-- what is left is legs where the whole is; and where no memory was refused, the whole is what was read and what is left
pub record LegsSoFar (is_refused : Bool) (front : List Routed) (left whole : Option (List Routed)) : Type 0 where
  pub some : is_some left ≡ is_some whole
  pub read : is_refused ≡ false → with_front front left ≡ whole

some_before : (leg : Routed) (legs : Option (List Routed)) → is_some (before (Some leg) legs) ≡ is_some legs
some_before leg None = refl
some_before leg (Some legs) = refl

-- a leg, and the legs behind it
pub leg_read : (was_refused is_refused : Bool) (front after : List Routed) (leg : Routed) (left now whole : Option (List Routed))
    → left ≡ before (Some leg) now → (is_refused ≡ false → after ≡ front ++ leg ∷ []) → (is_refused ≡ false → was_refused ≡ false)
    → LegsSoFar was_refused front left whole → LegsSoFar is_refused after now whole
leg_read was_refused is_refused front after leg left now whole e items before_it so_far = record {
  some = sym (some_before leg now) ∙ ap is_some (sym e) ∙ so_far.some;
  read = λ kept. ap (λ (f : List Routed). with_front f now) (items kept) ∙ sym (one_more front leg now) ∙ ap (with_front front) (sym e) ∙ so_far.read (before_it kept);
}

-- a leg, `+`, and the venue of the next leg
pub leg_behind : (venue plus next_venue : List ℕ) (words behind rest now : List (List ℕ)) (leg : Routed) (read : Option Routed) (next : Option (List ℕ))
    → legs_of_words (venue ∷ words) ≡ before read (more_legs behind) → read ≡ Some leg → behind ≡ plus ∷ rest
    → more_legs (plus ∷ rest) ≡ legs_from next now → next ≡ Some next_venue
    → legs_of_words (venue ∷ words) ≡ before (Some leg) (legs_of_words (next_venue ∷ now))
leg_behind venue plus next_venue words behind rest now leg read next first is here legs there =
    first ∙ ap (λ (l : Option Routed). before l (more_legs behind)) is
    ∙ ap (λ (ws : List (List ℕ)). before (Some leg) (more_legs ws)) here
    ∙ ap (before (Some leg)) (legs ∙ ap (λ (v : Option (List ℕ)). legs_from v now) there)
