-- The legs of a venue that were withdrawn, and those in doubt, one leg further.
use Rattle.std.proofs.Common.{◌≡◌, ◌+◌, ◌<◌, ℕ, suc, Bool, true, false, List, [], ◌∷◌, ◌++◌, length, drop, get_or, Option, Some, None, refl, sym, ap, ◌∙◌, if◌then◌else◌, arith}
use Rattle.std.proofs.lemmas.List.{append_assoc, drop_more}
use Rattle.leg.specs.LegId.{LegIdParts}
use Rattle.leg.specs.declared.leg.Leg.{Leg}
use Rattle.leg.specs.declared.leg_state.LegState.{LegState}
use Rattle.leg.specs.declared.leg_state.LegState.TheVariants.{Queued, Doubt, Taken, Withdrawn}
use Rattle.schedule.specs.World.{ids_where, is_withdrawn_leg, is_leg_in_doubt}

-- what a list of legs becomes by a leg that passes its test or doesn't
abbrev pub with_if : Bool → Leg → List LegIdParts → List LegIdParts
with_if true leg found = found ++ leg.id ∷ []
with_if false leg found = found

one_further : (b : Bool) (leg : Leg) (found rest : List LegIdParts)
    → with_if b leg found ++ rest ≡ found ++ (if b then leg.id ∷ rest else rest)
one_further true leg found rest = append_assoc found (leg.id ∷ []) rest
one_further false leg found rest = refl

pub further : (test : Option LegState → Bool) (state : ℕ → Option LegState) (legs : List Leg) (at : ℕ) (leg : Leg)
    (found now all : List LegIdParts) (s : Option LegState) → at < length legs
    → leg ≡ get_or legs at leg
    → state (at + 1) ≡ s
    → now ≡ with_if (test s) leg found
    → found ++ ids_where test state (suc at) (drop at legs) ≡ all
    → now ++ ids_where test state (suc (at + 1)) (drop (at + 1) legs) ≡ all
further test state legs at leg found now all s there is state_is now_is before =
    let rest = ids_where test state (suc (at + 1)) (drop (at + 1) legs) in
    let one : at + 1 ≡ suc at = omega arith in
    let step : drop at legs ≡ leg ∷ drop (at + 1) legs =
    drop_more legs at leg there ∙ ap (λ (l : Leg). l ∷ drop (at + 1) legs) (sym is) in
    let same : ids_where test state (suc at) (leg ∷ drop (at + 1) legs) ≡ ids_where test state (at + 1) (leg ∷ drop (at + 1) legs) =
    ap (λ (n : ℕ). ids_where test state n (leg ∷ drop (at + 1) legs)) (sym one) in
    ap (λ (l : List LegIdParts). l ++ rest) now_is
    ∙ (one_further (test s) leg found rest
    ∙ (ap (λ (t : Option LegState). found ++ (if test t then leg.id ∷ rest else rest)) (sym state_is)
    ∙ (ap (λ (l : List LegIdParts). found ++ l) (sym same)
    ∙ (ap (λ (l : List Leg). found ++ ids_where test state (suc at) l) (sym step) ∙ before))))
