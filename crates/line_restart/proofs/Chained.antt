-- What holds from each line to the next, over restarts too, and is handed on, holds of each two moments.
use Rattle.std.proofs.Common.{◌≡◌, ◌≤◌, ◌++◌, List, [], ◌∷◌, get_or, sym, subst, arith}
use Rattle.std.specs.List.{All, AllPairs}
use Rattle.std.proofs.lemmas.List.Elements.{All-cons, All-nil, All-weaker}
use Rattle.std.proofs.lemmas.List.Kept.{AllPairs-cons}
use Rattle.fix_tags.specs.Config.{ConfigParts}
use Rattle.venue_line.specs.Line.{Line, LineStep, AreSteps}
use Rattle.venue_line.specs.Leading.{last_line, Leads}
use Rattle.venue_line.proofs.GivenSteps.{Whole, whole_step}
use Rattle.venue_line.proofs.Leading.{last_keeps, last_more}
use Rattle.line_restart.specs.Lives.{Life, durable_line, killed_line, moments_of, IsLife, Restarts, AreLives, all_moments}
use Rattle.line_restart.specs.RestartTheorem.{IsReached}
use Rattle.line_restart.specs.OverRestarts.{AllBefore}
use Rattle.line_restart.proofs.Reached.{reached_whole, durable_reached}
use Rattle.line_restart.proofs.Restarting.{restart_reached}

-- what holds of a line and itself, and is handed on, with each step
pub record HandsOn (R : Line → Line → Type 0) : Type 0 where
  pub same : (a : Line) → R a a
  pub trans : (a b c : Line) → R a b → R b c → R a c
  pub step : (a b : Line) → LineStep a b → Whole a → R a b

-- lines of which each is so to the one before
abbrev pub AreChained : (Line → Line → Type 0) → Line → List Line → Type 0
AreChained R a [] = Unit {0}
AreChained R a (b ∷ lines) = R a b × AreChained R b lines

module _ (R : Line → Line → Type 0) where
  pub chain_append : (a : Line) (xs ys : List Line) → AreChained R a xs → AreChained R (last_line a xs) ys
      → AreChained R a (xs ++ ys)
  chain_append a [] ys first more = more
  chain_append a (b ∷ xs) ys first more = (first.0, chain_append b xs ys first.1 more)

  module _ (hands_on : HandsOn R) where
    chain_all : (a : Line) (lines : List Line) → AreChained R a lines → All (R a) lines
    chain_all a [] chain = All-nil (R a)
    chain_all a (b ∷ lines) chain =
        All-cons (R a) b lines chain.0
        (All-weaker (R b) (R a) (λ c more. hands_on.trans a b c chain.0 more) lines (chain_all b lines chain.1))

    pub chain_pairs : (a : Line) (lines : List Line) → AreChained R a lines → AllPairs R lines
    chain_pairs a [] chain = λ i j d low high. absurd (omega arith)
    chain_pairs a (b ∷ lines) chain =
        AllPairs-cons R b lines (chain_all b lines chain.1) (chain_pairs b lines chain.1)

    chain_steps : (a : Line) (lines : List Line) → AreSteps a lines → Whole a → AreChained R a lines
    chain_steps a [] steps h = tt
    chain_steps a (b ∷ lines) steps h =
        (hands_on.step a b steps.0 h, chain_steps b lines steps.1 (whole_step a b steps.0 h))

    over_steps : (a : Line) (lines : List Line) → AreSteps a lines → Whole a → R a (last_line a lines)
    over_steps a [] steps h = hands_on.same a
    over_steps a (b ∷ lines) steps h =
        hands_on.trans a b (last_line b lines) (hands_on.step a b steps.0 h)
        (over_steps b lines steps.1 (whole_step a b steps.0 h))

    pub over_leads : (a b : Line) → Leads a b → Whole a → R a b
    over_leads a b leads h = subst (R a) leads.last (over_steps a leads.lines leads.steps h)

    -- and over a restart, where what is to be kept is
    module _ (config : ConfigParts) (small : config.max_number ≤ 999999999) (Keeps : Life → Line → Type 0)
        (over : (life : Life) (next : Line) → IsLife life → Restarts life next → Whole (durable_line life)
        → Whole (killed_line life) → Whole next → Keeps life next → R (killed_line life) next) where
      life_chained : (life : Life) → IsLife life → Whole life.start → AreChained R life.start (life.durable ++ life.lost)
      life_chained life is h =
          let durable = last_keeps Whole whole_step life.start life.durable is.steps h in
          chain_append life.start life.durable life.lost (chain_steps life.start life.durable is.steps h)
          (chain_steps (durable_line life) life.lost is.more durable)

      pub lives_chained : (before : Line) (life : Life) (lives : List Life) → R before life.start → AreLives life lives
          → AllBefore Keeps life lives → IsReached config life.start
          → AreChained R before (all_moments life lives)
      lives_chained before life [] first is keeps r =
          (first, life_chained life is (reached_whole config small life.start r))
      lives_chained before life (next ∷ lives) first is keeps r =
          let whole = reached_whole config small life.start r in
          let durable = durable_reached config life is.0 r in
          let d = reached_whole config small (durable_line life) durable in
          let k = last_keeps Whole whole_step (durable_line life) life.lost is.0.more d in
          let again = restart_reached config life is.0 next.start is.1 durable in
          let next_so = over life next.start is.0 is.1 d k (reached_whole config small next.start again) keeps.0 in
          chain_append before (moments_of life) (all_moments next lives) (first, life_chained life is.0 whole)
          (subst (λ w. AreChained R w (all_moments next lives)) (sym (last_more life.start life.durable life.lost))
          (lives_chained (killed_line life) next lives next_so is.2 keeps.1 again))

      pub lives_pairs : (life : Life) (lives : List Life) → AreLives life lives → AllBefore Keeps life lives
          → IsReached config life.start → AllPairs R (all_moments life lives)
      lives_pairs life lives is keeps r =
          chain_pairs life.start (all_moments life lives)
          (lives_chained life.start life lives (hands_on.same life.start) is keeps r)

pub none_needed : (life : Life) (lives : List Life) → AllBefore (λ life next. Unit {0}) life lives
none_needed life [] = tt
none_needed life (next ∷ lives) = (tt, none_needed next lives)

pub pairs_reached : (config : ConfigParts) (R S : Line → Line → Type 0)
    → ((a b : Line) → IsReached config a → IsReached config b → R a b → S a b) → (lines : List Line)
    → All (IsReached config) lines → AllPairs R lines → AllPairs S lines
pairs_reached config R S weaker lines reached pairs =
    λ i j d low high.
    weaker (get_or lines i d) (get_or lines j d) (reached i d (omega arith)) (reached j d high) (pairs i j d low high)
