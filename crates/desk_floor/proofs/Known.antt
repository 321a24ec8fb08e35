-- What is answered under a reference that is known.
use Rattle.std.proofs.Common.{arith, rules, ◌≡◌, ℕ, ◌+◌, Bool, true, false, List, Option, Some, None, refl, sym, subst}
use Rattle.std.specs.Prelude.{IfErr, IfNone, IfOk, IfSome, ok_or}
use Rattle.exec_collector.specs.declared.placed_sweep.PlacedSweep.{PlacedSweep}
use Rattle.leg.specs.declared.sweep.Routed.{Routed}
use Rattle.order_limits.specs.Limits.{LimitParts}
use Rattle.sweep_refs.specs.Placed.{AreDistinct, Entry, placed_under}
use Rattle.sweep_refs.specs.declared.placement.Placement.{Placement}
use Rattle.sweep_refs.specs.declared.submission.Submission.{Submission}
use Rattle.desk_answers.specs.declared.answer.Answer.{Answer}
use Rattle.desk_floor.specs.Release.{AnswersKnown, AnswersOnce, IsAnswered, IsAnsweredUnder, IsFree, IsJudged, noted, placed_after, placed_shares, told}

-- the answer under a known reference is judged as it is known
judged : (limits : Option LimitParts) (names : List (List ℕ)) (found : Option Placement) (legs : List Routed)
    (answer : Answer) → AnswersKnown found legs (Some answer) → IsJudged limits names found legs answer
judged limits names (Some known) legs answer says = says
judged limits names None legs answer says = absurd (grind (arith, says))

-- a sweep under a reference is answered once, whether the desk wants references or not
under : (limits : Option LimitParts) (names : List (List ℕ)) (wants : Bool) (reference : List ℕ) (legs : List Routed)
    (answer : Answer)
    → (before : List Entry) × (after : List Entry) × AnswersOnce limits names before reference legs answer after
    → IsAnsweredUnder limits names wants (Some reference) legs answer
under limits names true reference legs answer once = once
under limits names false reference legs answer once = once

-- such an answer is what the sweep is answered
pub answered_again : (limits : Option LimitParts) (names : List (List ℕ)) (wants : Bool) (entries : List Entry)
    (submission : Submission) (reference : List ℕ) (answer : Option Answer) → submission.reference ≡ Some reference
    → AreDistinct entries → AnswersKnown (placed_under entries reference) submission.sweep.legs answer
    → IfSome answer (IsAnswered limits names wants submission)
answered_again limits names wants entries submission reference None is distinct says = tt
answered_again limits names wants entries submission reference (Some answer) is distinct says =
    rw is (under limits names wants reference submission.sweep.legs answer (
      entries,
      noted entries reference submission.sweep.legs answer,
      record {
        distinct = distinct;
        judged = judged limits names (placed_under entries reference) submission.sweep.legs answer says;
        after_is = refl;
      },
    ))

-- where a reference isn't answered, nothing is placed under it
nothing : (found : Option Placement) (legs : List Routed) → AnswersKnown found legs None → found ≡ None
nothing None legs says = refl
nothing (Some known) legs says = absurd says

-- a sweep that isn't answered has a free reference
pub is_free : (entries : List Entry) (submission : Submission) (reference : List ℕ) (answer : Option Answer)
    → submission.reference ≡ Some reference → AreDistinct entries
    → AnswersKnown (placed_under entries reference) submission.sweep.legs answer
    → IfNone answer (IsFree submission.reference)
is_free entries submission reference (Some answer) is distinct says = tt
is_free entries submission reference None is distinct says =
    rw is (entries, distinct, nothing (placed_under entries reference) submission.sweep.legs says)

-- a known answer is told, where there is one
pub known_told : {Shown : Type 0} (P : Answer → Type 0) (answer : Option Answer) (shown : Shown) → IfSome answer P
    → IfOk (ok_or answer shown) P
known_told P None shown says = tt
known_told P (Some known) shown says = says

-- else what is shown is told
pub shown_told : {Shown : Type 0} (P : Shown → Type 0) (closing : Option Shown) (answer : Option Answer) (shown : Shown)
    → IfSome closing P → closing ≡ Some shown → IfErr (ok_or answer shown) P
shown_told P closing None shown says is = subst (λ x. IfSome x P) is says
shown_told P closing (Some known) shown says is = tt

-- neither adds shares
pub known_counts : {Shown : Type 0} (answer : Option Answer) (shown : Shown) (legs : List Routed) (shares : ℕ)
    → IfSome answer (λ known. placed_shares known legs ≡ 0)
    → shares ≡ shares + placed_shares (told (ok_or answer shown)) legs
known_counts None shown legs shares says = search rules
known_counts (Some known) shown legs shares says = search rules

-- nor a sweep
pub known_places : {Shown : Type 0} (answer : Option Answer) (shown : Shown) (legs : List Routed)
    (placed : List PlacedSweep) → IfSome answer (λ known. (before : _) → placed_after before known legs ≡ before)
    → placed ≡ placed_after placed (told (ok_or answer shown)) legs
known_places None shown legs placed says = refl
known_places (Some known) shown legs placed says = sym (says placed)
