-- On an audited day legs that left have ids of their own, and no note given is on a leg that was asked for: each note is
-- on a leg that the exchange accepted, and such a leg isn't withdrawn.
use Rattle.std.proofs.Common.{◌≡◌, ◌≤◌, ℕ, zero, suc, true, List, [], ◌∷◌, length, Some, refl, sym, ap, subst, ◌∙◌, inl, inr, arith, length-append}
use Rattle.std.specs.List.{Contains}
use Rattle.std.proofs.lemmas.Bool.{cases_Bool}
use Rattle.std.proofs.lemmas.Option.{same_Some}
use mathlib.Core.List.{IsPrefix}
use Rattle.leg.specs.LegId.{LegIdParts}
use Rattle.leg.specs.Numbered.{numbered}
use Rattle.leg.specs.declared.leg.Leg.{Leg}
use Rattle.leg.specs.declared.placed_leg.PlacedLeg.{PlacedLeg}
use Rattle.leg.specs.declared.sweep.Routed.{Routed}
use Rattle.dialect.specs.declared.note.Note.{Note}
use Rattle.dialect.specs.declared.note.Note.TheVariants as note
use Rattle.share_ledger.specs.Entries.{is_about}
use Rattle.share_ledger.proofs.OneMore.{is_same_leg-true}
use Rattle.sweep_release.specs.Released.{released}
use Rattle.release_lock.specs.Queues.{placed_from}
use Rattle.venue_line.specs.Line.{Line}
use Rattle.venue_line.specs.ForGood.{StaysSettled}
use Rattle.venue_line.proofs.Kept.{numbered_there}
use Rattle.venue_line.proofs.GivenSteps.{Whole}
use Rattle.venue_line.proofs.LineGives.{line_holds, accepted_of}
use Rattle.line_notes.specs.OnAccepted.{leg_named}
use Rattle.line_notes.specs.NotesTheorem.{NotesAreOnAccepted}
use Rattle.line_notes.proofs.NotesGiven.{ordinal_named}
use Rattle.schedule.proofs.LegNumbers.{one_ordinal}
use Rattle.worker_line.specs.Gone.{HaveOwnIds, IsGoneLeg}
use Rattle.worker_line.specs.Shares.{AreSpared}

-- the released legs that left, where those that were taken are the first of these
pub placed_length : (from : ℕ) (legs : List Leg) → length (placed_from from legs) ≡ length legs
placed_length from [] = refl
placed_length from (leg ∷ legs) = ap suc (placed_length (suc from) legs)

pub taken_within : (taken : List PlacedLeg) (legs : List Leg) → IsPrefix taken (placed_from 1 legs)
    → length taken ≤ length legs
taken_within taken legs first =
    let long = length-append taken first.0 in
    let same = ap length first.1 in
    let count = placed_length 1 legs in
    omega arith

numbered_from : (legs : List Leg) (number : ℕ) (leg : Leg) → numbered number legs ≡ Some leg → 1 ≤ number
numbered_from legs zero leg is = absurd cc
numbered_from legs (suc k) leg is = omega arith

-- what is released later takes no ordinal of a leg that left
first_released : (a w : Line) → StaysSettled a w → w.left ≤ length a.released → (ordinal : ℕ) (leg : Leg)
    → ordinal ≤ w.left → numbered ordinal w.released ≡ Some leg → numbered ordinal a.released ≡ Some leg
first_released a w stays within ordinal leg low is =
    let from = numbered_from w.released ordinal leg is in
    let there = numbered_there ordinal a.released from (omega arith) in
    let one : there.0 ≡ leg = same_Some there.0 leg (sym (stays.released ordinal there.0 there.1) ∙ is) in
    subst (λ (l : Leg). numbered ordinal a.released ≡ Some l) one there.1

pub own_ids : (venue : ℕ) (sweeps : List (List Routed)) (a w : Line) → a.released ≡ released venue sweeps
    → StaysSettled a w → w.left ≤ length a.released → HaveOwnIds w
own_ids venue sweeps a w is stays within ordinal other leg more low lower here there same =
    one_ordinal venue sweeps ordinal other leg more
    (subst (λ l. numbered ordinal l ≡ Some leg) is (first_released a w stays within ordinal leg low here))
    (subst (λ l. numbered other l ≡ Some more) is (first_released a w stays within other more lower there)) same

-- the leg that a note is about
pub about_is : (id : LegIdParts) (n : Note) → is_about id n ≡ true → leg_named n ≡ Some id
about_is id (note.Report report) is = ap (λ i. Some i) (is_same_leg-true report.id id is)
about_is id (note.Refused leg) is = ap (λ i. Some i) (is_same_leg-true leg id is)
about_is id (note.Unread fault) is = absurd cc

pub spared_by : (w : Line) (asked : List LegIdParts) → Whole w → HaveOwnIds w → NotesAreOnAccepted w
    → ((id : LegIdParts) → Contains asked id → IsGoneLeg w id) → AreSpared w.given asked
spared_by w asked h own notes each id n here there =
    elim (cases_Bool (is_about id n)) [
      | inr other ↦ other
      | inl is ↦
          (let holds = line_holds w h.0 h.1 in
          let on = ordinal_named w holds n id (notes n there) (about_is id n is) in
          let sent = accepted_of w h.0 h.1 on.ordinal on.accepted in
          let left = h.0.copies.sent_left sent.message.number sent.leg sent.there in
          let low : on.ordinal ≤ w.left = (let e = sent.same in let l = left.1 in omega arith) in
          let gone = each id here in
          let same = own gone.ordinal on.ordinal gone.leg on.leg gone.withdrawn.left low gone.whole on.whole
          (gone.same ∙ sym on.same) in
          absurd (holds.withdrawn_is_missing gone.ordinal gone.withdrawn
          (subst (Contains holds.ordinals) (sym same) on.accepted)))
    ]
