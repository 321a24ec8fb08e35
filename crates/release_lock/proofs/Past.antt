-- To a venue that the desk hasn't got nothing is released.
use Rattle.std.proofs.Common.{◌≡◌, ℕ, suc, ◌+◌, ◌<◌, ◌≤◌, Bool, true, false, List, [], ◌∷◌, ◌++◌, length, All, Option, Some, None, refl, ap, ◌∙◌, subst, arith, if◌then◌else◌}
use Rattle.std.specs.Prelude.{◌==◌, nat_le, nat_lt}
use Rattle.std.proofs.lemmas.Bool.{eqb-true}
use Rattle.std.proofs.lemmas.List.{length-replicate}
use Rattle.std.proofs.lemmas.List.Elements.{All-head, All-tail}
use Rattle.leg.specs.Refusing.{◌or_then◌, refused_if}
use Rattle.leg.specs.declared.leg.Leg.{Leg}
use Rattle.leg.specs.declared.sweep.Routed.{Routed}
use Rattle.sweep_release.specs.declared.desk_entry.DeskEntry.{DeskEntry}
use Rattle.sweep_release.specs.declared.release_fault.ReleaseFault.{ReleaseFault}
use Rattle.sweep_release.specs.declared.release_fault.ReleaseFault.TheVariants.{Empty, TooManyLegs, UnknownVenue}
use Rattle.sweep_release.specs.Released.{legs_to, released}
use Rattle.sweep_release.specs.Desk.{DeskParts, new_desk, refused_at, release_refusal}
use Rattle.sweep_release.specs.History.{again, replay, KeptDesk}
use Rattle.sweep_release.proofs.Backlog.{none_second}
use Rattle.sweep_release.proofs.Refusals.{all_known}
use Rattle.sweep_release.proofs.Released.{released-push}
use Rattle.sweep_release.proofs.Calls.{IsStep, stays, releases, turns, leaves, step}
use Rattle.release_lock.specs.Locked.{Replays}
use Rattle.release_lock.proofs.Replaying.{same_venues}

none_first : (a b : Option ReleaseFault) → (a or_then b) ≡ None → a ≡ None
none_first (Some fault) b e = absurd cc
none_first None b e = refl

known : (desk : DeskParts) (legs : List Routed) → release_refusal desk legs ≡ None
    → All (λ routed. routed.venue < length desk.venues) legs
known desk legs e =
    all_known (length desk.venues) legs
    (none_first (refused_at UnknownVenue (λ venue. nat_le (length desk.venues) venue) legs) _
    (none_second (refused_if (nat_lt 32 (length legs)) TooManyLegs) _
    (none_second (refused_if (length legs == 0) Empty) _ e)))

skipped : (b : Bool) (leg : Leg) (legs : List Leg) → (b ≡ true → ⊥) → legs ≡ [] → (if b then leg ∷ legs else legs) ≡ []
skipped true leg legs other e = absurd (other refl)
skipped false leg legs other e = e

none_to : (venues venue number place : ℕ) (legs : List Routed) → All (λ routed. routed.venue < venues) legs
    → venues ≤ venue → legs_to venue number place legs ≡ []
none_to venues venue number place [] all past = refl
none_to venues venue number place (routed ∷ legs) all past =
    let within = All-head (λ (r : Routed). r.venue < venues) routed legs all in
    skipped (routed.venue == venue) (record { id = record { sweep = number; place = place }; terms = routed.terms })
    (legs_to venue number (suc place) legs)
    (λ e. let same = eqb-true routed.venue venue e in omega (arith, same, within, past))
    (none_to venues venue number (suc place) legs (All-tail (λ (r : Routed). r.venue < venues) routed legs all) past)

none_step : (desk after : DeskParts) (venue : ℕ) → IsStep desk after → length desk.venues ≤ venue
    → released venue desk.sweeps ≡ [] → released venue after.sweeps ≡ []
none_step desk after venue (stays e) past none = ap (λ d. released venue d.sweeps) e ∙ none
none_step desk after venue (releases legs fine e) past none =
    ap (λ d. released venue d.sweeps) e
    ∙ (released-push venue desk.sweeps legs
    ∙ (ap (λ l. l ++ legs_to venue (length desk.sweeps + 1) 1 legs) none
    ∙ none_to (length desk.venues) venue (length desk.sweeps + 1) 1 legs (known desk legs fine) past))
none_step desk after venue (turns turned gate final e) past none = ap (λ d. released venue d.sweeps) e ∙ none
none_step desk after venue (leaves of leg rest first e) past none = ap (λ d. released venue d.sweeps) e ∙ none

none_past : (desk : DeskParts) (calls : List DeskEntry) (venue : ℕ) → length desk.venues ≤ venue
    → released venue desk.sweeps ≡ [] → released venue (replay desk calls).sweeps ≡ []
none_past desk [] venue past none = none
none_past desk (call ∷ calls) venue past none =
    let same = same_venues desk (call ∷ []) in
    none_past (again desk call) calls venue (omega (arith, same, past))
    (none_step desk (again desk call) venue (step desk call) past none)

pub released_past : (kept : KeptDesk) (venue : ℕ) → Replays kept → length kept.desk.venues ≤ venue
    → released venue kept.desk.sweeps ≡ []
released_past kept venue replays past =
    let new = new_desk (length kept.desk.venues) in
    let many : length new.venues ≡ length kept.desk.venues = length-replicate (length kept.desk.venues) _ in
    subst (λ (d : DeskParts). released venue d.sweeps ≡ []) replays
    (none_past new kept.history venue (omega (arith, many, past)) refl)
