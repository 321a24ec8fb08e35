-- What lasts over all calls: released legs, and a gate that is shut.
use Rattle.std.proofs.Common.{◌≡◌, ℕ, ◌+◌, inl, inr, List, [], ◌∷◌, ◌++◌, length, Option, Some, None, refl, ap, sym, ◌∙◌, subst}
use Rattle.std.specs.Prelude.{IfOk}
use Rattle.std.proofs.lemmas.Bool.{cases_eq, cases_lt}
use Rattle.std.proofs.lemmas.List.{append_assoc, append-nil}
use Rattle.leg.specs.declared.sweep.Routed.{Routed}
use Rattle.sweep_release.specs.declared.desk_entry.DeskEntry.{DeskEntry}
use Rattle.sweep_release.specs.declared.gate.Gate.{Gate}
use Rattle.sweep_release.specs.declared.gate.Gate.TheVariants.{Shut}
use Rattle.sweep_release.specs.declared.release_fault.ReleaseFault.{ReleaseFault}
use Rattle.sweep_release.specs.Released.{legs_to, released}
use Rattle.sweep_release.specs.Desk.{DeskVenue, DeskParts, venue_at, gate_of, with_gate, release_refusal, release_unless, release}
use Rattle.sweep_release.specs.History.{again, replay}
use Rattle.sweep_release.specs.Laws.{OnlyAppends}
use Rattle.sweep_release.proofs.Venues.{venue_at-other, venue_at-this, with_venue-past, gate_of-one_left}
use Rattle.sweep_release.proofs.Released.{released-push}
use Rattle.sweep_release.proofs.Calls.{IsStep, stays, releases, turns, leaves, step}

nothing_more : (desk after : DeskParts) (venue : ℕ) → after.sweeps ≡ desk.sweeps → OnlyAppends venue desk after
nothing_more desk after venue e = ([], ap (released venue) e ∙ sym (append-nil (released venue desk.sweeps)))

appends-step : (desk after : DeskParts) (venue : ℕ) → IsStep desk after → OnlyAppends venue desk after
appends-step desk after venue (stays e) = nothing_more desk after venue (ap (λ d. d.sweeps) e)
appends-step desk after venue (releases legs fine e) =
    (legs_to venue (length desk.sweeps + 1) 1 legs, ap (λ d. released venue d.sweeps) e ∙ released-push venue desk.sweeps legs)
appends-step desk after venue (turns turned gate final e) = nothing_more desk after venue (ap (λ d. d.sweeps) e)
appends-step desk after venue (leaves of leg rest first e) = nothing_more desk after venue (ap (λ d. d.sweeps) e)

appends-then : (desk next after : DeskParts) (venue : ℕ) → OnlyAppends venue desk next → OnlyAppends venue next after → OnlyAppends venue desk after
appends-then desk next after venue first second =
    (first.0 ++ second.0, second.1 ∙ (ap (λ l. l ++ second.0) first.1 ∙ append_assoc (released venue desk.sweeps) first.0 second.0))

pub appends-replay : (desk : DeskParts) (entries : List DeskEntry) (venue : ℕ) → OnlyAppends venue desk (replay desk entries)
appends-replay desk [] venue = nothing_more desk desk venue refl
appends-replay desk (entry ∷ entries) venue =
    appends-then desk (again desk entry) (replay (again desk entry) entries) venue
    (appends-step desk (again desk entry) venue (step desk entry)) (appends-replay (again desk entry) entries venue)

shut-turns : (desk : DeskParts) (turned : ℕ) (gate : Gate) (venue : ℕ) → (gate_of desk turned ≡ Shut → gate ≡ Shut) → gate_of desk venue ≡ Shut → gate_of (with_gate turned gate desk) venue ≡ Shut
shut-turns desk turned gate venue final h =
    let now : DeskVenue = record { gate = gate; left = (venue_at desk turned).left } in
    elim (cases_eq venue turned) [
      | inl same ↦
          elim (cases_lt turned (length desk.venues)) [
            | inl there ↦
                ap (gate_of (with_gate turned gate desk)) same
                ∙ (ap (λ v. v.gate) (venue_at-this turned now desk there)
                ∙ final (subst (λ v. gate_of desk v ≡ Shut) same h))
            | inr past ↦ ap (λ d. gate_of d venue) (with_venue-past turned now desk past) ∙ h
          ]
      | inr differs ↦ ap (λ v. v.gate) (venue_at-other turned venue now desk differs) ∙ h
    ]

shut-step : (desk after : DeskParts) (venue : ℕ) → IsStep desk after → gate_of desk venue ≡ Shut → gate_of after venue ≡ Shut
shut-step desk after venue (stays e) h = ap (λ d. gate_of d venue) e ∙ h
shut-step desk after venue (releases legs fine e) h = ap (λ d. gate_of d venue) e ∙ h
shut-step desk after venue (turns turned gate final e) h = ap (λ d. gate_of d venue) e ∙ shut-turns desk turned gate venue final h
shut-step desk after venue (leaves of leg rest first e) h = ap (λ d. gate_of d venue) e ∙ (gate_of-one_left of venue desk ∙ h)

pub shut-replay : (desk : DeskParts) (entries : List DeskEntry) (venue : ℕ) → gate_of desk venue ≡ Shut → gate_of (replay desk entries) venue ≡ Shut
shut-replay desk [] venue h = h
shut-replay desk (entry ∷ entries) venue h = shut-replay (again desk entry) entries venue (shut-step desk (again desk entry) venue (step desk entry) h)

lists_unless : (desk : DeskParts) (legs : List Routed) (venue : ℕ) (refusal : Option ReleaseFault) → IfOk (release_unless refusal desk legs).0 (λ receipt. released venue (release_unless refusal desk legs).1.sweeps ≡ released venue desk.sweeps ++ legs_to venue receipt.number 1 legs)
lists_unless desk legs venue (Some fault) = tt
lists_unless desk legs venue None = released-push venue desk.sweeps legs

pub released-release : (desk : DeskParts) (legs : List Routed) (venue : ℕ) → IfOk (release desk legs).0 (λ receipt. released venue (release desk legs).1.sweeps ≡ released venue desk.sweeps ++ legs_to venue receipt.number 1 legs)
released-release desk legs venue = lists_unless desk legs venue (release_refusal desk legs)
