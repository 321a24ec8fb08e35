-- A desk that its history leads to, and what is known of it.
use Rattle.std.proofs.Common.{◌≡◌, ℕ, ◌+◌, List, [], ◌∷◌, ◌++◌, length, refl, ap, sym, ◌∙◌, subst}
use Rattle.std.proofs.lemmas.List.{length-set, length-replicate}
use Rattle.sweep_release.specs.declared.desk_entry.DeskEntry.{DeskEntry}
use Rattle.sweep_release.specs.Desk.{DeskVenue, DeskParts, new_desk, venue_at, gate_of}
use Rattle.sweep_release.specs.History.{again, replay, KeptDesk}
use Rattle.sweep_release.specs.Laws.{IsCounted}
use Rattle.sweep_release.proofs.Backlog.{counted-replay}
use Rattle.sweep_release.proofs.Calls.{IsStep, stays, releases, turns, leaves, step}
use Rattle.release_lock.specs.Locked.{Replays}

pub replay-append : (desk : DeskParts) (xs ys : List DeskEntry) → replay desk (xs ++ ys) ≡ replay (replay desk xs) ys
replay-append desk [] ys = refl
replay-append desk (call ∷ xs) ys = replay-append (again desk call) xs ys

-- no call changes how many venues there are
venues_step : (desk after : DeskParts) → IsStep desk after → length after.venues ≡ length desk.venues
venues_step desk after (stays e) = ap (λ d. length d.venues) e
venues_step desk after (releases legs fine e) = ap (λ d. length d.venues) e
venues_step desk after (turns venue gate final e) =
    let now : DeskVenue = record { gate = gate; left = (venue_at desk venue).left } in
    ap (λ d. length d.venues) e ∙ length-set desk.venues venue now
venues_step desk after (leaves venue leg legs first e) =
    let now : DeskVenue = record { gate = gate_of desk venue; left = (venue_at desk venue).left + 1 } in
    ap (λ d. length d.venues) e ∙ length-set desk.venues venue now

pub same_venues : (desk : DeskParts) (calls : List DeskEntry) → length (replay desk calls).venues ≡ length desk.venues
same_venues desk [] = refl
same_venues desk (call ∷ calls) =
    same_venues (again desk call) calls ∙ venues_step desk (again desk call) (step desk call)

-- calls that are written behind the history lead on
pub leads_on : (before after : KeptDesk) (entries : List DeskEntry) → Replays before
    → after.desk ≡ replay before.desk entries → after.history ≡ before.history ++ entries → Replays after
leads_on before after entries replays desk history =
    let venues : length after.desk.venues ≡ length before.desk.venues =
    ap (λ d. length d.venues) desk ∙ same_venues before.desk entries in
    let new = new_desk (length before.desk.venues) in
    ap (λ n. replay (new_desk n) after.history) venues
    ∙ (ap (replay new) history
    ∙ (replay-append new before.history entries
    ∙ (ap (λ d. replay d entries) replays
    ∙ sym desk)))

-- a new desk is led to by its empty history
pub replays_new : (venues : ℕ) (kept : KeptDesk) → kept.desk ≡ new_desk venues → kept.history ≡ [] → Replays kept
replays_new venues kept desk history =
    ap (λ h. replay (new_desk (length kept.desk.venues)) h) history
    ∙ (ap (λ d. new_desk (length d.venues)) desk
    ∙ (ap new_desk (length-replicate venues _)
    ∙ sym desk))

-- each leg released is placed or left
pub is_counted : (kept : KeptDesk) (venue : ℕ) → Replays kept → IsCounted kept.desk venue
is_counted kept venue replays =
    subst (λ d. IsCounted d venue) replays (counted-replay (length kept.desk.venues) kept.history venue)
