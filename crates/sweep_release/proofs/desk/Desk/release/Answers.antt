use Rattle.std.proofs.Common.{◌≡◌, ◌+◌, ◌≤◌, [], ◌∷◌, ◌++◌, length, map, Some, Ok, refl, ap, sym, ◌∙◌, subst, arith}
use Rattle.std.specs.Prelude.{IfNone}
use Rattle.leg.specs.Answering.{Answers}
use Rattle.sweep_release.specs.declared.desk_entry.DeskEntry.TheVariants as entry
use Rattle.sweep_release.specs.declared.receipt.Receipt.{Receipt}
use Rattle.sweep_release.specs.declared.release_fault.ReleaseFault.TheVariants.{OutOfMemory}
use Rattle.sweep_release.specs.Desk.{release_refusal, release_unless, next_number, release}
use Rattle.sweep_release.specs.History.{KeptDesk, without_room, with_entries, release_entries}
use Rattle.sweep_release.specs.Kept.{released_sweeps, venue_seen}
use Rattle.sweep_release.proofs.Answered.{answered}
use Rattle.sweep_release.proofs.KeptReleased.{have_room, kept_released, seen_released, released_whole}
use Rattle.sweep_release.proofs.desk.Desk.release.Goals as goal

pub enqueue-requires-clause-room : goal.enqueue-requires-clause-room
enqueue-requires-clause-room c =
    let legs = c.as_slice-legs.result.now in
    let reserved = ap (λ s. s.room) c.self.view_is in
    have_room c.self.inside legs c.self.invariant (omega (arith, c.in_ok-reserve.ensures.ok, reserved))

pub invariant_of-self : goal.invariant_of-self
invariant_of-self c =
    let legs = c.as_slice-legs.result.now in
    let short : length legs ≤ 32 = subst (λ r. IfNone r (length legs ≤ 32)) c.in_default.is c.refusal.ensures.short in
    let history_is = c.push_reserved.ensures.items ∙ ap (λ ls. c.self.inside.history.items ++ entry.Released (record { legs = ls }) ∷ []) (sym c.as_slice-legs.ensures) in
    let reserved = ap (λ s. s.room) c.self.view_is in
    let spare = c.self.invariant.spare in
    kept_released c.self.inside _ legs c.self.invariant
    (ap (λ s. release_refusal s.desk legs) c.self.view_is ∙ (ap (λ d. release_refusal d legs) c.reserve.ensures.desk ∙ (sym c.refusal.ensures.value ∙ c.in_default.is)))
    short c.enqueue.ensures history_is refl
    (ap (λ n. c.self.inside.shares + n) c.shares_of.ensures.value) refl
    (omega (arith, c.in_ok-reserve.ensures.ok, reserved))
    (omega (arith, c.in_ok-reserve.ensures.ok, reserved, spare, c.push_reserved.ensures.len, c.push_reserved.ensures.capacity))

pub returns-clause-answer : goal.returns-clause-answer
returns-clause-answer c =
    let legs = c.as_slice-legs.result.now in
    let mid = c.reserve.new.self in
    let items = c.push_reserved.new.self.items in
    let receipt : Receipt = record { number = c.self.inside.sweeps + 1; shares = c.shares_of.result } in
    let now : KeptDesk = record { desk = record { sweeps = released_sweeps items; venues = map venue_seen c.enqueue.new.venues.items }; history = items; room = 0 } in
    let history_is = c.push_reserved.ensures.items ∙ ap (λ ls. c.self.inside.history.items ++ entry.Released (record { legs = ls }) ∷ []) (sym c.as_slice-legs.ensures) in
    let count = c.self.invariant.count in
    let number : c.self.inside.sweeps + 1 ≡ next_number mid.desk = ap (λ n. n + 1) (count ∙ ap (λ s. length s.desk.sweeps) c.self.view_is) in
    let same : without_room mid ≡ without_room c.args.self.now = λ k. record { desk = c.reserve.ensures.desk k; history = c.reserve.ensures.history k } in
    subst (λ w. Answers OutOfMemory w (with_entries w (release_entries c.args.sweep.legs (release w.desk c.args.sweep.legs).0) (release w.desk c.args.sweep.legs)) (Ok receipt) (without_room now)) same
    (subst (λ ls. Answers OutOfMemory (without_room mid) (with_entries (without_room mid) (release_entries ls (release mid.desk ls).0) (release mid.desk ls)) (Ok receipt) (without_room now)) c.as_slice-legs.ensures
    (released_whole mid now legs receipt (ap (λ d. release_refusal d legs) c.reserve.ensures.desk ∙ (sym c.refusal.ensures.value ∙ c.in_default.is)) number c.shares_of.ensures.value
    (seen_released c.self.inside mid legs c.enqueue.new.venues.items items (c.self.inside.sweeps + 1) c.self.view_is c.enqueue.ensures history_is)
    (history_is ∙ ap (λ s. s.history ++ entry.Released (record { legs = legs }) ∷ []) c.self.view_is)))

pub returns-clause-reserved : goal.returns-clause-reserved
returns-clause-reserved c = λ room. (answered OutOfMemory _ _ _ _ (returns-clause-answer c)).0

pub returns-in-Some-clause-reserved : goal.returns-in-Some-clause-reserved
returns-in-Some-clause-reserved c = λ room.
    let refused : release_refusal c.args.self.now.desk c.as_slice-legs.result.now ≡ Some c.in-Some.fault = sym c.in-Some.ensures.value in
    sym (ap (λ ls. (release c.args.self.now.desk ls).0) (sym c.as_slice-legs.ensures) ∙ ap (λ r. (release_unless r c.args.self.now.desk c.as_slice-legs.result.now).0) refused)
