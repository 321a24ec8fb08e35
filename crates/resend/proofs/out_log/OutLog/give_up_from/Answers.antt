use Rattle.std.proofs.Common.{◌<◌, nat_lt, nat_le, length, List, ap, arith}
use Rattle.leg.specs.declared.leg_state.LegState.TheVariants.{Withdrawn}
use Rattle.resend.specs.declared.sent.Sent.{Sent}
use Rattle.resend.specs.Kept.{kept_legs}
use Rattle.resend.proofs.Kept.{with_entries}
use Rattle.resend.proofs.Leading.{leading-le}
use Rattle.resend.proofs.Settling.{window_rises, entries_settled, given-kept}
use Rattle.std.proofs.lemmas.List.{length-drop}
use Rattle.std.proofs.lemmas.List.Elements.{All-drop}
use Rattle.resend.proofs.RunsKept.{window_ends, have_given}
use Rattle.resend.proofs.Standing.{settled_said}
use Rattle.resend.proofs.out_log.OutLog.give_up_from.Goals as goal

pub doubts_below-count-requires : goal.doubts_below-count-requires
doubts_below-count-requires c = rw c.as_slice.ensures.value (window_rises _ _ _ _ c.self.invariant.0)

pub after-requires : goal.after-requires
after-requires c =
    let log = c.self.inside in
    let count_is = rw c.as_slice.ensures.value at c.doubts_below-count.ensures in
    rw c.as_slice-2.ensures.value (omega (arith, leading-le (λ (sent : Sent). nat_lt sent.number c.args.number) log.window.items, count_is))

pub add_all-requires-clause-kept : goal.add_all-requires-clause-kept
add_all-requires-clause-kept c = c.self.invariant.1.kept

pub add_all-requires-clause-ends : goal.add_all-requires-clause-ends
add_all-requires-clause-ends c =
    let log = c.self.inside in
    rw (c.after.ensures, c.as_slice-2.ensures.value)
    (All-drop (λ (s : Sent). s.number < 18446744073709551615) c.doubts_below-count.result log.window.items (window_ends log.last log.last_ordinal (kept_legs log.ids.items log.window.items log.runs.items) log.window.items c.self.invariant.0))

pub add_all-requires-clause-room : goal.add_all-requires-clause-room
add_all-requires-clause-room c =
    let log = c.self.inside in
    let long = ap (λ (sents : List Sent). length sents) (rw c.as_slice-2.ensures.value at c.after.ensures) in
    omega (arith, c.self.invariant.1.room, long, length-drop c.doubts_below-count.result log.window.items)

pub invariant_of-self : goal.invariant_of-self
invariant_of-self c =
    let log = c.self.inside in
    let legs = (kept_legs log.ids.items log.window.items log.runs.items) in
    let count_is = rw c.as_slice.ensures.value at c.doubts_below-count.ensures in
    let kept = given-kept log.last log.last_ordinal legs log.window.items c.self.invariant.0 c.args.number _ count_is in
    let part = rw (c.after.ensures, c.as_slice-2.ensures.value) at c.add_all.ensures.items in
    let have = have_given log.last log.last_ordinal legs log.window.items log.runs.items _ _ _ _ _ c.self.invariant.0 c.self.invariant.1 c.add_all.ensures.kept c.args.number _ count_is
    part (rw (c.after.ensures, c.as_slice-2.ensures.value) at c.add_all.ensures.len) c.add_all.ensures.capacity in
    let said = settled_said (λ n. nat_le c.args.number n) Withdrawn log.last log.ids.items log.window.items _ log.runs.items _ kept.rising kept.in_doubt have.settled in
    rw (c.truncate.ensures.items, said) (kept, have)

pub returns : goal.returns
returns c =
    let log = c.self.inside in
    let legs = (kept_legs log.ids.items log.window.items log.runs.items) in
    let count_is = rw c.as_slice.ensures.value at c.doubts_below-count.ensures in
    let kept = given-kept log.last log.last_ordinal legs log.window.items c.self.invariant.0 c.args.number _ count_is in
    let part = rw (c.after.ensures, c.as_slice-2.ensures.value) at c.add_all.ensures.items in
    let have = have_given log.last log.last_ordinal legs log.window.items log.runs.items _ _ _ _ _ c.self.invariant.0 c.self.invariant.1 c.add_all.ensures.kept c.args.number _ count_is
    part (rw (c.after.ensures, c.as_slice-2.ensures.value) at c.add_all.ensures.len) c.add_all.ensures.capacity in
    let said = settled_said (λ n. nat_le c.args.number n) Withdrawn log.last log.ids.items log.window.items _ log.runs.items _ kept.rising kept.in_doubt have.settled in
    rw (← c.self.view_is, c.truncate.ensures.items, said)
    (ap (with_entries log.max_number) (entries_settled log.last log.last_ordinal legs log.window.items c.self.invariant.0 (λ n. nat_le c.args.number n) Withdrawn))
