use Rattle.std.proofs.Common.{◌<◌, ◌-◌, nat_lt, List, length, ap, ◌∙◌, arith}
use Rattle.std.specs.List.{insert}
use Rattle.resend.specs.declared.run.Run.{Run}
use Rattle.resend.specs.KeptRuns.{joined_at}
use Rattle.resend.proofs.Leading.{leading-le}
use Rattle.resend.proofs.Joining.{runs_rise, end_insert, end_joined_at, added_first, added_behind, joined_at_long, where_true}
use Rattle.resend.proofs.runs.add.Goals as goal

pub runs_below-place-requires : goal.runs_below-place-requires
runs_below-place-requires c = rw c.as_slice.ensures.value (runs_rise 0 c.args.runs.now.items c.requires.kept.rise)

pub insert-there_is_room-requires : goal.insert-there_is_room-requires
insert-there_is_room-requires c =
    omega (arith, leading-le (λ (run : Run). nat_lt run.first_number c.args.leg.first_number) c.as_slice.result.now, c.runs_below-place.ensures, c.as_slice.ensures.len)

pub join-requires-clause-within : goal.join-requires-clause-within
join-requires-clause-within c =
    let long = c.insert-there_is_room.ensures.len ∙ where_true _ _ _ (c.insert-there_is_room.ensures.succeeds c.requires.room) in
    omega (arith, long, c.insert-there_is_room.new.self.ok.0, leading-le (λ (run : Run). nat_lt run.first_number c.args.leg.first_number) c.as_slice.result.now, c.runs_below-place.ensures, c.as_slice.ensures.len)

pub join-requires-clause-end : goal.join-requires-clause-end
join-requires-clause-end c =
    let items = c.insert-there_is_room.ensures.items ∙ where_true _ _ _ (c.insert-there_is_room.ensures.succeeds c.requires.room) in
    rw items (end_insert c.args.leg 18446744073709551615 c.runs_below-place.result c.args.runs.now.items c.requires.ends c.requires.kept.end)

pub join-requires-then-place-gt0-clause-within : goal.join-requires-then-place-gt0-clause-within
join-requires-then-place-gt0-clause-within c =
    let len = c.insert-there_is_room.ensures.len ∙ where_true _ _ _ (c.insert-there_is_room.ensures.succeeds c.requires.room) in
    let within : c.runs_below-place.result < length c.insert-there_is_room.new.self.items =
    omega (arith, len, c.insert-there_is_room.new.self.ok.0, leading-le (λ (run : Run). nat_lt run.first_number c.args.leg.first_number) c.as_slice.result.now, c.runs_below-place.ensures, c.as_slice.ensures.len) in
    let long = ap (λ (runs : List Run). length runs) c.join.ensures.items in
    omega (arith, long, joined_at_long c.runs_below-place.result c.insert-there_is_room.new.self.items within)

pub join-requires-then-place-gt0-clause-end : goal.join-requires-then-place-gt0-clause-end
join-requires-then-place-gt0-clause-end c =
    let items = c.insert-there_is_room.ensures.items ∙ where_true _ _ _ (c.insert-there_is_room.ensures.succeeds c.requires.room) in
    rw (c.join.ensures.items, items)
    (end_joined_at 18446744073709551615 c.runs_below-place.result (insert c.args.runs.now.items c.runs_below-place.result c.args.leg)
    (end_insert c.args.leg 18446744073709551615 c.runs_below-place.result c.args.runs.now.items c.requires.ends c.requires.kept.end))

pub returns-then-place-gt0-clause-items : goal.returns-then-place-gt0-clause-items
returns-then-place-gt0-clause-items c =
    let items = c.insert-there_is_room.ensures.items ∙ where_true _ _ _ (c.insert-there_is_room.ensures.succeeds c.requires.room) in
    let place_is = rw c.as_slice.ensures.value at c.runs_below-place.ensures in
    c.join-then-place-gt0.ensures.items ∙ ap (joined_at (c.runs_below-place.result - 1)) (c.join.ensures.items ∙ ap (joined_at c.runs_below-place.result) items)
    ∙ added_behind c.args.leg c.runs_below-place.result (c.runs_below-place.result - 1) c.args.runs.now.items c.requires.kept.apart place_is (omega (arith, c.if-place-gt0.true))

pub returns-else-place-gt0-clause-items : goal.returns-else-place-gt0-clause-items
returns-else-place-gt0-clause-items c =
    let items = c.insert-there_is_room.ensures.items ∙ where_true _ _ _ (c.insert-there_is_room.ensures.succeeds c.requires.room) in
    let place_is = rw c.as_slice.ensures.value at c.runs_below-place.ensures in
    c.join.ensures.items ∙ ap (joined_at c.runs_below-place.result) items
    ∙ added_first c.args.leg c.runs_below-place.result c.args.runs.now.items c.requires.kept.apart place_is (omega (arith, c.if-place-gt0.false))
