use Rattle.std.proofs.Common.{◌≡◌, ◌+◌, ◌-◌, set, get_or, refl, ap, ◌∙◌, arith}
use Rattle.std.specs.Vec.{with_item}
use Rattle.std.proofs.lemmas.List.{get_or_default}
use Rattle.std.proofs.lemmas.Option.{slice_get_within, get_or_from_slice_get}
use Rattle.share_ledger.specs.declared.ledger.Ledger.{Ledger}
use Rattle.share_ledger.proofs.KeptLegs.{due_counts}
use Rattle.share_ledger.proofs.KeptChanged.{changed_due, changed_stands, changed_there, gain_fits, kept_changed}
use Rattle.share_ledger.proofs.ledger.Ledger.settle.Goals as goal

pub overflow_sub-self : goal.overflow_sub-self
overflow_sub-self c =
    omega (
      arith,
      c.due.ensures,
      c.due-2.ensures,
      changed_due c.args.self.now c.args.id c.args.was c.args.now
          c.args.entry c.requires.kept c.requires.change,
    )

pub overflow_sub-self-2 : goal.overflow_sub-self-2
overflow_sub-self-2 c =
    let at = changed_stands c.args.self.now c.args.id c.args.was c.args.now c.args.entry c.requires.kept
    c.requires.change in
    let one = due_counts c.args.self.now.sweeps.items at.i at.j at.legs c.args.was at.sweep_is at.leg_is in
    let due = c.requires.kept.due in
    omega (arith, c.due.ensures, one, due)

pub index_mut-requires : goal.index_mut-requires
index_mut-requires c =
    let there = changed_there c.args.self.now c.args.id c.args.was c.args.now c.args.entry c.requires.kept
    c.requires.change in
    omega (arith, there, c.from.ensures, c.number.ensures.value, c.args.self.now.resolved.ok.0)

pub overflow_add-index_mut : goal.overflow_add-index_mut
overflow_add-index_mut c =
    let old = c.args.self.now in
    let at = changed_stands old c.args.id c.args.was c.args.now c.args.entry c.requires.kept c.requires.change in
    let there = changed_there old c.args.id c.args.was c.args.now c.args.entry c.requires.kept c.requires.change in
    let few = gain_fits old c.args.id c.args.was c.args.now c.args.entry c.requires.kept c.requires.change
    (with_item at.legs at.j c.args.now) refl in
    let before : c.index_mut.result.now ≡ get_or old.resolved.items c.args.was.venue 0 =
    c.index_mut.ensures.value
    ∙ (ap (λ n. get_or old.resolved.items n c.index_mut.result.now) (c.from.ensures ∙ c.number.ensures.value)
    ∙ get_or_default old.resolved.items c.args.was.venue c.index_mut.result.now 0 there) in
    omega (arith, few, before, c.still_open.ensures.value, c.still_open-2.ensures.value)

pub index_mut-requires-2 : goal.index_mut-requires-2
index_mut-requires-2 c =
    let at = changed_stands c.args.self.now c.args.id c.args.was c.args.now c.args.entry c.requires.kept
    c.requires.change in
    let sweep = at.sweep in
    omega (
      arith,
      sweep,
      c.sweep.ensures.value,
      slice_get_within c.args.self.now.sweeps.items at.i at.legs at.sweep_is,
      c.args.self.now.sweeps.ok.0,
    )

pub index_mut-requires-3 : goal.index_mut-requires-3
index_mut-requires-3 c =
    let at = changed_stands c.args.self.now c.args.id c.args.was c.args.now c.args.entry c.requires.kept
    c.requires.change in
    let sweep = at.sweep in
    let place = at.place in
    let i : c.sweep.result - 1 ≡ at.i = omega (arith, sweep, c.sweep.ensures.value) in
    let legs : c.index_mut-2.result.now ≡ at.legs =
    c.index_mut-2.ensures.value
    ∙ (ap (λ n. get_or c.args.self.now.sweeps.items n c.index_mut-2.result.now) i
    ∙ get_or_from_slice_get c.args.self.now.sweeps.items at.i at.legs _ at.sweep_is) in
    omega (
      arith,
      place,
      c.place.ensures.value,
      c.from-2.ensures,
      slice_get_within at.legs.items at.j c.args.was
          at.leg_is,
      at.legs.ok.0,
      ap (λ l. l.len) legs,
    )

pub push_reserved-requires : goal.push_reserved-requires
push_reserved-requires c =
    let at = changed_stands c.args.self.now c.args.id c.args.was c.args.now c.args.entry c.requires.kept
    c.requires.change in
    let one = due_counts c.args.self.now.sweeps.items at.i at.j at.legs c.args.was at.sweep_is at.leg_is in
    let due = c.requires.kept.due in
    omega (arith, c.requires.room, one, due)

pub returns-clause-kept : goal.returns-clause-kept
returns-clause-kept c =
    let old = c.args.self.now in
    let at = changed_stands old c.args.id c.args.was c.args.now c.args.entry c.requires.kept c.requires.change in
    let there = changed_there old c.args.id c.args.was c.args.now c.args.entry c.requires.kept c.requires.change in
    let sweep = at.sweep in
    let place = at.place in
    let i : c.sweep.result - 1 ≡ at.i = omega (arith, sweep, c.sweep.ensures.value) in
    let j : c.from-2.result - 1 ≡ at.j = omega (arith, place, c.place.ensures.value, c.from-2.ensures) in
    let legs : c.index_mut-2.result.now ≡ at.legs =
    c.index_mut-2.ensures.value
    ∙ (ap (λ n. get_or old.sweeps.items n c.index_mut-2.result.now) i
    ∙ get_or_from_slice_get old.sweeps.items at.i at.legs _ at.sweep_is) in
    let venue = c.from.ensures ∙ c.number.ensures.value in
    let gain : c.still_open.result - c.still_open-2.result ≡ c.args.was.parts.still_open
    - c.args.now.parts.still_open = omega (arith, c.still_open.ensures.value, c.still_open-2.ensures.value) in
    let before : c.index_mut.result.now ≡ get_or old.resolved.items c.args.was.venue 0 =
    c.index_mut.ensures.value
    ∙ (ap (λ n. get_or old.resolved.items n c.index_mut.result.now) venue
    ∙ get_or_default old.resolved.items c.args.was.venue c.index_mut.result.now 0 there) in
    let due = c.requires.kept.due in
    let after = with_item c.index_mut-2.result.now (c.from-2.result - 1) c.args.now in
    let new : Ledger = record {
      resolved = with_item old.resolved c.from.result
          (c.index_mut.result.now + (c.still_open.result - c.still_open-2.result));
      sweeps = with_item old.sweeps (c.sweep.result - 1) after;
      shares = old.shares;
      due = old.due - (c.due.result - c.due-2.result);
      history = c.push_reserved.new.self;
    } in
    kept_changed old c.args.id c.args.was c.args.now c.args.entry c.requires.kept c.requires.change after
    (λ n. set (legs n).items (j n) c.args.now)
    new
    (λ n. set old.resolved.items (venue n) (before n + gain n))
    (λ n. set old.sweeps.items (i n) after)
    refl
    (omega (arith, c.due.ensures, c.due-2.ensures))
    c.push_reserved.ensures.items
    (omega (
      arith,
      c.requires.room,
      c.push_reserved.ensures.len,
      c.push_reserved.ensures.capacity,
      c.due.ensures,
      c.due-2.ensures,
    ))
