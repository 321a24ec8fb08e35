use Rattle.std.proofs.Common.{◌≡◌, [], ◌∷◌, ◌++◌, map, set, refl, ap, sym, ◌∙◌, arith}
use Rattle.sweep_release.specs.declared.desk_entry.DeskEntry.TheVariants as entry
use Rattle.sweep_release.specs.declared.gate.Gate.TheVariants.{Up, Down}
use Rattle.sweep_release.specs.declared.venue.Venue.{Venue}
use Rattle.sweep_release.specs.Gates.{gate_due}
use Rattle.sweep_release.specs.Desk.{placed}
use Rattle.sweep_release.specs.History.{KeptDesk}
use Rattle.sweep_release.specs.Kept.{released_sweeps, venue_seen}
use Rattle.sweep_release.proofs.Changing.{is_read, kept-changed, seen_turned, raised}
use Rattle.sweep_release.proofs.desk.Desk.gate_up.Goals as goal

pub invariant_of-self-2 : goal.invariant_of-self-2
invariant_of-self-2 c =
    let desk = c.self.inside in
    let before = c.index_mut-at.result.now in
    let read = is_read desk c.args.self.now c.args.venue c.from.result before c.self.view_is (c.from.ensures ∙ c.number.ensures.value) c.requires c.index_mut-at.ensures.value c.self.invariant in
    let kept = read.kept in
    let seen_as = read.seen_as in
    let down : before.gate ≡ Down = sym (ap (λ v. v.gate) seen_as) ∙ (sym c.gate.ensures ∙ c.in-Down.is) in
    let one = ap gate_due down in
    let now : Venue = record { gate = Up; left = before.left; released = before.released } in
    kept-changed desk _ c.from.result now before (entry.Up c.args.venue ∷ []) c.self.invariant read.there refl refl (c.push_reserved.ensures.items ∙ ap (λ l. l ++ entry.Up c.args.venue ∷ []) c.in_ok-reserve.ensures.items) refl refl read.was
    (omega (arith, one))
    refl
    (omega (arith, c.in_ok-reserve.ensures.ok, c.push_reserved.ensures.len, c.push_reserved.ensures.capacity))
    (record { legs = kept.legs; left = kept.left; few = kept.few; counted = kept.counted; spare = kept.spare })

pub returns-clause-answer : goal.returns-clause-answer
returns-clause-answer c =
    let desk = c.self.inside in
    let seen = c.args.self.now in
    let before = c.index_mut-at.result.now in
    let items = c.push_reserved.ensures.items ∙ ap (λ l. l ++ entry.Up c.args.venue ∷ []) c.in_ok-reserve.ensures.items in
    let read = is_read desk seen c.args.venue c.from.result before c.self.view_is (c.from.ensures ∙ c.number.ensures.value) c.requires c.index_mut-at.ensures.value c.self.invariant in
    let drained : placed seen.desk c.args.venue ≡ 0 = omega (arith, c.placed.ensures, c.if-placed-gt0.false) in
    let now : Venue = record { gate = Up; left = before.left; released = before.released } in
    let after : KeptDesk = record { desk = record { sweeps = released_sweeps c.push_reserved.new.self.items; venues = map venue_seen (set desk.venues.items c.from.result now) }; history = c.push_reserved.new.self.items; room = 0 } in
    raised seen after c.args.venue (sym c.gate.ensures ∙ c.in-Down.is) drained
    (seen_turned desk seen c.args.venue c.from.result before Up _ (entry.Up c.args.venue ∷ []) c.self.view_is read refl items)
    (items ∙ ap (λ s. s.history ++ entry.Up c.args.venue ∷ []) c.self.view_is)
