use Rattle.std.proofs.Common.{◌≡◌, ◌<◌, ◌+◌, ◌∷◌, ◌++◌, [], List, length, get_or, take, drop, sym, ap, subst, ◌∙◌, arith}
use Rattle.leg.specs.declared.sweep.Routed.{Routed}
use Rattle.sweep_release.specs.declared.desk_entry.DeskEntry.{DeskEntry}
use Rattle.sweep_release.specs.History.{KeptDesk}
use Rattle.sweep_release.specs.Kept.{released_sweeps}
use Rattle.replay.specs.Ruling.{IsOpenDesk}
use Rattle.replay.proofs.OpenDesks.{sweep_at, no_sweep_at, far_more, far_over}
use Rattle.replay.proofs.desk_again.desk_again.Goals as goal
use Rattle.replay.proofs.desk_again.desk_again.Goals.{in-Released+then-left-gt0+in_ok-release_again, in-Released+else-left-gt0, in_default}

pub loop-entry-preserved : goal.loop-entry-preserved
loop-entry-preserved c =
    let entries = c.args.before.now.history in
    let at = c.loop-entry.entry-index in
    let before : c.loop-entry.desk.desk.sweeps ++ take c.loop-entry.left (released_sweeps (drop at entries))
    ≡ take c.args.kept (released_sweeps entries) = c.loop-entry.invariant.sweeps in
    let same = c.history-entry-items.ensures.value in
    let low = subst (λ (es : List DeskEntry). at < length es) same c.loop-entry-test.true in
    let is = c.entry-item.is ∙ ap (λ (es : List DeskEntry). get_or es at c.entry-item.result) same in
    elim c.match-entry.branch [
      | in-Released+then-left-gt0+in_ok-release_again x ↦
          (let sweep = x.in-Released.sweep in
          let left = sweep_at entries at c.entry-item.result sweep low is x.in-Released.is in
          let so : c.match-entry.desk.desk.sweeps ≡ c.loop-entry.desk.desk.sweeps ++ sweep.legs ∷ [] =
          ap (λ (d : KeptDesk). d.desk.sweeps) x.desk-is
          ∙ (x.in_ok-release_again.ensures.sweeps
          ∙ ap (λ (l : List Routed). c.loop-entry.desk.desk.sweeps ++ l ∷ []) x.as_slice.ensures) in
          record {
            sweeps = far_more c.loop-entry.desk.desk.sweeps c.match-entry.desk.desk.sweeps
                (released_sweeps (drop (at + 1) entries)) (take c.args.kept (released_sweeps entries)) sweep.legs
                c.loop-entry.left c.match-entry.left x.if-left-gt0.true x.left-is so
                (ap (λ l. c.loop-entry.desk.desk.sweeps ++ take c.loop-entry.left l) (sym left) ∙ before);
            venues = ap (λ (d : KeptDesk). length d.desk.venues) x.desk-is
                ∙ (x.in_ok-release_again.ensures.venues ∙ c.loop-entry.invariant.venues);
            unshut = subst (λ (d : KeptDesk). IsOpenDesk d.desk) (sym x.desk-is)
                x.in_ok-release_again.ensures.unshut;
          })
      | in-Released+else-left-gt0 x ↦
          (let sweep = x.in-Released.sweep in
          let left = sweep_at entries at c.entry-item.result sweep low is x.in-Released.is in
          let none = x.if-left-gt0.false in
          let over = far_over c.loop-entry.desk.desk.sweeps (released_sweeps (drop (at + 1) entries))
          (take c.args.kept (released_sweeps entries)) sweep.legs c.loop-entry.left (omega (arith, none))
          (ap (λ l. c.loop-entry.desk.desk.sweeps ++ take c.loop-entry.left l) (sym left) ∙ before) in
          record {
            sweeps = (λ i. (x.desk-is i).desk.sweeps
                ++ take (x.left-is i) (released_sweeps (drop (at + 1) entries))) ∙ over;
            venues = ap (λ (d : KeptDesk). length d.desk.venues) x.desk-is ∙ c.loop-entry.invariant.venues;
            unshut = subst (λ (d : KeptDesk). IsOpenDesk d.desk) (sym x.desk-is) c.loop-entry.invariant.unshut;
          })
      | in_default x ↦
          (let left = no_sweep_at entries at c.entry-item.result low is x.in_default.not-Released in
          record {
            sweeps = (λ i. (x.desk-is i).desk.sweeps ++ take (x.left-is i) (sym left i)) ∙ before;
            venues = ap (λ (d : KeptDesk). length d.desk.venues) x.desk-is ∙ c.loop-entry.invariant.venues;
            unshut = subst (λ (d : KeptDesk). IsOpenDesk d.desk) (sym x.desk-is) c.loop-entry.invariant.unshut;
          })
    ]
