use Rattle.std.proofs.Common.{◌≡◌, List, length, sym, ap, subst, ◌∙◌}
use Rattle.leg.specs.declared.sweep.Routed.{Routed}
use Rattle.sweep_release.specs.Desk.{DeskParts, release, with_sweep}
use Rattle.replay.proofs.OpenDesks.{call_desk, release_whole, release_next}
use Rattle.replay.proofs.desk_again.release_again.Goals as goal

pub loop-number-init : goal.loop-number-init
loop-number-init c =
    let d = c.args.desk.now.desk in
    let legs : List Routed = c.new.result in
    let ok = sym c.is_err.ensures.value ∙ c.if-is_err.false in
    let same : legs ≡ c.args.legs.now = c.new.ensures ∙ c.in_ok-copy.ensures in
    let so : c.release.new.self.desk ≡ (release d legs).1 =
    call_desk _ _ _ _ c.release.result _ ok c.release.ensures.answer in
    let whole = release_whole _ _ _ d legs c.release.result _ ok c.release.ensures.answer in
    let is : c.release.new.self.desk ≡ with_sweep c.args.legs.now d =
    so ∙ (whole ∙ ap (λ l. with_sweep l d) same) in
    record {
      sweeps = ap (λ (x : DeskParts). x.sweeps) is;
      venues = ap (λ (x : DeskParts). length x.venues) is;
      unshut = release_next d c.release.new.self.desk legs c.requires so whole;
    }
