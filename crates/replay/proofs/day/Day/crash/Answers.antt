use Rattle.std.proofs.Common.{◌≡◌, true, false, List, length, Result, sym, ap, subst, ◌∙◌}
use Rattle.std.specs.Prelude.{IfOk}
use Rattle.std.specs.Result.{is_ok}
use Rattle.sweep_release.specs.History.{KeptDesk}
use Rattle.world_restart.specs.Start.{Day, Loss, may_lose, sweeps_kept}
use Rattle.world_restart.specs.Day.{after_crash}
use Rattle.replay.specs.declared.loss_fault.LossFault.{LossFault}
use Rattle.replay.specs.Redoing.{JournalParts}
use Rattle.replay.specs.Starting.{StandsBy}
use Rattle.replay.specs.DaySeen.{day_seen}
use Rattle.replay.proofs.DayStarts.{are_lost, crashed_from, day_holds, stands_by_deeds, uncrashed}
use Rattle.replay.proofs.day.Day.crash.Goals as goal

pub kept_desk-requires : goal.kept_desk-requires
kept_desk-requires g c =
    let d = c.self.inside in
    let is = c.self.invariant c.if-not-self.false in
    record {
      least = is.opening.least_number;
      most = is.opening.most_number;
      low = is.some;
      count = ap length c.deref.ensures.value ∙ is.count;
      stands = subst (λ (js : List JournalParts). StandsBy d.max_number d.world js) (sym c.deref.ensures.value)
          (stands_by_deeds d.max_number d.world d.journals.items is);
    }

pub start_again-requires-clause-lost : goal.start_again-requires-clause-lost
start_again-requires-clause-lost g c =
    let d = c.self.inside in
    let loss : Loss = record { sweeps = c.args.sweeps; lines = c.args.lines.now } in
    are_lost d.max_number d.world d.journals.items loss (c.self.invariant c.if-not-self.false)
    (sym (ap is_ok (sym c.in-Ok.is) ∙ (c.in_ok-kept.ensures.rules
    ∙ ap (λ (js : List JournalParts). may_lose (day_seen d.max_number d.world js) loss) c.deref.ensures.value)))

pub returns-in-Err-clause-theorem : goal.returns-in-Err-clause-theorem
returns-in-Err-clause-theorem g c =
    let d = c.self.inside in
    let loss : Loss = record { sweeps = c.args.sweeps; lines = c.args.lines.now } in
    day_holds d.max_number c.kept_desk.new.world d.journals.items
    (uncrashed d.max_number d.world c.kept_desk.new.world d.journals.items loss
    (c.self.invariant c.if-not-self.false) c.in_ok-kept.ensures.still
    (sym (ap is_ok (sym c.in-Err.is) ∙ (c.in_ok-kept.ensures.rules
    ∙ ap (λ (js : List JournalParts). may_lose (day_seen d.max_number d.world js) loss) c.deref.ensures.value)))).1

pub invariant_of-self-in-Ok : goal.invariant_of-self-in-Ok
invariant_of-self-in-Ok g c =
    let d = c.self.inside in
    let loss : Loss = record { sweeps = c.args.sweeps; lines = c.args.lines.now } in
    let desk = c.in-Ok.desk in
    let kept = c.in_ok-kept.ensures in
    λ _. (crashed_from d.max_number d.world c.kept_desk.new.world c.start_again.new.world d.journals.items
    c.start_again.new.journals.items loss desk.desk (c.self.invariant c.if-not-self.false) kept.still
    (sym (ap is_ok (sym c.in-Ok.is) ∙ (kept.rules
    ∙ ap (λ (js : List JournalParts). may_lose (day_seen d.max_number d.world js) loss) c.deref.ensures.value)))
    (subst (λ (r : Result KeptDesk LossFault). IfOk r (λ x. x.desk.sweeps ≡ sweeps_kept d.world loss)) c.in-Ok.is
    kept.sweeps)
    (subst (λ (r : Result KeptDesk LossFault). IfOk r (λ x. length x.desk.venues ≡ length d.world.venues)) c.in-Ok.is
    kept.venues)
    c.in_ok-start_again-in-Ok.ensures.world c.in_ok-start_again-in-Ok.ensures.journals).1

pub returns-in_ok-start_again-in-Ok-clause-day : goal.returns-in_ok-start_again-in-Ok-clause-day
returns-in_ok-start_again-in-Ok-clause-day g c =
    let d = c.self.inside in
    let loss : Loss = record { sweeps = c.args.sweeps; lines = c.args.lines.now } in
    let desk = c.in-Ok.desk in
    let kept = c.in_ok-kept.ensures in
    subst (λ (x : Day). day_seen d.max_number c.start_again.new.world c.start_again.new.journals.items
    ≡ after_crash x loss) c.self.view_is
    (crashed_from d.max_number d.world c.kept_desk.new.world c.start_again.new.world d.journals.items
    c.start_again.new.journals.items loss desk.desk (c.self.invariant c.if-not-self.false) kept.still
    (sym (ap is_ok (sym c.in-Ok.is) ∙ (kept.rules
    ∙ ap (λ (js : List JournalParts). may_lose (day_seen d.max_number d.world js) loss) c.deref.ensures.value)))
    (subst (λ (r : Result KeptDesk LossFault). IfOk r (λ x. x.desk.sweeps ≡ sweeps_kept d.world loss)) c.in-Ok.is
    kept.sweeps)
    (subst (λ (r : Result KeptDesk LossFault). IfOk r (λ x. length x.desk.venues ≡ length d.world.venues)) c.in-Ok.is
    kept.venues)
    c.in_ok-start_again-in-Ok.ensures.world c.in_ok-start_again-in-Ok.ensures.journals).0

pub returns-in_ok-start_again-in-Ok-clause-theorem : goal.returns-in_ok-start_again-in-Ok-clause-theorem
returns-in_ok-start_again-in-Ok-clause-theorem g c =
    let d = c.self.inside in
    let loss : Loss = record { sweeps = c.args.sweeps; lines = c.args.lines.now } in
    let desk = c.in-Ok.desk in
    let kept = c.in_ok-kept.ensures in
    day_holds d.max_number c.start_again.new.world c.start_again.new.journals.items
    (crashed_from d.max_number d.world c.kept_desk.new.world c.start_again.new.world d.journals.items
    c.start_again.new.journals.items loss desk.desk (c.self.invariant c.if-not-self.false) kept.still
    (sym (ap is_ok (sym c.in-Ok.is) ∙ (kept.rules
    ∙ ap (λ (js : List JournalParts). may_lose (day_seen d.max_number d.world js) loss) c.deref.ensures.value)))
    (subst (λ (r : Result KeptDesk LossFault). IfOk r (λ x. x.desk.sweeps ≡ sweeps_kept d.world loss)) c.in-Ok.is
    kept.sweeps)
    (subst (λ (r : Result KeptDesk LossFault). IfOk r (λ x. length x.desk.venues ≡ length d.world.venues)) c.in-Ok.is
    kept.venues)
    c.in_ok-start_again-in-Ok.ensures.world c.in_ok-start_again-in-Ok.ensures.journals).1
