use Rattle.std.proofs.Common.{map, refl, subst}
use Rattle.std.specs.Prelude.{OnOk}
use Rattle.dialect.specs.Wording.{Wording}
use Rattle.session_trace.specs.Shows.{TraceParts, Makes}
use Rattle.session_trace.proofs.Making.{makes_step, makes_none}
use Rattle.session_trace.proofs.trace.Trace.make.Goals as goal

pub returns-in-Ok-Some : goal.returns-in-Ok-Some
returns-in-Ok-Some g c =
    let w : Wording = g.D.Dialect.wording c.args.dialect.now in
    let old : TraceParts = record {
      session = c.self.inside.session;
      due = map (λ f. f.items) c.self.inside.due.items;
      unheard = map (λ f. f.items) c.self.inside.unheard.items;
    } in
    subst (λ (x : TraceParts). OnOk c.put.result (Makes w x c.args.call.now c.put.new.self)) c.self.view_is
    (makes_step w old (record old { session = c.step_made.new.session }) c.put.new.self c.args.call.now c.args.stamp.now
    c.in-Ok-Some.step c.put.result (rw c.in-Ok-Some.field-0-is at c.in-Ok-Some.ensures) refl refl c.put.ensures)

pub returns-in-Ok-None : goal.returns-in-Ok-None
returns-in-Ok-None g c =
    let w : Wording = g.D.Dialect.wording c.args.dialect.now in
    let old : TraceParts = record {
      session = c.self.inside.session;
      due = map (λ f. f.items) c.self.inside.due.items;
      unheard = map (λ f. f.items) c.self.inside.unheard.items;
    } in
    let now : TraceParts = record old { session = c.step_made.new.session } in
    subst (λ (x : TraceParts). Makes w x c.args.call.now now) c.self.view_is
    (makes_none w old now c.args.call.now c.args.stamp.now (rw c.in-Ok-None.field-0-is at c.in-Ok-None.ensures) refl refl)
