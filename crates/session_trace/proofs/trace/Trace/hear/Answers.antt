use Rattle.std.proofs.Common.{ℕ, List, subst}
use Rattle.std.specs.Prelude.{OnOk}
use Rattle.dialect.specs.Wording.{Wording}
use Rattle.session_trace.specs.Shows.{Hears}
use Rattle.session_trace.proofs.Going.{goes_heard}
use Rattle.session_trace.proofs.trace.Trace.hear.Goals as goal

pub returns-in-Some : goal.returns-in-Some
returns-in-Some g c =
    let w : Wording = g.D.Dialect.wording c.args.dialect.now in
    goes_heard w c.args.self.now c.next_unheard.new.self c.hear_frame.new.self c.in-Some.bytes c.hear_frame.result
    c.in-Some.ensures
    (subst (λ (b : List ℕ). OnOk c.hear_frame.result (Hears w c.next_unheard.new.self b c.hear_frame.new.self))
    c.as_slice.ensures.value c.hear_frame.ensures)
