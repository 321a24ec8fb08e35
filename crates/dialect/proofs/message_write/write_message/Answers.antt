use Rattle.std.proofs.Common.{List, ℕ, sym, subst}
use Rattle.dialect.specs.Framed.{IsFramed}
use Rattle.dialect.specs.Wording.{Encoding}
use Rattle.dialect.proofs.message_write.write_message.Goals as goal

pub returns : goal.returns
returns g c =
    let d = c.args.dialect.now in
    let w : Encoding = (g.D.Dialect.wording d).encoding in
    let appended = c.in_ok-append_message.ensures.ok in
    let alone = rw c.new-frame.ensures.items at appended.2 in
    subst (λ (bytes : List ℕ). IsFramed w c.args.stamp.now c.args.outgoing.now bytes) (sym alone) appended.1
