use Rattle.std.proofs.Common.{◌≡◌, ℕ, List, true, false, sym, subst, ◌∙◌}
use Rattle.std.specs.Prelude.{IfOk}
use Rattle.command_line.proofs.ShownBack.{text_back, text_plain}
use Rattle.command_line.proofs.frame_text.bytes_of.Goals as goal

pub returns-then-not-has_soh-clause-shown : goal.returns-then-not-has_soh-clause-shown
returns-then-not-has_soh-clause-shown c = λ frame is.
    subst (λ (bytes : List ℕ). IfOk c.read_shown.result (λ read. read.items ≡ bytes))
    (text_back c.args.text.now frame is) c.read_shown.ensures

pub returns-clause-shown : goal.returns-clause-shown
returns-clause-shown c = λ frame is.
    let bad : true ≡ false = sym c.if-not-has_soh.false ∙ (c.has_soh.ensures ∙ text_plain c.args.text.now frame is) in absurd cc
