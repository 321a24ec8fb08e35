use Rattle.std.proofs.Common.{◌≡◌, ◌++◌, List, ℕ, Option, Some, subst, sym, ap, ◌∙◌}
use Rattle.std.specs.Prelude.{IsSomeAnd}
use Rattle.std.specs.Option.{option_map}
use Rattle.fix_text.specs.Frame.{framed}
use Rattle.fix_text.proofs.write.write_body.Goals as goal

pub returns-clause-ok : goal.returns-clause-ok
returns-clause-ok c =
    let there : c.args.body.now ≡ Some c.in-Some.text.now = sym c.text.ensures.value ∙ ap (option_map (λ text. text.now)) c.in-Some.is in
    let written = c.push_whole.ensures.0 ∙ ap (λ (before : List ℕ). before ++ framed c.in-Some.text.now) c.reserve.ensures.items in
    subst (λ (body : Option (List ℕ)). IsSomeAnd body (λ text. c.push_whole.new.out.items ≡ c.args.out.now.items ++ framed text))
    (sym there) written
