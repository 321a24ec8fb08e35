use Rattle.std.proofs.Common.{true, false, Ok, refl, sym, ap, ◌∙◌, List, ℕ}
use Rattle.fix_text.proofs.Literals.{literal_by}
use Rattle.fix_text.proofs.parse.literal_at.Goals as goal

pub returns-in-Some-clause-found : goal.returns-in-Some-clause-found
returns-in-Some-clause-found c =
    let cases = c.in-Some.ensures.cases in
    ap (λ (rest : List ℕ). Ok rest) cases.1 ∙ literal_by c.args.wanted.now c.args.bytes.now true _ cases.0 refl

pub returns-in-None-clause-found : goal.returns-in-None-clause-found
returns-in-None-clause-found c =
    literal_by c.args.wanted.now c.args.bytes.now false true c.in-None.ensures.cases (sym c.starts_with.ensures.value ∙ c.if-starts_with.true)

pub returns-in-None-2-clause-found : goal.returns-in-None-2-clause-found
returns-in-None-2-clause-found c =
    literal_by c.args.wanted.now c.args.bytes.now false false c.in-None-2.ensures.cases (sym c.starts_with.ensures.value ∙ c.if-starts_with.false)
