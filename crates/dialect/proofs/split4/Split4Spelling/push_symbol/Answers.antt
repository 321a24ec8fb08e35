use Rattle.std.proofs.Common.{◌≡◌, ◌==◌, rules, ℕ, false, List, [], ◌∷◌, length, refl, sym, subst}
use Rattle.fix_text.specs.Sink.{Pushes}
use Rattle.fix_text.specs.Tagged.{Tagged}
use Rattle.fix_text.proofs.Sinks.{pushes_on}
use Rattle.dialect.specs.Fields.{field}
use Rattle.dialect.specs.Split4.{suffix_fields}
use Rattle.dialect.proofs.split4.Split4Spelling.push_symbol.Goals as goal

suffix_there : (suffix : List ℕ) → (length suffix == 0) ≡ false → suffix_fields suffix ≡ field 65 suffix ∷ []
suffix_there [] none = absurd cc
suffix_there (c ∷ cs) some = refl

pub returns-else-is_empty-clause-pushed : goal.returns-else-is_empty-clause-pushed
returns-else-is_empty-clause-pushed g c =
    let Takes = g.F.FieldSink.Takes in
    let more = g.met.F.FieldSink.takes_more in
    let last = c.push_short-else-is_empty.result in
    let symbol = c.args.symbol.now in
    let there : (length symbol.suffix == 0) ≡ false = search rules in
    let root = rw c.root.ensures.value at c.in_ok-push_short.ensures.pushed in
    let suffix = rw c.suffix-suffix.ensures.value at c.push_short-else-is_empty.ensures.pushed in
    subst (λ (fields : List Tagged). Pushes Takes (field 55 symbol.root ∷ fields) c.args.fields.now
    c.push_short-else-is_empty.new.fields last) (sym (suffix_there symbol.suffix there))
    (pushes_on Takes more _ _ _ _ _ last root suffix)
