use Rattle.std.proofs.lemmas.List.{take_all}
use Rattle.std.proofs.Common.{◌≡◌, ℕ, ◌≤◌, List, [], ◌∷◌, ◌++◌, ◌-◌, length, map, take, drop, get_or, refl, sym, ap, subst, ◌∙◌, arith}
use Rattle.fix_text.specs.Sink.{Pushes}
use Rattle.fix_text.specs.Tagged.{Tagged}
use Rattle.fix_text.proofs.Sinks.{pushes_on}
use Rattle.dialect.specs.declared.words.Extra.{Extra}
use Rattle.dialect.specs.Fields.{field}
use Rattle.dialect.specs.Words.{extra_field}
use Rattle.dialect.proofs.Extras.{opened}
use Rattle.dialect.proofs.shaped.+push_extra.Goals as goal

pub returns-in_ok-push_short-in-len1-up-clause-pushed : goal.returns-in_ok-push_short-in-len1-up-clause-pushed
returns-in_ok-push_short-in-len1-up-clause-pushed g t c =
    let Takes = g.F.FieldSink.Takes in
    let more = g.met.F.FieldSink.takes_more in
    let last = c.push_extra.result in
    let xs = c.args.extra.now in
    let x = c.first-item.result in
    let one = rw c.as_slice.ensures.value at c.in_ok-push_short-in-len1-up.ensures.pushed in
    subst (λ (fields : List Tagged). Pushes Takes fields c.args.fields.now c.push_extra.new.fields last)
    (sym (opened xs x c.in-len1-up.len_at_least c.first-item.is))
    (pushes_on Takes more _ _ _ _ _ last one c.push_extra.ensures.pushed)
