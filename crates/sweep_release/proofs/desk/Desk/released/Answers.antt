use Rattle.std.proofs.Common.{◌≡◌, ◌<◌, ◌≤◌, length, get_or, sym, ap, subst, ◌∙◌}
use Rattle.std.proofs.lemmas.Bool.{ltb-true, ltb-false}
use Rattle.sweep_release.proofs.Asked.{released_there, none_released}
use Rattle.sweep_release.proofs.desk.Desk.released.Goals as goal

pub returns-in-Some : goal.returns-in-Some
returns-in-Some c =
    let at = c.in-Some.at.now in
    let lookup = c.in-Some.ensures.lookup in
    let venues = c.deref.ensures.value in
    let there : c.from.result < length c.self.inside.venues.items =
    subst (λ vs. c.from.result < length vs) venues (ltb-true c.from.result (length c.deref.result.now) (sym lookup.0)) in
    let is : at ≡ get_or c.self.inside.venues.items c.from.result at = lookup.1 ∙ ap (λ vs. get_or vs c.from.result at) venues in
    c.as_slice.ensures.value
    ∙ released_there c.self.inside c.args.self.now c.args.venue c.from.result at c.self.view_is (c.from.ensures ∙ c.number.ensures.value)
    there is c.self.invariant

pub returns-in-None : goal.returns-in-None
returns-in-None c =
    let lookup = c.in-None.ensures.lookup in
    let past : length c.self.inside.venues.items ≤ c.from.result =
    subst (λ vs. length vs ≤ c.from.result) c.deref.ensures.value (ltb-false c.from.result (length c.deref.result.now) (sym lookup.0)) in
    none_released c.self.inside c.args.self.now c.args.venue c.from.result c.self.view_is (c.from.ensures ∙ c.number.ensures.value) past
    c.self.invariant
