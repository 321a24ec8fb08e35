use Rattle.std.proofs.Common.{◌≡◌, ◌∙◌, ◌%◌, Bool, true, cond, eqb, List, Option, None, ap, sym, subst, sum, arith}
use Rattle.std.proofs.lemmas.Bool.{eq-eqb}
use Rattle.std.specs.Prelude.{OnErr}
use Rattle.std.specs.Vec.{vec_capacity}
use Rattle.fix_text.specs.Tagged.{Tagged}
use Rattle.fix_text.specs.Placing.{AreMore}
use Rattle.fix_text.specs.Reading.{fields_of, valid_fields}
use Rattle.fix_text.proofs.fields.place_valid_fields.Goals as goal

pub returns-clause-full : goal.returns-clause-full
unfolding valid_fields
returns-clause-full c =
    let frame = c.args.frame.now in
    let right : eqb (sum frame.before % 256) frame.check ≡ true = eq-eqb _ _ (omega (arith, ap sum c.before-2.ensures)) in
    let typed : c.is_typed.result ≡ true = search in
    let fields = (rw c.body.ensures at c.is_typed.ensures) ∙ ap (λ (b : Bool). cond b (fields_of frame.body) None) typed in
    let same : fields_of frame.body ≡ valid_fields frame = rw right (sym fields) in
    subst (λ (fields : Option (List Tagged)). OnErr c.place_fields.result (AreMore (vec_capacity c.args.places.now) fields)) same
    (rw c.body-2.ensures at c.place_fields.ensures.full)
