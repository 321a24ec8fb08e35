use Rattle.std.proofs.Common.{rules, ◌≡◌, ◌∷◌, decimal, subst, sym}
use Rattle.dialect.specs.FreeText.{IsFreeText}
use Rattle.exchange_core.proofs.Ids.{letter_and_number, made}
use Rattle.exchange_core.proofs.numbered_id.numbered_id.Goals as goal

pub unwrap-requires-2 : goal.unwrap-requires-2
unwrap-requires-2 c =
    let text : c.as_slice.result.now ≡ c.args.letter ∷ decimal c.args.number = search rules in
    made 64 c.as_slice.result.now c.new.result c.new.ensures
    (subst (IsFreeText 64) (sym text) (letter_and_number c.args.letter c.args.number c.requires.letter c.requires.number))
