use Rattle.std.proofs.Common.{◌≡◌, arith, rules, tests}
use Rattle.std.specs.Char.{is_ascii_graphic}
use Rattle.std.specs.List.{list_all}
use Rattle.std.proofs.lemmas.Bool.Decides.{nat_tests}
use Rattle.std.proofs.lemmas.Iterator.{YieldsList-from_slice}
use Rattle.std.proofs.lemmas.Iterator.Search.{all_from_yields_List}
use Rattle.script.proofs.word.is_px.Goals as goal

pub returns-then-word-le-MAX_LAST_PX : goal.returns-then-word-le-MAX_LAST_PX
returns-then-word-le-MAX_LAST_PX c =
    let printable : c.all.result ≡ list_all is_ascii_graphic c.args.word.now =
    all_from_yields_List is_ascii_graphic _ _ c.all.result c.all.ensures.ran (YieldsList-from_slice c.args.word.now cc) (λ x b q k. search (rules, tests)) in
    grind (arith, nat_tests, printable)
