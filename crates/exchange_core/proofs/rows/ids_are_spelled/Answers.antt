use Rattle.std.proofs.Common.{ap, ◌∷◌, lit<}
use Rattle.std.proofs.lemmas.Fmt.{decimal_digit}
use Rattle.exchange_core.proofs.rows.ids_are_spelled.Goals as goal

pub returns-clause-order : goal.returns-clause-order
returns-clause-order c = ap (λ text. 79 ∷ text) (decimal_digit 1 (lit< tt))

pub returns-clause-report : goal.returns-clause-report
returns-clause-report c = ap (λ text. 69 ∷ text) (decimal_digit 1 (lit< tt))

pub returns-clause-test : goal.returns-clause-test
returns-clause-test c = ap (λ text. 88 ∷ text) (decimal_digit 3 (lit< tt))
