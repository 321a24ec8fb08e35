-- A message that was heard: what each part of a checker is behind it.
use Rattle.std.proofs.Common.{◌≡◌, ℕ, List, Option, ap, sym, ◌∙◌}
use Rattle.log_rules.specs.declared.entry.Entry.{Entry}
use Rattle.log_rules.specs.declared.standing.Standing.{Standing}
use Rattle.log_rules.specs.declared.verdict.Verdict.{Verdict}
use Rattle.log_rules.specs.Chains.{ChainsParts, chained, chains_after, order_named}
use Rattle.log_rules.specs.Checker.{CheckerParts, heard, number_of_report, verdicts}
use Rattle.log_rules.specs.Ledger.{LedgerParts, changed_by}
use Rattle.log_rules.specs.Standing.{after}

abbrev pub parts : Standing → LedgerParts → ChainsParts → CheckerParts
parts standing ledger chains = record { standing = standing; ledger = ledger; chains = chains }

-- a checker that is seen as `old` has these parts
pub heard_in_parts : (was old : CheckerParts) (e : Entry) (standing : Standing) (ledger : LedgerParts)
    (chains : ChainsParts) (said : List Verdict) (number : Option ℕ) (order : Option (List ℕ))
    → was ≡ old → said ≡ verdicts old e → number ≡ number_of_report old.ledger e.says → order ≡ order_named said e.says
    → standing ≡ after was.standing number e → ledger ≡ changed_by was.standing e was.ledger
    → chains ≡ chains_after said order e was.chains → parts standing ledger chains ≡ heard old e
heard_in_parts was old e standing ledger chains said number order seen said_is number_is order_is standing_is ledger_is chains_is =
    let said_so = said_is ∙ ap (λ (c : CheckerParts). verdicts c e) (sym seen) in
    let number_so = number_is ∙ ap (λ (c : CheckerParts). number_of_report c.ledger e.says) (sym seen) in
    let standing_new = after was.standing (number_of_report was.ledger e.says) e in
    ap (λ (s : Standing). parts s ledger chains) (standing_is ∙ ap (λ (n : Option ℕ). after was.standing n e) number_so)
    ∙ (ap (λ (l : LedgerParts). parts standing_new l chains) ledger_is
    ∙ (ap (λ (c : ChainsParts). parts standing_new (changed_by was.standing e was.ledger) c)
    (chains_is ∙ (ap (λ (o : Option (List ℕ)). chains_after said o e was.chains) order_is
    ∙ ap (λ (v : List Verdict). chained v e was.chains) said_so))
    ∙ ap (λ (c : CheckerParts). heard c e) seen))
