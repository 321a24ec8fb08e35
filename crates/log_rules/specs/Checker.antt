-- A log is gone through, message by message.
use Rattle.std.specs.Prelude.{ℕ, not, ◌&&◌, List, [], ◌∷◌, Option, None, option_map}
use Rattle.message_log.specs.declared.direction.Direction.{Direction}
use Rattle.log_rules.specs.declared.entry.Entry.{Entry}
use Rattle.log_rules.specs.declared.says.Says.{Says}
use Rattle.log_rules.specs.declared.says.Says.TheVariants.{Report}
use Rattle.log_rules.specs.declared.standing.Standing.{Standing}
use Rattle.log_rules.specs.declared.verdict.Verdict.{Verdict}
use Rattle.log_rules.specs.declared.verdict.Verdict.TheVariants.{Unasked, Held, Broken}
use Rattle.log_rules.specs.Chains.{ChainsParts, chained, chained_unread, is_filled, is_logon, is_of_same, is_told_on, no_chains}
use Rattle.log_rules.specs.ExchangeRules.{fence_answered, logon_answered, logout_last, numbers_rise, resend_answered, resend_asked}
use Rattle.log_rules.specs.Ledger.{LedgerParts, changed_by, order_of}
use Rattle.log_rules.specs.LedgerRules.{known_order, not_withdrawn, one_use, sent_once, sums_add_up}
use Rattle.log_rules.specs.Order.{OrderParts}
use Rattle.log_rules.specs.ReportRules.{exec_once, known_kind, limit_kept, open_order, same_terms, status_fits}
use Rattle.log_rules.specs.SessionRules.{gap_fills, heartbeats, logon_first, sent_numbers}
use Rattle.log_rules.specs.Standing.{after, new_standing}
use Rattle.log_rules.specs.Verdict.{again_if}

-- how the two ends stand, with the orders and the reports, and what the last breaks were named for
pub record CheckerParts : Type 0 where
  pub standing : Standing
  pub ledger : LedgerParts
  pub chains : ChainsParts

-- before any message
abbrev pub new_checker : CheckerParts
new_checker = record { standing = new_standing; ledger = record { orders = []; reports = [] }; chains = no_chains }

-- what a message that can be read says of each rule: what follows from a break that was named is told as broken again
abbrev pub verdicts : CheckerParts → Entry → List Verdict
verdicts c e =
    Held
    ∷ again_if (is_filled c.chains.unread c.standing.last e.number) (sent_numbers c.standing.last e)
    ∷ sent_once c.ledger e.direction e.says
    ∷ gap_fills c.standing e
    ∷ again_if c.chains.is_early (logon_first c.standing.phase e.direction e.says)
    ∷ heartbeats c.standing e
    ∷ again_if (c.chains.is_early && not (is_logon e.says)) (logon_answered c.standing e.direction e.says)
    ∷ logout_last c.standing e
    ∷ resend_asked c.standing e
    ∷ fence_answered c.standing e
    ∷ one_use c.standing c.ledger e
    ∷ again_if (is_told_on c.chains e.says) (known_order c.ledger e.direction e.says)
    ∷ again_if (c.chains.is_withdrawn && is_of_same c.chains.order e.says) (not_withdrawn c.ledger e.direction e.says)
    ∷ sums_add_up c.standing c.ledger e
    ∷ again_if c.chains.goes_back (numbers_rise c.standing e)
    ∷ resend_answered c.standing e
    ∷ exec_once c.standing c.ledger e
    ∷ known_kind e.direction e.says
    ∷ open_order c.standing c.ledger e
    ∷ limit_kept c.standing c.ledger e
    ∷ same_terms c.standing c.ledger e
    ∷ status_fits e.direction e.says
    ∷ []

-- what one that can't be read says of each rule
abbrev pub unread_verdicts : List Verdict
unread_verdicts =
    Broken ∷ Unasked ∷ Unasked ∷ Unasked ∷ Unasked ∷ Unasked ∷ Unasked ∷ Unasked ∷ Unasked ∷ Unasked ∷ Unasked ∷ Unasked
    ∷ Unasked ∷ Unasked ∷ Unasked ∷ Unasked ∷ Unasked ∷ Unasked ∷ Unasked ∷ Unasked ∷ Unasked ∷ Unasked ∷ []

-- the number under which the order was sent that a report is on
abbrev pub number_of_report : LedgerParts → Says → Option ℕ
number_of_report l (Report said) = option_map (λ (o : OrderParts). o.number) (order_of l.orders said.id)
number_of_report l says = None

-- what is known behind a message
abbrev pub heard : CheckerParts → Entry → CheckerParts
heard c e = record {
  standing = after c.standing (number_of_report c.ledger e.says) e;
  ledger = changed_by c.standing e c.ledger;
  chains = chained (verdicts c e) e c.chains;
}

-- what is known behind a message that can't be read
abbrev pub heard_unread : Direction → List ℕ → CheckerParts → CheckerParts
heard_unread direction bytes c = record c { chains = chained_unread direction bytes c.chains }
