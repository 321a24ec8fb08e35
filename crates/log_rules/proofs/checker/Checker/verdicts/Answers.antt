use Rattle.std.proofs.Common.{refl, ap, ◌∙◌}
use Rattle.log_rules.specs.Checker.{CheckerParts, verdicts}
use Rattle.log_rules.proofs.Verdicts.{named, one_by_one}
use Rattle.log_rules.proofs.checker.Checker.verdicts.Goals as goal

pub returns : goal.returns
returns c =
    one_by_one refl
    (one_by_one (named _ c.of_sent.ensures c.sent_numbers.ensures)
    (one_by_one c.sent_once.ensures
    (one_by_one c.gap_fills.ensures
    (one_by_one (named _ c.of_first.ensures c.logon_first.ensures)
    (one_by_one c.heartbeats.ensures
    (one_by_one (named _ c.of_answered.ensures c.logon_answered.ensures)
    (one_by_one c.logout_last.ensures
    (one_by_one c.resend_asked.ensures
    (one_by_one c.fence_answered.ensures
    (one_by_one c.one_use.ensures
    (one_by_one (named _ c.of_known.ensures c.known_order.ensures)
    (one_by_one (named _ c.of_withdrawn.ensures c.not_withdrawn.ensures)
    (one_by_one c.sums_add_up.ensures
    (one_by_one (named _ c.of_numbers.ensures c.numbers_rise.ensures)
    (one_by_one c.resend_answered.ensures
    (one_by_one c.exec_once.ensures
    (one_by_one c.known_kind.ensures
    (one_by_one c.open_order.ensures
    (one_by_one c.limit_kept.ensures
    (one_by_one c.same_terms.ensures
    (one_by_one c.status_fits.ensures
    refl)))))))))))))))))))))
    ∙ ap (λ (v : CheckerParts). verdicts v c.args.entry.now) c.self.view_is
