use Rattle.leg_worth.specs.Kept.{worth_at, fill_at}
use Rattle.leg_worth.proofs.Asking.{kept_opened, kept_withdrawn}
use Rattle.leg_worth.proofs.laws.openings_and_withdrawals_keep_it.Goals as goal

pub returns-clause-opened : goal.returns-clause-opened
returns-clause-opened c book worths number legs kept = kept_opened book number legs (worth_at worths) (fill_at worths) kept

pub returns-clause-withdrawn : goal.returns-clause-withdrawn
returns-clause-withdrawn c book worths id kept = kept_withdrawn book id (worth_at worths) (fill_at worths) kept
