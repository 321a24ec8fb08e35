use Rattle.share_ledger.proofs.Resolved.{resolved-trade, resolved-bust, resolved-new}
use Rattle.share_ledger.proofs.laws.a_venue_gains_what_is_traded.Goals as goal

pub returns-clause-trade : goal.returns-clause-trade
returns-clause-trade c = resolved-trade

pub returns-clause-bust : goal.returns-clause-bust
returns-clause-bust c venues entries venue id exec cancelled_id = resolved-bust venues entries venue id exec
    cancelled_id

pub returns-clause-first : goal.returns-clause-first
returns-clause-first c = resolved-new
