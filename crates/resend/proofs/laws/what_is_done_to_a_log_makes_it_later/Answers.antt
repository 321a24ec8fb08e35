use Rattle.resend.proofs.Later.{later-spend, later-added, later-take_below, later-give_up_from}
use Rattle.resend.proofs.laws.what_is_done_to_a_log_makes_it_later.Goals as goal

pub returns-clause-spend : goal.returns-clause-spend
returns-clause-spend c = later-spend

pub returns-clause-added : goal.returns-clause-added
returns-clause-added c = later-added

pub returns-clause-take_below : goal.returns-clause-take_below
returns-clause-take_below c = later-take_below

pub returns-clause-give_up_from : goal.returns-clause-give_up_from
returns-clause-give_up_from c = later-give_up_from
