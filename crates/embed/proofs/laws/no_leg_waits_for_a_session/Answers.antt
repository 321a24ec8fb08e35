use Rattle.embed.proofs.Dropped.{followed-ids, followed-book, followed-none}
use Rattle.embed.proofs.laws.no_leg_waits_for_a_session.Goals as goal

pub returns-clause-ids : goal.returns-clause-ids
returns-clause-ids c = followed-ids

pub returns-clause-book : goal.returns-clause-book
returns-clause-book c = followed-book

pub returns-clause-none : goal.returns-clause-none
returns-clause-none c = followed-none
