use Rattle.std.proofs.Common.{◌∙◌}
use Rattle.desk_day.proofs.Auditing.{told_from}
use Rattle.desk_run.proofs.running.run_open.Goals as goal

pub close_day-requires-clause-workers : goal.close_day-requires-clause-workers
close_day-requires-clause-workers g c = c.in_ok-ended.ensures.workers ∙ c.requires.workers

pub returns-clause-told : goal.returns-clause-told
returns-clause-told g c =
    told_from c.args.cast.workers.items _ c.args.floor.names.items c.close_day.result c.in_ok-ended.ensures.ran
    c.close_day.ensures.told
