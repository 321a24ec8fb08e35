use Rattle.std.proofs.Common.{rules}
use Rattle.journal_words.specs.Deed.{timed}
use Rattle.journal_words.specs.Reading.{deed_in}
use Rattle.journal_log.proofs.Logging.{adds_line}
use Rattle.journal_log.proofs.logged_session.LoggedSession.log_line.Goals as goal

pub returns-in-Ok-do_again : goal.returns-in-Ok-do_again
returns-in-Ok-do_again g c =
    adds_line (g.D.Dialect.wording c.args.dialect.now) c.args.self.now c.do_again.new.self c.args.line.now
    c.args.log.now.items c.add_sent.new.log.items c.add_heard.new.log.items
    (timed c.in-Ok.said.stamp (deed_in c.in-Ok.said.deed c.read_deed.new.message.items)) c.in-Ok-do_again.frames
    c.in-Ok.ensures (rw (← c.as_slice-2.ensures.value) c.in-Ok-do_again.ensures.writes) (search rules) (search rules)
