-- A message of a log.
use Rattle.fix_tags.specs.declared.envelope.Envelope.{Envelope}
use Rattle.log_text.specs.declared.line.LogLine.{LogLine}
use Rattle.log_rules.specs.declared.entry.Entry.{Entry}
use Rattle.log_rules.specs.Moment.{moment_of}
use Rattle.log_rules.specs.Said.{said_by}

-- the message of a line
abbrev pub entry_of : LogLine → Envelope → Entry
entry_of line message = record {
  direction = line.direction;
  moment = moment_of line.stamp;
  number = message.number;
  poss_dup = message.poss_dup;
  poss_resend = message.poss_resend;
  says = said_by message.body;
}
