use Rattle.std.proofs.Common.{ap}
use Rattle.journal_record.specs.Reading.{ReaderParts}
use Rattle.journal_record.proofs.AtReader.{is_at_end}
use Rattle.journal_record.proofs.reader.LineReader.is_at_end.Goals as goal

pub returns : goal.returns
returns c =
    is_at_end c.self.inside.at c.self.inside.text.now c.args.self.now.rest c.self.invariant.0
    (ap (λ (r : ReaderParts). r.rest) c.self.view_is)
