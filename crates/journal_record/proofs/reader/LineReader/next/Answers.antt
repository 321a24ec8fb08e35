use Rattle.std.proofs.Common.{◌+◌, length, drop, refl, ap}
use Rattle.journal_record.specs.Reading.{ReaderParts}
use Rattle.journal_record.proofs.AtReader.{is_damaged}
use Rattle.journal_record.proofs.reader.LineReader.next.Goals as goal

pub returns-in_default-line_of : goal.returns-in_default-line_of
returns-in_default-line_of c = (
  is_damaged c.args.self.now c.rest.result.now c.in-Some.whole.now
      (drop (length c.in-Some.whole.now + 1) c.rest.result.now) c.self.inside.sum c.self.inside.lines c.self.inside.at
      c.rest.ensures (ap (λ (r : ReaderParts). r.sum) c.self.view_is) (ap (λ (r : ReaderParts). r.lines) c.self.view_is)
      (ap (λ (r : ReaderParts). r.at) c.self.view_is) c.in-Some.ensures.0 c.in_default-line_of.ensures,
  refl,
)
