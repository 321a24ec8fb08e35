use Rattle.dialect.proofs.ReportReading.{report_reading}
use Rattle.dialect.proofs.spelled.AnyDialect.read_report.Goals as goal

pub returns-clause-says : goal.returns-clause-says
returns-clause-says g c =
    report_reading (g.S.Spelling.spelling c.args.self.now) c.args.fields.now c.read_report.result (g.met.S.Spelling.is_spelling c.args.self.now) c.read_report.ensures.value
