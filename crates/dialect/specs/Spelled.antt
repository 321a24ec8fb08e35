-- What the dialect of a spelling says.
use Rattle.dialect.specs.Order.{IsOrderOf, most_order_fields, order_read_of}
use Rattle.dialect.specs.ReportFields.{IsReportOf}
use Rattle.dialect.specs.ReportRead.{report_read_of}
use Rattle.dialect.specs.Spelling.{SpellingParts}
use Rattle.dialect.specs.Wording.{Wording}

abbrev pub spelled : SpellingParts → Wording
spelled s = record {
  encoding = record { IsOrder = IsOrderOf s; IsReport = IsReportOf s; most_fields = most_order_fields s };
  decoding = record { order = order_read_of s; report = report_read_of s };
  mark = s.mark;
}
