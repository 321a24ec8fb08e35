-- Lemmas: the dialect of a spelling keeps the laws of a dialect.
use Rattle.std.proofs.Common.{refl, arith}
use Rattle.dialect.specs.Lemmas.OrderLaws.{order_back, order_marked, order_timed, order_short}
use Rattle.dialect.specs.Lemmas.ReportFits.{report_short}
use Rattle.dialect.specs.Lemmas.ReportLaws.{report_back, report_said}
use Rattle.dialect.specs.Order.{order_fields}
use Rattle.dialect.specs.ReportFields.{report_fields}
use Rattle.dialect.specs.Spelled.{spelled}
use Rattle.dialect.specs.Spelling.{SpellingParts, IsSpelling}
use Rattle.dialect.specs.Wording.{IsWording}

pub is_spelled : (s : SpellingParts) → IsSpelling s → IsWording (spelled s)
is_spelled s laws = record {
  order_exists = λ leg stamp leg_in_range stamp_in_range. (
    order_fields s leg stamp,
    record { leg_in_range = leg_in_range; stamp_in_range = stamp_in_range; written = refl },
  );
  order_reads_back = λ leg stamp fields is. order_back s leg stamp fields laws is;
  order_is_marked = λ leg stamp fields is. order_marked s leg stamp fields laws is;
  order_is_timed = λ leg stamp fields is. order_timed s leg stamp fields laws is;
  order_fits = λ leg stamp fields is. order_short s leg stamp fields laws is;
  order_few = omega (arith, laws.extra_few);
  report_exists = λ report view in_range view_in_range own_leg. (
    report_fields s report view,
    record { in_range = in_range; view_in_range = view_in_range; own_leg = own_leg; written = refl },
  );
  report_reads_back = λ report view fields is. report_back s report view fields laws is;
  report_says_view = λ report view fields is. report_said s report view fields laws is;
  report_fits = λ report view fields is. report_short s report view fields laws is;
}
