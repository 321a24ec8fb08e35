-- What a dialect says: the fields that it may write for an order and a report, and what it reads fields as.
use Rattle.std.specs.Prelude.{◌≡◌, ◌≤◌, ℕ, List, Some, Result, Ok}
use Rattle.fix_text.specs.Tagged.{Tagged, value_of}
use Rattle.fix_tags.specs.Stamp.{StampParts, IsStamp, stamp_text}
use Rattle.leg.specs.Leg.{IsLeg}
use Rattle.leg.specs.declared.leg.Leg.{Leg}
use Rattle.dialect.specs.Dialect.{IsMarked, FitsMessage, SaysView}
use Rattle.dialect.specs.OrderView.{OrderViewParts, IsOrderView}
use Rattle.dialect.specs.Report.{IsReport as IsInRange}
use Rattle.dialect.specs.declared.fault.DialectFault.{DialectFault}
use Rattle.dialect.specs.declared.report.Report.{Report}

-- the fields that may be written for an order, with a stamp as TransactTime (60), and for a report beside what its
-- exchange knew of the order
pub record Encoding : Type 1 where
  pub IsOrder : Leg → StampParts → List Tagged → Type 0
  pub IsReport : Report → OrderViewParts → List Tagged → Type 0
  -- how many fields an order has at most
  pub most_fields : ℕ

-- the order and the report that fields say, or the first fault
pub record Decoding : Type 0 where
  pub order : List Tagged → Result Leg DialectFault
  pub report : List Tagged → Result Report DialectFault

-- both ways, and the field that marks a leg of a sweep
pub record Wording : Type 1 where
  pub encoding : Encoding
  pub decoding : Decoding
  pub mark : Tagged

-- the laws of a dialect
pub record IsWording (w : Wording) : Type 0 where
  -- there is an order for every leg and stamp in range
  pub order_exists : (leg : Leg) (stamp : StampParts) → IsLeg leg → IsStamp stamp
      → (fields : List Tagged) × w.encoding.IsOrder leg stamp fields
  -- it is read back
  pub order_reads_back : (leg : Leg) (stamp : StampParts) (fields : List Tagged) → w.encoding.IsOrder leg stamp fields
      → w.decoding.order fields ≡ Ok leg
  -- it carries the mark, and is immediate or cancel
  pub order_is_marked : (leg : Leg) (stamp : StampParts) (fields : List Tagged) → w.encoding.IsOrder leg stamp fields
      → IsMarked w.mark fields
  -- it has the stamp as TransactTime (60)
  pub order_is_timed : (leg : Leg) (stamp : StampParts) (fields : List Tagged) → w.encoding.IsOrder leg stamp fields
      → value_of fields 60 ≡ Some (stamp_text stamp)
  -- it can be written into a message, in at most 1,000 bytes
  pub order_fits : (leg : Leg) (stamp : StampParts) (fields : List Tagged) → w.encoding.IsOrder leg stamp fields
      → FitsMessage fields
  -- it has few fields
  pub order_few : w.encoding.most_fields ≤ 26
  -- there is a report for every one in range, beside a view of its own leg
  pub report_exists : (report : Report) (view : OrderViewParts) → IsInRange report → IsOrderView view
      → view.leg.id ≡ report.id → (fields : List Tagged) × w.encoding.IsReport report view fields
  -- it is read back
  pub report_reads_back : (report : Report) (view : OrderViewParts) (fields : List Tagged)
      → w.encoding.IsReport report view fields → w.decoding.report fields ≡ Ok report
  -- it says what its exchange knew of the order
  pub report_says_view : (report : Report) (view : OrderViewParts) (fields : List Tagged)
      → w.encoding.IsReport report view fields → SaysView report view fields
  -- it can be written into a message, in at most 1,000 bytes
  pub report_fits : (report : Report) (view : OrderViewParts) (fields : List Tagged)
      → w.encoding.IsReport report view fields → FitsMessage fields
