-- What holds of an order and of a report in every dialect.
use Rattle.std.specs.Prelude.{◌≡◌, ◌≤◌, true, List, ◌++◌, length, codes, decimal, Some, Result, MatchResult}
use Rattle.std.specs.declared.alloc.AllocError.{AllocError}
use Rattle.fix_text.specs.Tagged.{Tagged, value_of}
use Rattle.fix_text.specs.Text.{fields_text}
use Rattle.fix_text.specs.Sink.{TakingOf, Grows}
use Rattle.fix_tags.specs.App.{are_app_fields}
use Rattle.dialect.specs.declared.report.Report.{Report}
use Rattle.dialect.specs.OrderView.{OrderViewParts}
use Rattle.dialect.specs.ReportFields.{ord_status_text}

-- new is old with fields behind it of which this holds
abbrev pub Appends : (List Tagged → Type 0) → List Tagged → List Tagged → Type 0
Appends Holds old new = (more : List Tagged) × Holds more × (new ≡ old ++ more)

-- what a call says that pushes fields of which this holds: they are taken, or some fields where it is refused memory
abbrev pub PushesSuch : {S : Type 0} → TakingOf S → (List Tagged → Type 0) → S → S → Result (Unit {0}) AllocError
    → Type 0
PushesSuch Takes Holds old new result =
    MatchResult result (λ _. (more : List Tagged) × Holds more × Takes old new more) (λ _. Grows Takes old new)

-- the order carries the mark of a leg of a sweep, and is immediate or cancel (59=3)
pub record IsMarked (mark : Tagged) (fields : List Tagged) : Type 0 where
  pub marked : value_of fields mark.tag ≡ Some mark.value
  pub immediate : value_of fields 59 ≡ Some (codes "3")

-- a report says what its exchange knew of the order: its id, how it stands, and the shares filled and open
pub record SaysView (report : Report) (view : OrderViewParts) (fields : List Tagged) : Type 0 where
  pub order_id : value_of fields 37 ≡ Some view.order_id
  pub status : value_of fields 39 ≡ Some (ord_status_text report.kind view.leaves)
  pub cum : value_of fields 14 ≡ Some (decimal view.cum)
  pub leaves : value_of fields 151 ≡ Some (decimal view.leaves)

-- the fields can be written as those of an application message, in at most 1,000 bytes
pub record FitsMessage (fields : List Tagged) : Type 0 where
  pub app : are_app_fields fields ≡ true
  pub short : length (fields_text fields) ≤ 1000
