-- What is known of a message that was read: each number, name and text is in the range of its field (FIX 4.4 Volume 2),
-- and an order or a report that a dialect read in its own (FIX 4.4 Volume 4).
use Rattle.std.specs.Prelude.{◌≤◌, Result, Ok, Err}
use Rattle.fix_tags.specs.CompId.{IsCompId}
use Rattle.leg.specs.declared.leg.Leg.{Leg}
use Rattle.leg.specs.Leg.{IsLeg}
use Rattle.dialect.specs.declared.fault.DialectFault.{DialectFault}
use Rattle.dialect.specs.declared.report.Report.{Report}
use Rattle.dialect.specs.declared.content.Content.{Content}
use Rattle.dialect.specs.declared.content.Content.TheVariants.{Session, Order, ExecutionReport, Other}
use Rattle.dialect.specs.declared.message.Message.{Message}
use Rattle.dialect.specs.Report.{IsReport}
use Rattle.dialect.specs.Writable.{IsInRange}

-- the leg of an order that the dialect read
abbrev pub IsReadOrder : Result Leg DialectFault → Type 0
IsReadOrder (Ok leg) = IsLeg leg
IsReadOrder (Err fault) = Unit {0}

-- a report that the dialect read
abbrev pub IsReadReport : Result Report DialectFault → Type 0
IsReadReport (Ok report) = IsReport report
IsReadReport (Err fault) = Unit {0}

-- what a message says
abbrev pub IsReadContent : Content → Type 0
IsReadContent (Session says) = IsInRange says
IsReadContent (Order read) = IsReadOrder read
IsReadContent (ExecutionReport read) = IsReadReport read
IsReadContent Other = Unit {0}

-- its names are comp ids, and its number (34) is 1 to 999,999,998
pub record IsRead (m : Message) : Type 0 where
  pub from : IsCompId m.from
  pub to : IsCompId m.to
  pub number_from : 1 ≤ m.number
  pub number : m.number ≤ 999999998
  pub content : IsReadContent m.content
