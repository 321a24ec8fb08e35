-- Which messages can be written: each number, name and id is in its range (FIX 4.4 Volume 2).
use Rattle.std.specs.Prelude.{◌≡◌, ◌≤◌, ℕ, List, Option, Some, None, Result, Ok, Err}
use Rattle.fix_tags.specs.CompId.{IsCompId}
use Rattle.leg.specs.declared.leg.Leg.{Leg}
use Rattle.leg.specs.Leg.{IsLeg}
use Rattle.dialect.specs.declared.fault.DialectFault.{DialectFault}
use Rattle.dialect.specs.declared.report.Report.{Report}
use Rattle.dialect.specs.FreeText.{IsFreeText}
use Rattle.dialect.specs.declared.content.Content.{Content}
use Rattle.dialect.specs.declared.content.Content.TheVariants.{Session, Order, ExecutionReport, Other}
use Rattle.fix_tags.specs.declared.session_body.SessionBody.{SessionBody}
use Rattle.fix_tags.specs.declared.session_body.SessionBody.TheVariants.{Logon, Heartbeat, TestRequest, ResendRequest, Reject, GapFill, Reset, Logout, BusinessReject}
use Rattle.dialect.specs.declared.message.Message.{Message}
use Rattle.dialect.specs.OrderView.{OrderViewParts, IsOrderView}
use Rattle.dialect.specs.declared.outgoing.Outgoing.{Outgoing}
use Rattle.dialect.specs.Report.{IsReport}

-- a number that a message may name (7, 16, 36 and 45)
abbrev pub IsReference : ℕ → Type 0
IsReference number = number ≤ 999999999

-- a number that is expected next (789), where there is one: from 1
abbrev pub IsNext : Option ℕ → Type 0
IsNext None = Unit {0}
IsNext (Some next) = (1 ≤ next) × (next ≤ 999999999)

-- the id of a test (112), where there is one: 1 to 64 bytes without SOH
abbrev pub IsTestId : Option (List ℕ) → Type 0
IsTestId None = Unit {0}
IsTestId (Some id) = IsFreeText 64 id

-- the number that a BusinessReject refuses (45), where there is one
abbrev pub IsRefused : Option ℕ → Type 0
IsRefused None = Unit {0}
IsRefused (Some number) = IsReference number

-- an order that was read, for a leg in range
abbrev pub IsWritableOrder : Result Leg DialectFault → Type 0
IsWritableOrder (Ok leg) = IsLeg leg
IsWritableOrder (Err fault) = ⊥

-- a report and what its exchange knew of the order are in range, and of one leg
pub record IsReportBeside (report : Report) (view : OrderViewParts) : Type 0 where
  pub report_in_range : IsReport report
  pub view_in_range : IsOrderView view
  pub own_leg : view.leg.id ≡ report.id

-- a report that was read, beside what its exchange knew of the order
abbrev pub IsWritableReport : Result Report DialectFault → Option OrderViewParts → Type 0
IsWritableReport (Ok report) (Some view) = IsReportBeside report view
IsWritableReport (Ok report) None = ⊥
IsWritableReport (Err fault) beside = ⊥

-- what a message of the session says is in range: an interval (108) is up to 999,999 seconds
abbrev pub IsInRange : SessionBody → Type 0
IsInRange (Logon heart reset next) = (heart ≤ 999999) × IsNext next
IsInRange (Heartbeat id) = IsTestId id
IsInRange (TestRequest id) = IsFreeText 64 id
IsInRange (ResendRequest begin last) = IsReference begin × IsReference last
IsInRange (Reject number) = IsReference number
IsInRange (GapFill new_number) = IsReference new_number
IsInRange (Reset new_number) = IsReference new_number
IsInRange Logout = Unit {0}
IsInRange (BusinessReject number) = IsRefused number

-- what a message may say that is written
abbrev pub IsWritableContent : Option OrderViewParts → Content → Type 0
IsWritableContent beside (Session says) = IsInRange says
IsWritableContent beside (Order read) = IsWritableOrder read
IsWritableContent beside (ExecutionReport read) = IsWritableReport read beside
IsWritableContent beside Other = ⊥

-- its names are comp ids, and its number (34) is 1 to 999,999,998
pub record IsAddressed (m : Message) : Type 0 where
  pub from : IsCompId m.from
  pub to : IsCompId m.to
  pub number_from : 1 ≤ m.number
  pub number_to : m.number ≤ 999999998

-- a message that is never refused: its names are comp ids, its number (34) is 1 to 999,999,998, and what it says can
-- be written
pub record IsWritable (out : Outgoing) : Type 0 where
  pub from : IsCompId out.message.from
  pub to : IsCompId out.message.to
  pub number_from : 1 ≤ out.message.number
  pub number_to : out.message.number ≤ 999999998
  pub content : IsWritableContent out.beside out.message.content
