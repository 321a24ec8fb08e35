-- What any exchange that keeps the rules may do with the messages it gets, and what it may write (FIX 4.4 Volume 2,
-- "Ordered Message Processing", "Logon", "Test Request", "Resend Request", "Sequence Reset" and "Logout").
use Rattle.std.specs.Prelude.{◌≡◌, ◌==◌, if◌then◌else◌, ℕ, suc, ◌+◌, ◌<◌, ◌≤◌, max, ◌⊎◌, Bool, List, [], ◌∷◌, ◌++◌, length, Option, Some, None, Result, Ok, All, Contains, slice_get}
use Rattle.leg.specs.declared.leg.Leg.{Leg}
use Rattle.leg.specs.Growing.{Grew}
use Rattle.leg.specs.LegId.{LegIdParts}
use Rattle.leg.specs.Numbered.{numbered}
use Rattle.dialect.specs.declared.fault.DialectFault.{DialectFault}
use Rattle.dialect.specs.declared.content.Content.{Content}
use Rattle.dialect.specs.declared.content.Content.TheVariants.{Session, Order, ExecutionReport}
use Rattle.fix_tags.specs.declared.session_body.SessionBody.TheVariants.{Logon, Heartbeat, TestRequest, ResendRequest, Reject, GapFill, Reset, Logout, BusinessReject}

-- a message in its connection, delivered or written
pub record Carried : Type 0 where
  pub connection : ℕ
  -- MsgSeqNum (34)
  pub number : ℕ
  pub content : Content

-- what an exchange has taken
pub record Intake : Type 0 where
  -- the number expected next, 1 at first
  pub expected : ℕ
  -- the live connection, if there is one, and the last that was live, 0 at first
  pub live : Option ℕ
  pub last : ℕ
  -- the legs whose orders were accepted, in order
  pub accepted : List Leg
  -- how many they were when a Logout was taken, if one was
  pub closed_at : Option ℕ

-- an exchange as the rules see it
pub record RuleState : Type 0 where
  pub intake : Intake
  -- the ids of TestRequests that were taken and may still be answered
  pub tests : List (List ℕ)
  -- the numbers under which orders were taken that may still be refused
  pub refusable : List ℕ
  -- the numbers under which something else came, which may be refused too: such a refusal is no order's
  pub others : List ℕ
  -- the own numbers used, from 1: the report or the refusal that each carries, if it carries one
  pub own : List (Option Content)
  -- the connections into which it wrote a Logout before it had taken one
  pub unasked : List ℕ

-- before anything came
abbrev pub rule_opening : RuleState
rule_opening = record {
  intake = record { expected = 1; live = None; last = 0; accepted = []; closed_at = None };
  tests = [];
  refusable = [];
  others = [];
  own = [];
  unasked = [];
}

-- a connection that is live is the last that was, and connections count from 1
pub record IsLast (last connection : ℕ) : Type 0 where
  pub from : 1 ≤ connection
  pub same : connection ≡ last

abbrev pub LiveIsLast : Intake → Type 0
LiveIsLast s = (connection : ℕ) → s.live ≡ Some connection → IsLast s.last connection

-- What comes is a delivery, or none where the exchange does something by itself.

-- a Logon of a newer connection, with a number that is not below the expected one ("Logon")
pub record IsNewLogon (s : Intake) (m : Carried) : Type 0 where
  pub heart : ℕ
  pub reset : Bool
  pub next : Option ℕ
  pub says : m.content ≡ Session (Logon heart reset next)
  pub newer : s.last < m.connection
  pub number : s.expected ≤ m.number

-- a message in the live connection, under the expected number ("Ordered Message Processing")
pub record IsDue (s : Intake) (m : Carried) : Type 0 where
  pub live : s.live ≡ Some m.connection
  pub number : m.number ≡ s.expected

-- a message that is no order of a leg, no gap fill and no Logout
abbrev pub IsOther : Content → Type 0
IsOther (Order (Ok leg)) = ⊥
IsOther (Session (GapFill new_number)) = ⊥
IsOther (Session Logout) = ⊥
IsOther content = Unit {0}

-- the expected number, passed where it is this one
abbrev pub passed_at : ℕ → ℕ → ℕ
passed_at number expected = if number == expected then suc expected else expected

-- what an exchange may take of a delivery
pub data Takes (s : Intake) (m : Carried) (t : Intake) : Type 0 where
  -- a Logon of a newer connection makes it the live one, whatever was live before
  new_logon : IsNewLogon s m
      → t ≡ record s { expected = passed_at m.number s.expected; live = Some m.connection; last = m.connection }
      → Takes s m t
  -- an order in its turn is accepted as it was read
  order : IsDue s m → (leg : Leg) → m.content ≡ Order (Ok leg)
      → t ≡ record s { expected = suc s.expected; accepted = s.accepted ++ leg ∷ [] }
      → Takes s m t
  -- a gap fill in its turn moves the expected number forward, and never back
  fill : IsDue s m → (new_number : ℕ) → m.content ≡ Session (GapFill new_number)
      → t ≡ record s { expected = max s.expected new_number }
      → Takes s m t
  -- a Logout in its turn ends the connection, and marks how many orders were accepted
  logout : IsDue s m → m.content ≡ (Session Logout)
      → t ≡ record s { expected = suc s.expected; live = None; closed_at = Some (length s.accepted) }
      → Takes s m t
  -- any other message in its turn is passed
  other : IsDue s m → IsOther m.content → t ≡ record s { expected = suc s.expected } → Takes s m t

-- what may become of what was taken
pub data MayMove (s : Intake) (coming : Option Carried) (t : Intake) : Type 0 where
  -- whatever comes may be lost
  stays : t ≡ s → MayMove s coming t
  -- the live connection may end at any time
  drops : t ≡ record s { live = None } → MayMove s coming t
  -- what comes may be taken
  takes : (m : Carried) → coming ≡ Some m → Takes s m t → MayMove s coming t
  -- and the live connection may end then
  takes_and_drops : (m : Carried) → coming ≡ Some m → (u : Intake) → Takes s m u → t ≡ record u { live = None }
      → MayMove s coming t

-- a message that says this was taken in this step, under the expected number
pub record Took (s t : Intake) (coming : Option Carried) (content : Content) : Type 0 where
  pub message : Carried
  pub came : coming ≡ Some message
  pub due : IsDue s message
  pub says : message.content ≡ content
  pub passed : t.expected ≡ suc s.expected

-- a TestRequest of this id was taken, now or before, so it may be answered; one above the expected number never is
abbrev pub MayAnswer : RuleState → Option Carried → RuleState → List ℕ → Type 0
MayAnswer s coming t id = Contains s.tests id ⊎ Took s.intake t.intake coming (Session (TestRequest id))

-- an order of this number was taken, now or before, whether it could be read or not, so it may be refused
abbrev pub MayRefuse : RuleState → Option Carried → RuleState → ℕ → Type 0
MayRefuse s coming t number =
    Contains s.refusable number
    ⊎ ((read : Result Leg DialectFault) × Took s.intake t.intake coming (Order read) × (number ≡ s.intake.expected))

-- a message that is no order, and no sequence reset, which may stand where an order was
abbrev pub IsNoOrder : Content → Type 0
IsNoOrder (Order read) = ⊥
IsNoOrder (Session (GapFill new_number)) = ⊥
IsNoOrder (Session (Reset new_number)) = ⊥
IsNoOrder content = Unit {0}

-- such a message comes under this number
pub record ComesAsOther (coming : Option Carried) (number : ℕ) : Type 0 where
  pub message : Carried
  pub came : coming ≡ Some message
  pub other : IsNoOrder message.content
  pub same : message.number ≡ number

-- such a message came under this number, now or before, whether it was taken or not: so a refusal of the number is no
-- order's, and its receiver can't take it for one
abbrev pub MayRefuseOther : RuleState → Option Carried → ℕ → Type 0
MayRefuseOther s coming number = Contains s.others number ⊎ ComesAsOther coming number

-- a leg of this id was accepted
pub record HasAccepted (accepted : List Leg) (id : LegIdParts) : Type 0 where
  pub place : ℕ
  pub leg : Leg
  pub there : slice_get accepted place ≡ Some leg
  pub same : leg.id ≡ id

-- what a new own number may be kept for: a report that can be read, of an order that was accepted, or the refusal of
-- an order by its number
abbrev pub MayCarry : RuleState → Option Carried → RuleState → Content → Type 0
MayCarry s coming t (ExecutionReport (Ok report)) = HasAccepted t.intake.accepted report.id
MayCarry s coming t (Session (Reject number)) = MayRefuse s coming t number
MayCarry s coming t (Session (BusinessReject (Some number))) = MayRefuse s coming t number
MayCarry s coming t content = ⊥

-- what a new own number may be used for: one of these, or any other message
abbrev pub MayKeep : RuleState → Option Carried → RuleState → Option Content → Type 0
MayKeep s coming t None = Unit {0}
MayKeep s coming t (Some content) = MayCarry s coming t content

-- own numbers are only added, each for something that holds of it
abbrev pub GrowsBy : (Option Content → Type 0) → List (Option Content) → List (Option Content) → Type 0
GrowsBy Holds old new = (more : List (Option Content)) × All Holds more × (new ≡ old ++ more)

-- a gap fill's number and its new number ("Sequence Reset"), with no report and no refusal among the own numbers
-- between
pub record IsGap (own : List (Option Content)) (first new_number : ℕ) : Type 0 where
  pub above : first < new_number
  pub used : new_number ≤ length own + 1
  pub plain : (number : ℕ) → first ≤ number → number < new_number → numbered number own ≡ Some None

-- the number that a Logon says it expects next (789) is the expected one, if it says one
abbrev pub TellsExpected : ℕ → Option ℕ → Type 0
TellsExpected expected None = Unit {0}
TellsExpected expected (Some next) = next ≡ expected

-- a Logout was taken
abbrev pub HasTakenLogout : Intake → Type 0
HasTakenLogout s = (count : ℕ) × (s.closed_at ≡ Some count)

-- what may be said in a connection under a number that carries no report and no refusal of an order
abbrev pub MaySay : RuleState → Option Carried → RuleState → ℕ → ℕ → Content → Type 0
-- a Logon may say which number is expected next (789), as it is after what came was taken
MaySay s coming t connection number (Session (Logon heart reset next)) = TellsExpected t.intake.expected next
-- a request for what is missing begins with the expected number
MaySay s coming t connection number (Session (ResendRequest begin last)) = begin ≡ t.intake.expected
-- a Heartbeat with an id answers a TestRequest that was taken
MaySay s coming t connection number (Session (Heartbeat (Some id))) = MayAnswer s coming t id
-- a Logout comes at any time: once one was taken, or unasked
MaySay s coming t connection number (Session Logout) = HasTakenLogout t.intake ⊎ Contains t.unasked connection
-- a gap fill stands for own numbers that carry nothing
MaySay s coming t connection number (Session (GapFill new_number)) = IsGap t.own number new_number
-- a refusal here is one of a message that is no order
MaySay s coming t connection number (Session (Reject refused)) = MayRefuseOther s coming refused
MaySay s coming t connection number (Session (BusinessReject (Some refused))) = MayRefuseOther s coming refused
-- a report has a number of its own
MaySay s coming t connection number (ExecutionReport read) = ⊥
-- everything else may be said at any time
MaySay s coming t connection number content = Unit {0}

-- what may be written: into a connection that is no newer than the last that was live, or into any if it is a Logout,
-- by which a Logon may be refused; a report or a refusal under its own number, now or again, or something else under a
-- number that carries none
pub record MayWrite (s : RuleState) (coming : Option Carried) (t : RuleState) (w : Carried) : Type 0 where
  pub from : 1 ≤ w.connection
  pub to : (w.connection ≤ t.intake.last) ⊎ (w.content ≡ (Session Logout))
  pub content : (numbered w.number t.own ≡ Some (Some w.content))
      ⊎ ((numbered w.number t.own ≡ Some None) × MaySay s coming t w.connection w.number w.content)

-- a Logout is written into this connection
pub record IsLogoutIn (connection : ℕ) (written : List Carried) : Type 0 where
  pub message : Carried
  pub there : Contains written message
  pub same : message.connection ≡ connection
  pub says : message.content ≡ (Session Logout)

-- a connection may be among those of unasked Logouts if it was, or if one is written into it now
abbrev pub MayBeUnasked : RuleState → List Carried → ℕ → Type 0
MayBeUnasked s written connection = Contains s.unasked connection ⊎ IsLogoutIn connection written

-- one step of an exchange that keeps the rules: how it stood, what came if anything did, how it stands and what it
-- wrote
pub record May (s : RuleState) (coming : Option Carried) (t : RuleState) (written : List Carried) : Type 0 where
  pub moves : MayMove s.intake coming t.intake
  pub tests : All (MayAnswer s coming t) t.tests
  pub refusable : All (MayRefuse s coming t) t.refusable
  pub others : All (MayRefuseOther s coming) t.others
  pub own : GrowsBy (MayKeep s coming t) s.own t.own
  pub writes : All (MayWrite s coming t) written
  -- a Logout that was written unasked stays so, and no other connection is among them
  pub unasked : All (Contains t.unasked) s.unasked
  pub only : All (MayBeUnasked s written) t.unasked

-- what never goes back: the expected number and the last connection don't fall, and no accepted leg is taken back
pub record IsForward (s t : Intake) : Type 0 where
  pub expected : s.expected ≤ t.expected
  pub last : s.last ≤ t.last
  pub accepted : Grew s.accepted t.accepted
