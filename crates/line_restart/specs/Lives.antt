-- A dispatcher that is killed at any moment and started again from its journal: its lives on one line, each begun from
-- what the journal had of the one before.
use Rattle.std.specs.Prelude.{◌≡◌, ◌≤◌, ℕ, List, [], ◌∷◌, ◌++◌, length, IfSome}
use Rattle.std.specs.List.{Contains}
use Rattle.leg.specs.declared.leg.Leg.{Leg}
use Rattle.session_core.specs.Calling.{broken}
use Rattle.exchange_core.specs.Acceptance.{Carried}
use Rattle.venue_line.specs.Line.{Line, LineStep, AreSteps}
use Rattle.venue_line.specs.Line as line
use Rattle.venue_line.specs.Leading.{last_line}

-- what comes to the exchange in a step, if something does, is one of these messages
abbrev pub IsBroughtFrom : List Carried → (a b : Line) → LineStep a b → Type 0
IsBroughtFrom wire a b (line.exchanges coming t written there may is) = IfSome coming (Contains wire)
IsBroughtFrom wire a b _ = Unit {0}

abbrev pub AreBroughtFrom : List Carried → (a : Line) (lines : List Line) → AreSteps a lines → Type 0
AreBroughtFrom wire a [] steps = Unit {0}
AreBroughtFrom wire a (b ∷ lines) steps = IsBroughtFrom wire a b steps.0 × AreBroughtFrom wire b lines steps.1

-- a life of the dispatcher, from its start until it is killed: the lines till the journal ended, and those after it,
-- whose session is lost
pub record Life : Type 0 where
  pub start : Line
  pub durable : List Line
  pub lost : List Line

-- what the journal has, and how all stood when the dispatcher was killed
abbrev pub durable_line : Life → Line
durable_line life = last_line life.start life.durable

abbrev pub killed_line : Life → Line
killed_line life = last_line (durable_line life) life.lost

abbrev pub moments_of : Life → List Line
moments_of life = life.start ∷ (life.durable ++ life.lost)

-- the journal is written before the wire: what the session wrote after the journal's end hasn't reached the exchange
pub record IsLife (life : Life) : Type 0 where
  pub steps : AreSteps life.start life.durable
  pub more : AreSteps (durable_line life) life.lost
  pub wire : AreBroughtFrom (durable_line life).to_exchange (durable_line life) life.lost more

-- the line of a dispatcher that is started again: the session, what it wrote and what was booked are the journal's, and
-- its connection is gone; these legs are kept, and so many of them have left the desk; the exchange stands as it does
abbrev pub restarted : Line → Line → List Leg → ℕ → Line
restarted durable killed kept left = record {
  released = kept;
  left = left;
  session = broken durable.session;
  exchange = killed.exchange;
  to_exchange = durable.to_exchange;
  from_exchange = killed.from_exchange;
  waiting = durable.waiting;
  given = durable.given;
}

-- the next life begins so. A release may be lost, but of no leg that has left the desk by the journal; and so many legs
-- behind those as have left the desk now are dropped
pub record Restarts (life : Life) (next : Line) : Type 0 where
  pub kept : List Leg
  pub forgotten : List Leg
  pub left : ℕ
  pub released : (killed_line life).released ≡ kept ++ forgotten
  pub from : (durable_line life).left ≤ left
  pub whole : left ≤ length kept
  pub is : next ≡ restarted (durable_line life) (killed_line life) kept left

-- lives, each but the first begun from what the journal had of the one before
abbrev pub AreLives : Life → List Life → Type 0
AreLives life [] = IsLife life
AreLives life (next ∷ lives) = IsLife life × Restarts life next.start × AreLives next lives

-- every moment of them
abbrev pub all_moments : Life → List Life → List Line
all_moments life [] = moments_of life
all_moments life (next ∷ lives) = moments_of life ++ all_moments next lives
