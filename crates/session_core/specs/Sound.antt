-- What a session promises of itself: it holds of a new session, and every call keeps it.
use Rattle.std.specs.Prelude.{◌≡◌, ◌≤◌, ◌<◌, ◌⊎◌, ℕ, Bool, true, List, Option, Some}
use Rattle.std.specs.List.{AllByRecursion}
use Rattle.fix_tags.specs.Config.{IsConfig}
use Rattle.leg.specs.Numbered.{numbered}
use Rattle.leg.specs.declared.leg_state.LegState.TheVariants.{Queued, Doubt}
use Rattle.dialect.specs.declared.content.Content.{Content}
use Rattle.dialect.specs.declared.message.Message.{Message}
use Rattle.dialect.specs.declared.content.Content.TheVariants.{Session}
use Rattle.fix_tags.specs.declared.session_body.SessionBody.TheVariants.{Logon, TestRequest, GapFill}
use Rattle.dialect.specs.FreeText.{IsFreeText}
use Rattle.dialect.specs.Outgoing.{alone}
use Rattle.dialect.specs.Writable.{IsReference, IsNext, IsWritable}
use Rattle.resend.specs.Log.{SentLeg, Entry}
use Rattle.resend.specs.Log.Entry.{Admin, Sent}
use Rattle.session_core.specs.declared.phase.Phase.{Phase}
use Rattle.session_core.specs.declared.phase.Phase.TheVariants.{LoggingOn, Settling, Closing, LoggedOut}
use Rattle.session_core.specs.Session.{SessionParts, next_out}

-- something holds of each leg that was sent and its number
abbrev pub EveryLeg : List Entry → (ℕ → SentLeg → Type 0) → Type 0
EveryLeg log Has = (number : ℕ) (leg : SentLeg) → numbered number log ≡ Some (Sent leg) → Has number leg

-- every leg has a lower number
abbrev pub LegsAreBelow : ℕ → List Entry → Type 0
LegsAreBelow top log = EveryLeg log (λ number leg. number < top)

-- no leg is in doubt
abbrev pub HasNoDoubt : List Entry → Type 0
HasNoDoubt log = EveryLeg log (λ number leg. leg.state ≡ Doubt → ⊥)

-- ordinals rise with the numbers
abbrev pub OrdinalsRise : List Entry → Type 0
OrdinalsRise log =
    EveryLeg log (λ number leg. EveryLeg log (λ later next. number < later → leg.ordinal < next.ordinal))

-- the legs: one in doubt is above the settled number, none is queued, and their ordinals rise
pub record LegsStand (settled : ℕ) (log : List Entry) : Type 0 where
  pub doubt : EveryLeg log (λ number leg. leg.state ≡ Doubt → settled < number)
  pub sent : EveryLeg log (λ number leg. leg.state ≡ Queued → ⊥)
  pub rise : OrdinalsRise log

-- a fence is above the settled number, and its number was spent on a message of the session
pub record IsFence (settled : ℕ) (log : List Entry) (fence : ℕ) : Type 0 where
  pub unsettled : settled < fence
  pub admin : numbered fence log ≡ Some Admin

-- before every leg of earlier connections is settled
abbrev pub IsBeforeUp : Phase → Type 0
IsBeforeUp phase = (phase ≡ LoggingOn) ⊎ (phase ≡ Settling)

-- what a phase says: until the session is up every fence is above all legs, while closing its fence is, and after the
-- Logout no leg is in doubt
pub record PhaseStands (phase : Phase) (log : List Entry) (fences : List ℕ) (closing_fence : Option ℕ) : Type 0 where
  pub before_up : IsBeforeUp phase → AllByRecursion (λ fence. LegsAreBelow fence log) fences
  pub closing : phase ≡ Closing → (fence : ℕ) × (closing_fence ≡ Some fence) × LegsAreBelow fence log
  pub logged_out : phase ≡ LoggedOut → HasNoDoubt log

-- own numbers: they go no further than they may, and what is settled and the Logon's number were sent
pub record NumbersStand (next max_number settled logon_number : ℕ) : Type 0 where
  pub limited : next ≤ max_number
  pub settled_sent : settled < next
  pub logon_sent : logon_number < next

-- the expected number is one that a message may name, and where a note is pending one that a message may have
pub record ExpectedStands (expected : ℕ) (has_note : Bool) : Type 0 where
  pub from : 1 ≤ expected
  pub to : expected ≤ 999999999
  pub pending : has_note ≡ true → expected ≤ 999999998

pub record IsSound (s : SessionParts) : Type 0 where
  pub config : IsConfig s.config
  pub numbers : NumbersStand (next_out s) s.config.max_number s.settled s.current.logon_number
  pub expected : ExpectedStands s.expected s.current.pending
  pub fences : AllByRecursion (IsFence s.settled s.log) s.current.fences
  pub legs : LegsStand s.settled s.log
  pub phase : PhaseStands s.phase s.log s.current.fences s.current.closing_fence

-- what was read of a message: its number (34), a number that is expected next (789), a test's id (112) and a new number
-- (36) are in their ranges
abbrev pub IsReadContent : Content → Type 0
IsReadContent (Session (Logon heart reset next)) = IsNext next
IsReadContent (Session (TestRequest id)) = IsFreeText 64 id
IsReadContent (Session (GapFill new_number)) = IsReference new_number
IsReadContent _ = Unit {0}

pub record IsRead (m : Message) : Type 0 where
  pub number : m.number ≤ 999999998
  pub content : IsReadContent m.content

-- each message can be written, and is never refused
abbrev pub AreWritable : List Message → Type 0
AreWritable messages = AllByRecursion (λ m. IsWritable (alone m)) messages
