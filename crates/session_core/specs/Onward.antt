-- How a session goes on, whatever is called and whatever comes.
use Rattle.std.specs.Prelude.{◌≡◌, ◌≤◌, ◌<◌, ◌+◌, ◌⊎◌, ℕ, Bool, true, false, ◌&&◌, List, [], ◌∷◌, Option, Ok, Err, Some, None, if◌then◌else◌}
use Rattle.std.specs.Option.{is_some}
use Rattle.std.specs.List.{AllByRecursion}
use Rattle.leg.specs.Numbered.{numbered}
use Rattle.leg.specs.declared.leg.Leg.{Leg}
use Rattle.leg.specs.declared.leg_state.LegState.TheVariants.{Doubt, Taken, Withdrawn}
use Rattle.leg.specs.Growing.{Grew}
use Rattle.dialect.specs.Addressed.{message_of}
use Rattle.dialect.specs.declared.content.Content.{Content}
use Rattle.dialect.specs.declared.message.Message.{Message}
use Rattle.dialect.specs.declared.content.Content.TheVariants.{Session, Order}
use Rattle.fix_tags.specs.declared.session_body.SessionBody.TheVariants.{Logon, Heartbeat, ResendRequest, GapFill}
use Rattle.resend.specs.Log.{Entry, GapFillParts, last_ordinal}
use Rattle.resend.specs.Log.Entry.{Sent}
use Rattle.resend.specs.Later.{IsLater, WithdrawsNone, withdrawn_since}
use Rattle.session_core.specs.declared.phase.Phase.TheVariants.{Down, LoggingOn, Up}
use Rattle.session_core.specs.Session.{SessionParts, is_logging_on, is_settling, next_out}
use Rattle.session_core.specs.Turn.{StepParts, Turn}
use Rattle.session_core.specs.Receiving.{told_number, has_passed, is_forgotten, named_fence}
use Rattle.session_core.specs.Calling.{SessionAnswer, own_next, doubted}
use Rattle.session_core.specs.Sound.{EveryLeg}

-- what was sent stays sent and settled, neither connections nor expected numbers go back, and a close that was asked
-- stays asked
pub record IsOnward (before after : SessionParts) : Type 0 where
  pub config : after.config ≡ before.config
  pub log : IsLater before.log after.log
  pub connection : before.connection ≤ after.connection
  pub expected : before.expected ≤ after.expected
  pub close_asked : before.close_asked ≡ true → after.close_asked ≡ true

-- onward, and each leg that was sent is as it was: numbers were only added
pub record KeepsLegs (before after : SessionParts) : Type 0 where
  pub onward : IsOnward before after
  pub added : Grew before.log after.log

-- the numbers of messages that were written for the first time; a gap fill comes as a possible duplicate, under a
-- number that was spent before
abbrev pub new_numbers : List Message → List ℕ
new_numbers [] = []
new_numbers (m ∷ messages) = if m.poss_dup then new_numbers messages else m.number ∷ new_numbers messages

-- numbers that follow one another, from the one that was next to the one that is next after them
abbrev pub AreNext : ℕ → List ℕ → ℕ → Type 0
AreNext next [] after = after ≡ next
AreNext next (number ∷ numbers) after = (number ≡ next) × AreNext (next + 1) numbers after

-- each number that was spent is a message's that was written, in order, and no other is
abbrev pub SpendsNumbers : SessionParts → List Message → SessionParts → Type 0
SpendsNumbers before written after = AreNext (next_out before) (new_numbers written) (next_out after)

-- what a call does where it isn't refused; a refused one leaves the session as it was
abbrev pub OrUnchanged : {X : Type 0} → SessionParts → (X → SessionParts → Type 0) → SessionAnswer X → Type 0
OrUnchanged before Does (Ok answer, after) = Does answer after
OrUnchanged before Does (Err fault, after) = after ≡ before

-- a call that keeps the legs, and hands on nothing of what was received
pub record IsCall (before : SessionParts) (step : StepParts) (after : SessionParts) : Type 0 where
  pub keeps : KeepsLegs before after
  pub spends : SpendsNumbers before step.written after
  pub note : step.note ≡ None
  pub withdrawn : step.withdrawn ≡ []

-- a new connection: it is counted, and begins with a Logon
pub record IsConnection (before : SessionParts) (message : Message) (after : SessionParts) : Type 0 where
  pub keeps : KeepsLegs before after
  pub spends : SpendsNumbers before (message ∷ []) after
  pub was_down : before.phase ≡ Down
  pub logs_on : (after.phase ≡ LoggingOn)
      × (message.content ≡ Session (Logon before.config.heart false (own_next before)))
  pub counted : after.connection ≡ before.connection + 1

-- a leg that is sent: in phase Up alone, with a higher ordinal than any before it, and in doubt under the next number
pub record SendsLeg (before : SessionParts) (ordinal : ℕ) (leg : Leg) (message : Message)
    (after : SessionParts) : Type 0 where
  pub keeps : KeepsLegs before after
  pub spends : SpendsNumbers before (message ∷ []) after
  pub orders : message.content ≡ Order (Ok leg)
  pub was_up : before.phase ≡ Up
  pub above : last_ordinal before.log < ordinal
  pub in_doubt : numbered (next_out before) after.log ≡ Some (Sent (doubted ordinal leg))

-- whether a message says what the exchange got: a resend request while settling, or a Logon that tells the number which
-- it expects next, where the venue chose to be told it
abbrev pub may_withdraw : SessionParts → Content → Bool
may_withdraw s (Session (ResendRequest begin last)) = is_settling s.phase
may_withdraw s (Session (Logon heart reset next)) = is_logging_on s.phase && is_some (told_number s next)
may_withdraw s _ = false

-- the number below which a message says that all was taken: of the fence that it names, or the one that the exchange
-- expects
abbrev pub told_taken : SessionParts → Content → Option ℕ
told_taken s (Session (Heartbeat id)) = named_fence s id
told_taken s (Session (ResendRequest begin last)) = Some begin
told_taken s (Session (Logon heart reset next)) = told_number s next
told_taken s _ = None

-- whether a message that settles legs says that the exchange expects a number again which it had passed
abbrev pub forgets : SessionParts → Content → Bool
forgets s (Session (ResendRequest begin last)) = is_settling s.phase && has_passed s begin
forgets s (Session (Logon heart reset next)) = is_logging_on s.phase && is_forgotten s (told_number s next)
forgets s _ = false

-- such a number was told, and a leg's is below it
abbrev pub IsToldTaken : Option ℕ → ℕ → Type 0
IsToldTaken told number = (n : ℕ) × (told ≡ Some n) × (number < n)

-- such a number was told, and a leg's is that number or a higher one
abbrev pub IsToldMissing : Option ℕ → ℕ → Type 0
IsToldMissing told number = (n : ℕ) × (told ≡ Some n) × (n ≤ number)

-- a leg that is taken was so before or its number was told as taken; and one that is withdrawn was so before or its
-- number was told as missing
pub record SettlesAsTold (told : Option ℕ) (before after : List Entry) : Type 0 where
  pub taken : EveryLeg after
      (λ number leg. leg.state ≡ Taken → (numbered number before ≡ Some (Sent leg)) ⊎ IsToldTaken told number)
  pub withdrawn : EveryLeg after
      (λ number leg. leg.state ≡ Withdrawn → (numbered number before ≡ Some (Sent leg)) ⊎ IsToldMissing told number)

-- a gap fill stands for no leg in doubt
abbrev pub FillSpares : List Entry → Message → Type 0
FillSpares log m =
    (new_number : ℕ) → m.content ≡ Session (GapFill new_number)
    → EveryLeg log (λ number leg. m.number ≤ number → number < new_number → leg.state ≡ Doubt → ⊥)

abbrev pub FillsSpareDoubt : List Entry → List Message → Type 0
FillsSpareDoubt log messages = AllByRecursion (FillSpares log) messages

-- nothing is written, or one gap fill
abbrev pub WritesFillAlone : SessionParts → List Message → Type 0
WritesFillAlone s written =
    (written ≡ [])
    ⊎ ((fill : GapFillParts) × (written ≡ message_of s.config fill.first true (Session (GapFill fill.new_number)) ∷ []))

-- no leg is withdrawn, and none is named so
pub record SparesLegs (before : SessionParts) (turn : Turn) : Type 0 where
  pub named : turn.step.withdrawn ≡ []
  pub settled : WithdrawsNone before.log turn.session.log

-- nothing is written, and what was sent and settled is as it was
pub record SettlesNothing (before : SessionParts) (turn : Turn) : Type 0 where
  pub written : turn.step.written ≡ []
  pub named : turn.step.withdrawn ≡ []
  pub log : turn.session.log ≡ before.log
  pub settled : turn.session.settled ≡ before.settled

-- a message received: onward; the legs that are now withdrawn are named, and only such a message withdraws legs; and
-- legs are settled at the number that it tells
pub record IsReceived (before : SessionParts) (m : Message) (turn : Turn) : Type 0 where
  pub onward : IsOnward before turn.session
  pub spends : SpendsNumbers before turn.step.written turn.session
  pub named : turn.step.withdrawn ≡ withdrawn_since before.log turn.session.log
  pub spares : may_withdraw before m.content ≡ false → SparesLegs before turn
  pub settles : SettlesAsTold (told_taken before m.content) before.log turn.session.log
