-- What goes over a worker's link beside the calls of its session.
use Rattle.std.specs.Prelude.{◌≡◌, ◌⊎◌, ℕ, List, [], ◌∷◌, map, Option, Some, None}
use Rattle.std.specs.List.{concat}
use mathlib.Core.List.{IsPrefix}
use Rattle.fix_tags.specs.Stamp.{StampParts}
use Rattle.dialect.specs.declared.message.Message.{Message}
use Rattle.dialect.specs.Framed.{AreFramed}
use Rattle.dialect.specs.Wording.{Wording}
use Rattle.dialect.specs.Outgoing.{alone}
use Rattle.link.specs.Traffic.{Traffic, Tells, Dials, Takes, GivesBytes, Stays}
use Rattle.session_core.specs.declared.phase.Phase.TheVariants.{Down}
use Rattle.session_core.specs.declared.session_call.SessionCall.{SessionCall}
use Rattle.session_core.specs.declared.session_call.SessionCall.TheVariants as call
use Rattle.session_core.specs.Session.{SessionParts}
use Rattle.session_core.specs.Turn.{StepParts}
use Rattle.session_core.specs.Trial.{called}
use Rattle.session_worker.specs.Hearing.{Said, said_with, Hears}

-- what a link tells
abbrev pub Wire : Type 0
Wire = Option (List Traffic)

-- some bytes were read, or none
abbrev pub Reads : Wire → Wire → Type 0
Reads wire after = Tells wire after (λ w v. (bytes : List ℕ) × GivesBytes bytes w v)

-- the first of these bytes were written, or none, or all
abbrev pub TakesFirst : List ℕ → List Traffic → List Traffic → Type 0
TakesFirst bytes w v = (first : List ℕ) × IsPrefix first bytes × Takes first w v

-- the connection is given up next, or once a note is confirmed
abbrev pub IsGivenUp : List SessionCall → Type 0
IsGivenUp (call.Broken ∷ later) = Unit {0}
IsGivenUp (call.Confirm ∷ later) = IsGivenUp later
IsGivenUp _ = ⊥

-- all of these bytes were written, once; or the first of them, and the calls that follow give the connection up
abbrev pub Puts : List ℕ → List SessionCall → Wire → Wire → Type 0
Puts bytes later wire after =
    Tells wire after (Takes bytes) ⊎ (IsGivenUp later × Tells wire after (TakesFirst bytes))

-- a connection is dialled for each Connect, and just before it; and for a session that is down and was to connect,
-- where that wanted memory. Nothing else is dialled
abbrev pub Begins : SessionParts → SessionCall → Wire → Wire → Type 0
Begins s call.Connect wire after = Tells wire after Dials
Begins s call.Broken wire after = Tells wire after Stays ⊎ ((s.phase ≡ Down) × Tells wire after Dials)
Begins s _ wire after = Tells wire after Stays

-- the messages of a step, if a call adds one
abbrev pub messages_in : Option StepParts → List Message
messages_in None = []
messages_in (Some step) = step.written

-- one call, before others: bytes may be read until it is made; a message that is received is the next one of them; and
-- then the call's frames are written, one behind the other, all with one stamp
pub record Speaks (w : Wording) (s : SessionParts) (said : Said) (made : SessionCall)
    (later : List SessionCall) (wire after : Wire) : Type 0 where
  pub heard : Wire
  pub reads : Reads wire heard
  pub hears : Hears said made heard
  pub ready : Wire
  pub begins : Begins s made heard ready
  pub stamp : StampParts
  pub frames : List (List ℕ)
  pub framed : AreFramed w.encoding stamp (map alone (messages_in (called w.decoding s made).0)) frames
  pub puts : Puts (concat frames) later ready after

-- calls one after the other, where the frames of the present connection said this before them
abbrev pub Speak : Wording → SessionParts → Said → List SessionCall → Wire → Wire → Type 0
Speak w s said [] wire after = Reads wire after
Speak w s said (made ∷ later) wire after =
    (between : Wire) × Speaks w s said made later wire between
    × Speak w (called w.decoding s made).1 (said_with said made) later between after
