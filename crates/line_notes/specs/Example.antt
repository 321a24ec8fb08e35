-- A worked line: a leg is released and sent, and the exchange accepts its order and refuses it. The note of the refusal
-- is on that leg.
use Rattle.std.specs.Prelude.{◌≡◌, List, [], ◌∷◌, ◌++◌, Option, Some}
use Rattle.fix_tags.specs.declared.session_body.SessionBody.TheVariants.{Reject}
use Rattle.dialect.specs.declared.note.Note.TheVariants as note
use Rattle.dialect.specs.declared.content.Content.{Content}
use Rattle.dialect.specs.declared.content.Content.TheVariants.{Session}
use Rattle.session_core.specs.Example.{config, leg}
use Rattle.exchange_core.specs.Acceptance.{Carried}
use Rattle.venue_line.specs.Line.{Line, new_line, AreSteps}
use Rattle.venue_line.specs.Worked.{at, standing, sending, receiving, exchanging, two, up_with, till_up}

-- the refusal of the order
abbrev pub refusal : Carried
refusal = at 1 3 (Session (Reject 3))

abbrev pub three : List (Option Content)
three = two ++ Some refusal.content ∷ []

abbrev pub up : Line
up = up_with (leg ∷ [])

-- the leg is sent, and its order accepted and refused
abbrev pub sent : Line
sent = sending 1 leg up

abbrev pub order_taken : Line
order_taken = exchanging (standing 1 4 (leg ∷ []) three) (refusal ∷ []) sent

abbrev pub refused : Line
refused = receiving refusal order_taken

abbrev pub history : List Line
history = till_up (leg ∷ []) ++ sent ∷ order_taken ∷ refused ∷ []

-- all of it may happen, and this it comes to
pub record IsRefusalNoted : Type 0 where
  pub steps : AreSteps (new_line config) history
  pub accepted : refused.exchange.intake.accepted ≡ leg ∷ []
  pub given : refused.given ≡ note.Refused leg.id ∷ []
