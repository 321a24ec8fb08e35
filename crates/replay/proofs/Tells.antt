-- What a frame that came to the session tells, from its turn.
use Rattle.std.proofs.Common.{◌≡◌, ℕ, Option, Some, None, refl, sym, ap, ◌∙◌}
use Rattle.std.specs.Option.{option_map, option_map_or}
use Rattle.leg.specs.Numbered.{numbered}
use Rattle.session_core.specs.Turn.{Turn}
use Rattle.share_ledger.specs.declared.applied.Applied.{Applied}
use Rattle.share_ledger.specs.Book.{answer_to}
use Rattle.schedule.specs.declared.event.Event.TheVariants as event
use Rattle.schedule.specs.World.{World, VenueParts, of_venue, venue_in}
use Rattle.schedule.specs.Happening.{withdrawn_in}
use Rattle.venue_replay.specs.declared.inbound.Inbound.{Inbound}
use Rattle.replay.specs.declared.event_outcome.EventOutcome.{EventOutcome}
use Rattle.venue_replay.specs.Hearing.{turn_on, inbound_of}
use Rattle.replay.specs.Telling.{nothing_told, told_by, told}

-- at a venue that is there
told_at : (w : World) (v n : ℕ) (before : VenueParts) → venue_in w v ≡ Some before
    → told w (event.ToDispatcher v n) ≡ told_by w v (turn_on before (numbered n before.from_exchange))
told_at w v n before there =
    ap (λ (o : Option VenueParts). option_map_or (λ (venue : VenueParts). told_by w v (turn_on venue (numbered n venue.from_exchange))) o nothing_told) there

-- without a turn nothing
no_turn : (w : World) (v : ℕ) (turn : Option Turn) → None ≡ option_map inbound_of turn → nothing_told ≡ told_by w v turn
no_turn w v None says = refl
no_turn w v (Some turn) says = absurd cc

pub tells_nothing : (w : World) (v n : ℕ) (before : VenueParts) → venue_in w v ≡ Some before
    → None ≡ option_map inbound_of (turn_on before (numbered n before.from_exchange))
    → nothing_told ≡ told w (event.ToDispatcher v n)
tells_nothing w v n before there says =
    no_turn w v (turn_on before (numbered n before.from_exchange)) says ∙ sym (told_at w v n before there)

-- and with one its inbound, and the book's answer
of_turn : (w : World) (v : ℕ) (turn : Option Turn) (inbound : Inbound) (answer : Option Applied)
    → Some inbound ≡ option_map inbound_of turn
    → answer ≡ option_map (answer_to (withdrawn_in w.book inbound.withdrawn) v) inbound.note
    → record nothing_told { answer = answer; ended = inbound.ended } ≡ told_by w v turn
of_turn w v None inbound answer says is = absurd cc
of_turn w v (Some turn) inbound answer says is =
    let same : inbound ≡ inbound_of turn = cc in
    let ended : inbound.ended ≡ turn.step.ended = ap (λ (n : Inbound). n.ended) same in
    let answers = is ∙ ap (λ (n : Inbound). option_map (answer_to (withdrawn_in w.book n.withdrawn) v) n.note) same in
    λ k. record nothing_told { answer = answers k; ended = ended k }

pub tells : (w : World) (v n : ℕ) (before : VenueParts) (inbound : Inbound) (answer : Option Applied) → venue_in w v ≡ Some before
    → Some inbound ≡ option_map inbound_of (turn_on before (numbered n before.from_exchange))
    → answer ≡ option_map (answer_to (withdrawn_in w.book inbound.withdrawn) v) inbound.note
    → record nothing_told { answer = answer; ended = inbound.ended } ≡ told w (event.ToDispatcher v n)
tells w v n before inbound answer there says is =
    of_turn w v (turn_on before (numbered n before.from_exchange)) inbound answer says is ∙ sym (told_at w v n before there)

-- what is told of a venue that is there
pub told_here : (w : World) (v : ℕ) (venue : VenueParts) (f : VenueParts → EventOutcome) → venue_in w v ≡ Some venue
    → f venue ≡ of_venue w v nothing_told f
told_here w v venue f there = sym (ap (λ (o : Option VenueParts). option_map_or f o nothing_told) there)
