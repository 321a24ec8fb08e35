-- The text of a step: what an event did, in words, with the frames that it wrote, or why nothing came of it.
use Rattle.std.specs.Prelude.{◌≡◌, ℕ, ◌+◌, ◌&&◌, not, List, [], ◌∷◌, codes, drop, length, nat_lt, replicate, ◌==◌, Option, Some, None, slice_get, slice_index, slice_set}
use Rattle.std.specs.Option.{is_some}
use Rattle.dialect.specs.Wording.{Decoding}
use Rattle.sweep_release.specs.Desk.{gate_of, venue_at}
use Rattle.schedule.specs.World.{World, VenueParts, accepted, closed_at, given, made, of_venue, released_to, state_of}
use Rattle.schedule.specs.World as world
use Rattle.venue_replay.specs.declared.frame.Frame.{Frame}
use Rattle.venue_replay.specs.Network.{all_said}
use Rattle.replay.specs.declared.event_outcome.EventOutcome.{EventOutcome}
use Rattle.event_text.specs.declared.before.AtVenue.{AtVenue}
use Rattle.event_text.specs.declared.before.Before.{Before}
use Rattle.event_text.specs.declared.idle.Idle.{Idle}
use Rattle.event_text.specs.declared.settled.Settled.{Settled}
use Rattle.event_text.specs.Deeds.{accepted_phrases, close_phrases, frame_phrases, gate_phrases, kept_phrases, left_phrases, note_phrases, over_phrases, phase_phrases, placed_phrases, refused_phrases, settled_count, taken_phrases, withdrawn_phrases}
use Rattle.event_text.specs.Idle.{idle_text, phase_of}
use Rattle.event_text.specs.Says.{says, says_all}

-- the gate that moved and the leg that left
abbrev pub desk_deeds : AtVenue → World → EventOutcome → List (List (List ℕ))
desk_deeds at w told =
    gate_phrases at.gate (gate_of w.desk at.venue)
    ∷ left_phrases at.gate (is_some told.refused) at.leg_due (nat_lt at.left (venue_at w.desk at.venue).left)
    ∷ []

-- the legs of a venue, from a place on, of which it is settled that the exchange has them; and up to which place the
-- legs are settled
abbrev pub taken_from : World → ℕ → ℕ → List (List ℕ)
taken_from w v place = taken_phrases (state_of w v) (place + 1) (drop place (released_to w v))

abbrev pub settled_from : World → ℕ → ℕ → ℕ
settled_from w v place = place + settled_count (state_of w v) (place + 1) (drop place (released_to w v))

-- the legs that were withdrawn, and the note
abbrev pub book_deeds : Before → AtVenue → World → EventOutcome → List (List (List ℕ))
book_deeds before at w told =
    withdrawn_phrases (drop before.book_entries w.book.entries)
    ∷ note_phrases (slice_get (given w at.venue) at.given) told.answer
    ∷ []

-- what the exchange accepted, the report that it made and couldn't write, and whether it took the Logout
abbrev pub exchange_deeds : AtVenue → World → List (List (List ℕ))
exchange_deeds at w =
    accepted_phrases (slice_get (accepted w at.venue) at.accepted) at.accepted
    ∷ kept_phrases (slice_get (made w at.venue) at.made)
    (length (of_venue w at.venue [] (λ venue. venue.from_exchange)) == at.frames_from)
    ∷ close_phrases (is_some (closed_at w at.venue) && not at.is_closed)
    ∷ []

-- the frames that were written
abbrev pub frame_deeds : AtVenue → List Frame → List Frame → List (List (List ℕ))
frame_deeds at to from =
    frame_phrases (codes "to") at.venue (at.frames_to + 1) (drop at.frames_to to)
    ∷ frame_phrases (codes "from") at.venue (at.frames_from + 1) (drop at.frames_from from)
    ∷ []

-- the session's connection and phase
abbrev pub session_deeds : AtVenue → World → EventOutcome → List (List (List ℕ))
session_deeds at w told =
    over_phrases at.phase (phase_of w at.venue) (of_venue w at.venue 0 (λ venue. venue.session.connection)) told.ended
    ∷ phase_phrases at.phase (phase_of w at.venue)
    ∷ []

-- how many legs of each venue were told as settled: none at first
abbrev pub none_settled : Settled
none_settled = record { told = replicate 16 0 }

abbrev pub settled_at : Settled → ℕ → ℕ
settled_at settled v = slice_index settled.told v

-- what the event did at its venue, behind what was said, where these are the frames of the venue
abbrev pub venue_said : Settled → Before → World → EventOutcome → List Frame → List Frame → AtVenue → List ℕ → List ℕ
venue_said settled before w told to from at said =
    says_all
    (says_all
    (says_all
    (says_all
    (says (says_all said (desk_deeds at w told)) (taken_from w at.venue (settled_at settled at.venue)))
    (book_deeds before at w told))
    (exchange_deeds at w))
    (frame_deeds at to from))
    (session_deeds at w told)

-- the frames of a venue, as they are lent: some way of reading reads them as its messages
abbrev pub AreFrames : World → ℕ → (VenueParts → List world.Frame) → List Frame → Type 0
AreFrames w v frames_of frames = (read : Decoding) × (of_venue w v [] frames_of ≡ all_said read frames)

-- what the event did at its venue, if it is at one
abbrev pub SaidAt : Settled → Before → World → EventOutcome → List ℕ → List ℕ → Option AtVenue → Type 0
SaidAt settled before w told said now None = now ≡ said
SaidAt settled before w told said now (Some at) =
    (to : List Frame) × (from : List Frame)
    × AreFrames w at.venue (λ venue. venue.to_exchange) to
    × AreFrames w at.venue (λ venue. venue.from_exchange) from
    × (now ≡ venue_said settled before w told to from at said)

-- what was said; or, where nothing was, why not
abbrev pub or_idle : Option AtVenue → Option Idle → World → List ℕ → List ℕ
or_idle at idle w (byte ∷ said) = byte ∷ said
or_idle (Some at) (Some idle) w [] =
    idle_text (of_venue w at.venue 0 (λ venue. venue.session.expected))
    (of_venue w at.venue 0 (λ venue. venue.exchange.expected)) idle
or_idle at idle w [] = codes "nothing"

-- the text of a step: the sweep that was placed, what was done at the venue, and the refusal
abbrev pub IsStepText : Settled → Before → World → EventOutcome → List ℕ → Type 0
IsStepText settled before w told text =
    (said : List ℕ)
    × SaidAt settled before w told (says [] (placed_phrases told.placed)) said before.at
    × (text ≡ or_idle before.at before.idle w (says said (refused_phrases told.refused)))

-- the legs that were told as settled, with those that are settled now
abbrev pub settled_now : World → Settled → Option AtVenue → Settled
settled_now w settled None = settled
settled_now w settled (Some at) = record {
  told = slice_set settled.told at.venue (settled_from w at.venue (settled_at settled at.venue));
}
