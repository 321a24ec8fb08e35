-- A frame that comes to the session, as an event of the world.
use Rattle.std.proofs.Common.{◌≡◌, ◌==◌, ◌&&◌, Bool, true, false, ℕ, zero, suc, ◌<◌, List, [], ◌∷◌, length, Option, Some, None, refl, sym, ap, ◌∙◌, if◌then◌else◌, arith}
use Rattle.std.proofs.Math.ListN.{get_or}
use Rattle.std.specs.Prelude.{slice_set}
use Rattle.std.specs.Option.{option_map}
use Rattle.std.proofs.lemmas.List.{get_or-set_same}
use Rattle.leg.specs.Numbered.{numbered}
use Rattle.session_core.specs.Session.{is_connected}
use Rattle.session_core.specs.Turn.{Turn}
use Rattle.session_core.specs.Receiving.{receive}
use Rattle.share_ledger.specs.Book.{BookParts}
use Rattle.schedule.specs.declared.event.Event.TheVariants as event
use Rattle.schedule.specs.World.{World, VenueParts, Frame, venue_in}
use Rattle.schedule.specs.Happening.{with_venue, withdrawn_in, booked, session_turn, to_dispatcher, happens}
use Rattle.venue_replay.specs.declared.inbound.Inbound.{Inbound}
use Rattle.venue_replay.specs.Hearing.{turn_on, heard, inbound_of, confirmed}
use Rattle.venue_replay.proofs.WorldAfter.{at_there, is_there, with_same}

pub set_again : {A : Type 0} (xs : List A) (k : ℕ) (x y : A) → slice_set (slice_set xs k x) k y ≡ slice_set xs k y
set_again [] k x y = refl
set_again (z ∷ zs) zero x y = refl
set_again (z ∷ zs) (suc k) x y = ap (λ l. z ∷ l) (set_again zs k x y)

turn_by : (w : World) (v : ℕ) (venue : VenueParts) (turn t : Turn) (b : Bool) → (if b then Some turn else None) ≡ Some t
    → (if b then session_turn w v venue turn else w) ≡ session_turn w v venue t
turn_by w v venue turn t true is = let same : turn ≡ t = cc in ap (session_turn w v venue) same
turn_by w v venue turn t false is = absurd cc

turned : (w : World) (v : ℕ) (venue : VenueParts) (frame : Option Frame) (t : Turn) → turn_on venue frame ≡ Some t
    → to_dispatcher w v venue frame ≡ session_turn w v venue t
turned w v venue None t is = absurd cc
turned w v venue (Some frame) t is =
    turn_by w v venue (receive venue.session frame.message) t
    (is_connected venue.session.phase && frame.connection == venue.session.connection) is

-- what was told is of a turn
told_of : (w : World) (v : ℕ) (before : VenueParts) (frame : Option Frame) (turn : Option Turn) (inbound : Inbound)
    → turn_on before frame ≡ turn
    → Some inbound ≡ option_map inbound_of turn
    → with_venue (record w { book = booked v inbound.note (withdrawn_in w.book inbound.withdrawn) }) v (confirmed (heard before turn) inbound.note)
    ≡ to_dispatcher w v before frame
told_of w v before frame None inbound is says = absurd cc
told_of w v before frame (Some t) inbound is says =
    let same : inbound ≡ inbound_of t = cc in
    ap (λ (n : Inbound). with_venue (record w { book = booked v n.note (withdrawn_in w.book n.withdrawn) }) v (confirmed (heard before (Some t)) n.note)) same
    ∙ sym (turned w v before frame t is)

dispatcher_happens : (w : World) (v n : ℕ) (before mid now : VenueParts) (book : BookParts) (inbound : Inbound)
    → venue_in w v ≡ Some before
    → mid ≡ heard before (turn_on before (numbered n before.from_exchange))
    → Some inbound ≡ option_map inbound_of (turn_on before (numbered n before.from_exchange))
    → book ≡ booked v inbound.note (withdrawn_in w.book inbound.withdrawn)
    → now ≡ confirmed mid inbound.note
    → with_venue (with_venue (record w { book = book }) v mid) v now ≡ happens w (event.ToDispatcher v n)
dispatcher_happens w v n before mid now book inbound there hears says told confirms =
    (λ k. record w { book = book; venues = set_again w.venues v mid now k })
    ∙ ((λ k. with_venue (record w { book = told k }) v ((confirms ∙ ap (λ (venue : VenueParts). confirmed venue inbound.note) hears) k))
    ∙ (told_of w v before (numbered n before.from_exchange) (turn_on before (numbered n before.from_exchange)) inbound refl says
    ∙ sym (at_there w v before (λ venue. to_dispatcher w v venue (numbered n venue.from_exchange)) there)))

-- told and confirmed at an index
pub dispatcher_at : (w : World) (i v n : ℕ) (before mid again now : VenueParts) (book : BookParts) (inbound : Inbound)
    → i ≡ v → v < length w.venues → before ≡ get_or w.venues i before
    → again ≡ get_or (slice_set w.venues i mid) i again
    → mid ≡ heard before (turn_on before (numbered n before.from_exchange))
    → Some inbound ≡ option_map inbound_of (turn_on before (numbered n before.from_exchange))
    → book ≡ booked v inbound.note (withdrawn_in w.book inbound.withdrawn)
    → now ≡ confirmed again inbound.note
    → with_venue (with_venue (record w { book = book }) i mid) i now ≡ happens w (event.ToDispatcher v n)
dispatcher_at w i v n before mid again now book inbound same low is found hears says told confirms =
    let kept : again ≡ mid = found ∙ get_or-set_same w.venues i mid again (omega (arith, same, low)) in
    (λ k. with_venue (with_venue (record w { book = book }) (same k) mid) (same k) now)
    ∙ dispatcher_happens w v n before mid now book inbound (is_there w.venues i v before same low is) hears says told
    (confirms ∙ ap (λ (venue : VenueParts). confirmed venue inbound.note) kept)

-- the session had no turn
no_turn_by : (w : World) (v : ℕ) (venue : VenueParts) (turn : Turn) (b : Bool) → (if b then Some turn else None) ≡ None
    → (if b then session_turn w v venue turn else w) ≡ w
no_turn_by w v venue turn true is = absurd cc
no_turn_by w v venue turn false is = refl

unturned : (w : World) (v : ℕ) (venue : VenueParts) (frame : Option Frame) → turn_on venue frame ≡ None
    → to_dispatcher w v venue frame ≡ w
unturned w v venue None is = refl
unturned w v venue (Some frame) is =
    no_turn_by w v venue (receive venue.session frame.message)
    (is_connected venue.session.phase && frame.connection == venue.session.connection) is

waits : (w : World) (v : ℕ) (venue : VenueParts) (frame : Option Frame) (turn : Option Turn) → turn_on venue frame ≡ turn
    → None ≡ option_map inbound_of turn
    → venue_in w v ≡ Some venue
    → with_venue w v (heard venue turn) ≡ to_dispatcher w v venue frame
waits w v venue frame None is says there = with_same w v venue there ∙ sym (unturned w v venue frame is)
waits w v venue frame (Some t) is says there = absurd cc

pub dispatcher_waits : (w : World) (v n : ℕ) (before mid : VenueParts) → venue_in w v ≡ Some before
    → mid ≡ heard before (turn_on before (numbered n before.from_exchange))
    → None ≡ option_map inbound_of (turn_on before (numbered n before.from_exchange))
    → with_venue w v mid ≡ happens w (event.ToDispatcher v n)
dispatcher_waits w v n before mid there hears says =
    ap (with_venue w v) hears
    ∙ (waits w v before (numbered n before.from_exchange) (turn_on before (numbered n before.from_exchange)) refl says there
    ∙ sym (at_there w v before (λ venue. to_dispatcher w v venue (numbered n venue.from_exchange)) there))
