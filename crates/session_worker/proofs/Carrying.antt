-- What a step wanted, done one after the other.
use Rattle.std.proofs.Common.{◌≡◌, ℕ, List, [], ◌∷◌, ◌++◌, refl, sym, ap, subst, ◌∙◌, inl, inr}
use Rattle.std.specs.Prelude.{Option}
use Rattle.leg.specs.LegId.{LegIdParts}
use Rattle.dialect.specs.declared.note.Note.{Note}
use Rattle.link.specs.Traffic.{Tells, Takes, Stays}
use Rattle.session_core.specs.declared.session_call.SessionCall.TheVariants as call
use Rattle.session_core.specs.Session.{SessionParts}
use Rattle.session_core.specs.Receiving.{confirm}
use Rattle.session_core.specs.Calling.{broken}
use Rattle.exec_collector.specs.Seats.{Seat}
use Rattle.session_worker.specs.Events.{lasting}
use Rattle.session_worker.specs.Events.WorkerEvent.{Calls}
use Rattle.session_worker.specs.Keeping.{Told, TellsEvents}
use Rattle.session_worker.specs.Speaking.{TakesFirst}
use Rattle.session_worker.specs.Linking.{WorkerStateParts, BesideShares, beside_shares, asked_too, MayBook, StandsStill, Writes, CarriesOut}
use Rattle.session_worker.proofs.Told.{tells_then, tells_same}
use Rattle.session_worker.proofs.Spoken.{stays_last}
use Rattle.session_worker.proofs.Speech.{stays_first, stays_on, takes_first, takes_no_first}

-- the note wasn't booked
pub carries_none : (ids : List LegIdParts) (given : Option Note) (bytes : List ℕ) (a b d : WorkerStateParts)
    → StandsStill [] a.io b.io → b.took ≡ a.took → beside_shares b.seat ≡ asked_too ids (beside_shares a.seat) → d.io.session ≡ broken b.io.session
    → d.seat.booked ≡ b.seat.booked → TellsEvents b.io.told (Calls call.Broken ∷ []) d.io.told
    → Tells b.io.wire d.io.wire Stays → d.took ≡ b.took
    → lasting d.seat ≡ lasting b.seat → d.seat.asked ≡ b.seat.asked → d.io.stream ≡ b.io.stream
    → CarriesOut ids given bytes a d
carries_none ids given bytes a b d io took seat gone none tells stays taken parts asked stream = record {
  noted = a.io.session;
  told = b.io.told;
  notes = inl (refl, none ∙ ap (λ (told : BesideShares). told.booked) seat, io.told);
  writes = inr (
    gone ∙ ap broken io.session,
    takes_no_first bytes a.io.wire d.io.wire (stays_on a.io.wire b.io.wire d.io.wire io.wire stays),
    tells,
  );
  took = taken ∙ took;
  seat = parts ∙ ap (λ (told : BesideShares). told.lasts) seat;
  asked = asked ∙ ap (λ (told : BesideShares). told.asked) seat;
  stream = stream ∙ io.stream;
}

-- the note, if it was booked, where the session stood still before
notes_from : (given : Option Note) (a b : WorkerStateParts) (noted : SessionParts) (booked : List Note) (told : Told)
    → StandsStill [] a.io b.io → b.seat.booked ≡ a.seat.booked
    → MayBook given b.io.session b.seat.booked b.io.told noted booked told
    → MayBook given a.io.session a.seat.booked a.io.told noted booked told
notes_from given a b noted booked told still same (inl none) =
    inl (none.0 ∙ still.session, none.1 ∙ same, tells_then a.io.told b.io.told told [] still.told none.2)
notes_from given a b noted booked told still same (inr one) = inr (
  one.0,
  one.1,
  one.2 ∙ ap confirm still.session,
  one.3 ∙ ap (λ l. l ++ one.0 ∷ []) same,
  tells_then a.io.told b.io.told told (Calls call.Confirm ∷ []) still.told one.4,
)

-- the frames were written, or the first bytes of them
pub carries_all : (ids : List LegIdParts) (given : Option Note) (bytes : List ℕ) (a b d e : WorkerStateParts)
    → StandsStill [] a.io b.io → b.took ≡ a.took → beside_shares b.seat ≡ asked_too ids (beside_shares a.seat)
    → MayBook given b.io.session b.seat.booked b.io.told d.io.session d.seat.booked d.io.told
    → Tells b.io.wire d.io.wire Stays
    → d.took ≡ b.took → lasting d.seat ≡ lasting b.seat → d.seat.asked ≡ b.seat.asked → d.io.stream ≡ b.io.stream
    → Writes bytes d.io e.io → e.io.stream ≡ d.io.stream → e.took ≡ d.took → e.seat ≡ d.seat
    → CarriesOut ids given bytes a e
carries_all ids given bytes a b d e io took seat notes stays taken parts asked stream writes read same still =
    let from : Tells a.io.wire d.io.wire Stays = stays_on a.io.wire b.io.wire d.io.wire io.wire stays in
    record {
      noted = d.io.session;
      told = d.io.told;
      notes = subst (λ (l : List Note). MayBook given a.io.session a.seat.booked a.io.told d.io.session l d.io.told)
          (sym (ap (λ (s : Seat). s.booked) still))
          (notes_from given a b d.io.session d.seat.booked d.io.told io (ap (λ (told : BesideShares). told.booked) seat) notes);
      writes = elim writes [
        | inl all ↦ inl (all.0, stays_first (Takes bytes) a.io.wire d.io.wire e.io.wire from all.1, all.2)
        | inr part ↦ inr (
          part.0,
          stays_first (TakesFirst bytes) a.io.wire d.io.wire e.io.wire from
              (takes_first bytes d.io.wire e.io.wire part.1),
          part.2,
        )
      ];
      took = same ∙ (taken ∙ took);
      seat = ap lasting still ∙ (parts ∙ ap (λ (told : BesideShares). told.lasts) seat);
      asked = ap (λ (s : Seat). s.asked) still ∙ (asked ∙ ap (λ (told : BesideShares). told.asked) seat);
      stream = read ∙ (stream ∙ io.stream);
    }

-- and then the link ended the connection
pub carries_ended : (ids : List LegIdParts) (given : Option Note) (bytes : List ℕ) (a d e : WorkerStateParts)
    → CarriesOut ids given bytes a d
    → e.io.session ≡ d.io.session → Tells d.io.wire e.io.wire Stays → e.took ≡ d.took → e.seat ≡ d.seat
    → e.io.stream ≡ d.io.stream → e.io.told ≡ d.io.told → CarriesOut ids given bytes a e
carries_ended ids given bytes a d e carries session stays took seat stream told = record {
  noted = carries.noted;
  told = carries.told;
  notes = subst (λ (l : List Note). MayBook given a.io.session a.seat.booked a.io.told carries.noted l carries.told)
      (sym (ap (λ (s : Seat). s.booked) seat)) carries.notes;
  writes = elim carries.writes [
    | inl all ↦ inl (
      session ∙ all.0,
      stays_last (Takes bytes) a.io.wire d.io.wire e.io.wire all.1 stays,
      tells_same carries.told d.io.told e.io.told [] all.2 told,
    )
    | inr part ↦ inr (
      session ∙ part.0,
      stays_last (TakesFirst bytes) a.io.wire d.io.wire e.io.wire part.1 stays,
      tells_same carries.told d.io.told e.io.told (Calls call.Broken ∷ []) part.2 told,
    )
  ];
  took = took ∙ carries.took;
  seat = ap lasting seat ∙ carries.seat;
  asked = ap (λ (s : Seat). s.asked) seat ∙ carries.asked;
  stream = stream ∙ carries.stream;
}
