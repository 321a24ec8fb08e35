-- What is kept of each venue's journal: each line is no later than the next, and wherever the dispatcher would stand as
-- a line tells that may be the last one kept, the venue's line is as the invariant says.
use Rattle.std.proofs.Common.{◌≡◌, ◌≤◌, ◌+◌, ◌++◌, ℕ, zero, suc, List, [], ◌∷◌, length, drop, Option, Some, refl, sym, ap, subst, ◌∙◌, append_assoc, arith}
use Rattle.std.specs.Prelude.{slice_get}
use Rattle.std.specs.List.{Contains}
use Rattle.std.specs.Option.{option_map_or}
use Rattle.std.proofs.lemmas.Option.{same_Some}
use Rattle.leg.specs.Growing.{Grew}
use Rattle.leg.specs.declared.leg.Leg.{Leg}
use Rattle.leg.specs.declared.sweep.Routed.{Routed}
use Rattle.exchange_core.proofs.Entries.{chosen}
use Rattle.sweep_release.specs.Released.{released, released_from, legs_to}
use Rattle.schedule.specs.declared.event.Event.{Event}
use Rattle.schedule.specs.World.{World, VenueParts, venue_in}
use Rattle.schedule.specs.Happening.{happens}
use Rattle.schedule.specs.Growing.{IsVenueLater}
use Rattle.schedule.specs.LineOf.{line_at}
use Rattle.venue_line.proofs.GivenSteps.{Whole}
use Rattle.schedule.proofs.Grown.{grew-refl, grew-trans}
use Rattle.schedule.proofs.Happened.{event_is_later}
use Rattle.schedule.proofs.Lines.{event_advances}
use Rattle.schedule.proofs.RunsSafely.{IsSafe}
use Rattle.schedule.proofs.GoneLegs.{passed}
use Rattle.world_restart.specs.Journal.{Standing, Journal, standing_at, with_line, add_line, writes_at, reached_at, journal_after}
use Rattle.world_restart.proofs.Cut.{whole_cut}
use Rattle.world_restart.proofs.Aside.{IsAside, aside_releases, aside_goes}
use Rattle.world_restart.proofs.ExchangesGo.{event_goes, reached_grows}

-- the legs of more sweeps come behind
released_from-append : (v number : ℕ) (xs ys : List (List Routed))
    → Grew (released_from v number xs) (released_from v number (xs ++ ys))
released_from-append v number [] ys = (released_from v number ys, refl)
released_from-append v number (legs ∷ xs) ys =
    let rest = released_from-append v (suc number) xs ys in (
      rest.0,
      ap (λ l. legs_of ++ l) rest.1 ∙ sym (append_assoc legs_of (released_from v (suc number) xs) rest.0),
    )
  where
    legs_of : List Leg
    legs_of = legs_to v number 1 legs

pub released-grew : (v : ℕ) (old new : List (List Routed)) → Grew old new → Grew (released v old) (released v new)
released-grew v old new grew =
    subst (λ s. Grew (released v old) (released v s)) (sym grew.1) (released_from-append v 1 old grew.0)

-- no later
pub record IsEarlier (s t : Standing) : Type 0 where
  pub wrote : Grew s.to_exchange t.to_exchange
  pub left : s.left ≤ t.left

pub earlier-refl : (s : Standing) → IsEarlier s s
earlier-refl s = record { wrote = grew-refl s.to_exchange; left = omega arith }

earlier-trans : (r s t : Standing) → IsEarlier r s → IsEarlier s t → IsEarlier r t
earlier-trans r s t first more = record {
  wrote = grew-trans r.to_exchange s.to_exchange t.to_exchange first.wrote more.wrote;
  left = (let a = first.left in let b = more.left in omega arith);
}

-- lines, the last one first, of which each is no later than the one behind it, and the last no later than this
abbrev pub Rise : Standing → List Standing → Type 0
Rise top [] = Unit {0}
Rise top (s ∷ lines) = IsEarlier s top × Rise s lines

pub rise_later : (top now : Standing) (lines : List Standing) → IsEarlier top now → Rise top lines → Rise now lines
rise_later top now [] later rise = tt
rise_later top now (s ∷ lines) later rise = (earlier-trans s top now rise.0 later, rise.1)

pub rise_all : (top : Standing) (lines : List Standing) → Rise top lines → (s : Standing) → Contains lines s
    → IsEarlier s top
rise_all top [] rise s there = absurd (let h = there.1 in omega arith)
rise_all top (x ∷ lines) rise s (zero, low, is) = subst (λ y. IsEarlier y top) is rise.0
rise_all top (x ∷ lines) rise s (suc k, low, is) =
    earlier-trans s x top (rise_all x lines rise.1 s (k, omega arith, is)) rise.0

-- from the last line that is kept on
pub rise_from : (top : Standing) (n : ℕ) (lines : List Standing) (s : Standing) → Rise top lines
    → slice_get (drop n lines) 0 ≡ Some s → Rise s (drop n lines)
rise_from top zero [] s rise first = tt
rise_from top zero (x ∷ lines) s rise first =
    let one : x ≡ s = same_Some x s first in
    subst (λ y. Rise y (x ∷ lines)) one (earlier-refl x, rise.1)
rise_from top (suc n) [] s rise first = tt
rise_from top (suc n) (x ∷ lines) s rise first = rise_from x n lines s rise.1 first

pub record IsJournal (w : World) (v : ℕ) (venue : VenueParts) (journal : Journal) : Type 0 where
  pub rise : Rise (standing_at w v venue) journal.lines
  pub asides : (s : Standing) → Contains journal.lines s → journal.reached ≤ length s.to_exchange
      → IsAside s (released v w.desk.sweeps) venue.exchange venue.from_exchange

-- as it stands now
pub aside_now : (w : World) (v : ℕ) (venue : VenueParts) → Whole (line_at w.desk v venue)
    → IsAside (standing_at w v venue) (released v w.desk.sweeps) venue.exchange venue.from_exchange
aside_now w v venue whole n low = whole_cut n (line_at w.desk v venue) low whole

-- a line more, of how it stands
pub one_line : (w : World) (v : ℕ) (venue : VenueParts) → Whole (line_at w.desk v venue) → (journal : Journal)
    → IsJournal w v venue journal
    → IsJournal w v venue (with_line w v journal venue)
one_line w v venue whole journal is = record {
  rise = (earlier-refl (standing_at w v venue), is.rise);
  asides = among;
}
  where
    among : (s : Standing) → Contains (standing_at w v venue ∷ journal.lines) s
        → journal.reached ≤ length s.to_exchange
        → IsAside s (released v w.desk.sweeps) venue.exchange venue.from_exchange
    among s (zero, low, same) within =
        subst (λ t. IsAside t (released v w.desk.sweeps) venue.exchange venue.from_exchange) same
        (aside_now w v venue whole)
    among s (suc k, low, same) within = is.asides s (k, omega arith, same) within

pub added : (w : World) (v : ℕ) (venue : VenueParts) → venue_in w v ≡ Some venue → Whole (line_at w.desk v venue)
    → (journal : Journal) → IsJournal w v venue journal → IsJournal w v venue (add_line w v journal)
added w v venue there whole journal is =
    subst (λ (o : Option VenueParts). IsJournal w v venue (option_map_or (with_line w v journal) o journal)) (sym there)
    (one_line w v venue whole journal is)

-- a journal that is begun
pub new_is : (w : World) (v : ℕ) (venue : VenueParts) → Whole (line_at w.desk v venue) → (journal : Journal)
    → journal.lines ≡ standing_at w v venue ∷ [] → IsJournal w v venue journal
new_is w v venue whole journal is = record {
  rise = subst (Rise (standing_at w v venue)) (sym is) (earlier-refl (standing_at w v venue), tt);
  asides = λ s there within. among s (subst (λ l. Contains l s) is there);
}
  where
    among : (s : Standing) → Contains (standing_at w v venue ∷ []) s
        → IsAside s (released v w.desk.sweeps) venue.exchange venue.from_exchange
    among s (zero, low, same) =
        subst (λ t. IsAside t (released v w.desk.sweeps) venue.exchange venue.from_exchange) same
        (aside_now w v venue whole)
    among s (suc k, low, same) = absurd (omega arith)

-- an event
module _ (w : World) (e : Event) (safe : IsSafe w) (safe_after : IsSafe (happens w e)) (v : ℕ) (old now : VenueParts)
    (there : venue_in w v ≡ Some old) (there_after : venue_in (happens w e) v ≡ Some now) where
  abbrev after : World
  after = happens w e

  later : IsVenueLater old now
  later =
      let x = (event_is_later w e).venue v old there in
      subst (IsVenueLater old) (same_Some x.0 now (sym x.1 ∙ there_after)) x.2

  earlier : IsEarlier (standing_at w v old) (standing_at after v now)
  earlier =
      let p = passed w after safe (event_advances w e) v now there_after in
      let one : p.old ≡ old = same_Some p.old old (sym p.there ∙ there) in
      let past = p.past.left in
      record { wrote = later.to_exchange; left = past }

  heard : (journal : Journal) → IsJournal w v old journal
      → IsJournal after v now (record journal { reached = reached_at w e v journal.reached })
  heard journal is = record {
    rise = rise_later (standing_at w v old) (standing_at after v now) journal.lines earlier is.rise;
    asides = λ s among within.
        (let grows = reached_grows w e v journal.reached in
        let before = is.asides s among (omega arith) in
        let live = (safe.lines v old there).0.copies.live_is_last in
        let goes = event_goes w v old now there journal.reached live e there_after in
        let more = released-grew v w.desk.sweeps after.desk.sweeps (event_is_later w e).sweeps in
        let wrote = (rise_all (standing_at w v old) journal.lines is.rise s among).wrote in
        subst (λ l. IsAside s l now.exchange now.from_exchange) (sym more.1)
        (aside_releases s (released v w.desk.sweeps) more.0 now.exchange now.from_exchange
        (aside_goes s (released v w.desk.sweeps) old now (reached_at w e v journal.reached) wrote within goes before)));
  }

  pub journal_goes : (journal : Journal) → IsJournal w v old journal
      → IsJournal after v now (journal_after w after e v journal)
  journal_goes journal is =
      let j : Journal = record journal { reached = reached_at w e v journal.reached } in
      chosen (IsJournal after v now) (writes_at e v) (add_line after v j) j
      (λ writes. added after v now there_after (safe_after.lines v now there_after) j (heard journal is))
      (λ writes_not. heard journal is)
