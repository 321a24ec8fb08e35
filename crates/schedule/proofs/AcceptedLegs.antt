-- Each leg that an exchange accepted has a number of its own, and a note that was given is of the venue of its leg.
use Rattle.std.proofs.Common.{◌≡◌, ℕ, zero, suc, true, List, [], ◌∷◌, map, Option, Some, refl, sym, ap, subst, ◌∙◌, inl, inr, arith}
use Rattle.std.specs.Prelude.{slice_get, option_and_then}
use Rattle.std.specs.List.{Contains}
use Rattle.std.specs.List.Sorted.{IsStrictlyIncreasing}
use Rattle.std.proofs.lemmas.Bool.{cases_lt}
use Rattle.std.proofs.lemmas.List.Kept.{AllPairs-from_increasing}
use Rattle.std.proofs.lemmas.Option.{same_Some, slice_get_within, get_or_from_slice_get}
use Rattle.leg.specs.LegId.{LegIdParts}
use Rattle.leg.specs.Numbered.{numbered}
use Rattle.leg.specs.declared.leg.Leg.{Leg}
use Rattle.leg.specs.declared.sweep.Routed.{Routed}
use Rattle.dialect.specs.declared.note.Note.{Note}
use Rattle.exchange_core.specs.Exchange.{accepted_by}
use Rattle.share_ledger.specs.Entries.{is_same_leg, is_about}
use Rattle.share_ledger.proofs.OneMore.{is_same_leg-true}
use Rattle.sweep_release.specs.Released.{released}
use Rattle.schedule.specs.World.{World, VenueParts, venue_in, given}
use Rattle.schedule.specs.LineOf.{line_at}
use Rattle.venue_line.proofs.LineGives.{line_holds}
use Rattle.schedule.proofs.RunsSafely.{IsSafe}
use Rattle.schedule.proofs.ReportsFit.{AreApart}
use Rattle.schedule.proofs.LegNumbers.{has_order, one_ordinal}
use Rattle.schedule.proofs.GoneLegs.{report_given, ordinal_of}

-- the place of an accepted leg among the ordinals
ordinal_at : (legs : List Leg) (ordinals : List ℕ) (f : ℕ → Option Leg) (k : ℕ) (leg : Leg)
    → map (λ x. Some x) legs ≡ map f ordinals → slice_get legs k ≡ Some leg
    → (ordinal : ℕ) × (slice_get ordinals k ≡ Some ordinal) × (f ordinal ≡ Some leg)
ordinal_at [] ordinals f k leg same there = absurd cc
ordinal_at (x ∷ legs) [] f k leg same there = absurd cc
ordinal_at (x ∷ legs) (o ∷ ordinals) f zero leg same there =
    let first : Some x ≡ f o = cc in (o, refl, sym first ∙ there)
ordinal_at (x ∷ legs) (o ∷ ordinals) f (suc k) leg same there =
    let more : map (λ y. Some y) legs ≡ map f ordinals = cc in ordinal_at legs ordinals f k leg more there

one_place : (ordinals : List ℕ) (i j a b : ℕ) → IsStrictlyIncreasing ordinals → slice_get ordinals i ≡ Some a
    → slice_get ordinals j ≡ Some b → a ≡ b → i ≡ j
one_place ordinals i j a b rise is there same =
    let pairs = AllPairs-from_increasing ordinals rise in
    let first = get_or_from_slice_get ordinals i a 0 is in
    let second = get_or_from_slice_get ordinals j b 0 there in
    let low = slice_get_within ordinals i a is in
    let high = slice_get_within ordinals j b there in
    elim (cases_lt i j) [
      | inl below ↦ absurd (let h = pairs i j 0 below high in omega (arith, h, first, second, same))
      | inr above ↦
          elim (cases_lt j i) [
            | inl below ↦ absurd (let h = pairs j i 0 below low in omega (arith, h, first, second, same))
            | inr both ↦ omega arith
          ]
    ]

module _ (w : World) (safe : IsSafe w) (v : ℕ) (venue : VenueParts) (there : venue_in w v ≡ Some venue) where
  -- each accepted leg has a number of its own
  pub accepted_apart : AreApart (accepted_by venue.exchange)
  accepted_apart zero j a b is found same = absurd cc
  accepted_apart (suc i) zero a b is found same = absurd cc
  accepted_apart (suc i) (suc j) a b is found same =
      let whole = safe.lines v venue there in
      let holds = line_holds (line_at w.desk v venue) whole.0 whole.1 in
      let f : ℕ → Option Leg = λ ordinal. numbered ordinal (released v w.desk.sweeps) in
      let x = ordinal_at (accepted_by venue.exchange) holds.ordinals f i a holds.released is in
      let y = ordinal_at (accepted_by venue.exchange) holds.ordinals f j b holds.released found in
      let one = one_ordinal v w.desk.sweeps x.0 y.0 a b x.2 y.2 same in
      ap suc (one_place holds.ordinals i j x.0 y.0 holds.in_order x.1 y.1 one)

  -- and is released
  pub accepted_released : (leg : Leg) → Contains (accepted_by venue.exchange) leg
      → (ordinal : ℕ) × (numbered ordinal (released v w.desk.sweeps) ≡ Some leg)
  accepted_released leg among =
      let whole = safe.lines v venue there in
      let holds = line_holds (line_at w.desk v venue) whole.0 whole.1 in
      let o = ordinal_of (accepted_by venue.exchange) holds.ordinals
      (λ ordinal. numbered ordinal (released v w.desk.sweeps)) leg holds.released among in
      (o.0, o.2)

-- a note that was given is of the venue of the leg that it is about
module _ (w : World) (safe : IsSafe w) (id : LegIdParts) (routed : Routed)
    (order : option_and_then (numbered id.place) (numbered id.sweep w.desk.sweeps) ≡ Some routed) where
  pub note_venue : (v : ℕ) (n : Note) → Contains (given w v) n → is_about id n ≡ true → v ≡ routed.venue
  note_venue v n among about =
      let r = report_given w safe v n among in
      let o = accepted_released w safe v r.venue r.there r.on.leg r.on.there in
      let has = has_order v w.desk.sweeps o.0 r.on.leg o.1 in
      let this : is_same_leg r.report.id id ≡ true = sym (ap (is_about id) r.is) ∙ about in
      let same : r.on.leg.id ≡ id = r.on.same ∙ is_same_leg-true r.report.id id this in
      let found : option_and_then (numbered id.place) (numbered id.sweep w.desk.sweeps) ≡ Some has.routed =
      subst (λ (x : LegIdParts). option_and_then (numbered x.place)
      (numbered x.sweep w.desk.sweeps) ≡ Some has.routed) same has.order in
      let one : has.routed ≡ routed = same_Some has.routed routed (sym found ∙ order) in
      sym has.venue ∙ ap (λ (x : Routed). x.venue) one
