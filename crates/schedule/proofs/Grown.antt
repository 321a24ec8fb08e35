-- Growing goes on: it is reflexive and transitive, for lists, exchanges, venues and worlds.
use Rattle.std.proofs.Common.{◌≡◌, ℕ, zero, suc, List, [], ◌∷◌, ◌++◌, length, Some, refl, sym, ap, subst, ◌∙◌, append_assoc}
use Rattle.std.specs.Prelude.{slice_get, slice_set}
use Rattle.std.proofs.lemmas.Option.{same_Some}
use Rattle.std.proofs.lemmas.List.{append-nil}
use Rattle.leg.specs.Growing.{Grew}
use Rattle.dialect.specs.declared.report.Report.{Report}
use Rattle.exchange_core.specs.declared.sent_record.SentRecord.{SentRecord}
use Rattle.exchange_core.specs.declared.sent_record.SentRecord.TheVariants.{Admin, Reported, Refused}
use Rattle.exchange_core.specs.Exchange.{ExchangeParts, accepted_by}
use Rattle.session_core.proofs.Adding.{onward-refl, onward-trans}
use Rattle.schedule.specs.World.{World, VenueParts, reports_in}
use Rattle.schedule.specs.Growing.{HasGrown, IsVenueLater, IsWorldLater}

pub grew-same : {A : Type 0} (old new : List A) → new ≡ old → Grew old new
grew-same old new same = ([], same ∙ sym (append-nil old))

pub grew-refl : {A : Type 0} (xs : List A) → Grew xs xs
grew-refl xs = grew-same xs xs refl

pub grew-trans : {A : Type 0} (xs ys zs : List A) → Grew xs ys → Grew ys zs → Grew xs zs
grew-trans xs ys zs first next =
    (first.0 ++ next.0, next.1 ∙ (ap (λ l. l ++ next.0) first.1 ∙ append_assoc xs first.0 next.0))

pub reports_in-append : (xs ys : List SentRecord) → reports_in (xs ++ ys) ≡ reports_in xs ++ reports_in ys
reports_in-append [] ys = refl
reports_in-append (Admin ∷ xs) ys = reports_in-append xs ys
reports_in-append (Refused number ∷ xs) ys = reports_in-append xs ys
reports_in-append (Reported report view ∷ xs) ys = ap (λ (l : List Report). report ∷ l) (reports_in-append xs ys)

-- reports grow with the own numbers
pub grown : (x y : ExchangeParts) → Grew (accepted_by x) (accepted_by y) → Grew x.own y.own → HasGrown x y
grown x y accepted own = record {
  accepted = accepted;
  own = own;
  made = (reports_in own.0, ap reports_in own.1 ∙ reports_in-append x.own own.0);
}

pub grown-refl : (x : ExchangeParts) → HasGrown x x
grown-refl x = grown x x (grew-refl (accepted_by x)) (grew-refl x.own)

pub grown-trans : (x y z : ExchangeParts) → HasGrown x y → HasGrown y z → HasGrown x z
grown-trans x y z first next =
    grown x z (grew-trans (accepted_by x) (accepted_by y) (accepted_by z) first.accepted next.accepted)
    (grew-trans x.own y.own z.own first.own next.own)

pub venue_later-refl : (a : VenueParts) → IsVenueLater a a
venue_later-refl a = record {
  session = onward-refl a.session;
  exchange = grown-refl a.exchange;
  to_exchange = grew-refl a.to_exchange;
  from_exchange = grew-refl a.from_exchange;
  given = grew-refl a.given;
}

pub venue_later-trans : (a b c : VenueParts) → IsVenueLater a b → IsVenueLater b c → IsVenueLater a c
venue_later-trans a b c first next = record {
  session = onward-trans a.session b.session c.session first.session next.session;
  exchange = grown-trans a.exchange b.exchange c.exchange first.exchange next.exchange;
  to_exchange = grew-trans a.to_exchange b.to_exchange c.to_exchange first.to_exchange next.to_exchange;
  from_exchange = grew-trans a.from_exchange b.from_exchange c.from_exchange first.from_exchange next.from_exchange;
  given = grew-trans a.given b.given c.given first.given next.given;
}

pub world_later-refl : (w : World) → IsWorldLater w w
world_later-refl w = record {
  sweeps = grew-refl w.desk.sweeps;
  venues = refl;
  venue = λ v old there. (old, there, venue_later-refl old);
}

pub world_later-trans : (a b c : World) → IsWorldLater a b → IsWorldLater b c → IsWorldLater a c
world_later-trans a b c first next = record {
  sweeps = grew-trans a.desk.sweeps b.desk.sweeps c.desk.sweeps first.sweeps next.sweeps;
  venues = next.venues ∙ first.venues;
  venue = λ v old there.
      (let between = first.venue v old there in
      let last = next.venue v between.0 between.1 in
      (last.0, last.1, venue_later-trans old between.0 last.0 between.2 last.2));
}

-- an entry that is put in a place is there, and the others stay
pub slice_get-set_other : {A : Type 0} (xs : List A) (v u : ℕ) (x : A) → (v ≡ u → ⊥)
    → slice_get (slice_set xs v x) u ≡ slice_get xs u
slice_get-set_other [] v u x apart = refl
slice_get-set_other (y ∷ ys) zero zero x apart = absurd (apart refl)
slice_get-set_other (y ∷ ys) zero (suc u) x apart = refl
slice_get-set_other (y ∷ ys) (suc v) zero x apart = refl
slice_get-set_other (y ∷ ys) (suc v) (suc u) x apart = slice_get-set_other ys v u x (λ same. apart (ap suc same))

pub length-slice_set : {A : Type 0} (xs : List A) (v : ℕ) (x : A) → length (slice_set xs v x) ≡ length xs
length-slice_set [] v x = refl
length-slice_set (y ∷ ys) zero x = refl
length-slice_set (y ∷ ys) (suc v) x = ap suc (length-slice_set ys v x)

pub venue_set : (venues : List VenueParts) (v u : ℕ) (old now x : VenueParts) → slice_get venues v ≡ Some old
    → slice_get venues u ≡ Some x → IsVenueLater old now
    → (new : VenueParts) × (slice_get (slice_set venues v now) u ≡ Some new) × IsVenueLater x new
venue_set [] v u old now x there at later = absurd cc
venue_set (y ∷ ys) zero zero old now x there at later =
    (now, refl, subst (λ (a : VenueParts). IsVenueLater a now) (sym (same_Some y old there) ∙ same_Some y x at) later)
venue_set (y ∷ ys) zero (suc u) old now x there at later = (x, at, venue_later-refl x)
venue_set (y ∷ ys) (suc v) zero old now x there at later = (x, at, venue_later-refl x)
venue_set (y ∷ ys) (suc v) (suc u) old now x there at later = venue_set ys v u old now x there at later
