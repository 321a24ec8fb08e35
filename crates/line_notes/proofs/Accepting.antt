-- What an exchange that keeps the rules has accepted stays so, and an order that it takes is accepted.
use Rattle.std.proofs.Common.{◌≡◌, suc, List, [], ◌∷◌, ◌++◌, length, Option, Some, Ok, refl, sym, ap, subst, ◌∙◌, arith}
use Rattle.std.specs.Prelude.{slice_get}
use Rattle.std.proofs.lemmas.Option.{same_Some}
use Rattle.leg.specs.LegId.{LegIdParts}
use Rattle.leg.specs.Growing.{Grew}
use Rattle.leg.specs.declared.leg.Leg.{Leg}
use Rattle.leg.proofs.Numbered.{numbered-append}
use Rattle.dialect.specs.declared.content.Content.TheVariants.{Order}
use Rattle.exchange_core.specs.Acceptance.{Carried, Intake, IsOther, HasAccepted, Takes, MayMove}
use Rattle.exchange_core.specs.Acceptance as rules

-- what was accepted stays so
pub accepted_grew : (old new : List Leg) (id : LegIdParts) → Grew old new → HasAccepted old id → HasAccepted new id
accepted_grew old new id grew is = record {
  place = is.place;
  leg = is.leg;
  there = subst (λ l. slice_get l is.place ≡ Some is.leg) (sym grew.1)
      (numbered-append (suc is.place) old grew.0 is.leg is.there);
  same = is.same;
}

got_last : (legs : List Leg) (leg : Leg) → slice_get (legs ++ leg ∷ []) (length legs) ≡ Some leg
got_last [] leg = refl
got_last (first ∷ legs) leg = got_last legs leg

accepted_last : (legs : List Leg) (leg : Leg) → HasAccepted (legs ++ leg ∷ []) leg.id
accepted_last legs leg = record { place = length legs; leg = leg; there = got_last legs leg; same = refl }

-- an order that is read as this leg
module _ (s : Intake) (m : Carried) (leg : Leg) (says : m.content ≡ Order (Ok leg)) where
  order_taken : (t : Intake) → Takes s m t → HasAccepted t.accepted leg.id
  order_taken t (rules.new_logon is after) = absurd (let e = sym is.says ∙ says in cc)
  order_taken t (rules.order due read is after) =
      (let one : read ≡ leg = (let e = sym is ∙ says in cc) in
      subst (λ (u : Intake). HasAccepted u.accepted leg.id) (sym after)
      (subst (λ (l : Leg). HasAccepted (s.accepted ++ l ∷ []) leg.id) (sym one) (accepted_last s.accepted leg)))
  order_taken t (rules.fill due new_number is after) = absurd (let e = sym is ∙ says in cc)
  order_taken t (rules.logout due is after) = absurd (let e = sym is ∙ says in cc)
  order_taken t (rules.other due is after) = absurd (subst IsOther says is)

  -- where its number was passed when it came, it was accepted
  pub order_accepted : (coming : Option Carried) (t : Intake) → coming ≡ Some m → t.expected ≡ suc s.expected
      → MayMove s coming t
      → HasAccepted t.accepted leg.id
  order_accepted coming t came passed (rules.stays after) =
      absurd (let e = ap (λ (u : Intake). u.expected) after in omega arith)
  order_accepted coming t came passed (rules.drops after) =
      absurd (let e = ap (λ (u : Intake). u.expected) after in omega arith)
  order_accepted coming t came passed (rules.takes m' came' is) =
      order_taken t (subst (λ x. Takes s x t) (same_Some m' m (sym came' ∙ came)) is)
  order_accepted coming t came passed (rules.takes_and_drops m' came' u is after) =
      subst (λ (v : Intake). HasAccepted v.accepted leg.id) (sym after)
      (order_taken u (subst (λ x. Takes s x u) (same_Some m' m (sym came' ∙ came)) is))
