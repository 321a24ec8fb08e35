-- What an event at one venue asks the book to withdraw, and what it leaves as it was.
use Rattle.std.proofs.Common.{◌≡◌, ◌<◌, ◌⊎◌, ℕ, List, [], Some, refl, sym, ap, subst, ◌∙◌, inl, inr, arith}
use Rattle.std.specs.Prelude.{slice_get, slice_set}
use Rattle.std.specs.List.{Contains}
use Rattle.std.proofs.lemmas.Bool.{cases_eq}
use Rattle.std.proofs.lemmas.Option.{same_Some}
use Rattle.leg.specs.LegId.{LegIdParts}
use Rattle.leg.specs.Numbered.{numbered}
use Rattle.leg.specs.Growing.{Grew}
use Rattle.leg.specs.declared.leg.Leg.{Leg}
use Rattle.leg.specs.declared.sweep.Routed.{Routed}
use Rattle.dialect.specs.declared.note.Note.{Note}
use Rattle.resend.specs.Log.{Entry}
use Rattle.resend.specs.Later.{withdrawn_since}
use Rattle.resend.proofs.Settled.{since-append, since-refl}
use Rattle.share_ledger.specs.Entries.{order_of, notes_on}
use Rattle.sweep_release.specs.Released.{released}
use Rattle.sweep_release.specs.Desk.{venue_at}
use Rattle.schedule.specs.World.{World, VenueParts, venue_in, given}
use Rattle.schedule.specs.LineOf.{line_at}
use Rattle.venue_line.specs.LineTheorem.{IsWithdrawnLeg}
use Rattle.schedule.proofs.Grown.{grew-refl, slice_get-set_other}
use Rattle.schedule.proofs.DeskKeeps.{Keeps, keeps-refl}
use Rattle.schedule.proofs.Lines.{Advances, set_there}
use Rattle.schedule.proofs.RunsSafely.{IsSafe}
use Rattle.schedule.proofs.NamedLegs.{IsNowWithdrawn, named_since}
use Rattle.schedule.proofs.GoneLegs.{IsGone, gone_before}
use Rattle.schedule.proofs.BookWithdraws.{HasWithdrawn, HasMoved}

-- the withdrawals of an event, and the note
pub record Asks (w after : World) : Type 0 where
  pub ids : List LegIdParts
  pub stays : (id : LegIdParts) → HasWithdrawn w.book id → HasWithdrawn after.book id
  pub only : (id : LegIdParts) → HasWithdrawn after.book id → HasWithdrawn w.book id ⊎ Contains ids id
  pub are : (id : LegIdParts) (routed : Routed) → Contains ids id → order_of id w.book.entries ≡ Some routed
      → notes_on id w.book.entries ≡ []
      → HasWithdrawn after.book id
  pub moved : (from : ℕ) (note : Note) → HasMoved after.book from note → HasMoved w.book from note
      ⊎ Contains (given after from) note
  pub sweeps : (id : LegIdParts) → Contains ids id → after.desk.sweeps ≡ w.desk.sweeps
  pub named : (id : LegIdParts) → Contains ids id → IsGone after id
  pub before : (id : LegIdParts) → IsGone after id → IsGone w id ⊎ Contains ids id

-- where the world after it is safe too
abbrev pub Asked : World → World → Type 0
Asked w after = Advances w after → IsSafe after → Asks w after

pub none_in : (id : LegIdParts) → Contains [] id → ⊥
none_in id there = (let h = there.1 in omega arith)

pub asks_nothing : (w after : World) → after.book ≡ w.book → ((id : LegIdParts) → IsGone after id → IsGone w id)
    → Asks w after
asks_nothing w after same before = record {
  ids = [];
  stays = λ id is. subst (λ b. HasWithdrawn b id) (sym same) is;
  only = λ id is. inl (subst (λ b. HasWithdrawn b id) same is);
  are = λ id routed there order none. absurd (none_in id there);
  moved = λ from note there. inl (subst (λ b. HasMoved b from note) same there);
  sweeps = λ id there. absurd (none_in id there);
  named = λ id there. absurd (none_in id there);
  before = λ id gone. inl (before id gone);
}

pub asked-refl : (w : World) → Asked w w
asked-refl w advances safe = asks_nothing w w refl (λ id gone. gone)

-- a log that grew withdraws none
pub grew_none : (old new : List Entry) (id : LegIdParts) → Grew old new → IsNowWithdrawn old new id → ⊥
grew_none old new id grew now =
    let same : withdrawn_since old new ≡ [] =
    ap (withdrawn_since old) grew.1 ∙ (since-append old old grew.0 (omega arith) ∙ since-refl old) in
    none_in id (subst (λ l. Contains l id) same (named_since old new id now))

pub grew_by : (old new : List Entry) → new ≡ old → Grew old new
grew_by old new same = subst (Grew old) (sym same) (grew-refl old)

-- what an event at a venue leaves as it was
pub record ChangesOne (w after : World) (v : ℕ) (now : VenueParts) : Type 0 where
  pub here : venue_in after v ≡ Some now
  pub others : (u : ℕ) → (v ≡ u → ⊥) → (venue_in after u ≡ venue_in w u)
      × ((venue_at after.desk u).left ≡ (venue_at w.desk u).left)

pub changes_one : (w after : World) (v : ℕ) (old now : VenueParts) → venue_in w v ≡ Some old → Keeps v w.desk after.desk
    → after.venues ≡ slice_set w.venues v now
    → ChangesOne w after v now
changes_one w after v old now there keeps set = record {
  here = ap (λ (l : List VenueParts). slice_get l v) set ∙ set_there w.venues v old now there;
  others = λ u other. (
    ap (λ (l : List VenueParts). slice_get l u) set ∙ slice_get-set_other w.venues v u now other,
    (let e = keeps.others u other in rw e refl),
  );
}

-- the withdrawals of an event at a venue
module _ (w : World) (safe : IsSafe w) (v : ℕ) (venue : VenueParts) (there : venue_in w v ≡ Some venue) where
  pub gone_at : (after : World) (now : VenueParts) → Advances w after → IsSafe after → ChangesOne w after v now
      → (ids : List LegIdParts)
      → ((ordinal : ℕ) (leg : Leg) → numbered ordinal (released v after.desk.sweeps) ≡ Some leg
      → (venue_at w.desk v).left < ordinal
      → IsWithdrawnLeg (line_at after.desk v now) ordinal → Contains ids leg.id)
      → ((id : LegIdParts) → IsNowWithdrawn venue.session.log now.session.log id → Contains ids id)
      → (id : LegIdParts) → IsGone after id → IsGone w id ⊎ Contains ids id
  gone_at after now advances safe_after changes ids lefts sinces =
      gone_before w after safe safe_after advances ids
      (λ u old other ordinal leg was is whole above gone.
      elim (cases_eq v u) [
        | inl same ↦
            (let one : now ≡ other = same_Some now other (sym changes.here ∙ (ap (venue_in after) same ∙ is)) in
            let gone_now : IsWithdrawnLeg (line_at after.desk u now) ordinal =
            subst (λ x. IsWithdrawnLeg (line_at after.desk u x) ordinal) (sym one) gone in
            lefts ordinal leg
            (subst (λ k. numbered ordinal (released k after.desk.sweeps) ≡ Some leg) (sym same) whole)
            (subst (λ k. (venue_at w.desk k).left < ordinal) (sym same) above)
            (subst (λ k. IsWithdrawnLeg (line_at after.desk k now) ordinal) (sym same) gone_now))
        | inr differs ↦ absurd (let left = (changes.others u differs).1 in let l = gone.left in omega arith)
      ])
      (λ u old other was is id new.
      elim (cases_eq v u) [
        | inl same ↦
            (let one : now ≡ other = same_Some now other (sym changes.here ∙ (ap (venue_in after) same ∙ is)) in
            let two : venue ≡ old = same_Some venue old (sym there ∙ (ap (venue_in w) same ∙ was)) in
            sinces id
            (subst (λ (x : VenueParts). IsNowWithdrawn x.session.log now.session.log id) (sym two)
            (subst (λ (x : VenueParts). IsNowWithdrawn old.session.log x.session.log id) (sym one) new)))
        | inr differs ↦
            (let one : old ≡ other = same_Some old other (sym was ∙ (sym (changes.others u differs).0 ∙ is)) in
            absurd (grew_none old.session.log other.session.log id
            (grew_by old.session.log other.session.log (ap (λ (x : VenueParts). x.session.log) (sym one))) new))
      ])

  -- an event that withdraws none
  pub asked_nothing : (after : World) (now : VenueParts) → Keeps v w.desk after.desk
      → after.venues ≡ slice_set w.venues v now → after.book ≡ w.book
      → (venue_at after.desk v).left ≡ (venue_at w.desk v).left → Grew venue.session.log now.session.log → Asked w after
  asked_nothing after now keeps set book left grew advances safe_after =
      asks_nothing w after book
      (λ id gone.
      elim (gone_at after now advances safe_after (changes_one w after v venue now there keeps set) []
      (λ ordinal leg whole above is. absurd (let l = is.left in omega arith))
      (λ other new. absurd (grew_none venue.session.log now.session.log other grew new))
      id gone) [ inl before ↦ before | inr new ↦ absurd (none_in id new) ])

  pub asked_at_venue : (after : World) (now : VenueParts) → after.desk ≡ w.desk
      → after.venues ≡ slice_set w.venues v now → after.book ≡ w.book
      → Grew venue.session.log now.session.log → Asked w after
  asked_at_venue after now same set book grew =
      asked_nothing after now (subst (Keeps v w.desk) (sym same) (keeps-refl v w.desk)) set book
      (ap (λ d. (venue_at d v).left) same) grew
