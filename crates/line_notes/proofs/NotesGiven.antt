-- The notes given on a line are on accepted legs, and on none that is withdrawn.
use Rattle.std.proofs.Common.{◌≡◌, ℕ, zero, suc, List, [], ◌∷◌, map, Option, Some, None, sym, ap, subst, ◌∙◌, inl, inr, arith}
use Rattle.std.specs.Prelude.{slice_get}
use Rattle.std.specs.List.{Contains}
use Rattle.std.proofs.lemmas.List.Elements.{All-weaker, Contains-append_left, Contains-append_right, Contains-append_cases, Contains-push}
use Rattle.std.proofs.lemmas.Option.{same_Some}
use Rattle.leg.specs.LegId.{LegIdParts}
use Rattle.leg.specs.Numbered.{numbered}
use Rattle.leg.specs.declared.leg.Leg.{Leg}
use Rattle.dialect.specs.declared.note.Note.{Note}
use Rattle.dialect.specs.declared.content.Content.{Content}
use Rattle.resend.specs.Log.{Entry}
use Rattle.session_core.specs.Counting.{note_for}
use Rattle.venue_line.specs.Line.{Line, noted}
use Rattle.venue_line.specs.Notes.{notes_under}
use Rattle.venue_line.specs.LineTheorem.{LineHolds}
use Rattle.venue_line.proofs.LineGives.{line_holds}
use Rattle.line_notes.specs.OnAccepted.{leg_named, IsOnAccepted}
use Rattle.line_notes.specs.NotesTheorem.{NotesAreOnAccepted, TheNotesTheorem, NoneIsOnWithdrawn, TheWithdrawnTheorem}
use Rattle.line_notes.proofs.OwnAccepted.{WholeNoted, noted_steps}

-- what an own number carries that has this note
record IsNotedOf (log : List Entry) (own : List (Option Content)) (n : Note) : Type 0 where
  content : Content
  there : Contains own (Some content)
  note : note_for log content ≡ Some n

noted_is : (o : Option Note) (n : Note) → Contains (noted o) n → o ≡ Some n
noted_is None n there = absurd (let h = there.1 in omega arith)
noted_is (Some x) n (zero, low, is) = ap (λ y. Some y) is
noted_is (Some x) n (suc k, low, is) = absurd (omega arith)

of_more : (log : List Entry) (first : Option Content) (own : List (Option Content)) (n : Note) → IsNotedOf log own n
    → IsNotedOf log (first ∷ own) n
of_more log first own n is = record {
  content = is.content;
  there = Contains-append_right (first ∷ []) own (Some is.content) is.there;
  note = is.note;
}

-- each note of own numbers is that of one of them
noted_of : (log : List Entry) (own : List (Option Content)) (n : Note) → Contains (notes_under log own) n
    → IsNotedOf log own n
noted_of log [] n there = absurd (let h = there.1 in omega arith)
noted_of log (None ∷ own) n there = of_more log None own n (noted_of log own n there)
noted_of log (Some content ∷ own) n there =
    elim (Contains-append_cases (noted (note_for log content)) (notes_under log own) n there) [
      | inl here ↦
          record {
            content = content;
            there = Contains-append_left (Some content ∷ []) own (Some content) (Contains-push [] (Some content));
            note = noted_is (note_for log content) n here;
          }
      | inr more ↦ of_more log (Some content) own n (noted_of log own n more)
    ]

pub notes_on : (w : Line) → WholeNoted w → NotesAreOnAccepted w
notes_on w h n there =
    let g = h.0.1 in
    let of = noted_of w.session.log g.front n (subst (λ l. Contains l n) g.given there) in
    let own = subst (λ l. Contains l (Some of.content)) (sym g.whole)
    (Contains-append_left g.front g.back (Some of.content) of.there) in
    h.1.own of.content own n of.note

-- the ordinal of an accepted leg
ordinal_of : (legs : List Leg) (ordinals : List ℕ) (f : ℕ → Option Leg) (place : ℕ) (leg : Leg)
    → map (λ x. Some x) legs ≡ map f ordinals → slice_get legs place ≡ Some leg
    → (ordinal : ℕ) × Contains ordinals ordinal × (f ordinal ≡ Some leg)
ordinal_of [] ordinals f place leg same there = absurd cc
ordinal_of (x ∷ legs) [] f place leg same there = absurd cc
ordinal_of (x ∷ legs) (o ∷ ordinals) f zero leg same there =
    let first : Some x ≡ f o = cc in
    (o, Contains-append_left (o ∷ []) ordinals o (Contains-push [] o), sym first ∙ there)
ordinal_of (x ∷ legs) (o ∷ ordinals) f (suc k) leg same there =
    let more : map (λ y. Some y) legs ≡ map f ordinals = cc in
    let rest = ordinal_of legs ordinals f k leg more there in
    (rest.0, Contains-append_right (o ∷ []) ordinals rest.0 rest.1, rest.2)

-- the accepted leg of this id
pub record HasOrdinal (w : Line) (holds : LineHolds w) (id : LegIdParts) : Type 0 where
  pub ordinal : ℕ
  pub leg : Leg
  pub accepted : Contains holds.ordinals ordinal
  pub whole : numbered ordinal w.released ≡ Some leg
  pub same : leg.id ≡ id

pub ordinal_named : (w : Line) (holds : LineHolds w) (n : Note) (id : LegIdParts)
    → IsOnAccepted w.exchange.intake.accepted n → leg_named n ≡ Some id → HasOrdinal w holds id
ordinal_named w holds n id on names =
    let accepted = on.accepted in
    let at = ordinal_of w.exchange.intake.accepted holds.ordinals (λ o. numbered o w.released) accepted.place
    accepted.leg holds.released accepted.there in
    record {
      ordinal = at.0;
      leg = accepted.leg;
      accepted = at.1;
      whole = at.2;
      same = accepted.same ∙ same_Some on.id id (sym on.on ∙ names);
    }

pub none_on_withdrawn : (w : Line) → WholeNoted w → NoneIsOnWithdrawn w
none_on_withdrawn w h apart ordinal leg n gone whole there names =
    let holds = line_holds w h.0.0 h.0.1 in
    let at = ordinal_named w holds n leg.id (notes_on w h n there) names in
    let one : ordinal ≡ at.ordinal = apart ordinal at.ordinal leg at.leg whole at.whole (sym at.same) in
    holds.withdrawn_is_missing ordinal gone (subst (Contains holds.ordinals) (sym one) at.accepted)

pub the_notes_theorem : TheNotesTheorem
the_notes_theorem config lines small steps =
    All-weaker WholeNoted NotesAreOnAccepted notes_on lines (noted_steps config lines small steps)

pub the_withdrawn_theorem : TheWithdrawnTheorem
the_withdrawn_theorem config lines small steps =
    All-weaker WholeNoted NoneIsOnWithdrawn none_on_withdrawn lines (noted_steps config lines small steps)
