-- The notes given before a restart and after it are the same, in the same order.
use Rattle.std.proofs.Common.{◌≡◌, ◌≤◌, ◌+◌, ◌-◌, ℕ, List, [], ◌∷◌, ◌++◌, length, take, drop, Option, Some, refl, sym, ap, subst, ◌∙◌, inl, inr, length-append, arith}
use Rattle.std.specs.List.{Contains}
use Rattle.std.proofs.lemmas.Bool.{cases_lt}
use Rattle.std.proofs.lemmas.List.{append-nil, take-append-le, take-append-drop}
use Rattle.std.proofs.lemmas.List.Elements.{Contains-append_left}
use Rattle.std.proofs.Math.Seq.{take-add}
use Rattle.leg.specs.declared.leg.Leg.{Leg}
use Rattle.dialect.specs.declared.content.Content.{Content}
use Rattle.resend.specs.Log.{Entry}
use Rattle.resend.specs.Later.{IsLater}
use Rattle.exchange_core.specs.Acceptance.{RuleState}
use Rattle.venue_line.specs.Line.{Line, LineStep}
use Rattle.venue_line.specs.Line as line
use Rattle.venue_line.specs.Notes.{notes_under}
use Rattle.venue_line.specs.LineTheorem.{LineHolds}
use Rattle.venue_line.proofs.GivenSteps.{Whole}
use Rattle.venue_line.proofs.GivenLater.{notes_later, notes-append}
use Rattle.venue_line.proofs.PastLines.{step_past}
use Rattle.venue_line.proofs.Leading.{past_last}
use Rattle.line_restart.specs.Lives.{Life, durable_line, killed_line, IsLife, restarted, Restarts, AreLives, all_moments}
use Rattle.line_restart.specs.RestartTheorem.{IsReached}
use Rattle.line_restart.specs.Reports.{BeginsWith, GivesTheSame, BeginsAtJournal, TheNotesComeAgain}
use Rattle.line_restart.proofs.Cut.{reached_new}
use Rattle.line_restart.proofs.KnownLegs.{broken_log}
use Rattle.line_restart.proofs.Reached.{the_reached_theorem, reached_holds}
use Rattle.line_restart.proofs.Chained.{HandsOn, lives_pairs, none_needed, pairs_reached}

taken_first : (n : ℕ) (own : List (Option Content)) (x : Option Content) → Contains (take n own) x → Contains own x
taken_first n own x there =
    subst (λ l. Contains l x) (take-append-drop n own) (Contains-append_left (take n own) (drop n own) x there)

-- the notes of the first own numbers stay the same, and own numbers are only added
pub record SameNotes (a b : Line) : Type 0 where
  pub longer : length a.exchange.own ≤ length b.exchange.own
  pub notes : (n : ℕ) → n ≤ length a.exchange.own
      → notes_under b.session.log (take n b.exchange.own) ≡ notes_under a.session.log (take n a.exchange.own)

same-refl : (a : Line) → SameNotes a a
same-refl a = record { longer = omega arith; notes = λ n low. refl }

same-trans : (a b c : Line) → SameNotes a b → SameNotes b c → SameNotes a c
same-trans a b c first more = record {
  longer = (let x = first.longer in let y = more.longer in omega arith);
  notes = λ n low. more.notes n (let x = first.longer in omega arith) ∙ first.notes n low;
}

-- own numbers are only added
record Added (a b : Line) : Type 0 where
  more : List (Option Content)
  is : b.exchange.own ≡ a.exchange.own ++ more

none_added : (a b : Line) → b.exchange ≡ a.exchange → Added a b
none_added a b same = record {
  more = [];
  is = ap (λ (x : RuleState). x.own) same ∙ sym (append-nil a.exchange.own);
}

added : (a b : Line) → LineStep a b → Added a b
added a b (line.releases more is) = none_added a b (ap (λ (w : Line). w.exchange) is)
added a b (line.drops below is) = none_added a b (ap (λ (w : Line). w.exchange) is)
added a b (line.sends leg message session there sent is) = none_added a b (ap (λ (w : Line). w.exchange) is)
added a b (line.connects message session made is) = none_added a b (ap (λ (w : Line). w.exchange) is)
added a b (line.receives m there on is) = none_added a b (ap (λ (w : Line). w.exchange) is)
added a b (line.hears m there is) = none_added a b (ap (λ (w : Line). w.exchange) is)
added a b (line.confirms is) = none_added a b (ap (λ (w : Line). w.exchange) is)
added a b (line.calls turn call is) = none_added a b (ap (λ (w : Line). w.exchange) is)
added a b (line.breaks is) = none_added a b (ap (λ (w : Line). w.exchange) is)
added a b (line.abandons is) = none_added a b (ap (λ (w : Line). w.exchange) is)
added a b (line.exchanges coming t written there may is) = record {
  more = may.own.0;
  is = ap (λ (w : Line). w.exchange.own) is ∙ may.own.2;
}

step_same : (a b : Line) → LineStep a b → Whole a → SameNotes a b
step_same a b step h =
    let grows = added a b step in
    let l = ap length grows.is ∙ length-append a.exchange.own grows.more in
    record {
      longer = omega arith;
      notes = λ n low.
          (ap (λ own. notes_under b.session.log (take n own)) grows.is
          ∙ (ap (notes_under b.session.log) (take-append-le n a.exchange.own grows.more low)
          ∙ notes_later a.session.log b.session.log (take n a.exchange.own) (step_past a b step).later
          (λ content there. h.1.names content (taken_first n a.exchange.own (Some content) there))));
    }

pub same_hands_on : HandsOn SameNotes
same_hands_on = record { same = same-refl; trans = same-trans; step = step_same }

-- from a dispatcher that was killed to one that is started again
pub same_over : (d k : Line) (kept : List Leg) (left : ℕ) → IsLater d.session.log k.session.log
    → Whole (restarted d k kept left) → SameNotes k (restarted d k kept left)
same_over d k kept left log h = record {
  longer = omega arith;
  notes = λ n low.
      sym
      (notes_later (restarted d k kept left).session.log k.session.log (take n k.exchange.own)
      (subst (λ l. IsLater l k.session.log) (sym (broken_log d.session)) log)
      (λ content there. h.1.names content (taken_first n k.exchange.own (Some content) there)));
}

restart_same : (life : Life) (next : Line) → IsLife life → Restarts life next → Whole (durable_line life)
    → Whole (killed_line life) → Whole next → Unit {0} → SameNotes (killed_line life) next
restart_same life next is restart d k whole keeps =
    subst (SameNotes (killed_line life)) (sym restart.is)
    (same_over (durable_line life) (killed_line life) restart.kept restart.left
    (past_last (durable_line life) life.lost is.more).later (subst Whole restart.is whole))

-- the notes of more numbers begin with those of fewer
begins : (log : List Entry) (own : List (Option Content)) (few many : ℕ) → few ≤ many
    → BeginsWith (notes_under log (take many own)) (notes_under log (take few own))
begins log own few many low =
    let sum : many ≡ few + (many - few) = omega arith in (
      notes_under log (take (many - few) (drop few own)),
      ap (λ n. notes_under log (take n own)) sum
          ∙ (ap (notes_under log) (take-add few (many - few) own)
          ∙ notes-append log (take few own) (take (many - few) (drop few own))),
    )

pub gives_same : (a b : Line) → LineHolds a → LineHolds b → SameNotes a b → GivesTheSame a b
gives_same a b before after same =
    let x = before.reports in
    let y = after.reports in
    let first : a.given ≡ notes_under b.session.log (take x.count b.exchange.own) =
    x.given ∙ sym (same.notes x.count x.used) in
    elim (cases_lt y.count x.count) [
      | inl fewer ↦
          inr
          (let g = begins b.session.log b.exchange.own y.count x.count (omega arith) in
          (g.0, first ∙ (g.1 ∙ ap (λ l. l ++ g.0) (sym y.given))))
      | inr most ↦
          inl
          (let g = begins b.session.log b.exchange.own x.count y.count most in
          (g.0, y.given ∙ (g.1 ∙ ap (λ l. l ++ g.0) (sym first))))
    ]

at_journal : (life : Life) (lives : List Life) → AreLives life lives → BeginsAtJournal life lives
at_journal life [] is = tt
at_journal life (next ∷ lives) is = (ap (λ (w : Line). w.given) is.1.is, at_journal next lives is.2)

pub the_notes_come_again : TheNotesComeAgain
the_notes_come_again config first lives small new is =
    let start = subst (IsReached config) (sym new) (reached_new config) in
    record {
      same = pairs_reached config SameNotes GivesTheSame
          (λ a b before after s.
          gives_same a b (reached_holds config small a before) (reached_holds config small b after) s)
          (all_moments first lives) (the_reached_theorem config first lives new is)
          (lives_pairs SameNotes same_hands_on config small (λ life next. Unit {0}) restart_same first lives is
          (none_needed first lives) start);
      again = at_journal first lives is;
    }
