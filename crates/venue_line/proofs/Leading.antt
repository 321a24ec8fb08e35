-- From a line to a later one, by steps or by none: the invariant is kept, and what is settled stays so.
use Rattle.std.proofs.Common.{◌≡◌, List, [], ◌∷◌, ◌++◌, refl, sym, ap, subst, ◌∙◌, inl, inr, arith}
use Rattle.std.specs.List.{All}
use Rattle.std.proofs.lemmas.List.Elements.{All-head, All-tail}
use Rattle.resend.proofs.Later.{later-trans}
use Rattle.venue_line.specs.Line.{Line, LineStep, AreSteps}
use Rattle.venue_line.specs.Leading.{last_line, Leads}
use Rattle.venue_line.specs.ForGood.{StaysSettled}
use Rattle.venue_line.proofs.GivenSteps.{Whole, whole_step}
use Rattle.venue_line.proofs.LineKept.{invariant_of}
use Rattle.venue_line.proofs.OverLines.{over_trans}
use Rattle.venue_line.proofs.PastLines.{IsPast, past-refl, step_past}
use Rattle.venue_line.proofs.ForGood.{stays_settled, settled-refl, settled-trans}

pub leads-refl : (a : Line) → Leads a a
leads-refl a = record { lines = []; steps = tt; last = refl }

pub leads_by : (a b : Line) → LineStep a b → Leads a b
leads_by a b step = record { lines = b ∷ []; steps = (step, tt); last = refl }

pub steps_more : (a : Line) (lines more : List Line) → AreSteps a lines → AreSteps (last_line a lines) more
    → AreSteps a (lines ++ more)
steps_more a [] more steps later = later
steps_more a (b ∷ lines) more steps later = (steps.0, steps_more b lines more steps.1 later)

pub last_more : (a : Line) (lines more : List Line) → last_line a (lines ++ more) ≡ last_line (last_line a lines) more
last_more a [] more = refl
last_more a (b ∷ lines) more = last_more b lines more

pub leads-trans : (a b c : Line) → Leads a b → Leads b c → Leads a c
leads-trans a b c first more = record {
  lines = first.lines ++ more.lines;
  steps = steps_more a first.lines more.lines first.steps (subst (λ x. AreSteps x more.lines) (sym first.last) more.steps);
  last = last_more a first.lines more.lines ∙ (ap (λ x. last_line x more.lines) first.last ∙ more.last);
}

-- what each step keeps holds of the last line
pub last_keeps : (I : Line → Type 0) → ((a b : Line) → LineStep a b → I a → I b) → (a : Line) (lines : List Line)
    → AreSteps a lines → I a → I (last_line a lines)
last_keeps I keeps a [] steps holds = holds
last_keeps I keeps a (b ∷ lines) steps holds = last_keeps I keeps b lines steps.1 (keeps a b steps.0 holds)

pub leads_keep : (I : Line → Type 0) → ((a b : Line) → LineStep a b → I a → I b) → (a b : Line) → Leads a b → I a → I b
leads_keep I keeps a b leads holds = subst I leads.last (last_keeps I keeps a leads.lines leads.steps holds)

safely : (a : Line) (lines : List Line) → AreSteps a lines → Whole a
    → Whole (last_line a lines) × StaysSettled a (last_line a lines)
safely a [] steps h = (h, settled-refl a)
safely a (b ∷ lines) steps h =
    let next = whole_step a b steps.0 h in
    let more = safely b lines steps.1 next in (
      more.0,
      settled-trans a b (last_line b lines) (stays_settled a b (step_past a b steps.0) h next) more.1,
    )

pub leads_safely : (a b : Line) → Leads a b → Whole a → Whole b × StaysSettled a b
leads_safely a b leads h =
    subst (λ x. Whole x × StaysSettled a x) leads.last (safely a leads.lines leads.steps h)

-- what holds of the line and of each after it holds of the last
at_last : (P : Line → Type 0) (a : Line) (lines : List Line) → All P (a ∷ lines) → P (last_line a lines)
at_last P a [] each = All-head P a [] each
at_last P a (b ∷ lines) each = at_last P b lines (All-tail P a (b ∷ lines) each)

pub holds_at_last : (P : Line → Type 0) (a b : Line) (leads : Leads a b) → All P (a ∷ leads.lines) → P b
holds_at_last P a b leads each = subst P leads.last (at_last P a leads.lines each)

-- and what was released, sent and accepted stands
past-trans : (a b c : Line) → IsPast a b → IsPast b c → IsPast a c
past-trans a b c first more = record {
  left = (let x = first.left in let y = more.left in omega arith);
  released = λ ordinal leg is. more.released ordinal leg (first.released ordinal leg is);
  later = later-trans a.session.log b.session.log c.session.log first.later more.later;
  back = λ number now is. elim (more.back number now is) [
    | inr above ↦ inr (let x = first.left in omega arith)
    | inl (between, at, ordinal, id) ↦
        elim (first.back number between at) [
          | inr above ↦ inr (omega (arith, ordinal))
          | inl (was, there, same, named) ↦ inl (was, there, ordinal ∙ same, id ∙ named)
        ]
  ];
  over = λ is. (let between = first.over is in over_trans between (more.over between.over));
  accepted = λ i.
      (let between = first.accepted i in
      let last = more.accepted (invariant_of b between) in
      record {
        taken = last.taken;
        on = λ m there. last.on m (between.on m there);
        new = λ m there.
            elim (last.new m there) [
              | inl before ↦ between.new m before
              | inr late ↦ inr (let low = between.forward in omega arith)
            ];
        forward = (let low = between.forward in let high = last.forward in omega arith);
        copies = last.copies;
        fences = last.fences;
        close = last.close;
      });
}

pub past_last : (a : Line) (lines : List Line) → AreSteps a lines → IsPast a (last_line a lines)
past_last a [] steps = past-refl a
past_last a (b ∷ lines) steps =
    past-trans a b (last_line b lines) (step_past a b steps.0) (past_last b lines steps.1)

pub leads_past : (a b : Line) → Leads a b → IsPast a b
leads_past a b leads = subst (IsPast a) leads.last (past_last a leads.lines leads.steps)
