-- A message more that is to be written, in the turn that was decided on.
use Rattle.std.proofs.Common.{◌≡◌, ◌+◌, ℕ, Bool, true, false, not, List, [], ◌∷◌, ◌++◌, length, map, cond, count_by, refl, ap, ◌∙◌, if◌then◌else◌, arith, length-append}
use Rattle.std.proofs.lemmas.List.{map-append}
use Rattle.std.proofs.lemmas.List.Sums.{sum_by-cons}
use Rattle.dialect.specs.declared.message.Message.{Message}
use Rattle.resend.specs.Log.{Entry, GapFillParts, take_below}
use Rattle.resend.specs.Log.Entry.{Admin}
use Rattle.leg.specs.declared.leg_state.LegState.TheVariants.{Taken, Withdrawn}
use Rattle.std.specs.Prelude.{nat_lt, nat_le}
use Rattle.resend.proofs.Later.{length-settled_where}
use Rattle.session_core.specs.declared.line.Line.{Line}
use Rattle.session_core.specs.declared.line.Says.TheVariants.{Fence, Body}
use Rattle.fix_tags.specs.declared.session_body.SessionBody.{SessionBody}
use Rattle.fix_tags.specs.declared.session_body.SessionBody.TheVariants.{GapFill}
use Rattle.dialect.specs.declared.content.Content.TheVariants.{Session}
use Rattle.session_core.specs.declared.decision.Decision.{Decision}
use Rattle.session_core.specs.declared.decision.Settling.{Settling}
use Rattle.session_core.specs.declared.decision.Settling.TheVariants.{Nothing, Passed, At}
use Rattle.session_core.specs.Session.{SessionParts, next_out}
use Rattle.session_core.specs.Turn.{Turn, puts, puts_fence, fills}
use Rattle.session_core.specs.Kept.{viewed}
use Rattle.session_core.specs.Decision.{message_in, logged, is_fence, with_fences, settled_log, fences_left, withdrawn_by, decided}

-- one line more
pub logged-push : (log : List Entry) (lines : List Line) (line : Line)
    → logged log (lines ++ line ∷ []) ≡ (if line.poss_dup then logged log lines else logged log lines ++ Admin ∷ [])
logged-push log [] line = refl
logged-push log (first ∷ lines) line = logged-push (if first.poss_dup then log else log ++ Admin ∷ []) lines line

pub with_fences-push : (fences : List ℕ) (lines : List Line) (line : Line)
    → with_fences fences (lines ++ line ∷ [])
    ≡ (if is_fence line.says then with_fences fences lines ++ line.number ∷ [] else with_fences fences lines)
with_fences-push fences [] line = refl
with_fences-push fences (first ∷ lines) line =
    with_fences-push (if is_fence first.says then fences ++ first.number ∷ [] else fences) lines line

-- how many numbers are spent
length-if : (b : Bool) (log : List Entry) → length (if b then log else log ++ Admin ∷ [])
    ≡ length log + cond (not b) 1 0
length-if true log = omega arith
length-if false log = omega (arith, length-append log (Admin ∷ []))

pub length-logged : (log : List Entry) (lines : List Line)
    → length (logged log lines) ≡ length log + count_by (λ (line : Line). not line.poss_dup) lines
length-logged log [] = omega arith
length-logged log (line ∷ lines) =
    omega (
      arith,
      length-logged (if line.poss_dup then log else log ++ Admin ∷ []) lines,
      length-if line.poss_dup log,
      sum_by-cons (λ (line : Line). cond (not line.poss_dup) 1 0) line lines,
    )

pub length-settled_log : (settling : Settling) (log : List Entry) → length (settled_log settling log) ≡ length log
length-settled_log Nothing log = refl
length-settled_log (Passed fence) log = length-settled_where (λ n. nat_lt n fence) Taken 1 log
length-settled_log (At number) log =
    length-settled_where (λ n. nat_le number n) Withdrawn 1 (take_below number log)
    ∙ length-settled_where (λ n. nat_lt n number) Taken 1 log

pub next-decided : (s : SessionParts) (decision : Decision)
    → next_out (decided s decision).session ≡ next_out s + count_by (λ (line : Line). not line.poss_dup) decision.lines.items
next-decided s decision =
    omega (
      arith,
      length-logged (settled_log decision.settling s.log) decision.lines.items,
      length-settled_log
          decision.settling s.log,
    )

-- the turn with other messages, another log and other fences
turn_with : SessionParts → Decision → List Message → List Entry → List ℕ → Turn
turn_with s decision written log fences = record {
  step = record {
    written = written;
    note = decision.note;
    withdrawn = withdrawn_by decision.settling s.log;
    ended = decision.ended;
  };
  session = viewed s.config log fences s.connection decision.standing;
}

module _ (s : SessionParts) (decision : Decision) where
  abbrev written : List Message
  written = map (message_in s.config) decision.lines.items

  abbrev log : List Entry
  log = logged (settled_log decision.settling s.log) decision.lines.items

  abbrev fences : List ℕ
  fences = with_fences (fences_left decision.settling s.current.fences) decision.lines.items

  abbrev with_lines : List Line → Decision
  with_lines lines = record decision { lines = record { items = lines } }

  pushed : (line : Line) (lines : List Line) → lines ≡ decision.lines.items ++ line ∷ []
      → decided s (with_lines lines)
      ≡ turn_with s decision (written ++ message_in s.config line ∷ []) (if line.poss_dup then log else
      log ++ Admin ∷ [])
      (if is_fence line.says then fences ++ line.number ∷ [] else fences)
  unfolding turn_with
  pushed line lines is =
      (let more : List Line = decision.lines.items ++ line ∷ [] in
      let kept : List Entry = settled_log decision.settling s.log in
      let left : List ℕ = fences_left decision.settling s.current.fences in
      ap (λ (ls : List Line). decided s (with_lines ls)) is
      ∙ (ap (λ (w : List Message). turn_with s decision w (logged kept more) (with_fences left more))
      (map-append (message_in s.config) decision.lines.items (line ∷ []))
      ∙ (ap (λ (l : List Entry). turn_with s decision (written ++ message_in s.config line ∷ []) l
      (with_fences left more))
      (logged-push kept decision.lines.items line)
      ∙ ap (λ (f : List ℕ). turn_with s decision (written ++ message_in s.config line ∷ [])
      (if line.poss_dup then log else log ++ Admin ∷ []) f)
      (with_fences-push left decision.lines.items line))))

  pub put-turn : (body : SessionBody) (number : ℕ) (lines : List Line)
      → lines ≡ decision.lines.items ++ (let line : Line = record { number = number; poss_dup = false; says = Body body } in
      line) ∷ []
      → number ≡ next_out (decided s decision).session
      → decided s (with_lines lines) ≡ puts (Session body) (decided s decision)
  unfolding turn_with
  put-turn body number lines is number_is =
      (let line : Line = record { number = number; poss_dup = false; says = Body body } in
      pushed line lines is
      ∙ ap (λ (n : ℕ). let line : Line = record { number = n; poss_dup = false; says = Body body } in
      turn_with s decision (written ++ message_in s.config line ∷ []) (log ++ Admin ∷ []) fences)
      number_is)

  pub fence-turn : (number : ℕ) (lines : List Line)
      → lines ≡ decision.lines.items ++ (let line : Line = record {
        number = number;
        poss_dup = false;
        says = Fence;
      } in line) ∷ []
      → number ≡ next_out (decided s decision).session
      → decided s (with_lines lines) ≡ puts_fence (decided s decision)
  unfolding turn_with
  fence-turn number lines is number_is =
      pushed (record { number = number; poss_dup = false; says = Fence }) lines is
      ∙ ap (λ (n : ℕ). let line : Line = record { number = n; poss_dup = false; says = Fence } in
      turn_with s decision (written ++ message_in s.config line ∷ []) (log ++ Admin ∷ []) (fences ++ n ∷
      [])) number_is

  pub fill-turn : (fill : GapFillParts) (lines : List Line)
      → lines ≡ decision.lines.items ++ (let line : Line = record {
        number = fill.first;
        poss_dup = true;
        says = Body (GapFill fill.new_number);
      } in line) ∷ []
      → decided s (with_lines lines) ≡ fills fill (decided s decision)
  unfolding turn_with
  fill-turn fill lines is =
      pushed (record { number = fill.first; poss_dup = true; says = Body (GapFill fill.new_number) }) lines is
