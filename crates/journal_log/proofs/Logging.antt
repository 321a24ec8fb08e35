-- Lines of a journal are logged, one behind the other.
use Rattle.std.proofs.Common.{◌≡◌, ℕ, List, [], ◌∷◌, ◌++◌, refl, sym, ap, subst, ◌∙◌, append_assoc}
use Rattle.std.specs.Prelude.{Ok}
use Rattle.std.proofs.lemmas.List.{append-nil}
use Rattle.dialect.specs.Wording.{Wording}
use Rattle.session_core.specs.Session.{SessionParts}
use Rattle.journal_words.specs.Deed.{Timed}
use Rattle.journal_words.specs.Reading.{timed_said}
use Rattle.journal_log.specs.Calls.{calls_in}
use Rattle.journal_log.specs.Logged.{AddsLine, Logs, LogsLine, Writes, heard_lines, sent_lines}

-- a deed's text is added to a log
pub adds_line : (w : Wording) (s after : SessionParts) (line old new heard : List ℕ) (t : Timed) (frames : List (List ℕ))
    → timed_said line ≡ Ok t → Writes w t.stamp s (calls_in t.deed) frames after
    → heard ≡ old ++ heard_lines t.stamp t.deed → new ≡ heard ++ sent_lines t.stamp frames
    → AddsLine w s line old new after
adds_line w s after line old new heard t frames says writes first then = (
  heard_lines t.stamp t.deed ++ sent_lines t.stamp frames,
  (t, says, record { frames = frames; writes = writes; text_is = refl }),
  then ∙ (ap (λ (l : List ℕ). l ++ sent_lines t.stamp frames) first
      ∙ append_assoc old (heard_lines t.stamp t.deed) (sent_lines t.stamp frames)),
)

-- one line more
pub logs_more : (w : Wording) (s : SessionParts) (lines : List (List ℕ)) (text : List ℕ) (between : SessionParts)
    (line more : List ℕ) (after : SessionParts) → Logs w s lines text between → LogsLine w between line more after
    → Logs w s (lines ++ line ∷ []) (text ++ more) after
logs_more w s [] text between line more after logs logged =
    subst (λ (x : List ℕ). Logs w s (line ∷ []) x after)
    (append-nil more ∙ ap (λ (x : List ℕ). x ++ more) (sym logs.0))
    (more, after, [], subst (λ (x : SessionParts). LogsLine w x line more after) logs.1 logged, (refl, refl), refl)
logs_more w s (l ∷ lines) text between line more after (first, mid, rest, here, later, is) logged = (
  first,
  mid,
  rest ++ more,
  here,
  logs_more w mid lines rest between line more after later logged,
  ap (λ (x : List ℕ). x ++ more) is ∙ append_assoc first rest more,
)
