-- What a worker told, one after the other.
use Rattle.std.proofs.Common.{◌≡◌, ℕ, List, [], ◌∷◌, ◌++◌, map, refl, sym, ap, ap₂, subst, ◌∙◌, append_assoc}
use Rattle.std.specs.Prelude.{Option, Some, None}
use Rattle.std.proofs.lemmas.List.{append-nil, map-append}
use Rattle.fix_text.specs.Tagged.{Tagged}
use Rattle.fix_tags.specs.Reading.{envelope_read}
use Rattle.session_core.specs.declared.session_call.SessionCall.{SessionCall}
use Rattle.journal_tape.specs.Told.{LinesTold, all_kept, with_line}
use Rattle.journal_words.specs.Deed.{Timed}
use Rattle.journal_words.specs.Words.{deed_line}
use Rattle.kept_link.specs.Telling.{TellsLine, KeepsAll, TellsLines, lines_of}
use Rattle.session_worker.specs.Events.{WorkerEvent}
use Rattle.session_worker.specs.Keeping.{Told, TellsEvents, event_of, events_of, heard_call}
use Rattle.session_worker.specs.Linking.{calling}
use Rattle.session_worker.specs.Events.WorkerEvent.{Calls}

-- no line
pub lines_none : (a b : Told) → b ≡ a → TellsLines [] a b
lines_none a b same = subst (λ (c : Told). TellsLines [] a c) (sym same) (from_here a) where
  from_here : (t : Told) → TellsLines [] t t
  from_here None = tt
  from_here (Some t) = sym (append-nil (t.kept ++ t.unkept))

-- one line
lines_one : (line : List ℕ) (a b : Told) → TellsLine line a b → TellsLines (line ∷ []) a b
lines_one line None None tells = tt
lines_one line None (Some b) tells = absurd tells
lines_one line (Some a) None tells = absurd tells
lines_one line (Some a) (Some b) tells =
    ap (λ (t : LinesTold). t.kept ++ t.unkept) tells ∙ sym (append_assoc a.kept a.unkept (line ∷ []))

-- all of them are kept
pub lines_kept : (a b : Told) → KeepsAll a b → TellsLines [] a b
lines_kept None None keeps = tt
lines_kept None (Some b) keeps = absurd keeps
lines_kept (Some a) None keeps = absurd keeps
lines_kept (Some a) (Some b) keeps = ap (λ (t : LinesTold). t.kept ++ t.unkept) keeps

-- one line, of a journal that is as it was
pub line_from : (line : List ℕ) (a b c : Told) → b ≡ a → TellsLine line b c → TellsLine line a c
line_from line a b c same tells = subst (λ (t : Told). TellsLine line t c) same tells

-- lines and then others
lines_on : (xs ys : List (List ℕ)) (a b c : Told) → TellsLines xs a b → TellsLines ys b c → TellsLines (xs ++ ys) a c
lines_on xs ys None None None one next = tt
lines_on xs ys None None (Some c) one next = absurd next
lines_on xs ys None (Some b) c one next = absurd one
lines_on xs ys (Some a) None c one next = absurd one
lines_on xs ys (Some a) (Some b) None one next = absurd next
lines_on xs ys (Some a) (Some b) (Some c) one next =
    next ∙ (ap (λ l. l ++ ys) one ∙ append_assoc (a.kept ++ a.unkept) xs ys)

-- the same of events

pub tells_lines : (a b : Told) → TellsLines [] a b → TellsEvents a [] b
tells_lines a b lines = record { deeds = []; are = refl; told = lines }

pub tells_none : (a b : Told) → b ≡ a → TellsEvents a [] b
tells_none a b same = tells_lines a b (lines_none a b same)

pub tells_one : (t : Timed) (a b : Told) → TellsLine (deed_line t) a b → TellsEvents a (event_of t.deed ∷ []) b
tells_one t a b tells = record { deeds = t ∷ []; are = refl; told = lines_one (deed_line t) a b tells }

pub tells_on : (a b c : Told) (first more : List WorkerEvent) → TellsEvents a first b → TellsEvents b more c
    → TellsEvents a (first ++ more) c
tells_on a b c first more one next = record {
  deeds = one.deeds ++ next.deeds;
  are = map-append (λ (t : Timed). event_of t.deed) one.deeds next.deeds ∙ ap₂ (λ xs ys. xs ++ ys) one.are next.are;
  told = subst (λ (lines : List (List ℕ)). TellsLines lines a c) (sym (map-append deed_line one.deeds next.deeds))
      (lines_on (lines_of one.deeds) (lines_of next.deeds) a b c one.told next.told);
}

-- with nothing told before or after
pub tells_then : (a b c : Told) (events : List WorkerEvent) → TellsEvents a [] b → TellsEvents b events c
    → TellsEvents a events c
tells_then a b c events none next = tells_on a b c [] events none next

pub tells_last : (a b c : Told) (events : List WorkerEvent) → TellsEvents a events b → TellsEvents b [] c
    → TellsEvents a events c
tells_last a b c events one none =
    subst (λ (l : List WorkerEvent). TellsEvents a l c) (append-nil events) (tells_on a b c events [] one none)

pub tells_same : (a b c : Told) (events : List WorkerEvent) → TellsEvents a events b → c ≡ b → TellsEvents a events c
tells_same a b c events one same = subst (λ (t : Told). TellsEvents a events t) (sym same) one

pub tells_from : (a b c : Told) (events : List WorkerEvent) → b ≡ a → TellsEvents b events c → TellsEvents a events c
tells_from a b c events same one = subst (λ (t : Told). TellsEvents t events c) same one

-- calls of the session and then others
pub tells_calls : (a b c : Told) (first more : List SessionCall) → TellsEvents a (calling first) b
    → TellsEvents b (calling more) c → TellsEvents a (calling (first ++ more)) c
tells_calls a b c first more one next =
    subst (λ (events : List WorkerEvent). TellsEvents a events c) (sym (map-append (λ (made : SessionCall). Calls made) first more))
    (tells_on a b c (calling first) (calling more) one next)
