-- Messages are written one by one, and what they spend and keep is put in place one by one.
use Rattle.std.proofs.Common.{◌≡◌, ◌≤◌, ◌<◌, ◌+◌, ℕ, zero, suc, Bool, true, false, List, [], ◌∷◌, ◌++◌, length, map, take, get_or, sym, ap, subst, ◌∙◌, if◌then◌else◌, arith, length-append}
use Rattle.std.proofs.lemmas.Bool.Decides.{nat_tests}
use Rattle.std.proofs.lemmas.List.{take_more, map-append}
use Rattle.std.specs.Global.{Vec}
use Rattle.std.specs.Prelude.{Result, Ok, Err}
use Rattle.resend.specs.declared.log_fault.LogFault.{LogFault}
use Rattle.resend.specs.declared.log_fault.LogFault.TheVariants.{NumbersSpent, OutOfMemory}
use Rattle.leg.specs.Answering.{Answers}
use Rattle.resend.specs.Window.{OutLogParts, push}
use Rattle.fix_tags.specs.Stamp.{StampParts}
use Rattle.dialect.specs.declared.message.Message.{Message}
use Rattle.dialect.specs.Framed.{IsFramed, AreFramed}
use Rattle.dialect.specs.Wording.{Encoding}
use Rattle.dialect.specs.Outgoing.{alone}
use Rattle.dialect.specs.Writable.{IsWritable}
use Rattle.resend.specs.Log.{Entry, has_number, next_to_send}
use Rattle.resend.specs.Log.Entry.{Admin}
use Rattle.session_core.specs.declared.line.Line.{Line}
use Rattle.session_core.specs.Sound.{AreWritable}
use Rattle.session_core.specs.Decision.{logged, is_fence, with_fences}
use Rattle.session_core.proofs.DecidedTurn.{logged-push, with_fences-push, length-logged}

-- one frame more
pub framed-push : (w : Encoding) (stamp : StampParts) (ms : List Message) (fs : List (List ℕ)) (m : Message) (b : List ℕ)
    → AreFramed w stamp (map alone ms) fs → IsFramed w stamp (alone m) b
    → AreFramed w stamp (map alone (ms ++ m ∷ [])) (fs ++ b ∷ [])
framed-push w stamp [] [] m b all one = (one, tt)
framed-push w stamp [] (f ∷ fs) m b all one = absurd all
framed-push w stamp (x ∷ ms) [] m b all one = absurd all
framed-push w stamp (x ∷ ms) (f ∷ fs) m b all one = (all.0, framed-push w stamp ms fs m b all.1 one)

-- each of the messages can be written
writable-at-place : (f : Line → Message) (lines : List Line) (i : ℕ) (d : Line) → i < length lines
    → AreWritable (map f lines)
    → IsWritable (alone (f (get_or lines i d)))
writable-at-place f [] i d below all = absurd (omega (arith, below))
writable-at-place f (line ∷ lines) zero d below all = all.0
writable-at-place f (line ∷ lines) (suc i) d below all = writable-at-place f lines i d (omega (arith, below)) all.1

-- what one line more spends and keeps
pub logged-more : (log : List Entry) (lines : List Line) (i : ℕ) (d : Line) → i < length lines
    → logged log (take (i + 1) lines)
    ≡ (if (get_or lines i d).poss_dup then logged log (take i lines) else logged log (take i lines) ++ Admin ∷ [])
logged-more log lines i d below =
    ap (λ (ls : List Line). logged log ls) (take_more lines i d below) ∙ logged-push log (take i lines) (get_or lines
    i d)

pub with_fences-more : (fences : List ℕ) (lines : List Line) (i : ℕ) (d : Line) → i < length lines
    → with_fences fences (take (i + 1) lines)
    ≡ (if is_fence (get_or lines i d).says then with_fences fences (take i lines) ++ (get_or lines i d).number ∷ []
    else with_fences fences (take i lines))
with_fences-more fences lines i d below =
    ap (λ (ls : List Line). with_fences fences ls) (take_more lines i d below)
    ∙ with_fences-push fences (take i lines) (get_or lines i d)

-- the more lines, the longer the log
longer : (log : List Entry) (lines : List Line) → length log ≤ length (logged log lines)
longer log lines = omega (arith, length-logged log lines)

pub logged-longer : (lines : List Line) (log : List Entry) (i : ℕ) → length (logged log (take i lines)) ≤ length
    (logged log lines)
logged-longer [] log zero = omega arith
logged-longer [] log (suc i) = omega arith
logged-longer (line ∷ lines) log zero = longer log (line ∷ lines)
logged-longer (line ∷ lines) log (suc i) = logged-longer lines (if line.poss_dup then log else log ++ Admin ∷ []) i

-- one line more, which spends a number or doesn't, and is a fence or isn't
logged-new : (log : List Entry) (lines : List Line) (i : ℕ) (d : Line) → i < length lines
    → (get_or lines i d).poss_dup ≡ false
    → logged log (take (i + 1) lines) ≡ logged log (take i lines) ++ Admin ∷ []
logged-new log lines i d below new =
    logged-more log lines i d below
    ∙ ap (λ (b : Bool). if b then logged log (take i lines) else logged log (take i lines) ++ Admin ∷ []) new

logged-old : (log : List Entry) (lines : List Line) (i : ℕ) (d : Line) → i < length lines
    → (get_or lines i d).poss_dup ≡ true
    → logged log (take (i + 1) lines) ≡ logged log (take i lines)
logged-old log lines i d below old =
    logged-more log lines i d below
    ∙ ap (λ (b : Bool). if b then logged log (take i lines) else logged log (take i lines) ++ Admin ∷ []) old

-- a number is left for each of them, where the log ends below the limit
number_left : (max_number : ℕ) (log : List Entry) (lines : List Line) (i : ℕ) (d : Line) → i < length lines
    → length (logged log lines) + 1 ≤ max_number → (get_or lines i d).poss_dup ≡ false
    → has_number max_number (logged log (take i lines)) ≡ true
number_left max_number log lines i d below limited new =
    (let grown : length (logged log (take (i + 1) lines)) ≡ length (logged log (take i lines)) + 1 =
    ap length (logged-new log lines i d below new) ∙ length-append (logged log (take i lines)) (Admin ∷ []) in
    let upto = logged-longer lines log (i + 1) in
    let less : length (logged log (take i lines)) + 1 < max_number = omega (arith, grown, upto, limited) in
    grind (arith, nat_tests, less))

-- a number is spent where one is left
answer_of : Entry → OutLogParts → Bool → Result ℕ LogFault × OutLogParts
answer_of entry log b =
    (let spent : Result ℕ LogFault × List Entry =
    if b then (Ok (next_to_send log.entries), log.entries ++ entry ∷ []) else (Err NumbersSpent, log.entries) in
    (spent.0, record log { entries = spent.1 }))

pub pushed_entry : (entry : Entry) (log now : OutLogParts) (r : Result ℕ LogFault) → (r, now) ≡ push entry log
    → has_number log.max_number log.entries ≡ true
    → (r ≡ Ok (next_to_send log.entries)) × (now ≡ record log { entries = log.entries ++ entry ∷ [] })
unfolding answer_of
pushed_entry entry log now r is left =
    (let whole : (r, now) ≡ answer_of entry log true = is ∙ ap (λ (b : Bool). answer_of entry log b) left in
    (ap (λ (p : Result ℕ LogFault × OutLogParts). p.0) whole, ap (λ (p : Result ℕ LogFault × OutLogParts). p.1) whole))

pub pushed_admin : (log now : OutLogParts) (r : Result ℕ LogFault) → (r, now) ≡ push Admin log
    → has_number log.max_number log.entries ≡ true → now ≡ record log { entries = log.entries ++ Admin ∷ [] }
pushed_admin log now r is left = (pushed_entry Admin log now r is left).1

-- where one is left, an entry is added, or memory is wanting and nothing changed
pub pushed_leg : (entry : Entry) (log now : OutLogParts) (number : ℕ)
    → Answers OutOfMemory log (push entry log) (Ok number) now → has_number log.max_number log.entries ≡ true
    → now ≡ record log { entries = log.entries ++ entry ∷ [] }
unfolding answer_of
pushed_leg entry log now number is left =
    (let whole : Answers OutOfMemory log (answer_of entry log true) (Ok number) now =
    subst (λ (b : Bool). Answers OutOfMemory log (answer_of entry log b) (Ok number) now) left is in whole.1)

pub wanting_leg : (entry : Entry) (log now : OutLogParts) (fault : LogFault)
    → Answers OutOfMemory log (push entry log) (Err fault) now → has_number log.max_number log.entries ≡ true
    → now ≡ log
unfolding answer_of
wanting_leg entry log now fault is left =
    (let whole : Answers OutOfMemory log (answer_of entry log true) (Err fault) now =
    subst (λ (b : Bool). Answers OutOfMemory log (answer_of entry log b) (Err fault) now) left is in whole.1)

spent-new-place : (start before now : OutLogParts) (r : Result ℕ LogFault) (lines : List Line) (i : ℕ) (d : Line)
    → i < length lines → length (logged start.entries lines) + 1 ≤ start.max_number → (get_or lines i d).poss_dup
    ≡ false
    → before ≡ record start { entries = logged start.entries (take i lines) } → (r, now) ≡ push Admin before
    → now ≡ record start { entries = logged start.entries (take (i + 1) lines) }
spent-new-place start before now r lines i d below limited new so is =
    (let kept : OutLogParts = record start { entries = logged start.entries (take i lines) } in
    let left = number_left start.max_number start.entries lines i d below limited new in
    pushed_admin kept now r (subst (λ (log : OutLogParts). (r, now) ≡ push Admin log) so is) left
    ∙ ap (λ (es : List Entry). let parts : OutLogParts = record start { entries = es } in parts)
    (sym (logged-new start.entries lines i d below new)))

spent-old-place : (start now : OutLogParts) (lines : List Line) (i : ℕ) (d : Line) → i < length lines
    → (get_or lines i d).poss_dup ≡ true → now ≡ record start { entries = logged start.entries (take i lines) }
    → now ≡ record start { entries = logged start.entries (take (i + 1) lines) }
spent-old-place start now lines i d below old so =
    so
    ∙ ap (λ (es : List Entry). let parts : OutLogParts = record start { entries = es } in parts)
    (sym (logged-old start.entries lines i d below old))

kept-new-place : (start before now : List ℕ) (lines : List Line) (i : ℕ) (d : Line) → i < length lines
    → is_fence (get_or lines i d).says ≡ true → before ≡ with_fences start (take i lines)
    → now ≡ before ++ (get_or lines i d).number ∷ [] → now ≡ with_fences start (take (i + 1) lines)
kept-new-place start before now lines i d below fence so is =
    is
    ∙ (ap (λ (fences : List ℕ). fences ++ (get_or lines i d).number ∷ []) so
    ∙ sym (with_fences-more start lines i d below
    ∙ ap (λ (b : Bool). if b then with_fences start (take i lines) ++ (get_or lines i d).number ∷ []
    else with_fences start (take i lines)) fence))

kept-old-place : (start now : List ℕ) (lines : List Line) (i : ℕ) (d : Line) → i < length lines
    → is_fence (get_or lines i d).says ≡ false → now ≡ with_fences start (take i lines)
    → now ≡ with_fences start (take (i + 1) lines)
kept-old-place start now lines i d below no_fence so =
    so
    ∙ sym (with_fences-more start lines i d below
    ∙ ap (λ (b : Bool). if b then with_fences start (take i lines) ++ (get_or lines i d).number ∷ []
    else with_fences start (take i lines)) no_fence)

-- one frame more
framed-more-place : (w : Encoding) (stamp : StampParts) (f : Line → Message) (lines : List Line) (i : ℕ) (d : Line)
    (frames now : List (Vec ℕ)) (frame : Vec ℕ) → i < length lines
    → AreFramed w stamp (map alone (map f (take i lines))) (map (λ (v : Vec ℕ). v.items) frames)
    → IsFramed w stamp (alone (f (get_or lines i d))) frame.items → now ≡ frames ++ frame ∷ []
    → AreFramed w stamp (map alone (map f (take (i + 1) lines))) (map (λ (v : Vec ℕ). v.items) now)
framed-more-place w stamp f lines i d frames now frame below all one is =
    (let messages : map f (take (i + 1) lines) ≡ map f (take i lines) ++ f (get_or lines i d) ∷ [] =
    ap (λ (ls : List Line). map f ls) (take_more lines i d below) ∙ map-append f (take i lines) (get_or lines i d ∷
    []) in
    let bytes : map (λ (v : Vec ℕ). v.items) now ≡ map (λ (v : Vec ℕ). v.items) frames ++ frame.items ∷ [] =
    ap (λ (fs : List (Vec ℕ)). map (λ (v : Vec ℕ). v.items) fs) is ∙ map-append (λ (v : Vec ℕ). v.items) frames (frame
    ∷ []) in
    rw (messages, bytes)
    (framed-push w stamp (map f (take i lines)) (map (λ (v : Vec ℕ). v.items) frames) (f (get_or lines i d)) frame.items
    all one))

-- the same of the line that stands at a place
pub writable-at : (f : Line → Message) (lines : List Line) (i : ℕ) (line : Line) → i < length lines
    → line ≡ get_or lines i line → AreWritable (map f lines) → IsWritable (alone (f line))
writable-at f lines i line below at all =
    subst (λ (l : Line). IsWritable (alone (f l))) (sym at) (writable-at-place f lines i line below all)

pub spent-new : (start before now : OutLogParts) (r : Result ℕ LogFault) (lines : List Line) (i : ℕ) (line : Line)
    → i < length lines → line ≡ get_or lines i line → length (logged start.entries lines) + 1 ≤ start.max_number
    → line.poss_dup ≡ false → before ≡ record start { entries = logged start.entries (take i lines) }
    → (r, now) ≡ push Admin before → now ≡ record start { entries = logged start.entries (take (i + 1) lines) }
spent-new start before now r lines i line below at limited new so is =
    spent-new-place start before now r lines i line below limited (ap (λ (l : Line). l.poss_dup) (sym at) ∙ new) so is

pub spent-old : (start now : OutLogParts) (lines : List Line) (i : ℕ) (line : Line) → i < length lines
    → line ≡ get_or lines i line → line.poss_dup ≡ true
    → now ≡ record start { entries = logged start.entries (take i lines) }
    → now ≡ record start { entries = logged start.entries (take (i + 1) lines) }
spent-old start now lines i line below at old so =
    spent-old-place start now lines i line below (ap (λ (l : Line). l.poss_dup) (sym at) ∙ old) so

pub kept-new : (start before now : List ℕ) (lines : List Line) (i : ℕ) (line : Line) → i < length lines
    → line ≡ get_or lines i line → is_fence line.says ≡ true → before ≡ with_fences start (take i lines)
    → now ≡ before ++ line.number ∷ [] → now ≡ with_fences start (take (i + 1) lines)
kept-new start before now lines i line below at fence so is =
    kept-new-place start before now lines i line below (ap (λ (l : Line). is_fence l.says) (sym at) ∙ fence) so
    (subst (λ (l : Line). now ≡ before ++ l.number ∷ []) at is)

pub kept-old : (start now : List ℕ) (lines : List Line) (i : ℕ) (line : Line) → i < length lines
    → line ≡ get_or lines i line → is_fence line.says ≡ false → now ≡ with_fences start (take i lines)
    → now ≡ with_fences start (take (i + 1) lines)
kept-old start now lines i line below at no_fence so =
    kept-old-place start now lines i line below (ap (λ (l : Line). is_fence l.says) (sym at) ∙ no_fence) so

pub framed-more : (w : Encoding) (stamp : StampParts) (f : Line → Message) (lines : List Line) (i : ℕ) (line : Line)
    (frames now : List (Vec ℕ)) (frame : Vec ℕ) → i < length lines → line ≡ get_or lines i line
    → AreFramed w stamp (map alone (map f (take i lines))) (map (λ (v : Vec ℕ). v.items) frames)
    → IsFramed w stamp (alone (f line)) frame.items → now ≡ frames ++ frame ∷ []
    → AreFramed w stamp (map alone (map f (take (i + 1) lines))) (map (λ (v : Vec ℕ). v.items) now)
framed-more w stamp f lines i line frames now frame below at all one is =
    framed-more-place w stamp f lines i line frames now frame below all
    (subst (λ (l : Line). IsFramed w stamp (alone (f l)) frame.items) at one) is
