-- A log is printed behind what was printed of it.
use Rattle.std.proofs.Common.{◌≡◌, ◌<◌, ℕ, zero, suc, ◌+◌, ◌-◌, List, [], ◌∷◌, ◌++◌, length, map, take, get_or, Option, Some, None, refl, sym, ap, subst, ◌∙◌, append_assoc, arith}
use Rattle.std.specs.Prelude.{Err, Vec, slice_get}
use Rattle.std.specs.Option.{option_map}
use Rattle.std.specs.declared.alloc.Global.{Global}
use Rattle.std.specs.Io.KnownBytes.{Appends}
use Rattle.std.proofs.lemmas.List.{append-nil, map-append, take_more}
use Rattle.dialect.specs.Wording.{Wording}
use Rattle.session_core.specs.Session.{SessionParts}
use Rattle.journal_words.specs.Reading.{timed_said}
use Rattle.journal_words.specs.declared.fault.WordsFault.{WordsFault}
use Rattle.journal_words.specs.declared.fault.WordsFault.TheVariants as fault
use Rattle.journal_log.specs.Logged.{AddsLine, CantRead, Logs, PrintsLog, StopsAt}
use Rattle.journal_log.proofs.Logging.{logs_more}

appends_nothing : (bytes : Option (List ℕ)) → Appends bytes bytes []
appends_nothing None = tt
appends_nothing (Some xs) = sym (append-nil xs)

appends_both : (a b c : Option (List ℕ)) (first then : List ℕ) → Appends a b first → Appends b c then
    → Appends a c (first ++ then)
appends_both None b c first then here later = tt
appends_both (Some xs) None c first then here later = absurd here
appends_both (Some xs) (Some ys) None first then here later = absurd later
appends_both (Some xs) (Some ys) (Some zs) first then here later =
    later ∙ (ap (λ (l : List ℕ). l ++ then) here ∙ append_assoc xs first then)

-- the lines of a journal, as bytes
abbrev pub bytes_of : List (Vec ℕ Global) → List (List ℕ)
bytes_of lines = map (λ (v : Vec ℕ Global). v.items) lines

-- some lines were logged behind a head; some of that was printed, and the rest waits
pub record Waits (w : Wording) (s : SessionParts) (head : List ℕ) (lines : List (Vec ℕ Global)) (rest : List ℕ)
    (session : SessionParts) (before now : Option (List ℕ)) : Type 0 where
  pub printed : List ℕ
  pub text : List ℕ
  pub prints : Appends before now printed
  pub logs : Logs w s (bytes_of lines) text session
  pub all : printed ++ rest ≡ head ++ text

pub none_waits : (w : Wording) (s session : SessionParts) (head rest : List ℕ) (out : Option (List ℕ))
    → session ≡ s → rest ≡ head → Waits w s head [] rest session out out
none_waits w s session head rest out new same = record {
  printed = [];
  text = [];
  prints = appends_nothing out;
  logs = (refl, new);
  all = same ∙ sym (append-nil head);
}

-- one line more was logged
pub one_waits : (w : Wording) (s between session : SessionParts) (head : List ℕ) (lines : List (Vec ℕ Global))
    (line : Vec ℕ Global) (i : ℕ) (old new : List ℕ) (before now : Option (List ℕ)) → i < length lines
    → line ≡ get_or lines i line → Waits w s head (take i lines) old between before now
    → AddsLine w between line.items old new session
    → Waits w s head (take (i + 1) lines) new session before now
one_waits w s between session head lines line i old new before now below is waits adds =
    let more : bytes_of (take (i + 1) lines) ≡ bytes_of (take i lines) ++ line.items ∷ [] =
    ap bytes_of (take_more lines i line below ∙ ap (λ (v : Vec ℕ Global). take i lines ++ v ∷ []) (sym is))
    ∙ map-append (λ (v : Vec ℕ Global). v.items) (take i lines) (line ∷ []) in
    record {
      printed = waits.printed;
      text = waits.text ++ adds.0;
      prints = waits.prints;
      logs = subst (λ (ls : List (List ℕ)). Logs w s ls (waits.text ++ adds.0) session) (sym more)
          (logs_more w s (bytes_of (take i lines)) waits.text between line.items adds.0 session waits.logs adds.1);
      all = ap (λ (l : List ℕ). waits.printed ++ l) adds.2
          ∙ (sym (append_assoc waits.printed old adds.0)
          ∙ (ap (λ (l : List ℕ). l ++ adds.0) waits.all ∙ append_assoc head waits.text adds.0));
    }

-- what waits was printed
pub printed_all : (w : Wording) (s session : SessionParts) (head rest left : List ℕ) (lines : List (Vec ℕ Global))
    (before now later : Option (List ℕ)) → Waits w s head lines rest session before now → Appends now later rest
    → left ≡ [] → Waits w s head lines left session before later
printed_all w s session head rest left lines before now later waits prints none = record {
  printed = waits.printed ++ rest;
  text = waits.text;
  prints = appends_both before now later waits.printed rest waits.prints prints;
  logs = waits.logs;
  all = ap (λ (l : List ℕ). (waits.printed ++ rest) ++ l) none ∙ (append-nil (waits.printed ++ rest) ∙ waits.all);
}

pub prints_log : (w : Wording) (s session : SessionParts) (head rest : List ℕ) (lines : List (Vec ℕ Global))
    (before now later : Option (List ℕ)) → Waits w s head lines rest session before now → Appends now later rest
    → PrintsLog w s head (bytes_of lines) before later
prints_log w s session head rest lines before now later waits prints = (
  waits.text,
  session,
  waits.logs,
  subst (λ (l : List ℕ). Appends before later l) waits.all
      (appends_both before now later waits.printed rest waits.prints prints),
)

-- the line of this number can't be read
get_here : {X : Type 0} (xs : List X) (i : ℕ) (x : X) → i < length xs → x ≡ get_or xs i x → slice_get xs i ≡ Some x
get_here [] i x below is = absurd (omega (arith, below))
get_here (y ∷ xs) zero x below is = ap Some (sym is)
get_here (y ∷ xs) (suc i) x below is = get_here xs i x (omega (arith, below)) is

bytes_first : (lines : List (Vec ℕ Global)) (i : ℕ) → bytes_of (take i lines) ≡ take i (bytes_of lines)
bytes_first [] zero = refl
bytes_first [] (suc i) = refl
bytes_first (line ∷ lines) zero = refl
bytes_first (line ∷ lines) (suc i) = ap (λ (l : List (List ℕ)). line.items ∷ l) (bytes_first lines i)

bytes_here : (lines : List (Vec ℕ Global)) (i : ℕ) (line : Vec ℕ Global) → slice_get lines i ≡ Some line
    → slice_get (bytes_of lines) i ≡ Some line.items
bytes_here [] zero line is = absurd cc
bytes_here [] (suc i) line is = absurd cc
bytes_here (l ∷ lines) zero line is = ap (λ (v : Option (Vec ℕ Global)). option_map (λ (v : Vec ℕ Global). v.items) v) is
bytes_here (l ∷ lines) (suc i) line is = bytes_here lines i line is

pub stops_at : (w : Wording) (s session : SessionParts) (head rest : List ℕ) (lines : List (Vec ℕ Global))
    (line : Vec ℕ Global) (i number : ℕ) (why : WordsFault) (before now later : Option (List ℕ)) → i < length lines
    → line ≡ get_or lines i line → number ≡ i + 1 → timed_said line.items ≡ Err why
    → Waits w s head (take i lines) rest session before now → Appends now later rest
    → StopsAt w s head (bytes_of lines) number why before later
stops_at w s session head rest lines line i number why before now later below is counted says waits prints =
    let at : number - 1 ≡ i = omega (arith, counted) in
    record {
      bad = line.items;
      here = ap (λ (n : ℕ). slice_get (bytes_of lines) n) at ∙ bytes_here lines i line (get_here lines i line below is);
      says = says;
      prints = subst (λ (ls : List (List ℕ)). PrintsLog w s head ls before later)
          (bytes_first lines i ∙ ap (λ (n : ℕ). take n (bytes_of lines)) (sym at))
          (prints_log w s session head rest (take i lines) before now later waits prints);
    }

-- what a fault of a line says that isn't out of memory
abbrev pub Refused : List ℕ → List ℕ → List ℕ → WordsFault → Type 0
Refused line old new why = (timed_said line ≡ Err why) × (new ≡ old)

pub refused : (line old new : List ℕ) (why : WordsFault) → (why ≡ fault.OutOfMemory → ⊥) → CantRead line old new why
    → Refused line old new why
refused line old new fault.Time never is = is
refused line old new fault.Word never is = is
refused line old new fault.Leg never is = is
refused line old new fault.Message never is = is
refused line old new fault.OutOfMemory never is = absurd (never refl)
