-- Lines that are read one after the other.
use Rattle.std.proofs.Common.{◌≡◌, ℕ, suc, ◌+◌, true, false, Bool, List, [], ◌∷◌, ◌++◌, length, Option, Some, None, refl, sym, ap, subst, ◌∙◌, add-one}
use Rattle.std.specs.Prelude.{IfSome}
use Rattle.std.specs.Io.BufRead.{drop_through, strip_last}
use Rattle.std.specs.Io.KnownBytes.{Appends}
use Rattle.std.proofs.lemmas.List.{append-nil, append_assoc}
use Rattle.day_rules.specs.DeskDay.{DeskParts}
use Rattle.day_check.specs.Lines.{AreCutLines, AreLines, ReadsNext, WereRead, is_there, lacks_end}
use Rattle.day_check.specs.LogChecked.{LogParts, line_checked, new_log}
use Rattle.day_check.specs.LogText.{Style, checked, findings, line_findings}
use Rattle.day_check.specs.SweepsLog.{line_heard, lines_heard}

-- bytes behind bytes
pub nothing : (out : Option (List ℕ)) → Appends out out []
nothing None = tt
nothing (Some xs) = sym (append-nil xs)

pub behind : (a b c : Option (List ℕ)) (more last : List ℕ) → Appends a b more → Appends b c last
    → Appends a c (more ++ last)
behind None b c more last first then = tt
behind (Some xs) None c more last first then = absurd first
behind (Some xs) (Some ys) None more last first then = absurd then
behind (Some xs) (Some ys) (Some zs) more last first then =
    then ∙ (ap (λ (l : List ℕ). l ++ last) first ∙ append_assoc xs more last)

-- the lines that were read so far, and what is left, are the input's, where its bytes are known
abbrev pub LeftAt : Option (List ℕ) → Option (List ℕ) → List (List ℕ) → Type 0
LeftAt None left lines = Unit {0}
LeftAt (Some all) left lines = (bytes : List ℕ) × (left ≡ Some bytes) × WereRead lines all bytes

pub all_left : (all : Option (List ℕ)) → LeftAt all all []
all_left None = tt
all_left (Some all) = (all, refl, refl)

pub read_on : (all left next : Option (List ℕ)) (raw : List ℕ) (lines : List (List ℕ))
    → IfSome left (ReadsNext true raw next) → LeftAt all left lines → LeftAt all next (strip_last 10 raw ∷ lines)
read_on None left next raw lines reads so_far = tt
read_on (Some all) left next raw lines reads so_far =
    let here = subst (λ (l : Option (List ℕ)). IfSome l (ReadsNext true raw next)) so_far.1 reads in (
      drop_through 10 so_far.0,
      here.1,
      (so_far.0, so_far.2, ap lacks_end (sym here.0) ∙ here.2, ap (strip_last 10) here.0, refl),
    )

pub read_all : (all left next : Option (List ℕ)) (raw : List ℕ) (lines : List (List ℕ))
    → IfSome left (ReadsNext false raw next) → LeftAt all left lines → AreLines all lines
read_all None left next raw lines reads so_far = tt
read_all (Some all) left next raw lines reads so_far =
    let here = subst (λ (l : Option (List ℕ)). IfSome l (ReadsNext false raw next)) so_far.1 reads in
    (so_far.0, so_far.2, here.0)

pub read_all_cut : (all left next : Option (List ℕ)) (raw : List ℕ) (lines : List (List ℕ)) (is_cut : Bool)
    → is_cut ≡ is_there raw → IfSome left (ReadsNext false raw next) → LeftAt all left lines
    → AreCutLines all lines is_cut
read_all_cut None left next raw lines is_cut is reads so_far = tt
read_all_cut (Some all) left next raw lines is_cut is reads so_far =
    let here = subst (λ (l : Option (List ℕ)). IfSome l (ReadsNext false raw next)) so_far.1 reads in
    (so_far.0, so_far.2, here.0, is ∙ ap is_there here.1)

-- what is known behind the lines that were read so far, and what was printed of them
pub record CheckedSoFar (s : Style) (is_json : Bool) (all left before after : Option (List ℕ)) (number : ℕ) (log : LogParts)
    : Type 0 where
  pub lines : List (List ℕ)
  pub read : LeftAt all left lines
  pub count : number ≡ suc (length lines)
  pub parts : log ≡ checked s lines
  pub printed : is_json ≡ false → Appends before after (findings s lines)

pub none_checked : (s : Style) (is_json : Bool) (all out : Option (List ℕ)) (log : LogParts) → log ≡ new_log s.keeps_legs
    → CheckedSoFar s is_json all all out out 1 log
none_checked s is_json all out log new = record {
  lines = [];
  read = all_left all;
  count = refl;
  parts = new;
  printed = λ off. nothing out;
}

pub one_checked : (s : Style) (is_json : Bool) (all left next before out after : Option (List ℕ)) (number : ℕ)
    (log later : LogParts) (raw text : List ℕ) → IfSome left (ReadsNext true raw next)
    → later ≡ line_checked s.form s.tells_executions number (strip_last 10 raw) log
    → (is_json ≡ false → text ≡ line_findings s number (strip_last 10 raw) log.day)
    → Appends out after text
    → CheckedSoFar s is_json all left before out number log
    → CheckedSoFar s is_json all next before after (number + 1) later
one_checked s is_json all left next before out after number log later raw text reads is told appends so_far =
    let line = strip_last 10 raw in record {
      lines = line ∷ so_far.lines;
      read = read_on all left next raw so_far.lines reads so_far.read;
      count = add-one number ∙ ap suc so_far.count;
      parts = is ∙ (ap (λ (n : ℕ). line_checked s.form s.tells_executions n line log) so_far.count
          ∙ ap (line_checked s.form s.tells_executions (suc (length so_far.lines)) line) so_far.parts);
      printed = λ off. behind before out after (findings s so_far.lines)
          (line_findings s (suc (length so_far.lines)) line (checked s so_far.lines).day) (so_far.printed off)
          (subst (Appends out after)
          (told off ∙ (ap (λ (n : ℕ). line_findings s n line log.day) so_far.count
          ∙ ap (λ (l : LogParts). line_findings s (suc (length so_far.lines)) line l.day) so_far.parts)) appends);
    }

-- what is known behind the lines of the desk's log that were read so far
pub record HeardSoFar (all left : Option (List ℕ)) (number : ℕ) (start desk : DeskParts) : Type 0 where
  pub lines : List (List ℕ)
  pub read : LeftAt all left lines
  pub count : number ≡ suc (length lines)
  pub heard : desk ≡ lines_heard start lines

pub none_heard : (all : Option (List ℕ)) (desk : DeskParts) → HeardSoFar all all 1 desk desk
none_heard all desk = record { lines = []; read = all_left all; count = refl; heard = refl }

pub one_heard : (all left next : Option (List ℕ)) (number : ℕ) (start desk later : DeskParts) (raw : List ℕ)
    → IfSome left (ReadsNext true raw next) → later ≡ line_heard number (strip_last 10 raw) desk
    → HeardSoFar all left number start desk → HeardSoFar all next (number + 1) start later
one_heard all left next number start desk later raw reads is so_far =
    let line = strip_last 10 raw in record {
      lines = line ∷ so_far.lines;
      read = read_on all left next raw so_far.lines reads so_far.read;
      count = add-one number ∙ ap suc so_far.count;
      heard = is ∙ (ap (λ (n : ℕ). line_heard n line desk) so_far.count
          ∙ ap (line_heard (suc (length so_far.lines)) line) so_far.heard);
    }
