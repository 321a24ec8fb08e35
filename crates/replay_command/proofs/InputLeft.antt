-- What is left of an input, line by line: what is asked of the lines that are left is what is asked of the whole.
use Rattle.std.proofs.Common.{◌≡◌, ℕ, true, false, List, [], ◌∷◌, Option, Some, None, refl, sym, ap, subst, ◌∙◌}
use Rattle.std.specs.Prelude.{IfSome}
use Rattle.std.specs.Io.BufRead.{drop_through}
use Rattle.schedule.specs.Script.{lines_of}
use Rattle.replay_command.specs.Stream.{ReadsLine}
use Rattle.replay_command.proofs.InputLines.{next_line}

abbrev pub LeftSame : {X : Type 0} → (List (List ℕ) → X) → Option (List ℕ) → Option (List ℕ) → (List ℕ → X) → Type 0
LeftSame ask left None whole = Unit {0}
LeftSame ask left (Some bytes) whole = (rest : List ℕ) × (left ≡ Some rest) × (ask (lines_of rest) ≡ whole bytes)

pub all_left : {X : Type 0} (ask : List (List ℕ) → X) (bytes : Option (List ℕ)) (whole : List ℕ → X)
    → ((all : List ℕ) → ask (lines_of all) ≡ whole all) → LeftSame ask bytes bytes whole
all_left ask None whole is = tt
all_left ask (Some bytes) whole is = (bytes, refl, is bytes)

-- there is no further line
pub none_left : {X : Type 0} (ask : List (List ℕ) → X) (left behind bytes : Option (List ℕ)) (line : List ℕ) (whole : List ℕ → X)
    → IfSome left (ReadsLine false line behind) → LeftSame ask left bytes whole
    → IfSome bytes (λ (all : List ℕ). ask [] ≡ whole all)
none_left ask left behind None line whole read so_far = tt
none_left ask left behind (Some bytes) line whole read so_far =
    let none = subst (λ (l : Option (List ℕ)). IfSome l (ReadsLine false line behind)) so_far.1 read in
    ap (λ (b : List ℕ). ask (lines_of b)) (sym none) ∙ so_far.2

-- a line is read
pub line_left : {X : Type 0} (ask : List (List ℕ) → X) (left behind bytes : Option (List ℕ)) (read line : List ℕ)
    (lines : List (List ℕ)) (whole : List ℕ → X) → IfSome left (ReadsLine true read behind) → lines_of read ≡ line ∷ lines
    → LeftSame ask left bytes whole → LeftSame (λ (ls : List (List ℕ)). ask (line ∷ ls)) behind bytes whole
line_left ask left behind None read line lines whole reads first so_far = tt
line_left ask left behind (Some bytes) read line lines whole reads first so_far =
    let here = subst (λ (l : Option (List ℕ)). IfSome l (ReadsLine true read behind)) so_far.1 reads in
    (drop_through 10 so_far.0, here.2, ap ask (sym (next_line so_far.0 read line lines here.0 here.1 first)) ∙ so_far.2)

-- something else is asked of what is left, to which the answer is the same
pub asked_so : {X : Type 0} (ask other : List (List ℕ) → X) (left bytes : Option (List ℕ)) (whole : List ℕ → X)
    → ((lines : List (List ℕ)) → other lines ≡ ask lines) → LeftSame ask left bytes whole → LeftSame other left bytes whole
asked_so ask other left None whole same so_far = tt
asked_so ask other left (Some bytes) whole same so_far =
    (so_far.0, so_far.1, same (lines_of so_far.0) ∙ so_far.2)

-- the answer has a property, whatever is left
pub answered : {X : Type 0} (P : X → Type 0) (ask : List (List ℕ) → X) (left bytes : Option (List ℕ)) (whole : List ℕ → X)
    → ((lines : List (List ℕ)) → P (ask lines)) → LeftSame ask left bytes whole
    → IfSome bytes (λ (all : List ℕ). P (whole all))
answered P ask left None whole has so_far = tt
answered P ask left (Some bytes) whole has so_far = subst P so_far.2 (has (lines_of so_far.0))

pub of_none : {X : Type 0} (P : X → Type 0) (x : X) (bytes : Option (List ℕ)) (whole : List ℕ → X) → P x
    → IfSome bytes (λ (all : List ℕ). x ≡ whole all) → IfSome bytes (λ (all : List ℕ). P (whole all))
of_none P x None whole has is = tt
of_none P x (Some bytes) whole has is = subst P is has
