-- Lines that were told, one after the other.
use Rattle.std.proofs.Common.{◌≡◌, ℕ, List, [], ◌∷◌, ◌++◌, Option, Some, None, sym, ap, subst, ◌∙◌, append_assoc}
use Rattle.std.proofs.lemmas.List.{append-nil}
use Rattle.journal_tape.specs.Told.{LinesTold}
use Rattle.kept_link.specs.Telling.{TellsLine, KeepsAll, TellsLines}

-- no line
pub lines_none : (a b : Option LinesTold) → b ≡ a → TellsLines [] a b
lines_none a b same = subst (λ (c : Option LinesTold). TellsLines [] a c) (sym same) (from_here a) where
  from_here : (t : Option LinesTold) → TellsLines [] t t
  from_here None = tt
  from_here (Some t) = sym (append-nil (t.kept ++ t.unkept))

-- one line
pub lines_one : (line : List ℕ) (a b : Option LinesTold) → TellsLine line a b → TellsLines (line ∷ []) a b
lines_one line None None tells = tt
lines_one line None (Some b) tells = absurd tells
lines_one line (Some a) None tells = absurd tells
lines_one line (Some a) (Some b) tells =
    ap (λ (t : LinesTold). t.kept ++ t.unkept) tells ∙ sym (append_assoc a.kept a.unkept (line ∷ []))

-- all of them are kept
pub lines_kept : (a b : Option LinesTold) → KeepsAll a b → TellsLines [] a b
lines_kept None None keeps = tt
lines_kept None (Some b) keeps = absurd keeps
lines_kept (Some a) None keeps = absurd keeps
lines_kept (Some a) (Some b) keeps = ap (λ (t : LinesTold). t.kept ++ t.unkept) keeps

-- one line, of a journal that is as it was
pub line_from : (line : List ℕ) (a b c : Option LinesTold) → b ≡ a → TellsLine line b c → TellsLine line a c
line_from line a b c same tells = subst (λ (t : Option LinesTold). TellsLine line t c) same tells

-- lines and then others
pub lines_on : (xs ys : List (List ℕ)) (a b c : Option LinesTold) → TellsLines xs a b → TellsLines ys b c
    → TellsLines (xs ++ ys) a c
lines_on xs ys None None None one next = tt
lines_on xs ys None None (Some c) one next = absurd next
lines_on xs ys None (Some b) c one next = absurd one
lines_on xs ys (Some a) None c one next = absurd one
lines_on xs ys (Some a) (Some b) None one next = absurd next
lines_on xs ys (Some a) (Some b) (Some c) one next =
    next ∙ (ap (λ l. l ++ ys) one ∙ append_assoc (a.kept ++ a.unkept) xs ys)
