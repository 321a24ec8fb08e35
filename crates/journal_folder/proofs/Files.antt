-- The lines of the file that is being written.
use Rattle.std.proofs.Common.{◌≡◌, ℕ, ◌+◌, ◌-◌, ◌≤◌, Bool, true, false, ltb, List, [], ◌∷◌, ◌++◌, length, map, drop, refl, sym, ap, ◌∙◌, arith, length-append}
use Rattle.std.specs.Prelude.{Vec}
use Rattle.std.specs.declared.alloc.Global.{Global}
use Rattle.std.proofs.lemmas.Bool.{le-ltb, lt-ltb}
use Rattle.std.proofs.lemmas.List.{drop_all, drop-append-le, length-map, map-append}
use Rattle.journal_tape.specs.Told.{LinesTold, all_kept}
use Rattle.journal_folder.specs.NextFile.{IsNextFile, next_number}

-- no line is behind those that are kept
pub none_behind : (before kept : ℕ) (lines : List (List ℕ)) → kept ≡ before + length lines → drop (kept - before) lines ≡ []
none_behind before kept lines counted = drop_all (kept - before) lines (omega (arith, counted))

-- more lines are kept
pub more_behind : (before start kept : ℕ) (lines more : List (List ℕ)) → before ≤ start → start ≤ kept
    → kept ≡ before + length lines → drop (start - before) (lines ++ more) ≡ drop (start - before) lines ++ more
more_behind before start kept lines more begins started counted =
    drop-append-le (start - before) lines more (omega (arith, begins, started, counted))

pub counted_more : (before kept waiting : ℕ) (lines more : List (List ℕ)) → kept ≡ before + length lines
    → length more ≡ waiting → kept + waiting ≡ before + length (lines ++ more)
counted_more before kept waiting lines more counted is =
    omega (arith, counted, is, length-append lines more)

-- as many lines as wait
pub all_waiting : (waiting : List (Vec ℕ Global)) (more : List (List ℕ)) → map (λ v. v.items) waiting ≡ more
    → length more ≡ length waiting
all_waiting waiting more is = ap length (sym is) ∙ length-map waiting (λ v. v.items)

-- the lines of the file with those that are kept now
pub kept_behind : (before start kept : ℕ) (head : List ℕ) (told here : LinesTold) → before ≤ start → start ≤ kept
    → kept ≡ before + length told.kept → told.unkept ≡ here.unkept
    → here.kept ≡ head ∷ drop (start - before) told.kept
    → (all_kept here).kept ≡ head ∷ drop (start - before) (all_kept told).kept
kept_behind before start kept head told here begins started counted same has =
    ap (λ (l : List (List ℕ)). l ++ here.unkept) has
    ∙ ap (λ (l : List (List ℕ)). (head ∷ drop (start - before) told.kept) ++ l) (sym same)
    ∙ ap (λ (l : List (List ℕ)). head ∷ l) (sym (more_behind before start kept told.kept told.unkept begins started counted))

-- the file that is begun next, once so many lines are kept
pub gone_past : (number new file start kept now : ℕ) (has_lines : Bool) → IsNextFile number file start kept → start ≤ kept
    → kept ≤ now → has_lines ≡ ltb start now → (has_lines ≡ true → new ≡ next_number file)
    → (has_lines ≡ false → new ≡ number) → IsNextFile new file start now
gone_past number new file start kept now has_lines next started more tests past here = record {
  past = λ less. past (tests ∙ lt-ltb start now less);
  here = λ same. here (tests ∙ le-ltb start now (omega (arith, same))) ∙ next.here (omega (arith, started, more, same));
}

-- one line more waits
pub waits_more : (old new : List (Vec ℕ Global)) (copy : Vec ℕ Global) (unkept now : List (List ℕ)) (line : List ℕ)
    → new ≡ old ++ copy ∷ [] → copy.items ≡ line → map (λ v. v.items) old ≡ unkept → now ≡ unkept ++ line ∷ []
    → map (λ v. v.items) new ≡ now
waits_more old new copy unkept now line pushed copied waits told =
    ap (λ (l : List (Vec ℕ Global)). map (λ (v : Vec ℕ Global). v.items) l) pushed
    ∙ map-append (λ (v : Vec ℕ Global). v.items) old (copy ∷ [])
    ∙ ap (λ (l : List ℕ). map (λ (v : Vec ℕ Global). v.items) old ++ l ∷ []) copied
    ∙ ap (λ (l : List (List ℕ)). l ++ line ∷ []) waits ∙ sym told
