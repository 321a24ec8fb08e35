-- One journal more is told.
use Rattle.std.proofs.Common.{◌≡◌, ℕ, Bool, true, false, List, [], ◌∷◌, ◌++◌, Result, Ok, Err, map, refl, sym, ap, ◌∙◌, subst, append_assoc}
use Rattle.std.specs.Prelude.{◌||◌}
use Rattle.std.specs.Option.{unwrap_or}
use Rattle.journal_folder.specs.Found.{FoundParts}
use Rattle.journal_folder.specs.declared.fault.FolderFault.{FolderFault}
use Rattle.journal_command.specs.Shown.{broken_text, found_text, title_text}
use Rattle.journal_command.specs.Judged.{IsSaid, Listed, Says, SaysNext, is_broken, said_text}

pub says_none : (tells : Bool) (listed : Listed) (text : List ℕ) (broken : Bool) → text ≡ [] → broken ≡ false
    → Says tells listed listed text broken
says_none tells listed text broken none whole =
    record { journals = []; read = tt; listed_is = refl; text_is = none; broken_is = whole }

pub says_more : (tells : Bool) (old new name : List ℕ) (files : ℕ) (found : Result FoundParts FolderFault)
    (broken broken_now : Bool) → new ≡ (old ++ title_text name) ++ said_text tells found
    → broken_now ≡ (is_broken found || broken) → IsSaid files found → SaysNext tells name files old broken new broken_now
says_more tells old new name files found broken broken_now is now said = λ listed rest says. record {
  journals = record { name = name; files = files; found = found } ∷ says.journals;
  read = (said, says.read);
  listed_is = says.listed_is;
  text_is = is ∙ append_assoc old (title_text name) (said_text tells found)
      ∙ ap (λ (t : List ℕ). t ++ (title_text name ++ said_text tells found)) says.text_is;
  broken_is = now ∙ ap (λ (b : Bool). is_broken found || b) says.broken_is;
}

-- one that can be gone on with, and one that can't
pub found_said : (tells : Bool) (old titled new name : List ℕ) (read : Result FoundParts FolderFault) (found : FoundParts)
    (broken : Bool) → read ≡ Ok found → titled ≡ old ++ title_text name → new ≡ titled ++ found_text tells found
    → (files : ℕ) → IsSaid files read → SaysNext tells name files old broken new broken
found_said tells old titled new name read found broken is title text files said =
    says_more tells old new name files (Ok found) broken broken
    (text ∙ ap (λ (t : List ℕ). t ++ found_text tells found) title) refl
    (subst (λ (r : Result FoundParts FolderFault). IsSaid files r) is said)

pub broken_said : (tells : Bool) (old titled new name : List ℕ) (read : Result FoundParts FolderFault) (fault : FolderFault)
    (broken now : Bool) → read ≡ Err fault → titled ≡ old ++ title_text name
    → new ≡ titled ++ unwrap_or (broken_text fault) [] → now ≡ true → (files : ℕ) → IsSaid files read
    → SaysNext tells name files old broken new now
broken_said tells old titled new name read fault broken now is title text broke files said =
    says_more tells old new name files (Err fault) broken now
    (text ∙ ap (λ (t : List ℕ). t ++ unwrap_or (broken_text fault) []) title) broke
    (subst (λ (r : Result FoundParts FolderFault). IsSaid files r) is said)

-- the first of the journals that are left is told, and those behind it are left; or none is
pub says_step : {A : Type 0} (entry : A → List ℕ × ℕ) (tells : Bool) (listed : Listed) (left rest : List A)
    (journal : A) (name : List ℕ) (files : ℕ) (old new : List ℕ) (was is : Bool) → left ≡ journal ∷ rest
    → (name, files) ≡ entry journal → SaysNext tells name files old was new is
    → Says tells listed (map entry left) old was → Says tells listed (map entry rest) new is
says_step entry tells listed left rest journal name files old new was is next_is named next so_far =
    let first : map entry left ≡ (name, files) ∷ map entry rest =
    ap (map entry) next_is ∙ ap (λ (n : List ℕ × ℕ). n ∷ map entry rest) (sym named) in
    next listed (map entry rest) (subst (λ (r : Listed). Says tells listed r old was) first so_far)

pub says_all : {A : Type 0} (entry : A → List ℕ × ℕ) (tells : Bool) (listed : Listed) (left : List A)
    (text : List ℕ) (broken : Bool) → left ≡ [] → Says tells listed (map entry left) text broken
    → Says tells listed [] text broken
says_all entry tells listed left text broken none so_far =
    subst (λ l. Says tells listed (map entry l) text broken) none so_far
