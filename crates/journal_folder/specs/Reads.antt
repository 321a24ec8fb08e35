-- What was found of the journals in a folder, by their names.
use Rattle.std.specs.Prelude.{◌≡◌, ℕ, List, ◌∷◌, Option, Result, Ok, Err, refl}
use Rattle.std.specs.Coded.{Coded, code_by, coded×, coded_ℕ, coded_list, coded_option}
use Rattle.journal_folder.specs.Found.{FoundParts, IsFoundUnder}
use Rattle.journal_folder.specs.declared.fault.FolderFault.{FolderFault}
use Rattle.journal_folder.specs.declared.fault.FolderFault.TheVariants.{NoFolder, OutOfMemory}

-- what was found of a journal of this name
pub record ReadAs : Type 0 where
  pub name : List ℕ
  pub found : FoundParts

-- what ghost data of these types is kept as
abbrev pub found_coded : Coded FoundParts
found_coded = code_by (List (List ℕ) × (ℕ × (Option (List ℕ) × (ℕ × ℕ))))
    (coded× (coded_list (coded_list coded_ℕ)) (coded× coded_ℕ (coded× (coded_option (coded_list coded_ℕ))
    (coded× coded_ℕ coded_ℕ)))) (λ f. (f.lines, (f.files, (f.words, (f.torn, f.stray)))))
    (λ p. record { lines = p.0; files = p.1.0; words = p.1.1.0; torn = p.1.1.1.0; stray = p.1.1.1.1 }) (λ f. refl)

-- the last one first
abbrev pub reads_coded : Coded (List ReadAs)
reads_coded = coded_list (code_by (List ℕ × FoundParts) (coded× (coded_list coded_ℕ) found_coded)
    (λ r. (r.name, r.found)) (λ p. record { name = p.0; found = p.1 }) (λ r. refl))

abbrev pub with_read : List ℕ → FoundParts → List ReadAs → List ReadAs
with_read name found reads = record { name = name; found = found } ∷ reads

-- a journal of this name was read, whose heads have these words; or why it wasn't
abbrev pub Reads : List ℕ → List ℕ → Result FoundParts FolderFault → List ReadAs → List ReadAs → Type 0
Reads name words (Ok found) old new =
    ((count : ℕ) × IsFoundUnder count words (Ok found)) × (new ≡ with_read name found old)
Reads name words (Err NoFolder) old new = new ≡ old
Reads name words (Err OutOfMemory) old new = new ≡ old
Reads name words (Err fault) old new = ((count : ℕ) × IsFoundUnder count words (Err fault)) × (new ≡ old)
