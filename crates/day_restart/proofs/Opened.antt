-- The journals of a day as they are read, the last one first.
use Rattle.std.proofs.Common.{◌≡◌, ◌<◌, ◌≤◌, ℕ, ◌+◌, List, [], ◌∷◌, ◌++◌, length, get_or, map, reverse, take, Result, Ok, Err, sym, ap, subst, ◌∙◌}
use Rattle.std.specs.List.{AllZip}
use Rattle.std.proofs.lemmas.List.{map-append, map_more, reverse-append, take_all}
use Rattle.journal_folder.specs.Found.{FoundParts}
use Rattle.journal_folder.specs.Reads.{ReadAs, Reads, with_read}
use Rattle.journal_folder.specs.declared.fault.FolderFault.{FolderFault}
use Rattle.day_restart.specs.Files.{HasWords}

-- what one that was read has, and what is known of the folder then
pub was_read : (name words : List ℕ) (result : Result FoundParts FolderFault) (found : FoundParts) (old new : List ReadAs)
    → result ≡ Ok found → Reads name words result old new → HasWords words found × (new ≡ with_read name found old)
was_read name words result found old new is reads =
    subst (λ (r : Result FoundParts FolderFault). Reads name words r old new) is reads

-- the names of those that are read, with one more
pub names_more : {A B : Type 0} (f : A → B) (xs : List A) (n : ℕ) (x : A) (before old new : List B) → n < length xs
    → x ≡ get_or xs n x → old ≡ reverse (map f (take n xs)) ++ before → new ≡ f x ∷ old
    → new ≡ reverse (map f (take (n + 1) xs)) ++ before
names_more f xs n x before old new within is so_far more =
    let taken : map f (take (n + 1) xs) ≡ map f (take n xs) ++ f x ∷ [] =
    map_more f xs n x within ∙ ap (λ z. map f (take n xs) ++ f z ∷ []) (sym is) in
    more ∙ ap (λ l. f x ∷ l) so_far
    ∙ ap (λ l. l ++ before) (sym (reverse-append (map f (take n xs)) (f x ∷ [])) ∙ ap reverse (sym taken))

pub names_all : {A B : Type 0} (f : A → B) (xs : List A) (n : ℕ) (before all : List B) → length xs ≤ n
    → all ≡ reverse (map f (take n xs)) ++ before → all ≡ reverse (map f xs) ++ before
names_all f xs n before all whole so_far =
    so_far ∙ ap (λ l. reverse (map f l) ++ before) (take_all n xs whole)

-- what was found of them, with that of one more
pub found_more : {B : Type 0} (x : B) (items after before old new : List B) → old ≡ reverse items ++ before
    → new ≡ x ∷ old → after ≡ items ++ x ∷ [] → new ≡ reverse after ++ before
found_more x items after before old new so_far more pushed =
    more ∙ ap (λ l. x ∷ l) so_far
    ∙ ap (λ l. l ++ before) (sym (reverse-append items (x ∷ [])) ∙ ap reverse (sym pushed))

-- the first one, and those behind it
pub one_first : {B : Type 0} (first : B) (items before all : List B) → all ≡ reverse items ++ before
    → before ≡ first ∷ [] → all ≡ reverse (first ∷ items)
one_first first items before all behind one =
    behind ∙ ap (λ l. reverse items ++ l) one ∙ sym (reverse-append (first ∷ []) items)

pub zip_all : {A B C : Type 0} (f : A → B) (R : B → C → Type 0) (xs : List A) (ys : List C) (n : ℕ) → length xs ≤ n
    → AllZip R (map f (take n xs)) ys → AllZip R (map f xs) ys
zip_all f R xs ys n whole so_far = subst (λ l. AllZip R (map f l) ys) (take_all n xs whole) so_far

-- one text more
pub texts_more : {A B C : Type 0} (f : A → C) (g : B → C) (xs : List A) (ys after : List B) (n : ℕ) (x : A) (y : B)
    → n < length xs → x ≡ get_or xs n x → map g ys ≡ map f (take n xs) → after ≡ ys ++ y ∷ [] → g y ≡ f x
    → map g after ≡ map f (take (n + 1) xs)
texts_more f g xs ys after n x y within is so_far pushed same =
    let taken : map f (take (n + 1) xs) ≡ map f (take n xs) ++ f x ∷ [] =
    map_more f xs n x within ∙ ap (λ z. map f (take n xs) ++ f z ∷ []) (sym is) in
    ap (map g) pushed ∙ map-append g ys (y ∷ []) ∙ ap (λ l. map g ys ++ l ∷ []) same
    ∙ ap (λ l. l ++ f x ∷ []) so_far ∙ sym taken
