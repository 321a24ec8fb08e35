-- Where no journal is asked for, none is told to a day; and where one is, it is.
use Rattle.std.proofs.Common.{◌≡◌, ◌∙◌, ℕ, List, true, Some, None, refl, ap}
use Rattle.std.specs.Prelude.{Option, is_some, option_map}
use Rattle.desk_config.specs.declared.day.Day.{Day}
use Rattle.desk_config.specs.declared.journal.Durable.{Durable}
use Rattle.desk_config.specs.declared.journal.JournalTerms.{JournalTerms}
use Rattle.run_file.specs.Folder.{journal_at, journal_folder}

none_of : {A B : Type 0} (part : A → B) (found : Option A) → option_map part found ≡ None → found ≡ None
none_of part None none = refl
none_of part (Some it) none = absurd cc

pub no_journal : {A : Type 0} (parts : A → List ℕ × Durable × Day) (at : Option A) (terms : Option JournalTerms)
    (folder : Option (List ℕ)) (day : Day) → option_map parts at ≡ journal_at terms folder day → terms ≡ None
    → at ≡ None
no_journal parts at terms folder day is none =
    none_of parts at (is ∙ ap (λ (t : Option JournalTerms). journal_at t folder day) none)

some_of : {A B : Type 0} (part : A → B) (found : Option A) → is_some (option_map part found) ≡ true
    → is_some found ≡ true
some_of part None some = some
some_of part (Some it) some = refl

some_in : {A B : Type 0} (part : A → B) (found : Option A) → is_some found ≡ true
    → is_some (option_map part found) ≡ true
some_in part None some = some
some_in part (Some it) some = refl

some_folder : (file : List ℕ) (terms : Option JournalTerms) (day : Day) → is_some terms ≡ true
    → is_some (journal_folder file terms day) ≡ true
some_folder file None day some = some
some_folder file (Some terms) day some = refl

some_at : (terms : Option JournalTerms) (folder : Option (List ℕ)) (day : Day) → is_some terms ≡ true
    → is_some folder ≡ true → is_some (journal_at terms folder day) ≡ true
some_at None folder day some there = some
some_at (Some terms) None day some there = there
some_at (Some terms) (Some folder) day some there = refl

pub some_journal : {A F D : Type 0} (parts : A → List ℕ × Durable × Day) (at : Option A)
    (terms : Option JournalTerms) (file : List ℕ) (bytes : F → List ℕ) (found : Option F) (path : D → List ℕ)
    (shown : Option D) (day : Day) → option_map parts at ≡ journal_at terms (option_map path shown) day
    → option_map bytes found ≡ journal_folder file terms day → (is_some found ≡ true → is_some shown ≡ true)
    → is_some terms ≡ true → is_some at ≡ true
some_journal parts at terms file bytes found path shown day is there shows some =
    let has = some_of bytes found (ap is_some there ∙ some_folder file terms day some) in
    some_of parts at (ap is_some is ∙ some_at terms (option_map path shown) day some (some_in path shown (shows has)))
