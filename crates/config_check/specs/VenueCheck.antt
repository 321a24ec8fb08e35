-- What `dispatch run FILE --check` prints of a venue behind its line.
use Rattle.std.specs.Prelude.{ℕ, List, [], ◌∷◌, ◌++◌, codes, decimal, Option, Some, None}
use Rattle.std.specs.List.{flat_map}
use Rattle.desk_config.specs.Address.{address_text}
use Rattle.desk_config.specs.declared.address.Address.{Address}
use Rattle.desk_config.specs.declared.venue.Venue.{Venue}
use Rattle.dialect.specs.declared.words.Extra.{Extra}

-- a line of words behind its name, if there are any
abbrev pub named_line : List ℕ → List ℕ → List ℕ
named_line name [] = []
named_line name (byte ∷ bytes) = name ++ (byte ∷ bytes) ++ 10 ∷ []

-- of a venue, as `backups of NYSE 10.0.0.2:9001`
abbrev pub line_of : List ℕ → Venue → List ℕ → List ℕ
line_of what venue words = named_line (what ++ codes " of " ++ venue.name) words

-- a backup behind a space, if it is there
abbrev pub backup_word : Option Address → List ℕ
backup_word None = []
backup_word (Some address) = codes " " ++ address_text address

-- a field behind a space, as ` 50=TRADER1`
abbrev pub field_word : Extra → List ℕ
field_word field = codes " " ++ decimal field.tag ++ codes "=" ++ field.value.items

-- a password isn't shown
abbrev pub password_word : Option (List ℕ) → List ℕ
password_word None = []
password_word (Some file) = codes " 554=***"

abbrev pub logon_words : Venue → List ℕ
logon_words venue = flat_map field_word venue.dress.logon ++ password_word venue.password_file

-- where a venue is dialled if its address fails
abbrev pub backups_line : Venue → List ℕ
backups_line venue = line_of (codes "backups") venue (flat_map backup_word venue.backups)

-- what the messages for a venue carry besides
abbrev pub dress_lines : Venue → List ℕ
dress_lines venue =
    line_of (codes "header") venue (flat_map field_word venue.dress.header)
    ++ line_of (codes "logon") venue (logon_words venue)
