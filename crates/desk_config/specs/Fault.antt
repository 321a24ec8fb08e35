-- The texts of faults.
use Rattle.std.specs.Prelude.{ℕ, List, [], ◌++◌, codes, decimal, Option, Some, None}
use Rattle.desk_config.specs.declared.fault.Fault.{Fault}
use Rattle.desk_config.specs.declared.fault.Fault.TheVariants.{NoTable, Unknown, UnknownWord, Missing, Bad, Mark, Order, Field, NoJournal, NeedsToken, HostsNeedToken, TokenBesideUsers, TwoTokens, Right, RightTwice, SameUser, SameToken, Host, Symbol, TwoAddresses, Address, OnlySimulated, SameName, SameSession, DeskName}
use Rattle.desk_config.specs.declared.fault.KeyFault.{KeyFault}
use Rattle.desk_config.specs.declared.fault.ConfigFault.{ConfigFault}
use Rattle.desk_config.specs.declared.fault.ConfigFault.TheVariants.{Toml, Key, OutOfMemory}
use Rattle.desk_config.specs.declared.place.Place.{Place}
use Rattle.desk_config.specs.declared.place.Place.TheVariants.{File, Desk, Limits, Venue, User}
use Rattle.desk_config.specs.Key.{key_shown, key_wants}
use Rattle.desk_config.specs.Found.{found_text}
use Rattle.venue_words.specs.Field.{field_fault_text}

-- what is wrong in a table, as `heartbeat is 99999, and has to be 1 to 3600`
abbrev pub fault_text : Fault → List ℕ
fault_text (NoTable found) = codes "it is " ++ found_text found ++ codes ", and has to be a table"
fault_text (Unknown key) = codes "unknown key " ++ key
fault_text (UnknownWord key) = codes "unknown key words." ++ key
fault_text (Missing key) = key_shown key ++ codes " is missing"
fault_text (Bad key found) =
    key_shown key ++ codes " is " ++ found_text found ++ codes ", and has to be " ++ key_wants key
fault_text (Mark found fault) = codes "words.mark is " ++ found_text found ++ codes ": " ++ field_fault_text fault
fault_text (Order number found fault) =
    codes "order " ++ decimal number ++ codes " is " ++ found_text found ++ codes ": " ++ field_fault_text fault
fault_text (Field key number found fault) =
    key_shown key ++ codes " " ++ decimal number ++ codes " is " ++ found_text found ++ codes ": "
    ++ field_fault_text fault
fault_text NoJournal = codes "durable is there, and there is no journal"
fault_text (NeedsToken key) = key_shown key ++ codes " is not at 127.0.0.1, and there is no token and no user"
fault_text HostsNeedToken = codes "hosts is there, and there is no token and no user"
fault_text TokenBesideUsers = codes "token is there, and so are users"
fault_text TwoTokens = codes "token and token_file are both there"
fault_text (Right number found) =
    codes "may " ++ decimal number ++ codes " is " ++ found_text found
    ++ codes ", and has to be read, trade, close or halt"
fault_text (RightTwice number found) =
    codes "may " ++ decimal number ++ codes " is " ++ found_text found ++ codes ", as an earlier one is"
fault_text (SameUser place) = codes "name is that of user " ++ decimal place
fault_text (SameToken place) = codes "token is that of user " ++ decimal place
fault_text (Host number found) =
    codes "hosts " ++ decimal number ++ codes " is " ++ found_text found
    ++ codes ", and has to be a name as desk.example.com"
fault_text (Symbol number found) =
    codes "symbols " ++ decimal number ++ codes " is " ++ found_text found
    ++ codes ", and has to be a symbol as BRK.B"
fault_text TwoAddresses = codes "address and addresses are both there"
fault_text (Address number found) =
    codes "addresses " ++ decimal number ++ codes " is " ++ found_text found ++ codes ", and has to be HOST:PORT"
fault_text OnlySimulated = codes "fill is there, and the venue isn't simulated"
fault_text (SameName place) = codes "name is that of venue " ++ decimal place
fault_text (SameSession place) = codes "address and comp ids are those of venue " ++ decimal place
fault_text (DeskName place) =
    codes "journal is there, and venue " ++ decimal place ++ codes " is called desk, as the desk's journal is"

-- the name of a venue or a user in brackets, where it has one
abbrev pub name_text : Option (List ℕ) → List ℕ
name_text None = []
name_text (Some name) = codes " (" ++ name ++ codes ")"

-- the table that a fault stands in, as `venue 2 (ARCA): `
abbrev pub place_text : Place → List ℕ
place_text File = []
place_text Desk = codes "desk: "
place_text Limits = codes "limits: "
place_text (Venue number name) = codes "venue " ++ decimal number ++ name_text name ++ codes ": "
place_text (User number name) = codes "user " ++ decimal number ++ name_text name ++ codes ": "

-- a fault behind its place, as `venue 2 (ARCA): heartbeat is 99999, and has to be 1 to 3600`
abbrev pub key_fault_text : KeyFault → List ℕ
key_fault_text fault = place_text fault.place ++ fault_text fault.fault

-- what is said of a file that gives no configuration; of a text that is no TOML its reader tells
abbrev pub config_fault_text : ConfigFault → Option (List ℕ)
config_fault_text (Toml _) = None
config_fault_text (Key fault) = Some (key_fault_text fault)
config_fault_text OutOfMemory = Some (codes "out of memory")
