-- The terms of each venue that a file's bytes spell are a session's.
use Rattle.std.proofs.Common.{◌≡◌, ◌≤◌, ℕ, zero, suc, List, [], ◌∷◌, ◌++◌, Some, None, refl, sym, ap, subst, ◌∙◌, arith}
use Rattle.std.specs.Prelude.{Bool, codes, ◌⊎◌, Option, Result, Ok, Err, slice_get, unwrap_or, option_map, IfSome, option_and_then, if◌then◌else◌, true, false}
use Rattle.std.specs.List.{All}
use Rattle.std.proofs.lemmas.Bool.Decides.{nat_tests}
use Rattle.toml.specs.Data.{Data, as_bool, Items, no_items, item, table, Members, as_str, as_integer, get}
use Rattle.toml.specs.Parse.{parse_document}
use Rattle.fix_tags.specs.CompId.{IsCompId, comp_id_of}
use Rattle.fix_tags.specs.Digits.{within}
use Rattle.fix_tags.proofs.Steps.{comp_id_of-Some}
use Rattle.desk_config.specs.declared.config.DeskConfig.{DeskConfig}
use Rattle.desk_config.specs.declared.desk_keys.DeskTable.{DeskTable}
use Rattle.desk_config.specs.declared.fault.Fault.{Fault}
use Rattle.desk_config.specs.declared.fault.KeyFault.{KeyFault}
use Rattle.desk_config.specs.declared.key.Key.{Key}
use Rattle.desk_config.specs.declared.key.Key.TheVariants as key
use Rattle.desk_config.specs.declared.keys.Keys.TheVariants as keys
use Rattle.desk_config.specs.declared.place.Place.{Place}
use Rattle.desk_config.specs.declared.place.Place.TheVariants as place
use Rattle.desk_config.specs.declared.session_terms.SessionTerms.{SessionTerms}
use Rattle.desk_config.specs.declared.venue.Venue.{Venue}
use Rattle.desk_config.specs.Config.{AnswersText, config_in, config_of, ConfigParts, parts_of_config}
use Rattle.desk_config.specs.Desk.{comp_id_in, desk_found, desk_in, desk_table, doors_in, has_users, is_guarded, journal_in, label_in, no_desk, printable_in}
use Rattle.desk_config.specs.Addresses.{dialled_in}
use Rattle.desk_config.specs.Dress.{dress_in}
use Rattle.desk_config.specs.Users.{users_of}
use Rattle.desk_config.specs.Number.{nat_of, number_within}
use Rattle.desk_config.specs.Reading.{and_then, checked, found_at, in_place, needed, read_or_bad, there, value_at}
use Rattle.desk_config.specs.Key.{key_name}
use Rattle.desk_config.specs.LimitKeys.{leg_limits_in, limits_in}
use Rattle.desk_config.specs.Words.{words_in}
use Rattle.desk_config.specs.Hosts.{hosts_of}
use Rattle.desk_config.specs.Symbols.{symbols_of}
use Rattle.desk_config.specs.JournalName.{apart_from_desk}
use Rattle.desk_config.specs.Venue.{name_in, endpoint_in, own_or_desk, sender_in, session_in, venue_in}
use Rattle.desk_config.specs.Venues.{apart, next_place, next_venue, venue_items, venues_from, venues_of}

-- two steps found no fault, so neither of them did
ok_of : {A B E : Type 0} (first : Result A E) (next : A → Result B E) (b : B) → and_then first next ≡ Ok b
    → (a : A) × (first ≡ Ok a) × (next a ≡ Ok b)
ok_of (Ok a) next b is = (a, refl, is)
ok_of (Err fault) next b is = absurd cc

same_ok : {A E : Type 0} (found : Result A E) (a b : A) → found ≡ Ok a → found ≡ Ok b → a ≡ b
same_ok found a b one other = cc

unplaced : {A : Type 0} (place : Place) (found : Result A Fault) (a : A) → in_place place found ≡ Ok a → found ≡ Ok a
unplaced place (Ok b) a is = cc
unplaced place (Err fault) a is = absurd cc

-- a value that was found is what its key's value is read as
read_of : {A : Type 0} (of : Key) (it : Data) (read : Option A) (a : A) → read_or_bad of it read ≡ Ok (Some a)
    → read ≡ Some a
read_of of it None a is = absurd cc
read_of of it (Some b) a is = cc

read_found : {A : Type 0} (reads : Data → Option A) (of : Key) (given : Option Data) (a : A)
    → found_at reads of given ≡ Ok (Some a) → (it : Data) × (reads it ≡ Some a)
read_found reads of None a is = absurd cc
read_found reads of (Some it) a is = (it, read_of of it (reads it) a is)

read_at : {A : Type 0} (reads : Data → Option A) (of : Key) (given : Data) (a : A)
    → value_at reads of given ≡ Ok (Some a) → (it : Data) × (reads it ≡ Some a)
unfolding value_at
read_at reads of given a is = read_found reads of (get (key_name of) given) a is

it_is_there : {A : Type 0} (of : Key) (read : Result (Option A) Fault) (a : A) → there of read ≡ Ok a → read ≡ Ok (Some a)
it_is_there of (Ok None) a is = absurd cc
it_is_there of (Ok (Some b)) a is = cc
it_is_there of (Err fault) a is = absurd cc

read_needed : {A : Type 0} (reads : Data → Option A) (of : Key) (given : Data) (a : A)
    → needed reads of given ≡ Ok a → (it : Data) × (reads it ≡ Some a)
unfolding needed
read_needed reads of given a is = read_at reads of given a (it_is_there of (value_at reads of given) a is)

-- a comp id that was read is one
comp_id_from : (text : Option (List ℕ)) (id : List ℕ) → option_and_then comp_id_of text ≡ Some id → IsCompId id
comp_id_from None id is = absurd cc
comp_id_from (Some text) id is = (comp_id_of-Some text id is).1

comp_id_read : (given : Data) (id : List ℕ) → comp_id_in given ≡ Some id → IsCompId id
comp_id_read given id is = comp_id_from (as_str given) id is

-- so is that of a key that may be missing
abbrev IsMaybeId : Option (List ℕ) → Type 0
IsMaybeId None = Unit {0}
IsMaybeId (Some id) = IsCompId id

maybe_id : (of : Key) (given : Data) (id : Option (List ℕ)) → value_at comp_id_in of given ≡ Ok id → IsMaybeId id
maybe_id of given None is = tt
maybe_id of given (Some id) is = let it = read_at comp_id_in of given id is in comp_id_read it.0 id it.1

own_id : (desk own : Option (List ℕ)) (id : List ℕ) → IsMaybeId desk → IsMaybeId own → own_or_desk desk own ≡ Ok id
    → IsCompId id
own_id desk (Some own) id theirs its is = let same : own ≡ id = cc is in subst IsCompId same its
own_id (Some sender) None id theirs its is = let same : sender ≡ id = cc is in subst IsCompId same theirs
own_id None None id theirs its is = absurd cc

sender_is : (desk : Option (List ℕ)) (given : Data) (id : List ℕ) → IsMaybeId desk → sender_in desk given ≡ Ok id
    → IsCompId id
unfolding sender_in
sender_is desk given id theirs is =
    let own = ok_of (value_at comp_id_in key.Sender given) (own_or_desk desk) id is in
    own_id desk own.0 id theirs (maybe_id key.Sender given own.0 own.1) own.2

-- a number that was read is within its limits
within_is : (least most m n : ℕ) → within least most m ≡ Some n → (least ≤ n) × (n ≤ most)
within_is least most m n is = grind (arith, nat_tests)

number_from : (least most : ℕ) (read : Option ℕ) (n : ℕ) → option_and_then (within least most) read ≡ Some n
    → (least ≤ n) × (n ≤ most)
number_from least most None n is = absurd cc
number_from least most (Some m) n is = within_is least most m n is

abbrev IsMaybeWithin : ℕ → ℕ → Option ℕ → Type 0
IsMaybeWithin least most None = Unit {0}
IsMaybeWithin least most (Some n) = (least ≤ n) × (n ≤ most)

maybe_within : (least most : ℕ) (of : Key) (given : Data) (n : Option ℕ)
    → value_at (number_within least most) of given ≡ Ok n → IsMaybeWithin least most n
maybe_within least most of given None is = tt
maybe_within least most of given (Some n) is =
    let it = read_at (number_within least most) of given n is in
    number_from least most (option_and_then nat_of (as_integer it.0)) n it.1

or_else : (least most other : ℕ) (n : Option ℕ) → least ≤ other → other ≤ most → IsMaybeWithin least most n
    → (least ≤ unwrap_or n other) × (unwrap_or n other ≤ most)
or_else least most other None low high its = (low, high)
or_else least most other (Some n) low high its = its

abbrev AreTerms : SessionTerms → Type 0
AreTerms terms =
    ((1 ≤ terms.heartbeat) × (terms.heartbeat ≤ 3600))
    × ((16 ≤ terms.max_number) × (terms.max_number ≤ 999999999))

-- the terms of what was read, each with what stands for it where it is missing
abbrev session_of : Option ℕ → Option Bool → Option Bool → Option ℕ → SessionTerms
session_of heartbeat next reopen max = record {
  heartbeat = unwrap_or heartbeat 30;
  next_expected = unwrap_or next false;
  reopen = unwrap_or reopen false;
  max_number = unwrap_or max 999_999_999;
}

terms_are : (given : Data) (terms : SessionTerms) → session_in given ≡ Ok terms → AreTerms terms
unfolding session_in
terms_are given terms is =
    let heartbeat = ok_of (value_at (number_within 1 3600) key.Heartbeat given) _ terms is in
    let next = ok_of (value_at as_bool key.NextExpected given) _ terms heartbeat.2 in
    let reopen = ok_of (value_at as_bool key.Reopen given) _ terms next.2 in
    let max = ok_of (value_at (number_within 16 999_999_999) key.MaxNumber given) _ terms reopen.2 in
    let heart_is = or_else 1 3600 30 heartbeat.0 (omega arith) (omega arith)
    (maybe_within 1 3600 key.Heartbeat given heartbeat.0 heartbeat.1) in
    let max_is = or_else 16 999_999_999 999_999_999 max.0 (omega arith) (omega arith)
    (maybe_within 16 999_999_999 key.MaxNumber given max.0 max.1) in
    let made = session_of heartbeat.0 next.0 reopen.0 max.0 in
    let same : made ≡ terms = same_ok (Ok made) made terms refl max.2 in
    subst AreTerms same (heart_is, max_is)

-- what a session asks of a venue's terms
pub record HasTerms (venue : Venue) : Type 0 where
  pub me : IsCompId venue.sender
  pub peer : IsCompId venue.target
  pub heart_from : 1 ≤ venue.session.heartbeat
  pub heart : venue.session.heartbeat ≤ 3600
  pub max_number_from : 16 ≤ venue.session.max_number
  pub max_number : venue.session.max_number ≤ 999999999

-- a venue that was read has such
venue_is : (desk : Option (List ℕ)) (given : Data) (venue : Venue) → IsMaybeId desk → venue_in desk given ≡ Ok venue
    → HasTerms venue
unfolding venue_in
venue_is desk given venue theirs is =
    let known = ok_of (checked keys.Venue given) _ venue is in
    let name = ok_of (needed name_in key.Name given) _ venue known.2 in
    let dialled = ok_of (dialled_in given) _ venue name.2 in
    let exchange = ok_of (endpoint_in dialled.0.place given) _ venue dialled.2 in
    let target = ok_of (needed comp_id_in key.Target given) _ venue exchange.2 in
    let sender = ok_of (sender_in desk given) _ venue target.2 in
    let words = ok_of (words_in given) _ venue sender.2 in
    let dress = ok_of (dress_in words.0 given) _ venue words.2 in
    let password = ok_of (value_at (printable_in 200) key.PasswordFile given) _ venue dress.2 in
    let session = ok_of (session_in given) _ venue password.2 in
    let limits = ok_of (leg_limits_in given) _ venue session.2 in
    let made : Venue = record {
      name = name.0;
      endpoint = exchange.0;
      backups = dialled.0.backups;
      target = target.0;
      sender = sender.0;
      session = session.0;
      words = words.0;
      dress = dress.0;
      password_file = password.0;
      limits = limits.0;
    } in
    let same : made ≡ venue = same_ok (Ok made) made venue refl limits.2 in
    let peer = read_needed comp_id_in key.Target given target.0 target.1 in
    let terms = terms_are given session.0 session.1 in
    subst (λ v. HasTerms v) same (record {
      me = sender_is desk given sender.0 theirs sender.1;
      peer = comp_id_read peer.0 target.0 peer.1;
      heart_from = terms.0.0;
      heart = terms.0.1;
      max_number_from = terms.1.0;
      max_number = terms.1.1;
    })

-- so has each of these venues
abbrev pub HaveTerms : List Venue → Type 0
HaveTerms venues = (place : ℕ) (venue : Venue) → slice_get venues place ≡ Some venue → HasTerms venue

one_more : (venues : List Venue) (last : Venue) → HaveTerms venues → HasTerms last
    → HaveTerms (venues ++ last ∷ [])
one_more [] last are is zero venue here =
    let same : last ≡ venue = cc here in subst (λ v. HasTerms v) same is
one_more [] last are is (suc place) venue here = absurd cc
one_more (first ∷ venues) last are is zero venue here = are zero venue here
one_more (first ∷ venues) last are is (suc place) venue here =
    one_more venues last (λ at v there. are (suc at) v there) is place venue here

next_is : (desk : Option (List ℕ)) (earlier : List Venue) (given : Data) (venue : Venue) → IsMaybeId desk
    → next_venue desk earlier given ≡ Ok venue → HasTerms venue
unfolding next_venue
next_is desk earlier given venue theirs is =
    let read = ok_of (venue_in desk given) _ venue (unplaced (next_place earlier given) _ venue is) in
    let away = ok_of (apart earlier read.0) _ venue read.2 in
    let same : read.0 ≡ venue = cc away.2 in
    subst (λ v. HasTerms v) same (venue_is desk given read.0 theirs read.1)

venues_are : (desk : Option (List ℕ)) (earlier : List Venue) (items : Items) (venues : List Venue) → IsMaybeId desk
    → HaveTerms earlier → venues_from desk earlier items ≡ Ok venues → HaveTerms venues
unfolding venues_from
venues_are desk earlier no_items venues theirs are is =
    let same : earlier ≡ venues = cc is in subst HaveTerms same are
venues_are desk earlier (item given rest) venues theirs are is =
    let next = ok_of (next_venue desk earlier given) _ venues is in
    venues_are desk (earlier ++ next.0 ∷ []) rest venues theirs
    (one_more earlier next.0 are (next_is desk earlier given next.0 theirs next.1)) next.2

none_are : HaveTerms []
none_are place venue here = absurd cc

all_are : (desk : Option (List ℕ)) (file : Data) (venues : List Venue) → IsMaybeId desk
    → venues_of desk file ≡ Ok venues → HaveTerms venues
unfolding venues_of
all_are desk file venues theirs is =
    let items = ok_of (in_place place.File (venue_items file)) _ venues is in
    venues_are desk [] items.0 venues theirs none_are items.2

-- the comp id that a file has for all its venues, if it has one, is one
table_id : (users : Bool) (desk : Data) (read : DeskTable) → desk_table users desk ≡ Ok read → IsMaybeId read.sender
unfolding desk_table
table_id users desk read is =
    let known = ok_of (checked keys.Desk desk) _ read is in
    let sender = ok_of (value_at comp_id_in key.Sender desk) _ read known.2 in
    let callers = ok_of (value_at (number_within 1 64) key.Callers desk) _ read sender.2 in
    let log = ok_of (value_at (printable_in 200) key.Log desk) _ read callers.2 in
    let journal = ok_of (journal_in desk) _ read log.2 in
    let doors = ok_of (doors_in users desk) _ read journal.2 in
    let label = ok_of (label_in desk) _ read doors.2 in
    let table : DeskTable =
    record { sender = sender.0; callers = unwrap_or callers.0 8; log = log.0; journal = journal.0; doors = doors.0; label = label.0 } in
    let same : sender.0 ≡ read.sender =
    ap (λ (t : DeskTable). t.sender) (same_ok (Ok table) table read refl label.2) in
    subst IsMaybeId same (maybe_id key.Sender desk sender.0 sender.1)

found_id : (users : Bool) (given : Option Data) (read : DeskTable) → desk_found users given ≡ Ok read → IsMaybeId read.sender
found_id users None read is = let same : no_desk ≡ read = cc is in subst (λ r. IsMaybeId r.sender) same tt
found_id users (Some desk) read is = table_id users desk read (unplaced _ _ read is)

file_id : (file : Data) (read : DeskTable) → desk_in file ≡ Ok read → IsMaybeId read.sender
unfolding desk_in
file_id file read is = found_id (has_users file) (get (codes "desk") file) read is

file_are : (file : Data) (parts : ConfigParts) → config_in file ≡ Ok parts → HaveTerms parts.venues
unfolding config_in
file_are file parts is =
    let known = ok_of (in_place place.File (checked keys.File file)) _ parts is in
    let desk = ok_of (desk_in file) _ parts known.2 in
    let hosts = ok_of (hosts_of (is_guarded (has_users file) desk.0.doors.token) file) _ parts desk.2 in
    let limits = ok_of (limits_in file) _ parts hosts.2 in
    let symbols = ok_of (symbols_of file) _ parts limits.2 in
    let venues = ok_of (venues_of desk.0.sender file) _ parts symbols.2 in
    let users = ok_of (users_of file) _ parts venues.2 in
    let away = ok_of (in_place place.Desk (apart_from_desk desk.0.journal venues.0)) _ parts users.2 in
    let same : venues.0 ≡ parts.venues =
    ap (λ (p : ConfigParts). p.venues) (same_ok (Ok (config_of desk.0 hosts.0 users.0 limits.0 symbols.0 venues.0)) (config_of desk.0 hosts.0 users.0 limits.0 symbols.0 venues.0)
    parts refl away.2) in
    subst HaveTerms same (all_are desk.0.sender file venues.0 (file_id file desk.0 desk.1) venues.1)

text_are : (read : Option Members) (parts : ConfigParts)
    → option_map (λ file. config_in (table file)) read ≡ Some (Ok parts) → HaveTerms parts.venues
text_are None parts is = absurd cc
text_are (Some file) parts is = let said : config_in (table file) ≡ Ok parts = cc is in file_are (table file) parts said

-- the venues of the configuration that a text spells
pub the_terms_are : (text : List ℕ) (config : DeskConfig) → AnswersText text (Ok config)
    → HaveTerms config.venues.items
the_terms_are text config says = text_are (parse_document text) (parts_of_config config) says
