-- The venues that a file has are told apart.
use Rattle.std.proofs.Common.{◌≡◌, ◌≢◌, ℕ, ◌+◌, ◌≤◌, Bool, true, false, not, cond, List, [], ◌∷◌, ◌++◌, length, get_or, Option, Some, None, refl, arith, length-append}
use Rattle.std.specs.Prelude.{codes, Result, Ok, Err, IfOk, Vec, nat_lt, nat_le, position, if◌then◌else◌}
use Rattle.std.specs.List.{All, position_or_len}
use Rattle.std.specs.Str.{bytes_eq}
use Rattle.std.specs.declared.alloc.Global.{Global}
use Rattle.std.proofs.lemmas.Bool.{and_parts, leb-true, ltb-false}
use Rattle.std.proofs.lemmas.Bool.Decides.{not_from_Decides}
use Rattle.std.proofs.lemmas.Slice.Eq.{bytes_eq-Decides}
use Rattle.std.proofs.lemmas.List.Sums.{prefix_len_passes}
use Rattle.std.proofs.lemmas.List.Quantifiers.{all_pairs_push}
use Rattle.toml.specs.Data.{Data, string, integer, float, boolean, datetime, array, table, get, Items, no_items, item}
use Rattle.desk_config.specs.declared.fault.ConfigFault.{ConfigFault}
use Rattle.desk_config.specs.declared.fault.Fault.{Fault}
use Rattle.desk_config.specs.declared.fault.Fault.TheVariants.{Bad}
use Rattle.desk_config.specs.declared.fault.KeyFault.{KeyFault}
use Rattle.desk_config.specs.declared.key.Key.TheVariants as key
use Rattle.desk_config.specs.declared.place.Place.{Place}
use Rattle.desk_config.specs.declared.place.Place.TheVariants as place
use Rattle.desk_config.specs.declared.venue.Venue.{Venue}
use Rattle.desk_config.specs.Apart.{AreApart, AreVenues}
use Rattle.desk_config.specs.Found.{found_of, items_count}
use Rattle.desk_config.specs.Reading.{and_then, in_place}
use Rattle.desk_config.specs.Venue.{venue_in}
use Rattle.desk_config.specs.Venues.{AnswersVenues, apart, same_as, same_name, same_session, next_place, next_venue, venues_from, few_items, items_found, is_venue_count, venue_items, venues_of}

not_below : (a b : ℕ) → cond (nat_lt a b) (Some a) None ≡ None → b ≤ a
not_below a b none = told (nat_lt a b) refl none
  where
    told : (below : Bool) → nat_lt a b ≡ below → cond below (Some a) None ≡ None → b ≤ a
    told true is none = cc
    told false is none = ltb-false a b is

from_not : (b : Bool) → not b ≡ true → b ≡ false
from_not false e = refl
from_not true e = cc

-- where none of them passes, each fails
none_passes : {X : Type 0} (p : X → Bool) (xs : List X) → position p xs ≡ None → All (λ x. p x ≡ false) xs
none_passes p xs none k d within =
    let past : length xs ≤ position_or_len p xs = not_below (position_or_len p xs) (length xs) none in
    from_not (p (get_or xs k d)) (prefix_len_passes (λ x. not (p x)) xs k d (omega arith))

-- a venue that no earlier one has the name or the session of
record IsNew (earlier : List Venue) (venue : Venue) : Type 0 where
  name : position (λ other. same_name other venue) earlier ≡ None
  session : position (λ other. same_session other venue) earlier ≡ None

no_place : (name session : Option ℕ) → same_as name session ≡ Ok tt → (name ≡ None) × (session ≡ None)
no_place None None e = (refl, refl)
no_place None (Some i) e = cc
no_place (Some i) session e = cc

is_new : (earlier : List Venue) (venue : Venue) → apart earlier venue ≡ Ok tt → IsNew earlier venue
unfolding apart
is_new earlier venue e =
    let places = no_place
    (position (λ other. same_name other venue) earlier)
    (position (λ other. same_session other venue) earlier)
    e in
    record { name = places.0; session = places.1 }

-- one venue more
apart_more : (earlier : List Venue) (venue : Venue) → AreApart earlier → IsNew earlier venue
    → AreApart (earlier ++ venue ∷ [])
apart_more earlier venue before new = record {
  names = all_pairs_push (λ one other. one.name ≢ other.name) earlier venue before.names (λ k d within.
      let other = get_or earlier k d in
      not_from_Decides (bytes_eq other.name venue.name) (bytes_eq-Decides other.name venue.name)
      (none_passes (λ it. same_name it venue) earlier new.name k d within));
  sessions = all_pairs_push (λ one other. same_session one other ≡ false) earlier venue before.sessions (λ k d within.
      none_passes (λ it. same_session it venue) earlier new.session k d within);
}

-- a venue that was read is a new one
read_is_new : (spot : Place) (earlier : List Venue) (read : Result Venue Fault) (venue : Venue)
    → in_place spot (and_then read (λ it. and_then (apart earlier it) (λ _. Ok it))) ≡ Ok venue → IsNew earlier venue
read_is_new spot earlier (Err fault) venue e = cc
read_is_new spot earlier (Ok it) venue e = told (apart earlier it) refl e
  where
    told : (answer : Result (Unit {0}) Fault) → apart earlier it ≡ answer
        → in_place spot (and_then answer (λ _. Ok it)) ≡ Ok venue → IsNew earlier venue
    told (Err fault) is e = cc
    told (Ok done) is e = let same : it ≡ venue = cc in rw (← same) (is_new earlier it is)

next_is_new : (desk : Option (List ℕ)) (earlier : List Venue) (given : Data) (venue : Venue)
    → next_venue desk earlier given ≡ Ok venue → IsNew earlier venue
unfolding next_venue
next_is_new desk earlier given venue e = read_is_new (next_place earlier given) earlier (venue_in desk given) venue e

-- what tables say behind earlier venues is told apart, and is one venue a table
record AreSaid (earlier : List Venue) (items : Items) (venues : List Venue) : Type 0 where
  told : AreApart venues
  count : length venues ≡ length earlier + items_count items

said_more : (desk : Option (List ℕ)) (earlier : List Venue) (given : Data) (rest : Items) (venues : List Venue)
    → AreApart earlier
    → ((more : List Venue) → AreApart more → venues_from desk more rest ≡ Ok venues → AreSaid more rest venues)
    → (answer : Result Venue KeyFault) → next_venue desk earlier given ≡ answer
    → and_then answer (λ venue. venues_from desk (earlier ++ venue ∷ []) rest) ≡ Ok venues
    → AreSaid earlier (item given rest) venues
said_more desk earlier given rest venues before later (Err fault) is e = cc
said_more desk earlier given rest venues before later (Ok venue) is e =
    let more = apart_more earlier venue before (next_is_new desk earlier given venue is) in
    let said = later (earlier ++ venue ∷ []) more e in
    record { told = said.told; count = omega (arith, said.count, length-append earlier (venue ∷ [])) }

all_said : (desk : Option (List ℕ)) (earlier : List Venue) (items : Items) (venues : List Venue) → AreApart earlier
    → venues_from desk earlier items ≡ Ok venues → AreSaid earlier items venues
unfolding venues_from
all_said desk earlier no_items venues before e =
    let same : earlier ≡ venues = cc in
    record { told = rw (← same) before; count = rw (← same) (omega arith) }
all_said desk earlier (item given rest) venues before e =
    said_more desk earlier given rest venues before
    (λ more apart says. all_said desk more rest venues apart says)
    (next_venue desk earlier given) refl e

in_count : (n : ℕ) → is_venue_count n ≡ true → (1 ≤ n) × (n ≤ 16)
in_count n e =
    let parts = and_parts (nat_le 1 n) (nat_le n 16) e in
    (leb-true 1 n parts.0, leb-true n 16 parts.1)

-- the tables of a file are 1 to 16
few_counted : (given : Data) (items : Items) → few_items given ≡ Ok items → is_venue_count (items_count items) ≡ true
few_counted (array tables) items e = told (is_venue_count (items_count tables)) refl e
  where
    told : (few : Bool) → is_venue_count (items_count tables) ≡ few
        → (if few then Ok tables else Err (Bad key.Venue (found_of (array tables)))) ≡ Ok items
        → is_venue_count (items_count items) ≡ true
    told true is e = let same : tables ≡ items = cc in rw (← same) is
    told false is e = cc
few_counted (string _) items e = cc
few_counted (integer _) items e = cc
few_counted (float _) items e = cc
few_counted (boolean _) items e = cc
few_counted (datetime _) items e = cc
few_counted (table _) items e = cc

found_counted : (found : Option Data) (items : Items) → items_found found ≡ Ok items
    → is_venue_count (items_count items) ≡ true
found_counted None items e = cc
found_counted (Some given) items e = few_counted given items e

items_counted : (file : Data) (items : Items) → venue_items file ≡ Ok items
    → is_venue_count (items_count items) ≡ true
unfolding venue_items
items_counted file items e = found_counted (get (codes "venue") file) items e

none_apart : AreApart []
none_apart = record {
  names = λ i j d below within. absurd (omega arith);
  sessions = λ i j d below within. absurd (omega arith);
}

-- the venues that a file has are 1 to 16 that are told apart
pub venues_apart : (desk : Option (List ℕ)) (file : Data) (venues : List Venue) → venues_of desk file ≡ Ok venues
    → AreVenues venues
unfolding venues_of
venues_apart desk file venues e = told (venue_items file) refl e
  where
    told : (answer : Result Items Fault) → venue_items file ≡ answer
        → and_then (in_place place.File answer) (λ items. venues_from desk [] items) ≡ Ok venues → AreVenues venues
    told (Err fault) is e = cc
    told (Ok items) is e =
        let said = all_said desk [] items venues none_apart e in
        let counted = in_count (items_count items) (items_counted file items is) in
        record {
          some = omega (arith, said.count, counted.0);
          few = omega (arith, said.count, counted.1);
          apart = said.told;
        }

-- so are those of an answer that says what the file has
pub answered_apart : (desk : Option (List ℕ)) (file : Data) (answer : Result (Vec Venue Global) ConfigFault)
    → AnswersVenues (venues_of desk file) answer → IfOk answer (λ venues. AreVenues venues.items)
answered_apart desk file (Ok venues) says = venues_apart desk file venues.items says
answered_apart desk file (Err _) says = tt
