-- The venues of a first line that were read so far.
use Rattle.std.proofs.Common.{◌≡◌, ℕ, ◌+◌, ◌<◌, ◌≤◌, Bool, true, false, nat_le, List, [], ◌∷◌, ◌++◌, length, Option, Some, None, refl, sym, ap, ◌∙◌, arith}
use Rattle.std.specs.Prelude.{◌&&◌, codes, if◌then◌else◌}
use Rattle.std.specs.Str.{bytes_eq}
use Rattle.std.specs.Option.{option_map, option_and_then}
use Rattle.std.proofs.lemmas.Bool.Decides.{nat_tests}
use Rattle.std.proofs.lemmas.List.{length-append}
use Rattle.schedule.specs.Script.{ScriptHead, ScriptVenue, head_of_words, is_venue_count, number_within, venue_of_parts, venues_of_words}
use Rattle.text_pieces.specs.Pieces.{pieces}
use Rattle.script.specs.Head.{few_venues}
use Rattle.script.proofs.SoFar.{with_front, one_more, none_more}

-- the first line of a number and venues
abbrev pub head_with : ℕ → List ScriptVenue → ScriptHead
head_with most all = record { max_number = most; venues = all }

-- the whole is what was read and what is left, and so is its length
pub record VenuesSoFar (front : List ScriptVenue) (left whole : List (List ℕ)) : Type 0 where
  pub read : with_front front (venues_of_words left) ≡ venues_of_words whole
  pub count : length front + length left ≡ length whole
  pub few : length front ≤ 16

chosen : (b : Bool) (venues : Option (List ScriptVenue)) → venues ≡ None → (if b then venues else None) ≡ None
chosen true venues none = none
chosen false venues none = refl

-- too many, and none
pub too_many : (front : List ScriptVenue) (word : List ℕ) (left now whole : List (List ℕ)) → left ≡ word ∷ now → 16 ≤ length front
    → VenuesSoFar front left whole → few_venues whole ≡ None
too_many front word left now whole e full so_far =
    let count : length left ≡ length (word ∷ now) = ap length e in
    let more : 16 < length whole = omega (arith, count, full, so_far.count) in
    let not_few : is_venue_count (length whole) ≡ false = grind (arith, nat_tests, more) in
    ap (λ (b : Bool). if b then venues_of_words whole else None) not_few

pub no_venue : (front : List ScriptVenue) (left whole : List (List ℕ)) → left ≡ [] → length front ≡ 0
    → VenuesSoFar front left whole → few_venues whole ≡ None
no_venue front left whole e none so_far =
    let count : length left ≡ 0 = ap length e in
    let empty : length whole ≡ 0 = omega (arith, count, none, so_far.count) in
    let not_few : is_venue_count (length whole) ≡ false = grind (arith, nat_tests, empty) in
    ap (λ (b : Bool). if b then venues_of_words whole else None) not_few

-- a word that is no venue
pub bad_venue : (front : List ScriptVenue) (word : List ℕ) (left now whole : List (List ℕ)) → left ≡ word ∷ now
    → venue_of_parts (pieces 43 word) ≡ None → VenuesSoFar front left whole → few_venues whole ≡ None
bad_venue front word left now whole e bad so_far =
    let none : venues_of_words left ≡ None = ap venues_of_words e ∙ ap (option_and_then (λ first. option_map (λ rest. first ∷ rest) (venues_of_words now))) bad in
    chosen (is_venue_count (length whole)) (venues_of_words whole) (sym so_far.read ∙ ap (with_front front) none)

-- a word that is one
pub venue_read : (front : List ScriptVenue) (venue : ScriptVenue) (word : List ℕ) (left now whole : List (List ℕ)) → left ≡ word ∷ now
    → venue_of_parts (pieces 43 word) ≡ Some venue → length front < 16 → VenuesSoFar front left whole → VenuesSoFar (front ++ venue ∷ []) now whole
venue_read front venue word left now whole e good few so_far =
    let some : venues_of_words left ≡ option_map (λ rest. venue ∷ rest) (venues_of_words now) =
    ap venues_of_words e ∙ ap (option_and_then (λ first. option_map (λ rest. first ∷ rest) (venues_of_words now))) good in
    let longer : length (front ++ venue ∷ []) ≡ length front + 1 = length-append front (venue ∷ []) in
    let count : length left ≡ length (word ∷ now) = ap length e in
    record {
      read = sym (one_more front venue (venues_of_words now)) ∙ ap (with_front front) (sym some) ∙ so_far.read;
      count = omega (arith, longer, count, so_far.count);
      few = omega (arith, longer, few);
    }

-- all of them
pub all_venues : (front : List ScriptVenue) (left whole : List (List ℕ)) → left ≡ [] → 0 < length front
    → VenuesSoFar front left whole → few_venues whole ≡ Some front
all_venues front left whole e some so_far =
    let count : length left ≡ 0 = ap length e in
    let low : 1 ≤ length whole = omega (arith, count, some, so_far.count) in
    let high : length whole ≤ 16 = omega (arith, count, so_far.few, so_far.count) in
    let is_few : is_venue_count (length whole) ≡ true = grind (arith, nat_tests, low, high) in
    ap (λ (b : Bool). if b then venues_of_words whole else None) is_few
    ∙ sym so_far.read ∙ ap (λ (words : List (List ℕ)). with_front front (venues_of_words words)) e ∙ none_more front

by_count : (is_few : Bool) (number : Option ℕ) (venues : Option (List ScriptVenue))
    → (if is_few then option_and_then (λ most. option_map (λ all. head_with most all) venues) number else None)
    ≡ option_and_then (λ most. option_map (λ all. head_with most all) (if is_few then venues else None)) number
by_count true number venues = refl
by_count false None venues = refl
by_count false (Some most) venues = refl

-- the first line, by its venues
pub head_by_venues : (name number : List ℕ) (words : List (List ℕ)) → bytes_eq name (codes "venues") ≡ true
    → head_of_words (name ∷ number ∷ words)
    ≡ option_and_then (λ most. option_map (λ all. head_with most all) (few_venues words)) (number_within 16 999999999 number)
head_by_venues name number words is =
    rw is (by_count (is_venue_count (length words)) (number_within 16 999999999 number) (venues_of_words words))

pub other_head : (name number : List ℕ) (words : List (List ℕ)) → bytes_eq name (codes "venues") ≡ false
    → head_of_words (name ∷ number ∷ words) ≡ None
other_head name number words is = rw is refl
