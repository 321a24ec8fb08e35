-- The lost lines of journals that were read so far.
use Rattle.std.proofs.Common.{◌≡◌, ℕ, ◌+◌, ◌<◌, ◌≤◌, Bool, true, false, nat_le, List, [], ◌∷◌, ◌++◌, length, Option, Some, None, refl, sym, ap, ◌∙◌, arith}
use Rattle.std.specs.Prelude.{◌&&◌, if◌then◌else◌}
use Rattle.std.specs.Option.{option_map, option_and_then}
use Rattle.std.proofs.lemmas.Bool.Decides.{nat_tests}
use Rattle.std.proofs.lemmas.List.{length-append}
use Rattle.script.specs.Crash.{few_lost, lost_word, lost_words}
use Rattle.script.proofs.SoFar.{with_front, one_more, none_more}

-- the whole is what was read and what is left, and so is its length
pub record LostSoFar (venues : ℕ) (front : List ℕ) (left whole : List (List ℕ)) : Type 0 where
  pub read : with_front front (lost_words left) ≡ lost_words whole
  pub count : length front + length left ≡ length whole
  pub few : length front ≤ venues

chosen : (b : Bool) (lost : Option (List ℕ)) → lost ≡ None → (if b then lost else None) ≡ None
chosen true lost none = none
chosen false lost none = refl

-- too many, and none
pub too_many : (venues : ℕ) (front : List ℕ) (word : List ℕ) (left now whole : List (List ℕ)) → left ≡ word ∷ now
    → venues ≤ length front → LostSoFar venues front left whole → few_lost venues whole ≡ None
too_many venues front word left now whole e full so_far =
    let count : length left ≡ length (word ∷ now) = ap length e in
    let more : venues < length whole = omega (arith, count, full, so_far.count) in
    let not_few : (nat_le 1 (length whole) && nat_le (length whole) venues) ≡ false = grind (arith, nat_tests, more) in
    ap (λ (b : Bool). if b then lost_words whole else None) not_few

pub none_lost : (venues : ℕ) (front : List ℕ) (left whole : List (List ℕ)) → left ≡ [] → length front ≡ 0
    → LostSoFar venues front left whole → few_lost venues whole ≡ None
none_lost venues front left whole e none so_far =
    let count : length left ≡ 0 = ap length e in
    let empty : length whole ≡ 0 = omega (arith, count, none, so_far.count) in
    let not_few : (nat_le 1 (length whole) && nat_le (length whole) venues) ≡ false = grind (arith, nat_tests, empty) in
    ap (λ (b : Bool). if b then lost_words whole else None) not_few

-- a word that is no number of lines
pub bad_word : (venues : ℕ) (front : List ℕ) (word : List ℕ) (left now whole : List (List ℕ)) → left ≡ word ∷ now
    → lost_word word ≡ None → LostSoFar venues front left whole → few_lost venues whole ≡ None
bad_word venues front word left now whole e bad so_far =
    let none : lost_words left ≡ None = ap lost_words e ∙ ap (option_and_then (λ first. option_map (λ rest. first ∷ rest) (lost_words now))) bad in
    chosen (nat_le 1 (length whole) && nat_le (length whole) venues) (lost_words whole)
    (sym so_far.read ∙ ap (with_front front) none)

-- a word that is one
pub word_read : (venues : ℕ) (front : List ℕ) (lost : ℕ) (word : List ℕ) (left now whole : List (List ℕ)) → left ≡ word ∷ now
    → lost_word word ≡ Some lost → length front < venues → LostSoFar venues front left whole
    → LostSoFar venues (front ++ lost ∷ []) now whole
word_read venues front lost word left now whole e good few so_far =
    let some : lost_words left ≡ option_map (λ rest. lost ∷ rest) (lost_words now) =
    ap lost_words e ∙ ap (option_and_then (λ first. option_map (λ rest. first ∷ rest) (lost_words now))) good in
    let longer : length (front ++ lost ∷ []) ≡ length front + 1 = length-append front (lost ∷ []) in
    let count : length left ≡ length (word ∷ now) = ap length e in
    record {
      read = sym (one_more front lost (lost_words now)) ∙ ap (with_front front) (sym some) ∙ so_far.read;
      count = omega (arith, longer, count, so_far.count);
      few = omega (arith, longer, few);
    }

-- all of them
pub all_lost : (venues : ℕ) (front : List ℕ) (left whole : List (List ℕ)) → left ≡ [] → 0 < length front
    → LostSoFar venues front left whole → few_lost venues whole ≡ Some front
all_lost venues front left whole e some so_far =
    let count : length left ≡ 0 = ap length e in
    let low : 1 ≤ length whole = omega (arith, count, some, so_far.count) in
    let high : length whole ≤ venues = omega (arith, count, so_far.few, so_far.count) in
    let is_few : (nat_le 1 (length whole) && nat_le (length whole) venues) ≡ true = grind (arith, nat_tests, low, high) in
    ap (λ (b : Bool). if b then lost_words whole else None) is_few
    ∙ sym so_far.read ∙ ap (λ (words : List (List ℕ)). with_front front (lost_words words)) e ∙ none_more front
