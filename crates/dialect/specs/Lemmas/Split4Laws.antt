-- Lemmas: the laws of the dialect Split4.
use Rattle.std.proofs.Common.{◌≡◌, ◌⊎◌, inl, inr, ℕ, ◌≤◌, List, [], ◌∷◌, ◌++◌, length, map, Option, Some, None, Ok, refl, sym, ap, ap₂, subst, ◌∙◌, arith, length-append}
use Rattle.std.specs.List.{All, AllByRecursion}
use Rattle.std.specs.Option.{ok_or}
use Rattle.std.specs.Result.{result_ok}
use Rattle.std.proofs.lemmas.Bool.Decides.{nat_tests}
use Rattle.std.proofs.lemmas.List.Elements.{All-nil, All-cons, All-append}
use Rattle.std.proofs.lemmas.Option.{option_and_then_some}
use Rattle.fix_text.specs.Tagged.{Tagged, value_of}
use Rattle.fix_tags.proofs.ReadBack.{price_of-price_four}
use Rattle.leg.specs.LegId.{LegIdParts, IsLegId}
use Rattle.leg.specs.Symbol.{SymbolParts, IsLetter, IsSymbol, symbol_of}
use Rattle.leg.proofs.InRange.{symbol_of-parts, symbol_of-Ok}
use Rattle.dialect.specs.declared.fault.DialectFault.TheVariants.{Bad}
use Rattle.dialect.specs.Fields.{required_as, AreIn}
use Rattle.dialect.specs.Lemmas.FieldLaws.{short_field}
use Rattle.dialect.specs.ShortFields.{IsShortValue, IsShortField}
use Rattle.dialect.specs.Lemmas.StepLaws.{step, was_some, same_ok, required_as-Ok}
use Rattle.dialect.specs.Split.{parts_round}
use Rattle.dialect.specs.Lemmas.SplitLaws.{HasNo, parts_round-joined, parts_round-Some}
use Rattle.dialect.specs.Digits.{digits}
use Rattle.dialect.specs.Lemmas.DigitsLaws.{digits_bytes, length-digits}
use Rattle.dialect.specs.Lemmas.FixedIdLaws.{fixed_id_of-digits, fixed_id_of-Some}
use Rattle.dialect.specs.Lemmas.SymbolLaws.{was_ok}
use Rattle.dialect.specs.Lemmas.ValueLaws.{IsNotSoh, NoSoh, short_value, short_price_four, short_letters}
use Rattle.dialect.specs.Lemmas.MarkLaws.{sweep_mark_read, sweep_mark_there, short_sweep_mark}
use Rattle.dialect.specs.Spelling.{IsSpelling}
use Rattle.dialect.specs.Split4.{split4, split4_id_text, split4_id_of, suffix_fields, split4_symbol_fields, root_of, with_suffix, split4_symbol_in}

-- a leg's number
no_dash : (width n : ℕ) → HasNo 45 (digits 10 width n)
no_dash width n = λ k d within. let byte = digits_bytes 10 width n (omega arith) (omega arith) k d within in
    grind (arith, nat_tests)

id_back : (id : LegIdParts) → IsLegId id → split4_id_of (split4_id_text id) ≡ Some id
unfolding split4_id_of split4_id_text
id_back id range =
    rw (parts_round-joined 45 (digits 10 12 id.sweep) (digits 10 2 id.place) (no_dash 12 id.sweep))
    (fixed_id_of-digits 10 12 id (omega arith) (omega arith) range (omega (arith, range.sweep_high))
    (omega (arith, range.place_high)))

id_says : (text : List ℕ) (id : LegIdParts) → split4_id_of text ≡ Some id → IsLegId id × (text ≡ split4_id_text id)
unfolding split4_id_of split4_id_text
id_says text id e =
    option_and_then_some _ (parts_round 45 text) id e (λ parts round read.
    let is = fixed_id_of-Some 10 12 parts.0 parts.1 id (omega arith) (omega arith) read in (
      is.in_range,
      parts_round-Some 45 text parts round
          ∙ ap₂ (λ xs ys. xs ++ 45 ∷ ys) (sym is.sweep_is) (sym is.place_is),
    ))

no_soh : (width n : ℕ) → NoSoh (digits 10 width n)
no_soh width n = λ k d within. let byte = digits_bytes 10 width n (omega arith) (omega arith) k d within in
    λ e. omega arith

short_id : (id : LegIdParts) → IsLegId id → IsShortValue (split4_id_text id)
unfolding split4_id_text
short_id id range =
    let front = digits 10 12 id.sweep in
    let back = digits 10 2 id.place in
    let whole = length-append front (45 ∷ back) in
    short_value (split4_id_text id) (omega (arith, whole))
    (omega (arith, whole, length-digits 10 12 id.sweep, length-digits 10 2 id.place))
    (All-append IsNotSoh front (45 ∷ back) (no_soh 12 id.sweep)
    (All-cons IsNotSoh 45 back (λ e. omega arith) (no_soh 2 id.place)))

-- a symbol in two fields
tags_by : (root suffix : List ℕ)
    → (map (λ f. f.tag) (split4_symbol_fields (record { root = root; suffix = suffix })) ≡ 55 ∷ []) ⊎
    (map (λ f. f.tag) (split4_symbol_fields (record { root = root; suffix = suffix })) ≡ 55 ∷ 65 ∷ [])
tags_by root [] = inl refl
tags_by root (c ∷ cs) = inr refl

short_suffix : (suffix : List ℕ) → All IsLetter suffix → length suffix ≤ 3
    → AllByRecursion IsShortField (suffix_fields suffix)
short_suffix [] letters few = tt
short_suffix (c ∷ cs) letters few =
    (short_field 65 _ refl (short_letters (c ∷ cs) letters (omega arith) (omega arith)), tt)

short_symbol : (symbol : SymbolParts) → IsSymbol symbol → AllByRecursion IsShortField (split4_symbol_fields symbol)
short_symbol symbol range =
    let root = range.root in (
      short_field 55 _ refl (short_letters symbol.root root.letters root.some root.short),
      short_suffix symbol.suffix range.suffix.letters range.suffix.short,
    )

-- the root alone is a symbol
root_back : (symbol : SymbolParts) → IsSymbol symbol
    → root_of symbol.root ≡ Some (record { root = symbol.root; suffix = [] })
root_back symbol range =
    let alone : SymbolParts = record { root = symbol.root; suffix = [] } in
    let in_range : IsSymbol alone =
    record { root = range.root; suffix = record { short = omega arith; letters = All-nil IsLetter } } in
    ap result_ok (symbol_of-parts alone in_range)

suffix_back : (root suffix : List ℕ) → IsSymbol (record { root = root; suffix = suffix })
    → with_suffix (record { root = root; suffix = [] }) (value_of (suffix_fields suffix) 65) ≡ Ok
    (record { root = root; suffix = suffix })
suffix_back root [] range = refl
suffix_back root (c ∷ cs) range =
    ap (λ r. ok_or (result_ok r) (Bad 65)) (symbol_of-parts (record { root = root; suffix = c ∷ cs }) range)

symbol_back : (symbol : SymbolParts) (fields : List Tagged) → IsSymbol symbol
    → value_of fields 55 ≡ value_of (split4_symbol_fields symbol) 55
    → value_of fields 65 ≡ value_of (split4_symbol_fields symbol) 65 → split4_symbol_in fields ≡ Ok symbol
unfolding split4_symbol_in
symbol_back symbol fields range root suffix =
    rw (root, root_back symbol range, suffix) (suffix_back symbol.root symbol.suffix range)

-- fields that hold the root, and the suffix where there is one
symbol_are : (fields : List Tagged) (symbol : SymbolParts) (suffix : List ℕ) → symbol.suffix ≡ suffix
    → value_of fields 55 ≡ Some symbol.root → AreIn fields (suffix_fields suffix)
    → AreIn fields (split4_symbol_fields symbol)
symbol_are fields symbol suffix is root are =
    (root, subst (λ xs. AreIn fields (suffix_fields xs)) (sym is) are)

symbol_says_by : (fields : List Tagged) (text : List ℕ) (alone symbol : SymbolParts) (o : Option (List ℕ))
    → value_of fields 55 ≡ Some text → symbol_of text [] ≡ Ok alone → value_of fields 65 ≡ o
    → with_suffix alone o ≡ Ok symbol → AreIn fields (split4_symbol_fields symbol)
symbol_says_by fields text alone symbol None there is sfx e =
    let made = symbol_of-Ok text [] alone is in
    let same = same_ok alone symbol e in
    subst (λ (s : SymbolParts). AreIn fields (split4_symbol_fields s)) same
    (symbol_are fields alone [] made.suffix_is (there ∙ ap Some (sym made.root_is)) tt)
symbol_says_by fields text alone symbol (Some []) there is sfx e = cc
symbol_says_by fields text alone symbol (Some (c ∷ cs)) there is sfx e =
    let root = symbol_of-Ok text [] alone is in
    let made = symbol_of-Ok alone.root (c ∷ cs) symbol (was_ok _ symbol (was_some _ _ symbol e)) in
    symbol_are fields symbol (c ∷ cs) made.suffix_is (there ∙ ap Some (sym (made.root_is ∙ root.root_is))) (sfx, tt)

symbol_says : (symbol : SymbolParts) (fields : List Tagged) → split4_symbol_in fields ≡ Ok symbol
    → AreIn fields (split4_symbol_fields symbol)
unfolding split4_symbol_in
symbol_says symbol fields e =
    step _ (required_as root_of fields 55) symbol e (λ alone first more.
    let read = required_as-Ok root_of fields 55 alone first in
    symbol_says_by fields read.text alone symbol (value_of fields 65) read.there
    (was_ok _ alone read.reads_as) refl more)

pub split4_is_spelling : IsSpelling split4
split4_is_spelling = record {
  id_reads_back = id_back;
  id_says = id_says;
  id_short = short_id;
  mark_is_read = sweep_mark_read;
  mark_is_there = sweep_mark_there;
  mark_short = short_sweep_mark;
  mark_apart = (refl, (refl, (refl, (refl, (refl, (refl, (refl, (refl, (refl, tt)))))))));
  price_reads_back = λ price range. price_of-price_four price range.low range.high;
  price_short = short_price_four;
  symbol_tags = λ symbol. tags_by symbol.root symbol.suffix;
  symbol_short = short_symbol;
  symbol_reads_back = symbol_back;
  symbol_says = symbol_says;
  extra_few = omega arith;
  extra_short = tt;
  extra_apart = (refl, (refl, (refl, (refl, (refl, (refl, (refl, (refl, (refl, tt)))))))));
  extra_unmarked = refl;
  extra_once = refl;
}
