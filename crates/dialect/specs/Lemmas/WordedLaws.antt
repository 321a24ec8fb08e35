-- Lemmas: the laws of every table that is taken.
use Rattle.std.proofs.Common.{◌≡◌, ◌==◌, ◌⊎◌, inl, inr, ℕ, zero, suc, ◌+◌, ◌*◌, ◌/◌, ◌<◌, ◌≤◌, Bool, true, false, cond, ◌-◌, ◌&&◌, not, List, [], ◌∷◌, ◌++◌, length, map, take, drop, codes, Option, Some, None, Ok, refl, sym, ap, ap₂, subst, ◌∙◌, arith, length-append, nat_le, nat_lt}
use Rattle.std.specs.List.{All, AllByRecursion, list_all}
use Rattle.std.specs.Option.{option_map_or}
use Rattle.std.proofs.lemmas.Bool.{and_parts, eqb-true, leb-true, ltb-true}
use Rattle.std.proofs.lemmas.Bool.Decides.{nat_tests}
use Rattle.std.proofs.lemmas.List.{take-append-drop}
use Rattle.std.proofs.lemmas.List.Elements.{All-nil, All-cons, All-append, All-take, All-from_recursion}
use Rattle.std.proofs.lemmas.List.{length-take}
use Rattle.fix_tags.specs.Price.{price_short, price_four}
use Rattle.fix_tags.proofs.Written.{HasNoDelimiter-price_four}
use Rattle.std.proofs.lemmas.Nat.{le-div}
use Rattle.std.proofs.lemmas.Option.{option_and_then_some}
use Rattle.std.proofs.lemmas.Slice.Eq.{bytes_eq-Decides}
use Rattle.std.proofs.Math.Nat.{div-mul-le_self}
use Rattle.std.proofs.Math.Seq.{take-append_seam, drop-append-add}
use Rattle.fix_text.specs.Tagged.{Tagged, value_of}
use Rattle.fix_text.specs.Text.{is_writable_tag, is_writable_value}
use Rattle.fix_tags.specs.App.{is_header_tag}
use Rattle.fix_tags.specs.Price.{price_of}
use Rattle.fix_tags.proofs.ReadBack.{price_of-price_short, price_of-price_four}
use Rattle.leg.specs.LegId.{LegIdParts, IsLegId}
use Rattle.leg.specs.Symbol.{SymbolParts, IsSymbol}
use Rattle.leg.specs.Terms.{IsPrice}
use Rattle.dialect.specs.declared.words.IdShape.{IdShape}
use Rattle.dialect.specs.declared.words.IdShape.TheVariants as id
use Rattle.dialect.specs.declared.words.PriceShape.{PriceShape}
use Rattle.dialect.specs.declared.words.PriceShape.TheVariants as price
use Rattle.dialect.specs.declared.words.SymbolShape.{SymbolShape}
use Rattle.dialect.specs.declared.words.SymbolShape.TheVariants as symbol
use Rattle.dialect.specs.declared.words.Extra.{Extra}
use Rattle.dialect.specs.declared.words.Words.{Words}
use Rattle.dialect.specs.Fields.{has_value, is_text, AreIn, has_no, has_each_once}
use Rattle.dialect.specs.Lemmas.FieldLaws.{short_field}
use Rattle.dialect.specs.Mark.{is_among, CarriesMark}
use Rattle.dialect.specs.Lemmas.MarkLaws.{value_passes}
use Rattle.dialect.specs.ShortFields.{IsShortValue, IsShortField, IsExtraField}
use Rattle.dialect.specs.Split.{parts_round}
use Rattle.dialect.specs.Lemmas.SplitLaws.{HasNo, parts_round-joined, parts_round-Some}
use Rattle.dialect.specs.Digits.{digits}
use Rattle.dialect.specs.Lemmas.DigitsLaws.{digits_bytes, length-digits, rest_of}
use Rattle.dialect.specs.FixedId.{fixed_id_of}
use Rattle.dialect.specs.Lemmas.FixedIdLaws.{fixed_id_of-digits, fixed_id_of-Some}
use Rattle.dialect.specs.Lemmas.PlainIdLaws.{plain_id_of-text, plain_id_of-Some}
use Rattle.dialect.specs.Lemmas.PlainLaws.{plain_is_spelling}
use Rattle.dialect.specs.Lemmas.Split4Laws.{split4_is_spelling}
use Rattle.dialect.specs.Lemmas.SymbolLaws.{joined_symbol_back, joined_symbol_says}
use Rattle.dialect.specs.Lemmas.LeastPrice.{least_back}
use Rattle.dialect.specs.Lemmas.ValueLaws.{IsNotSoh, NoSoh, short_value, short_id, short_price, short_price_four, short_symbol}
use Rattle.dialect.specs.Spelling.{SpellingParts, IsSpelling, shared_tags}
use Rattle.dialect.specs.Words.{shaped_id_text, shaped_id_of, shaped_price, shaped_symbol_fields, shaped_symbol_in, mark_of, mark_test, words_spelling, left_of, is_base, is_width, is_part_byte, is_id_shape, is_symbol_shape, is_mark, is_words, is_price_shape, price_least, longer, extra_field, extra_of, is_extra_field, are_extra, spelling_by, worded}

-- a smaller number leaves no more behind a width
div_mono : (k n m : ℕ) → 0 < k → n ≤ m → n / k ≤ m / k
div_mono k n m some le = let below = div-mul-le_self n k in le-div (n / k) m k some (omega (arith, below))

rest_mono : (base width n m : ℕ) → 0 < base → n ≤ m → rest_of base width n ≤ rest_of base width m
rest_mono base zero n m some le = le
rest_mono base (suc width) n m some le = rest_mono base width (n / base) (m / base) some (div_mono base n m some le)

left_is : (base width n : ℕ) → left_of base width n ≡ rest_of base width n
left_is base zero n = refl
left_is base (suc width) n = left_is base width (n / base)

-- what is known of a base and a width
pub record IsRoom (base width : ℕ) : Type 0 where
  pub low : 2 ≤ base
  pub high : base ≤ 16
  pub short : width ≤ 21
  pub sweeps : rest_of base width 999_999_999_999 ≡ 0
  pub places : rest_of base 2 32 ≡ 0

room : (base width : ℕ) → is_base base ≡ true → is_width base width ≡ true → IsRoom base width
room base width b w =
    let base_parts = and_parts (nat_le 2 base) (nat_le base 16 && left_of base 2 32 == 0) b in
    let base_more = and_parts (nat_le base 16) (left_of base 2 32 == 0) base_parts.1 in
    let width_parts = and_parts (nat_le width 21) (left_of base width 999_999_999_999 == 0) w in
    record {
      low = leb-true 2 base base_parts.0;
      high = leb-true base 16 base_more.0;
      short = leb-true width 21 width_parts.0;
      sweeps = sym (left_is base width 999_999_999_999) ∙ eqb-true _ 0 width_parts.1;
      places = sym (left_is base 2 32) ∙ eqb-true _ 0 base_more.1;
    }

sweep_fits : (base width : ℕ) (i : LegIdParts) → IsRoom base width → IsLegId i → rest_of base width i.sweep ≡ 0
sweep_fits base width i r range =
    let below = rest_mono base width i.sweep 999_999_999_999 (omega (arith, r.low)) range.sweep_high in
    omega (arith, below, r.sweeps)

place_fits : (base width : ℕ) (i : LegIdParts) → IsRoom base width → IsLegId i → rest_of base 2 i.place ≡ 0
place_fits base width i r range =
    let below = rest_mono base 2 i.place 32 (omega (arith, r.low)) range.place_high in
    omega (arith, below, r.places)

-- a separator
record IsPart (c : ℕ) : Type 0 where
  low : 32 < c
  high : c < 48

part : (c : ℕ) → is_part_byte c ≡ true → IsPart c
part c e =
    let parts = and_parts (nat_lt 32 c) (nat_lt c 48) e in
    record { low = ltb-true 32 c parts.0; high = ltb-true c 48 parts.1 }

none_of : (base width n separator : ℕ) → IsRoom base width → IsPart separator → (w : ℕ) → HasNo separator (digits base w n)
none_of base width n separator r p w = λ k d within.
    let byte = digits_bytes base w n r.low r.high k d within in
    let high = p.high in
    grind (arith, nat_tests)

-- what is known of the shapes that are taken
pub room_parted : (base width separator : ℕ) → is_id_shape (id.Parted base width separator) ≡ true
    → IsRoom base width
unfolding is_id_shape
room_parted base width separator ok =
    let parts = and_parts (is_base base) (is_width base width && is_part_byte separator) ok in
    let more = and_parts (is_width base width) (is_part_byte separator) parts.1 in
    room base width parts.0 more.0

pub room_joined : (base width : ℕ) → is_id_shape (id.Joined base width) ≡ true → IsRoom base width
unfolding is_id_shape
room_joined base width ok =
    let parts = and_parts (is_base base) (is_width base width) ok in room base width parts.0 parts.1

-- a leg's number is read back
pub shaped_id_back : (shape : IdShape) (i : LegIdParts) → is_id_shape shape ≡ true → IsLegId i
    → shaped_id_of shape (shaped_id_text shape i) ≡ Some i
unfolding is_id_shape shaped_id_of shaped_id_text
shaped_id_back id.Short i ok range = plain_id_of-text i range
shaped_id_back (id.Parted base width separator) i ok range =
    let parts = and_parts (is_base base) (is_width base width && is_part_byte separator) ok in
    let more = and_parts (is_width base width) (is_part_byte separator) parts.1 in
    let r = room base width parts.0 more.0 in
    rw (parts_round-joined separator (digits base width i.sweep) (digits base 2 i.place)
    (none_of base width i.sweep separator r (part separator more.1) width))
    (fixed_id_of-digits base width i r.low r.high range (sweep_fits base width i r range)
    (place_fits base width i r range))
shaped_id_back (id.Joined base width) i ok range =
    let parts = and_parts (is_base base) (is_width base width) ok in
    let r = room base width parts.0 parts.1 in
    let front = digits base width i.sweep in
    let back = digits base 2 i.place in
    let long : length front ≡ width = length-digits base width i.sweep in
    let taken : take width (front ++ back) ≡ front =
    ap (λ w. take w (front ++ back)) (sym long) ∙ take-append_seam front back in
    let ahead : width ≡ length front + 0 = omega (arith, long) in
    let dropped : drop width (front ++ back) ≡ back =
    ap (λ w. drop w (front ++ back)) ahead ∙ drop-append-add front back 0 in
    ap₂ (λ xs ys. fixed_id_of base width xs ys) taken dropped
    ∙ fixed_id_of-digits base width i r.low r.high range (sweep_fits base width i r range)
    (place_fits base width i r range)

-- and nothing else is
pub shaped_id_says : (shape : IdShape) (text : List ℕ) (i : LegIdParts) → is_id_shape shape ≡ true
    → shaped_id_of shape text ≡ Some i → IsLegId i × (text ≡ shaped_id_text shape i)
unfolding is_id_shape shaped_id_of shaped_id_text
shaped_id_says id.Short text i ok e = plain_id_of-Some text i e
shaped_id_says (id.Parted base width separator) text i ok e =
    let parts = and_parts (is_base base) (is_width base width && is_part_byte separator) ok in
    let more = and_parts (is_width base width) (is_part_byte separator) parts.1 in
    let r = room base width parts.0 more.0 in
    option_and_then_some _ (parts_round separator text) i e (λ round is read.
    let known = fixed_id_of-Some base width round.0 round.1 i r.low r.high read in (
      known.in_range,
      parts_round-Some separator text round is
          ∙ ap₂ (λ xs ys. xs ++ separator ∷ ys) (sym known.sweep_is) (sym known.place_is),
    ))
shaped_id_says (id.Joined base width) text i ok e =
    let parts = and_parts (is_base base) (is_width base width) ok in
    let r = room base width parts.0 parts.1 in
    let known = fixed_id_of-Some base width (take width text) (drop width text) i r.low r.high e in
    (known.in_range, sym (take-append-drop width text) ∙ ap₂ (λ xs ys. xs ++ ys) (sym known.sweep_is) (sym known.place_is))

-- and it is short
no_soh : (base w n : ℕ) → 2 ≤ base → base ≤ 16 → NoSoh (digits base w n)
no_soh base w n low high = λ k d within. let byte = digits_bytes base w n low high k d within in λ e. omega arith

pub shaped_id_short : (shape : IdShape) (i : LegIdParts) → is_id_shape shape ≡ true → IsLegId i
    → IsShortValue (shaped_id_text shape i)
unfolding is_id_shape shaped_id_text
shaped_id_short id.Short i ok range = short_id i range
shaped_id_short (id.Parted base width separator) i ok range =
    let parts = and_parts (is_base base) (is_width base width && is_part_byte separator) ok in
    let more = and_parts (is_width base width) (is_part_byte separator) parts.1 in
    let r = room base width parts.0 more.0 in
    let p = part separator more.1 in
    let front = digits base width i.sweep in
    let back = digits base 2 i.place in
    let whole = length-append front (separator ∷ back) in
    short_value (front ++ separator ∷ back) (omega (arith, whole))
    (omega (arith, whole, length-digits base width i.sweep, length-digits base 2 i.place, r.short))
    (All-append IsNotSoh front (separator ∷ back) (no_soh base width i.sweep r.low r.high)
    (All-cons IsNotSoh separator back (λ e. omega (arith, p.low)) (no_soh base 2 i.place r.low r.high)))
shaped_id_short (id.Joined base width) i ok range =
    let parts = and_parts (is_base base) (is_width base width) ok in
    let r = room base width parts.0 parts.1 in
    let front = digits base width i.sweep in
    let back = digits base 2 i.place in
    let whole = length-append front back in
    let long = length-digits base 2 i.place in
    short_value (front ++ back) (omega (arith, whole, long))
    (omega (arith, whole, length-digits base width i.sweep, long, r.short))
    (All-append IsNotSoh front back (no_soh base width i.sweep r.low r.high) (no_soh base 2 i.place r.low r.high))

-- the mark
list_all_each : {A : Type 0} (p : A → Bool) (xs : List A) → list_all p xs ≡ true → AllByRecursion (λ x. p x ≡ true) xs
list_all_each p [] e = tt
list_all_each p (x ∷ xs) e =
    let parts = and_parts (p x) (list_all p xs) e in
    (parts.0, list_all_each p xs parts.1)

pub record IsTaken (mark : Tagged) : Type 0 where
  pub short : IsShortField mark
  pub apart : AllByRecursion (λ tag. has_no tag (mark ∷ []) ≡ true) shared_tags
  pub among : is_among mark.value mark.value ≡ true
  pub few : length mark.value ≤ 24

pub taken : (mark : Tagged) → is_mark mark ≡ true → IsTaken mark
unfolding is_mark
taken mark ok =
    let first = and_parts (is_writable_tag mark.tag && not (is_header_tag mark.tag))
    (list_all (λ tag. has_no tag (mark ∷ [])) shared_tags
    && (is_writable_value mark.value && (nat_le (length mark.value) 24 && is_among mark.value mark.value))) ok in
    let second = and_parts (list_all (λ tag. has_no tag (mark ∷ [])) shared_tags)
    (is_writable_value mark.value && (nat_le (length mark.value) 24 && is_among mark.value mark.value)) first.1 in
    let third = and_parts (is_writable_value mark.value)
    (nat_le (length mark.value) 24 && is_among mark.value mark.value) second.1 in
    let last = and_parts (nat_le (length mark.value) 24) (is_among mark.value mark.value) third.1 in
    let below = leb-true (length mark.value) 24 last.0 in
    record {
      short = record { tag = first.0; value = record { writable = third.0; short = omega (arith, below) } };
      apart = list_all_each (λ tag. has_no tag (mark ∷ [])) shared_tags second.0;
      among = last.1;
      few = below;
    }

test_itself : (among : Bool) (value : List ℕ) → is_among value value ≡ true → mark_test among value value ≡ true
test_itself true value is = is
test_itself false value is = (bytes_eq-Decides value value).1 refl

test_says : (among : Bool) (value text : List ℕ) → is_among value value ≡ true → mark_test among value text ≡ true
    → is_among value text ≡ true
test_says true value text is e = e
test_says false value text is e =
    let same : text ≡ value = (bytes_eq-Decides text value).0 e in ap (is_among value) same ∙ is

mark_read : (w : Words) (fields : List Tagged) → is_mark (mark_of w) ≡ true
    → value_of fields w.mark_tag ≡ Some w.mark_value.items
    → has_value (mark_test w.mark_among w.mark_value.items) fields w.mark_tag ≡ true
mark_read w fields ok there =
    ap (λ o. option_map_or (mark_test w.mark_among w.mark_value.items) o false) there
    ∙ test_itself w.mark_among w.mark_value.items (taken (mark_of w) ok).among

mark_there : (w : Words) (fields : List Tagged) → is_mark (mark_of w) ≡ true
    → has_value (mark_test w.mark_among w.mark_value.items) fields w.mark_tag ≡ true → CarriesMark (mark_of w) fields
mark_there w fields ok is =
    let found = value_passes (mark_test w.mark_among w.mark_value.items) (value_of fields w.mark_tag) is in
    record {
      text = found.0;
      there = found.1;
      among = test_says w.mark_among w.mark_value.items found.0 (taken (mark_of w) ok).among found.2;
    }

-- a price
NoSoh-take : (n : ℕ) (text : List ℕ) → NoSoh text → NoSoh (take n text)
NoSoh-take n text none = All-take IsNotSoh n text none

short_longer : (b : Bool) (text other : List ℕ) → nat_lt (length text) (length other) ≡ b → IsShortValue text
    → (length text < length other → IsShortValue other) → IsShortValue (cond b other text)
short_longer true text other is first second = second (ltb-true (length text) (length other) is)
short_longer false text other is first second = first

short_least : (least p : ℕ) → IsPrice p → IsShortValue (price_least least p)
short_least least p range =
    let four = price_four p in
    let n = length four - (4 - least) in
    short_longer (nat_lt (length (price_short p)) (length (take n four))) (price_short p) (take n four) refl
    (short_price p range)
    (λ longer. short_value (take n four) (omega (arith, longer))
    (omega (arith, length-take n four, (short_price_four p range).short))
    (NoSoh-take n four (All-from_recursion IsNotSoh _ (HasNoDelimiter-price_four p (omega (arith, range.high))))))

-- a price
price_back : (shape : PriceShape) (p : ℕ) → is_price_shape shape ≡ true → IsPrice p
    → price_of (shaped_price shape p) ≡ Some p
unfolding shaped_price is_price_shape
price_back price.Short p ok range = price_of-price_short p range.low range.high
price_back price.Four p ok range = price_of-price_four p range.low range.high
price_back (price.Least more) p ok range = least_back more p (leb-true more 3 ok) range.low range.high

price_is_short : (shape : PriceShape) (p : ℕ) → is_price_shape shape ≡ true → IsPrice p
    → IsShortValue (shaped_price shape p)
unfolding shaped_price is_price_shape
price_is_short price.Short p ok range = short_price p range
price_is_short price.Four p ok range = short_price_four p range
price_is_short (price.Least more) p ok range = short_least (suc more) p range

-- a symbol
symbol_tags : (shape : SymbolShape) (s : SymbolParts)
    → (map (λ f. f.tag) (shaped_symbol_fields shape s) ≡ 55 ∷ [])
    ⊎ (map (λ f. f.tag) (shaped_symbol_fields shape s) ≡ 55 ∷ 65 ∷ [])
unfolding shaped_symbol_fields
symbol_tags (symbol.Joined separator) s = inl refl
symbol_tags symbol.Parted s = split4_is_spelling.symbol_tags s

symbol_short : (shape : SymbolShape) (s : SymbolParts) → is_symbol_shape shape ≡ true → IsSymbol s
    → AllByRecursion IsShortField (shaped_symbol_fields shape s)
unfolding shaped_symbol_fields is_symbol_shape
symbol_short (symbol.Joined separator) s ok range =
    let low = (part separator ok).low in
    (short_field 55 _ refl (short_symbol separator s (λ e. omega (arith, low)) range), tt)
symbol_short symbol.Parted s ok range = split4_is_spelling.symbol_short s range

symbol_back : (shape : SymbolShape) (s : SymbolParts) (fields : List Tagged) → is_symbol_shape shape ≡ true
    → IsSymbol s → value_of fields 55 ≡ value_of (shaped_symbol_fields shape s) 55
    → value_of fields 65 ≡ value_of (shaped_symbol_fields shape s) 65 → shaped_symbol_in shape fields ≡ Ok s
unfolding shaped_symbol_fields shaped_symbol_in is_symbol_shape
symbol_back (symbol.Joined separator) s fields ok range root suffix =
    let high = (part separator ok).high in
    joined_symbol_back separator s fields (omega (arith, high)) range root
symbol_back symbol.Parted s fields ok range root suffix =
    split4_is_spelling.symbol_reads_back s fields range root suffix

symbol_says : (shape : SymbolShape) (s : SymbolParts) (fields : List Tagged) → shaped_symbol_in shape fields ≡ Ok s
    → AreIn fields (shaped_symbol_fields shape s)
unfolding shaped_symbol_fields shaped_symbol_in
symbol_says (symbol.Joined separator) s fields e = joined_symbol_says separator s fields e
symbol_says symbol.Parted s fields e = split4_is_spelling.symbol_says s fields e

-- the fields that every order carries besides
pub record AreBeside (mark : ℕ) (fields : List Tagged) : Type 0 where
  pub few : length fields ≤ 16
  pub short : AllByRecursion IsExtraField fields
  pub apart : AllByRecursion (λ tag. has_no tag fields ≡ true) shared_tags
  pub unmarked : has_no mark fields ≡ true
  pub once : has_each_once fields ≡ true

each_short : (fields : List Tagged) → list_all is_extra_field fields ≡ true → AllByRecursion IsExtraField fields
each_short [] e = tt
each_short (f ∷ fields) e =
    let parts = and_parts (is_extra_field f) (list_all is_extra_field fields) e in
    let first = and_parts (is_writable_tag f.tag && not (is_header_tag f.tag))
    (is_writable_value f.value && nat_le (length f.value) 24) parts.0 in
    let last = and_parts (is_writable_value f.value) (nat_le (length f.value) 24) first.1 in
    (record { tag = first.0; writable = last.0; short = leb-true (length f.value) 24 last.1 }, each_short fields parts.1)

pub beside : (mark : ℕ) (fields : List Tagged) → are_extra mark fields ≡ true → AreBeside mark fields
unfolding are_extra
beside mark fields ok =
    let a = and_parts (nat_le (length fields) 16) (list_all is_extra_field fields
    && (list_all (λ tag. has_no tag fields) shared_tags && (has_no mark fields && has_each_once fields))) ok in
    let b = and_parts (list_all is_extra_field fields)
    (list_all (λ tag. has_no tag fields) shared_tags && (has_no mark fields && has_each_once fields)) a.1 in
    let c = and_parts (list_all (λ tag. has_no tag fields) shared_tags)
    (has_no mark fields && has_each_once fields) b.1 in
    let d = and_parts (has_no mark fields) (has_each_once fields) c.1 in
    record {
      few = leb-true (length fields) 16 a.0;
      short = each_short fields b.0;
      apart = list_all_each (λ tag. has_no tag fields) shared_tags c.0;
      unmarked = d.0;
      once = d.1;
    }

pub extra_values : (es : List Extra) → AllByRecursion IsExtraField (map extra_field es)
    → AllByRecursion (λ (e : Extra). length e.value.items ≤ 24) es
extra_values [] short = tt
extra_values (e ∷ es) short = (short.0.short, extra_values es short.1)

-- every table that is taken
pub record AreTaken (w : Words) : Type 0 where
  pub id : is_id_shape w.id ≡ true
  pub mark : is_mark (mark_of w) ≡ true
  pub symbol : is_symbol_shape w.symbol ≡ true
  pub price : is_price_shape w.price ≡ true
  pub extra : are_extra w.mark_tag (extra_of w) ≡ true

pub are_taken : (w : Words) → is_words w ≡ true → AreTaken w
unfolding is_words
are_taken w ok =
    let first = and_parts (is_id_shape w.id)
    (is_mark (mark_of w) && (is_symbol_shape w.symbol && (is_price_shape w.price && are_extra w.mark_tag (extra_of w)))) ok in
    let more = and_parts (is_mark (mark_of w)) (is_symbol_shape w.symbol && (is_price_shape w.price && are_extra w.mark_tag (extra_of w))) first.1 in
    let last = and_parts (is_symbol_shape w.symbol) (is_price_shape w.price && are_extra w.mark_tag (extra_of w)) more.1 in
    let end = and_parts (is_price_shape w.price) (are_extra w.mark_tag (extra_of w)) last.1 in
    record { id = first.0; mark = more.0; symbol = last.0; price = end.0; extra = end.1 }

pub words_are_spelling : (w : Words) → is_words w ≡ true → IsSpelling (words_spelling w)
words_are_spelling w ok =
    let t = are_taken w ok in
    record {
      id_reads_back = λ i range. shaped_id_back w.id i t.id range;
      id_says = λ text i e. shaped_id_says w.id text i t.id e;
      id_short = λ i range. shaped_id_short w.id i t.id range;
      mark_is_read = λ fields there. mark_read w fields t.mark there;
      mark_is_there = λ fields is. mark_there w fields t.mark is;
      mark_short = (taken (mark_of w) t.mark).short;
      mark_apart = (taken (mark_of w) t.mark).apart;
      price_reads_back = λ p range. price_back w.price p t.price range;
      price_short = λ p range. price_is_short w.price p t.price range;
      symbol_tags = λ s. symbol_tags w.symbol s;
      symbol_short = λ s range. symbol_short w.symbol s t.symbol range;
      symbol_reads_back = λ s fields range root suffix. symbol_back w.symbol s fields t.symbol range root suffix;
      symbol_says = λ s fields e. symbol_says w.symbol s fields e;
      extra_few = (beside w.mark_tag (extra_of w) t.extra).few;
      extra_short = (beside w.mark_tag (extra_of w) t.extra).short;
      extra_apart = (beside w.mark_tag (extra_of w) t.extra).apart;
      extra_unmarked = (beside w.mark_tag (extra_of w) t.extra).unmarked;
      extra_once = (beside w.mark_tag (extra_of w) t.extra).once;
    }

by_test : (b : Bool) (w : Words) → is_words w ≡ b → IsSpelling (spelling_by b w)
by_test true w is = words_are_spelling w is
by_test false w is = plain_is_spelling

pub worded_is_spelling : (w : Words) → IsSpelling (worded w)
worded_is_spelling w = by_test (is_words w) w refl

-- of a table that is taken its own spelling is meant
pub worded_is : (w : Words) → is_words w ≡ true → worded w ≡ words_spelling w
worded_is w ok = ap (λ b. spelling_by b w) ok
