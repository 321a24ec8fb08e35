-- Lemmas: what holds of an order in any spelling that meets its laws.
use Rattle.std.proofs.Common.{◌≡◌, ◌==◌, ◌⊎◌, inl, inr, ℕ, suc, ◌≤◌, Bool, true, false, cond, ◌&&◌, not, List, [], ◌∷◌, ◌++◌, length, map, codes, decimal, Some, None, Ok, refl, sym, ap, subst, ◌∙◌, arith, length-append, append_assoc}
use Rattle.std.specs.List.{AllByRecursion}
use Rattle.std.proofs.lemmas.Bool.{and_parts, not-true, eq-eqb, cond-true}
use Rattle.std.proofs.lemmas.Bool.Decides.{nat_tests}
use Rattle.fix_text.specs.Tagged.{Tagged, value_of}
use Rattle.fix_tags.specs.Stamp.{StampParts, stamp_text}
use Rattle.leg.specs.declared.leg.Leg.{Leg}
use Rattle.leg.specs.Leg.{IsLeg}
use Rattle.dialect.specs.declared.limit.Limit.{Limit}
use Rattle.dialect.specs.Dialect.{IsMarked, FitsMessage}
use Rattle.dialect.specs.Fields.{field, has_no}
use Rattle.dialect.specs.Lemmas.FieldLaws.{short_field, FitsMessage-beside}
use Rattle.dialect.specs.ShortFields.{IsShortField}
use Rattle.dialect.specs.Lemmas.LimitLaws.{limit_in-written, immediate_in-written}
use Rattle.dialect.specs.Lemmas.ValueLaws.{short_shares, short_side, short_byte, short_stamp}
use Rattle.dialect.specs.Limit.{limit_fields, side_text}
use Rattle.dialect.specs.Time.{immediate_fields}
use Rattle.dialect.specs.Spelling.{SpellingParts, IsSpelling}
use Rattle.dialect.specs.Order.{order_fields, IsOrderOf, order_read_of}

-- a look-up passes over a field of another tag
passed_by : (b : Bool) (tag : ℕ) (first : Tagged) (fields : List Tagged) → (first.tag == tag) ≡ b
    → not (tag == first.tag) ≡ true → value_of (first ∷ fields) tag ≡ value_of fields tag
passed_by true tag first fields e other = absurd (grind (arith, nat_tests))
passed_by false tag first fields e other = ap (λ b. cond b (Some first.value) (value_of fields tag)) e

passed : (tag : ℕ) (first : Tagged) (fields : List Tagged) → not (tag == first.tag) ≡ true
    → value_of (first ∷ fields) tag ≡ value_of fields tag
passed tag first fields other = passed_by (first.tag == tag) tag first fields refl other

-- fields of other tags don't matter, before and behind
value_of-behind : (tag : ℕ) (front back : List Tagged) → has_no tag front ≡ true
    → value_of (front ++ back) tag ≡ value_of back tag
value_of-behind tag [] back none = refl
value_of-behind tag (first ∷ front) back none =
    let parts = and_parts (not (tag == first.tag)) (has_no tag front) none in
    passed tag first (front ++ back) parts.0 ∙ value_of-behind tag front back parts.1

value_of-none : (tag : ℕ) (fields : List Tagged) → has_no tag fields ≡ true → value_of fields tag ≡ None
value_of-none tag [] none = refl
value_of-none tag (first ∷ fields) none =
    let parts = and_parts (not (tag == first.tag)) (has_no tag fields) none in
    passed tag first fields parts.0 ∙ value_of-none tag fields parts.1

value_of-before : (tag : ℕ) (front back : List Tagged) → has_no tag back ≡ true
    → value_of (front ++ back) tag ≡ value_of front tag
value_of-before tag [] back none = value_of-none tag back none
value_of-before tag (first ∷ front) back none =
    ap (λ o. cond (first.tag == tag) (Some first.value) o) (value_of-before tag front back none)

-- which tags stand in fields, by the list of their tags alone
abbrev is_no_tag : ℕ → List ℕ → Bool
is_no_tag tag [] = true
is_no_tag tag (first ∷ tags) = not (tag == first) && is_no_tag tag tags

has_no-tags : (tag : ℕ) (fields : List Tagged) → has_no tag fields ≡ is_no_tag tag (map (λ f. f.tag) fields)
has_no-tags tag [] = refl
has_no-tags tag (first ∷ fields) = ap (λ b. not (tag == first.tag) && b) (has_no-tags tag fields)

length-tags : (fields : List Tagged) → length (map (λ f. f.tag) fields) ≡ length fields
length-tags [] = refl
length-tags (first ∷ fields) = ap suc (length-tags fields)

-- a symbol's fields have the tags 55, and maybe 65
abbrev pub IsSymbolTags : List Tagged → Type 0
IsSymbolTags fields = (map (λ f. f.tag) fields ≡ 55 ∷ []) ⊎ (map (λ f. f.tag) fields ≡ 55 ∷ 65 ∷ [])

symbol_has_no : (tag : ℕ) (fields : List Tagged) → is_no_tag tag (55 ∷ 65 ∷ []) ≡ true → IsSymbolTags fields
    → has_no tag fields ≡ true
symbol_has_no tag fields none (inl tags) = has_no-tags tag fields ∙ ap (is_no_tag tag) tags ∙ grind (arith, nat_tests)
symbol_has_no tag fields none (inr tags) = has_no-tags tag fields ∙ ap (is_no_tag tag) tags ∙ none

length-symbol : (fields : List Tagged) → IsSymbolTags fields → length fields ≤ 2
length-symbol fields (inl tags) = omega (arith, length-tags fields, ap length tags)
length-symbol fields (inr tags) = omega (arith, length-tags fields, ap length tags)

AllByRecursion-append : {A : Type 0} (P : A → Type 0) (xs ys : List A) → AllByRecursion P xs → AllByRecursion P ys
    → AllByRecursion P (xs ++ ys)
AllByRecursion-append P [] ys p q = q
AllByRecursion-append P (x ∷ xs) ys p q = (p.0, AllByRecursion-append P xs ys p.1 q)

-- what stands before a symbol's fields
abbrev order_front : SpellingParts → Leg → List Tagged
order_front s leg =
    field 11 (s.id_text leg.id) ∷ s.mark ∷ []
    ++ limit_fields leg.terms.shares (s.price_text leg.terms.price) leg.terms.side

-- the mark has none of the shared tags
mark_other : (s : SpellingParts) (tag : ℕ) → has_no tag (s.mark ∷ []) ≡ true → not (tag == s.mark.tag) ≡ true
mark_other s tag apart = (and_parts (not (tag == s.mark.tag)) true apart).0

-- the look-ups in a written order
record Looks (s : SpellingParts) (leg : Leg) (stamp : StampParts) (fields : List Tagged) : Type 0 where
  id : value_of fields 11 ≡ Some (s.id_text leg.id)
  mark : value_of fields s.mark.tag ≡ Some s.mark.value
  shares : value_of fields 38 ≡ Some (decimal leg.terms.shares)
  limit : value_of fields 40 ≡ Some (codes "2")
  price : value_of fields 44 ≡ Some (s.price_text leg.terms.price)
  side : value_of fields 54 ≡ Some (side_text leg.terms.side)
  root : value_of fields 55 ≡ value_of (s.symbol_fields leg.terms.symbol) 55
  suffix : value_of fields 65 ≡ value_of (s.symbol_fields leg.terms.symbol) 65
  immediate : value_of fields 59 ≡ Some (codes "3")
  time : value_of fields 60 ≡ Some (stamp_text stamp)

-- the mark is found behind the id
mark_found : (s : SpellingParts) (id : List ℕ) (rest : List Tagged) → not (11 == s.mark.tag) ≡ true
    → value_of (field 11 id ∷ s.mark ∷ rest) s.mark.tag ≡ Some s.mark.value
mark_found s id rest other =
    ap (λ b. cond b (Some id) (value_of (s.mark ∷ rest) s.mark.tag)) (not-true (11 == s.mark.tag) other)
    ∙ cond-true (s.mark.tag == s.mark.tag) (Some s.mark.value) (value_of rest s.mark.tag) (eq-eqb _ _ refl)

-- behind the id and the mark
behind_mark : (s : SpellingParts) (id : List ℕ) (rest : List Tagged) (tag : ℕ) → (11 == tag) ≡ false
    → has_no tag (s.mark ∷ []) ≡ true → value_of (field 11 id ∷ s.mark ∷ rest) tag ≡ value_of rest tag
behind_mark s id rest tag other apart =
    ap (λ b. cond b (Some id) (value_of (s.mark ∷ rest) tag)) other ∙ passed tag s.mark rest (mark_other s tag apart)

looks : (s : SpellingParts) (leg : Leg) (stamp : StampParts) → IsSpelling s
    → Looks s leg stamp (order_fields s leg stamp)
looks s leg stamp laws =
    let apart = laws.mark_apart in
    let id = s.id_text leg.id in
    let limit = limit_fields leg.terms.shares (s.price_text leg.terms.price) leg.terms.side in
    let symbol = s.symbol_fields leg.terms.symbol in
    let last = immediate_fields stamp ++ s.extra in
    let rest = limit ++ symbol ++ last in
    let tags = laws.symbol_tags leg.terms.symbol in
    let free = laws.extra_apart in
    record {
      id = refl;
      mark = mark_found s id rest (mark_other s 11 apart.0);
      shares = behind_mark s id rest 38 refl apart.1.0;
      limit = behind_mark s id rest 40 refl apart.1.1.0;
      price = behind_mark s id rest 44 refl apart.1.1.1.0;
      side = behind_mark s id rest 54 refl apart.1.1.1.1.0;
      root = behind_mark s id rest 55 refl apart.1.1.1.1.1.0 ∙ value_of-before 55 symbol last free.1.1.1.1.1.0;
      suffix = behind_mark s id rest 65 refl apart.1.1.1.1.1.1.0 ∙ value_of-before 65 symbol last free.1.1.1.1.1.1.0;
      immediate = behind_mark s id rest 59 refl apart.1.1.1.1.1.1.1.0
          ∙ value_of-behind 59 symbol last (symbol_has_no 59 symbol refl tags);
      time = behind_mark s id rest 60 refl apart.1.1.1.1.1.1.1.1.0
          ∙ value_of-behind 60 symbol last (symbol_has_no 60 symbol refl tags);
    }

-- what is written is read back
reads_back : (s : SpellingParts) (leg : Leg) (stamp : StampParts) (fields : List Tagged) → IsSpelling s → IsLeg leg
    → Looks s leg stamp fields → order_read_of s fields ≡ Ok leg
unfolding order_read_of
reads_back s leg stamp fields laws range found =
    let terms = range.terms in
    let limit : Limit = record { shares = leg.terms.shares; price = leg.terms.price; side = leg.terms.side } in
    let says = laws.price_reads_back leg.terms.price terms.price in
    let limited = limit_in-written fields limit
    (s.price_text leg.terms.price) terms.shares says found.shares found.limit found.price found.side in
    let symbol = laws.symbol_reads_back leg.terms.symbol fields terms.symbol found.root found.suffix in
    let timed = immediate_in-written fields _ found.immediate found.time in
    rw (found.id, laws.id_reads_back leg.id range.id, laws.mark_is_read fields found.mark, limited, symbol, timed) refl

pub order_back : (s : SpellingParts) (leg : Leg) (stamp : StampParts) (fields : List Tagged) → IsSpelling s
    → IsOrderOf s leg stamp fields → order_read_of s fields ≡ Ok leg
order_back s leg stamp fields laws is =
    ap (order_read_of s) is.written
    ∙ reads_back s leg stamp (order_fields s leg stamp) laws is.leg_in_range (looks s leg stamp laws)

-- it carries the mark, and is immediate or cancel
marked : (s : SpellingParts) (leg : Leg) (stamp : StampParts) → IsSpelling s
    → IsMarked s.mark (order_fields s leg stamp)
marked s leg stamp laws =
    let found = looks s leg stamp laws in record { marked = found.mark; immediate = found.immediate }

pub order_marked : (s : SpellingParts) (leg : Leg) (stamp : StampParts) (fields : List Tagged) → IsSpelling s
    → IsOrderOf s leg stamp fields → IsMarked s.mark fields
order_marked s leg stamp fields laws is =
    subst (IsMarked s.mark) (sym is.written) (marked s leg stamp laws)

-- it has its stamp
pub order_timed : (s : SpellingParts) (leg : Leg) (stamp : StampParts) (fields : List Tagged) → IsSpelling s
    → IsOrderOf s leg stamp fields → value_of fields 60 ≡ Some (stamp_text stamp)
order_timed s leg stamp fields laws is =
    subst (λ (fields : List Tagged). value_of fields 60 ≡ Some (stamp_text stamp)) (sym is.written)
    (looks s leg stamp laws).time

-- it fits a message
short_front : (s : SpellingParts) (leg : Leg) → IsSpelling s → IsLeg leg
    → AllByRecursion IsShortField (order_front s leg)
short_front s leg laws range =
    let terms = range.terms in (
      short_field 11 _ refl (laws.id_short leg.id range.id),
      (
        laws.mark_short,
        (
          short_field 38 _ refl (short_shares leg.terms.shares terms.shares),
          (
            short_field 40 _ refl (short_byte 50 (λ e. omega arith)),
            (
              short_field 44 _ refl (laws.price_short leg.terms.price terms.price),
              (short_field 54 _ refl (short_side leg.terms.side), tt),
            ),
          ),
        ),
      ),
    )

fits : (s : SpellingParts) (leg : Leg) (stamp : StampParts) → IsSpelling s → IsLeg leg
    → FitsMessage (order_fields s leg stamp)
fits s leg stamp laws range =
    let symbol = s.symbol_fields leg.terms.symbol in
    let last : AllByRecursion IsShortField (immediate_fields stamp) =
    (short_field 59 _ refl (short_byte 51 (λ e. omega arith)), (short_field 60 _ refl (short_stamp stamp), tt)) in
    let back = AllByRecursion-append IsShortField symbol (immediate_fields stamp)
    (laws.symbol_short leg.terms.symbol range.terms.symbol) last in
    let shared : List Tagged = order_front s leg ++ (symbol ++ immediate_fields stamp) in
    let all = AllByRecursion-append IsShortField (order_front s leg) (symbol ++ immediate_fields stamp)
    (short_front s leg laws range) back in
    let few = length-symbol symbol (laws.symbol_tags leg.terms.symbol) in
    let ten : length shared ≤ 10 = omega (arith, few, length-append symbol (immediate_fields stamp)) in
    let joined : shared ++ s.extra ≡ order_fields s leg stamp =
    ap (λ xs. order_front s leg ++ xs) (append_assoc symbol (immediate_fields stamp) s.extra) in
    subst FitsMessage joined (FitsMessage-beside shared s.extra all ten laws.extra_short laws.extra_few)

pub order_short : (s : SpellingParts) (leg : Leg) (stamp : StampParts) (fields : List Tagged) → IsSpelling s
    → IsOrderOf s leg stamp fields → FitsMessage fields
order_short s leg stamp fields laws is =
    subst FitsMessage (sym is.written) (fits s leg stamp laws is.leg_in_range)
