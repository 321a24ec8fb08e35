-- A frame as it is written is split off as one message.
use Rattle.std.proofs.Common.{◌≡◌, ℕ, ◌%◌, ◌^◌, ◌<◌, ◌≤◌, eqb, ltb, Bool, true, false, List, [], ◌∷◌, ◌++◌, length, sum, Option, Some, None, refl, sym, ap, ◌∙◌, arith, append_assoc, if◌then◌else◌}
use Rattle.std.specs.Prelude.{IsTrue, not, decimal}
use Rattle.std.specs.Char.{is_ascii_digit}
use Rattle.std.specs.Str.{all_ascii_digits}
use Rattle.std.specs.List.{list_all}
use Rattle.std.proofs.lemmas.Bool.{and_parts, or_parts, eqb-true, eq-eqb, ne_eqb, not-true, leb-true}
use Rattle.std.proofs.lemmas.List.{append-nil}
use Rattle.fix_text.specs.Tagged.{Tagged}
use Rattle.fix_text.specs.Text.{field_text, fields_text, holds_soh, is_writable_tag, is_writable_value, begins_with_type, has_writable_tags, has_writable_values}
use Rattle.fix_text.specs.Frame.{three_digits, header_text, frame_text}
use Rattle.fix_text.specs.Grammar.{digits_number}
use Rattle.fix_text.proofs.Readers.{digit_range}
use Rattle.fix_text.proofs.Rewritten.{decimal_digits, decimal_number, digits_no_soh, holds_soh-append, is_check-three_digits}
use Rattle.day_log.specs.declared.field.Field.{Field}
use Rattle.day_log.specs.declared.field.Field.TheVariants.{Empty, One, Ten, CheckSum, Other}
use Rattle.day_log.specs.Messages.{Split, field_after, is_end, split, split_on, with_message}

-- what is read of the field behind bytes, if no message ends with one of them
abbrev pub goes : Field → List ℕ → Option Field
goes f [] = Some f
goes f (c ∷ cs) = if is_end f c then None else goes (field_after f c) cs

some_is : (f g : Field) → ◌≡◌ {A = Option Field} (Some f) (Some g) → f ≡ g
some_is f g e = cc

goes_append_at : (ends : Bool) (f g : Field) (cs b : List ℕ)
    → ◌≡◌ {A = Option Field} (if ends then None else goes f cs) (Some g)
    → (goes f cs ≡ Some g → goes f (cs ++ b) ≡ goes g b)
    → (if ends then None else goes f (cs ++ b)) ≡ goes g b
goes_append_at true f g cs b e later = absurd cc
goes_append_at false f g cs b e later = later e

goes_append : (f g : Field) (a b : List ℕ) → goes f a ≡ Some g → goes f (a ++ b) ≡ goes g b
goes_append f g [] b e = ap (λ (x : Field). goes x b) (some_is f g e)
goes_append f g (c ∷ cs) b e =
    goes_append_at (is_end f c) (field_after f c) g cs b e (goes_append (field_after f c) g cs b)

-- a field without SOH goes on as it is
goes_other : (cs : List ℕ) → holds_soh cs ≡ false → goes Other cs ≡ Some Other
goes_other [] none = refl
goes_other (c ∷ cs) none = let parts = or_parts (eqb c 1) (holds_soh cs) none in rw parts.0 (goes_other cs parts.1)

goes_check : (cs : List ℕ) → holds_soh cs ≡ false → goes CheckSum cs ≡ Some CheckSum
goes_check [] none = refl
goes_check (c ∷ cs) none = let parts = or_parts (eqb c 1) (holds_soh cs) none in rw parts.0 (goes_check cs parts.1)

-- digits and `=`
spelled : (cs : List ℕ) → IsTrue (all_ascii_digits cs) → goes Other (cs ++ 61 ∷ []) ≡ Some Other
spelled cs digits = goes_other (cs ++ 61 ∷ []) (holds_soh-append cs (61 ∷ []) (digits_no_soh cs digits) refl)

no_soh : (c : ℕ) → IsTrue (is_ascii_digit c) → eqb c 1 ≡ false
no_soh c digit = ne_eqb _ _ (λ (is : c ≡ 1). omega (arith, (digit_range c digit).0))

-- behind `10` and a digit more
behind_ten : (c : ℕ) (cs : List ℕ) → IsTrue (all_ascii_digits (c ∷ cs)) → goes Ten (c ∷ cs ++ 61 ∷ []) ≡ Some Other
behind_ten c cs digits =
    let parts = and_parts (is_ascii_digit c) (all_ascii_digits cs) digits in
    let other : eqb c 61 ≡ false = ne_eqb _ _ (λ (is : c ≡ 61). omega (arith, (digit_range c parts.0).1)) in
    rw (no_soh c parts.0, other) (spelled cs parts.1)

behind_one_at : (is_zero : Bool) (c : ℕ) (cs : List ℕ) → eqb c 48 ≡ is_zero → IsTrue (all_ascii_digits cs)
    → (c ∷ cs ≡ 48 ∷ [] → ⊥) → goes (if is_zero then Ten else Other) (cs ++ 61 ∷ []) ≡ Some Other
behind_one_at true c [] is digits differs = absurd (differs (ap (λ (x : ℕ). x ∷ []) (eqb-true c 48 is)))
behind_one_at true c (d ∷ cs) is digits differs = behind_ten d cs digits
behind_one_at false c cs is digits differs = spelled cs digits

-- behind `1`, unless just `0` follows
behind_one : (cs : List ℕ) → IsTrue (all_ascii_digits cs) → (cs ≡ 48 ∷ [] → ⊥) → goes One (cs ++ 61 ∷ []) ≡ Some Other
behind_one [] digits differs = refl
behind_one (c ∷ cs) digits differs =
    let parts = and_parts (is_ascii_digit c) (all_ascii_digits cs) digits in
    rw (no_soh c parts.0) (behind_one_at (eqb c 48) c cs refl parts.1 differs)

goes_tag_at : (is_one : Bool) (c : ℕ) (cs : List ℕ) → eqb c 49 ≡ is_one → IsTrue (all_ascii_digits cs)
    → (c ∷ cs ≡ 49 ∷ 48 ∷ [] → ⊥) → goes (if is_one then One else Other) (cs ++ 61 ∷ []) ≡ Some Other
goes_tag_at true c cs is digits differs =
    behind_one cs digits (λ (same : cs ≡ 48 ∷ []). differs (ap (λ (x : ℕ). x ∷ cs) (eqb-true c 49 is) ∙ ap (λ (l : List ℕ). 49 ∷ l) same))
goes_tag_at false c cs is digits differs = spelled cs digits

-- the tag of a field, unless it is 10
goes_digits : (cs : List ℕ) → IsTrue (all_ascii_digits cs) → (cs ≡ 49 ∷ 48 ∷ [] → ⊥) → goes Empty (cs ++ 61 ∷ []) ≡ Some Other
goes_digits [] digits differs = refl
goes_digits (c ∷ cs) digits differs =
    let parts = and_parts (is_ascii_digit c) (all_ascii_digits cs) digits in
    rw (no_soh c parts.0) (goes_tag_at (eqb c 49) c cs refl parts.1 differs)

goes_tag : (tag : ℕ) → tag ≤ 999999 → eqb tag 10 ≡ false → goes Empty (decimal tag ++ 61 ∷ []) ≡ Some Other
goes_tag tag few other =
    let small : tag < 2 ^ 64 = omega arith in
    goes_digits (decimal tag) (decimal_digits tag small) (λ (same : decimal tag ≡ 49 ∷ 48 ∷ []).
    let ten : tag ≡ 10 = sym (decimal_number tag small) ∙ ap digits_number same in
    let clash : true ≡ false = sym (eq-eqb tag 10 ten) ∙ other in
    absurd cc)

-- a field as it is written
goes_field : (field : Tagged) → IsTrue (is_writable_tag field.tag) → IsTrue (is_writable_value field.value)
    → goes Empty (field_text field) ≡ Some Empty
goes_field field tag value =
    let not_ten = and_parts _ (not (eqb field.tag 10)) tag in
    let not_nine = and_parts _ (not (eqb field.tag 9)) not_ten.0 in
    let not_eight = and_parts _ (not (eqb field.tag 8)) not_nine.0 in
    let range = and_parts (ltb 0 field.tag) _ not_eight.0 in
    let clean = not-true (holds_soh field.value) (and_parts _ (not (holds_soh field.value)) value).1 in
    let part : goes Empty (decimal field.tag ++ 61 ∷ field.value) ≡ Some Other =
    ap (goes Empty) (sym (append_assoc (decimal field.tag) (61 ∷ []) field.value))
    ∙ goes_append Empty Other (decimal field.tag ++ 61 ∷ []) field.value
    (goes_tag field.tag (leb-true _ _ range.1) (not-true _ not_ten.1))
    ∙ goes_other field.value clean in
    goes_append Empty Other (decimal field.tag ++ 61 ∷ field.value) (1 ∷ []) part

goes_fields : (fields : List Tagged) → IsTrue (list_all (λ field. is_writable_tag field.tag) fields)
    → IsTrue (has_writable_values fields) → goes Empty (fields_text fields) ≡ Some Empty
goes_fields [] tags values = refl
goes_fields (field ∷ fields) tags values =
    let tag = and_parts (is_writable_tag field.tag) (list_all (λ field. is_writable_tag field.tag) fields) tags in
    let value = and_parts (is_writable_value field.value) (has_writable_values fields) values in
    goes_append Empty Empty (field_text field) (fields_text fields) (goes_field field tag.0 value.0)
    ∙ goes_fields fields tag.1 value.1

goes_header : (n : ℕ) → n < 2 ^ 64 → goes Empty (header_text n) ≡ Some Empty
goes_header n small =
    goes_append Other Other (decimal n) (1 ∷ []) (goes_other (decimal n) (digits_no_soh (decimal n) (decimal_digits n small)))

goes_trailer : (n : ℕ) → n < 1000 → goes Empty (49 ∷ 48 ∷ 61 ∷ three_digits n) ≡ Some CheckSum
goes_trailer n small = goes_check (three_digits n) (digits_no_soh (three_digits n) (is_check-three_digits n small).each)

split_goes_at : (ends : Bool) (f g h : Field) (text cs b : List ℕ) (whole : Split)
    → ◌≡◌ {A = Option Field} (if ends then None else goes f cs) (Some g)
    → (goes f cs ≡ Some g → split_on f text (cs ++ b) ≡ whole)
    → (if ends then with_message text (split_on h [] (cs ++ b)) else split_on f text (cs ++ b)) ≡ whole
split_goes_at true f g h text cs b whole e later = absurd cc
split_goes_at false f g h text cs b whole e later = later e

-- bytes in which no message ends are under way
split_goes : (f g : Field) (text a b : List ℕ) → goes f a ≡ Some g → split_on f text (a ++ b) ≡ split_on g (text ++ a) b
split_goes f g text [] b e = rw (some_is f g e, append-nil text) refl
split_goes f g text (c ∷ cs) b e =
    let next = field_after f c in
    split_goes_at (is_end f c) next g Empty (text ++ c ∷ []) cs b _ e
    (λ (goes_on : goes next cs ≡ Some g).
    split_goes next g (text ++ c ∷ []) cs b goes_on
    ∙ ap (λ (t : List ℕ). split_on g t b) (append_assoc text (c ∷ []) cs))

pub frame_splits : (fields : List Tagged) (rest : List ℕ) → IsTrue (has_writable_tags fields)
    → IsTrue (has_writable_values fields) → length (fields_text fields) ≤ 4096
    → split (frame_text fields ++ rest) ≡ with_message (frame_text fields) (split rest)
frame_splits fields rest tags values short =
    let typed = and_parts (begins_with_type fields) (list_all (λ field. is_writable_tag field.tag) fields) tags in
    let body = fields_text fields in
    let header = header_text (length body) in
    let before = header ++ body in
    let n = sum before % 256 in
    let last : List ℕ = 49 ∷ 48 ∷ 61 ∷ three_digits n in
    let front = before ++ last in
    let is : frame_text fields ≡ front ++ 1 ∷ [] = sym (append_assoc before last (1 ∷ [])) in
    let ends : goes Empty front ≡ Some CheckSum =
    goes_append Empty Empty before last
    (goes_append Empty Empty header body (goes_header (length body) (omega (arith, short))) ∙ goes_fields fields typed.1 values)
    ∙ goes_trailer n (omega arith) in
    ap (λ (t : List ℕ). split (t ++ rest)) is
    ∙ ap split (append_assoc front (1 ∷ []) rest)
    ∙ split_goes Empty CheckSum [] front (1 ∷ rest) ends
    ∙ ap (λ (t : List ℕ). with_message t (split rest)) (sym is)
