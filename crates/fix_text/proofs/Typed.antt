-- That the first field of a body is MsgType (35): its first bytes say so.
use Rattle.std.proofs.Common.{◌≡◌, ℕ, ◌+◌, Bool, true, false, cond, eqb, List, [], ◌∷◌, ◌++◌, drop, Option, Some, None, refl, sym, ap, ◌∙◌, arith, inl, inr}
use Rattle.std.specs.Prelude.{slice_range, decimal}
use Rattle.std.specs.Fmt.{digits}
use Rattle.std.specs.List.{starts_with}
use Rattle.std.specs.Option.{option_and_then}
use Rattle.std.proofs.lemmas.Bool.{and_parts, cases_Bool, cases_eq, eqb-true, eq-eqb, ne_eqb}
use Rattle.fix_text.specs.Tagged.{Tagged}
use Rattle.fix_text.specs.Text.{holds_soh}
use Rattle.fix_text.specs.Reading.{field_from, field_of, fields_of, fields_of_parts, parts_of, with_field, if_typed, typed_fields}
use Rattle.fix_text.proofs.FieldLists.{fields_of-part, fields_of-none, not_fields}
use Rattle.fix_text.proofs.FieldTexts.{some_is, field_of-takes}
use Rattle.fix_text.proofs.Parts.{separators, first_part, no_part}

-- `35=` stands at the front
abbrev pub begins_typed : List ℕ → Bool
begins_typed bytes = starts_with eqb bytes (51 ∷ 53 ∷ 61 ∷ [])

false_not_true : false ≡ true → ⊥
false_not_true e = cc

no_choice : (b : Bool) → ◌≡◌ {A = Option (List Tagged)} None (cond b None None)
no_choice true = refl
no_choice false = refl

-- ---- the first field

tag_typed : (part rest : List ℕ) (field : Tagged) → field_of part ≡ Some field → begins_typed (part ++ 1 ∷ rest) ≡ true → field.tag ≡ 35
unfolding field_from
tag_typed [] rest field is begins = absurd cc
tag_typed (a ∷ []) rest field is begins = absurd (false_not_true (and_parts (eqb 51 a) false begins).1)
tag_typed (a ∷ b ∷ []) rest field is begins = absurd (false_not_true (and_parts (eqb 53 b) false (and_parts (eqb 51 a) _ begins).1).1)
tag_typed (a ∷ b ∷ c ∷ part) rest field is begins =
    let first = and_parts (eqb 51 a) _ begins in
    let second = and_parts (eqb 53 b) _ first.1 in
    let third = and_parts (eqb 61 c) _ second.1 in
    let a_is : 51 ≡ a = eqb-true 51 a first.0 in
    let b_is : 53 ≡ b = eqb-true 53 b second.0 in
    let c_is : 61 ≡ c = eqb-true 61 c third.0 in
    let same : 51 ∷ 53 ∷ 61 ∷ part ≡ a ∷ b ∷ c ∷ part = cc in
    let typed : Tagged = record { tag = 35; value = part } in
    ap (λ (f : Tagged). f.tag) (sym (some_is typed field (ap (field_from 0) same ∙ is)))

-- the written tag
typed_text : decimal 35 ≡ 51 ∷ 53 ∷ []
unfolding digits
typed_text = refl

first_typed : (part rest : List ℕ) (field : Tagged) → holds_soh part ≡ false → field_of part ≡ Some field → eqb field.tag 35 ≡ begins_typed (part ++ 1 ∷ rest)
first_typed part rest field none is =
    elim (cases_eq field.tag 35) [
      | inl typed ↦
          let written : part ≡ 51 ∷ 53 ∷ 61 ∷ field.value = (field_of-takes part field none is).0 ∙ ap (λ (n : ℕ). decimal n ++ 61 ∷ field.value) typed ∙ ap (λ (t : List ℕ). t ++ 61 ∷ field.value) typed_text in
          eq-eqb _ _ typed ∙ sym (ap (λ (t : List ℕ). begins_typed (t ++ 1 ∷ rest)) written)
      | inr other ↦ elim (cases_Bool (begins_typed (part ++ 1 ∷ rest))) [
        | inl begins ↦ absurd (other (tag_typed part rest field is begins))
        | inr differs ↦ ne_eqb _ _ other ∙ sym differs
      ]
    ]

begins_first : (field : Tagged) (read : Option (List Tagged)) → option_and_then if_typed (with_field (Some field) read) ≡ cond (eqb field.tag 35) (with_field (Some field) read) None
begins_first field None = no_choice (eqb field.tag 35)
begins_first field (Some later) = refl

-- ---- the body

no_fields_typed : (body : List ℕ) → fields_of body ≡ None → typed_fields body ≡ cond (begins_typed body) (fields_of body) None
unfolding typed_fields
no_fields_typed body none = ap (option_and_then if_typed) none ∙ no_choice (begins_typed body) ∙ ap (λ (read : Option (List Tagged)). cond (begins_typed body) read None) (sym none)

typed_first : (body part rest : List ℕ) (first : Option Tagged) → body ≡ part ++ 1 ∷ rest → holds_soh part ≡ false → field_of part ≡ first → typed_fields body ≡ cond (begins_typed body) (fields_of body) None
unfolding typed_fields
typed_first body part rest None parted none is = no_fields_typed body (not_fields body part rest parted none (sym is))
typed_first body part rest (Some field) parted none is =
    let one : fields_of body ≡ with_field (Some field) (fields_of rest) = ap fields_of parted ∙ fields_of-part part rest none ∙ ap (λ (f : Option Tagged). with_field f (fields_of rest)) is in
    let begins : eqb field.tag 35 ≡ begins_typed body = first_typed part rest field none is ∙ ap begins_typed (sym parted) in
    ap (option_and_then if_typed) one ∙ begins_first field (fields_of rest)
    ∙ ap (λ (read : Option (List Tagged)). cond (eqb field.tag 35) read None) (sym one)
    ∙ ap (λ (b : Bool). cond b (fields_of body) None) begins

typed_parted : (body : List ℕ) (ends : List ℕ) → separators body 0 ≡ ends → typed_fields body ≡ cond (begins_typed body) (fields_of body) None
unfolding typed_fields fields_of parts_of fields_of_parts
typed_parted [] [] e = refl
typed_parted (byte ∷ bytes) [] e = no_fields_typed (byte ∷ bytes) (fields_of-none (byte ∷ bytes) (omega arith) (no_part (byte ∷ bytes) 0 (omega arith) e))
typed_parted body (end ∷ left) e =
    let part = (first_part body 0 end left (omega arith) e).0 in
    typed_first body (slice_range body 0 end) (drop (end + 1) body) _ part.parted part.whole refl

-- the first bytes of a body decide
pub typed_by_front : (body : List ℕ) → typed_fields body ≡ cond (begins_typed body) (fields_of body) None
typed_by_front body = typed_parted body (separators body 0) refl
