-- A shape is tried in the table of Plain.
use Rattle.std.proofs.Common.{◌≡◌, ℕ, Bool, true, false, ◌&&◌, List, Option, Some, None, refl, sym, ap, ◌∙◌}
use Rattle.std.specs.Prelude.{unwrap_or, if◌then◌else◌}
use Rattle.std.specs.Str.{bytes_eq}
use Rattle.std.proofs.lemmas.Option.{none-some}
use Rattle.dialect.specs.declared.any_dialect.AnyDialect.TheVariants.{Plain}
use Rattle.dialect.specs.declared.words.IdShape.{IdShape}
use Rattle.dialect.specs.declared.words.Words.{Words}
use Rattle.dialect.specs.Mark.{is_among}
use Rattle.dialect.specs.Spelling.{SpellingParts}
use Rattle.dialect.specs.Words.{is_words, is_id_shape, is_mark, is_symbol_shape, is_price_shape, are_extra, shaped_id_text, words_spelling, worded}
use Rattle.dialect.specs.Lemmas.WordedLaws.{worded_is}
use Rattle.venue_words.specs.Example.{example_leg, spells}
use Rattle.venue_words.specs.Table.{preset_words}

and_true : (b : Bool) → (b && true) ≡ b
and_true true = refl
and_true false = refl

-- the table of Plain with another shape
abbrev pub tried : IdShape → Words
tried shape = record (preset_words Plain) { id = shape }

-- it is taken where the shape is
taken_as : (shape : IdShape) → is_words (tried shape) ≡ is_id_shape shape
unfolding is_words are_extra is_mark is_price_shape is_symbol_shape is_among
taken_as shape = and_true (is_id_shape shape)

spelt_by : (b : Bool) (shape : IdShape) (d : Words) (text : List ℕ) → is_id_shape shape ≡ b
    → (if b then Some (tried shape) else None) ≡ Some d
    → bytes_eq ((worded d).id_text example_leg) text ≡ spells shape text
spelt_by true shape d text ok made =
    let same : tried shape ≡ d = ap (λ (o : Option Words). unwrap_or o d) made in
    let spelling : worded d ≡ words_spelling (tried shape) =
    ap worded (sym same) ∙ worded_is (tried shape) (taken_as shape ∙ ok) in
    ap (λ (s : SpellingParts). bytes_eq (s.id_text example_leg) text) spelling
    ∙ sym (ap (λ b. b && bytes_eq (shaped_id_text shape example_leg) text) ok)
spelt_by false shape d text refused made = absurd (none-some d made)

pub spelt : (shape : IdShape) (w d : Words) (text : List ℕ) → w ≡ tried shape
    → (if is_words w then Some w else None) ≡ Some d
    → bytes_eq ((worded d).id_text example_leg) text ≡ spells shape text
spelt shape w d text is made =
    spelt_by (is_id_shape shape) shape d text refl
    (ap (λ b. if b then Some (tried shape) else None) (sym (taken_as shape))
    ∙ (ap (λ v. if is_words v then Some v else None) (sym is) ∙ made))

not_by : (b : Bool) (shape : IdShape) (text : List ℕ) → is_id_shape shape ≡ b
    → (if b then Some (tried shape) else None) ≡ None → false ≡ spells shape text
not_by true shape text ok made = absurd (none-some (tried shape) (sym made))
not_by false shape text refused made = sym (ap (λ b. b && bytes_eq (shaped_id_text shape example_leg) text) refused)

pub not_spelt : (shape : IdShape) (w : Words) (text : List ℕ) → w ≡ tried shape
    → (if is_words w then Some w else None) ≡ None → false ≡ spells shape text
not_spelt shape w text is made =
    not_by (is_id_shape shape) shape text refl
    (ap (λ b. if b then Some (tried shape) else None) (sym (taken_as shape))
    ∙ (ap (λ v. if is_words v then Some v else None) (sym is) ∙ made))
