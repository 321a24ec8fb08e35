use Rattle.std.proofs.Common.{◌≡◌, ℕ, List, length, Some, None, refl, sym, subst, ◌∙◌, ap}
use Rattle.std.specs.Prelude.{option_map, slice_get}
use Rattle.std.proofs.lemmas.Bool.{ltb-true, ltb-false}
use Rattle.std.proofs.lemmas.Option.{slice_get-map, slice_get_past, slice_get_read}
use Rattle.report_words.specs.declared.placed.Placed.{Placed}
use Rattle.report_words.specs.declared.report_words.ReportWords.{ReportWords}
use Rattle.report_words.specs.Placing.{words_at}
use Rattle.report_words.proofs.word_list.WordList.get.Goals as goal

pub returns-in-Some : goal.returns-in-Some
returns-in-Some c =
    let bytes : List ℕ = c.self.inside.bytes.items in
    let lookup = c.in-Some.ensures.lookup in
    let there : slice_get c.self.inside.places.items c.args.place ≡ Some c.in-Some.placed.now =
    subst (λ (l : List Placed). slice_get l c.args.place ≡ Some c.in-Some.placed.now) c.deref.ensures.value
    (slice_get_read c.deref.result.now (length c.deref.result.now) c.args.place c.in-Some.placed.now refl
    (ltb-true c.args.place _ (sym lookup.0)) lookup.1) in
    ap Some (c.words.ensures ∙ ap (λ (l : List ℕ). words_at l c.in-Some.placed.now) c.as_slice.ensures.value)
    ∙ sym (ap (λ (l : List ReportWords). slice_get l c.args.place) (sym c.self.view_is)
    ∙ (slice_get-map (words_at bytes) c.self.inside.places.items c.args.place
    ∙ ap (option_map (words_at bytes)) there))

pub returns-in-None : goal.returns-in-None
returns-in-None c =
    let bytes : List ℕ = c.self.inside.bytes.items in
    let lookup = c.in-None.ensures.lookup in
    let there : slice_get c.self.inside.places.items c.args.place ≡ None =
    subst (λ (l : List Placed). slice_get l c.args.place ≡ None) c.deref.ensures.value
    (slice_get_past c.deref.result.now c.args.place (ltb-false c.args.place _ (sym lookup.0))) in
    sym (ap (λ (l : List ReportWords). slice_get l c.args.place) (sym c.self.view_is)
    ∙ (slice_get-map (words_at bytes) c.self.inside.places.items c.args.place
    ∙ ap (option_map (words_at bytes)) there))
