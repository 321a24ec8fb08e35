use Rattle.std.proofs.Common.{[], ◌∷◌, ◌++◌, get_or, take, map, refl, ap, ◌∙◌, arith}
use Rattle.std.specs.Option.{option_map}
use Rattle.std.proofs.lemmas.Option.{slice_get-get_or, slice_get-map, slice_get_read}
use Rattle.day_restart.proofs.Places.{row_from, row_is, rows_more}
use Rattle.session_core.specs.Session.{next_out}
use Rattle.day_restart.specs.Told.{venue_rows}
use Rattle.day_restart.proofs.restored.venues_told.Goals as goal

pub loop-place-preserved : goal.loop-place-preserved
loop-place-preserved g c =
    let pasts = c.args.pasts.now in
    let place = c.loop-place.place in
    let past = get_or pasts place c.index-pasts-place.result in
    let start = c.index-starts-place.result in
    let each = c.requires in
    let name_there = slice_get-map (λ p. p.name.now) pasts place
    ∙ ap (option_map (λ p. p.name.now))
    (slice_get-get_or pasts place c.index-pasts-place.result (omega (arith, c.loop-place-test.true, each))) in
    let there = slice_get_read c.args.starts.now _ place start refl (omega (arith, c.loop-place-test.true))
    c.index-starts-place.is in
    let rows = venue_rows (take place (map (λ p. p.name.now) pasts)) (take place c.args.starts.now) in
    rw (rows_more (map (λ p. p.name.now) pasts) c.args.starts.now place past.name.now start name_there there)
    (c.in_ok-push.ensures.items ∙ (ap (λ l. l ++ row_from c.in_ok-clone.field-0 c.next_out.result c.next_in.result
    c.doubts.result ∷ []) c.loop-place.invariant
    ∙ ap (λ row. rows ++ row ∷ [])
    (row_is c.in_ok-clone.field-0 past.name.now c.next_out.result c.next_in.result c.doubts.result start
    c.in_ok-clone.ensures.cases (c.next_out.ensures ∙ ap next_out c.session.ensures)
    (c.next_in.ensures ∙ ap (λ s. s.expected) c.session-in-loop-place.ensures) c.doubts.ensures)))
