use Rattle.std.proofs.Common.{rules, List, Result, Err, ◌≡◌, ◌<◌, ◌+◌, ℕ, get_or, length, map, replicate, set, Some, slice_get, refl, ap, sym, subst, ◌∙◌, arith}
use Rattle.std.specs.Prelude.{IfErr}
use Rattle.std.specs.Option.{option_map}
use Rattle.std.proofs.lemmas.List.{length-map}
use Rattle.std.proofs.lemmas.Option.{slice_get-get_or, slice_get-map, slice_get_read}
use Rattle.day_restart.specs.Redoing.{AllDone, AllRedoTo, HasNext, IsVenuesFault}
use Rattle.journal_folder.specs.declared.restart_fault.RestartFault.{RestartFault}
use Rattle.day_restart.specs.Restored.{Past}
use Rattle.day_restart.proofs.Faults.{among}
use Rattle.day_restart.proofs.Places.{all_redone, fewer_left, left, next_more, next_within, next_within_at, none_redone, one_redone, one_there, same_counts}
use Rattle.day_restart.proofs.restored.redo_all.Goals as goal

pub loop-place-init : goal.loop-place-init
loop-place-init g c =
    let pasts = map (λ p. ((g.D.Dialect.wording p.dialect).decoding, map (λ v. v.items) p.lines.now)) c.args.pasts.now in
    let zeros : replicate (length pasts) 0 ≡ replicate (length c.args.pasts.now) 0 =
    ap (λ n. replicate {A = ℕ} n 0) (length-map c.args.pasts.now
    (λ p. ((g.D.Dialect.wording p.dialect).decoding, map (λ v. v.items) p.lines.now))) in
    subst (λ at. AllRedoTo pasts at c.args.starts.now c.args.starts.now)
    (zeros ∙ sym (c.in_ok-at.ensures.items_if_clones_equal (λ y is. is)))
    (none_redone pasts c.args.starts.now)

pub index-done-requires : goal.index-done-requires
index-done-requires g c =
    omega (arith, next_within_at _ _ c.in-Some.place c.in-Some.ensures, c.as_slice.ensures.len)

pub offset_bounds-pasts-place : goal.offset_bounds-pasts-place
offset_bounds-pasts-place g c =
    omega (arith, next_within (λ p. length p.lines.now) c.args.pasts.now _ c.in-Some.place c.in-Some.ensures)

pub bounds-pasts-place : goal.bounds-pasts-place
bounds-pasts-place g c = next_within (λ p. length p.lines.now) c.args.pasts.now _ c.in-Some.place c.in-Some.ensures

pub offset_bounds-starts-place : goal.offset_bounds-starts-place
offset_bounds-starts-place g c =
    let each = c.requires in
    let within : c.in-Some.place < length c.loop-place.starts =
    omega (
      arith,
      next_within (λ p. length p.lines.now) c.args.pasts.now _ c.in-Some.place c.in-Some.ensures,
      c.loop-place.auto.starts,
      each,
    ) in
    omega (arith, within)

pub bounds-starts-place : goal.bounds-starts-place
bounds-starts-place g c =
    let each = c.requires in
    omega (
      arith,
      next_within (λ p. length p.lines.now) c.args.pasts.now _ c.in-Some.place c.in-Some.ensures,
      c.loop-place.auto.starts,
      each,
    )

pub redo_at-requires : goal.redo_at-requires
redo_at-requires g c =
    let pasts = c.args.pasts.now in
    let place = c.in-Some.place in
    let within = next_within (λ p. length p.lines.now) pasts _ place c.in-Some.ensures in
    let next : HasNext (map (λ p. length p.lines.now) pasts) c.loop-place.at.items place =
    subst (λ at. HasNext (map (λ p. length p.lines.now) pasts) at place) c.as_slice.ensures.value c.in-Some.ensures in
    next_more (λ p. length p.lines.now) pasts c.loop-place.at.items place c.index-done.result.now c.index-pasts-place.result
    next (slice_get_read pasts _ place c.index-pasts-place.result refl within c.index-pasts-place.is)
    (slice_get_read c.loop-place.at.items _ place c.index-done.result.now refl (next_within_at _ _ place next)
    c.index-done.ensures)

pub returns-in_err-at-2-clause-fault : goal.returns-in_err-at-2-clause-fault
returns-in_err-at-2-clause-fault g c =
    let pasts = c.args.pasts.now in
    let place = c.in-Some.place in
    let past = c.index-pasts-place.result in
    let done = c.index-done.result.now in
    let fault = c.in_err-at-2.field-0.0 in
    let within = next_within (λ p. length p.lines.now) pasts _ place c.in-Some.ensures in
    let next : HasNext (map (λ p. length p.lines.now) pasts) c.loop-place.at.items place =
    subst (λ at. HasNext (map (λ p. length p.lines.now) pasts) at place) c.as_slice.ensures.value c.in-Some.ensures in
    let there = slice_get_read pasts _ place past refl within c.index-pasts-place.is in
    let more = next_more (λ p. length p.lines.now) pasts c.loop-place.at.items place done past next there
    (slice_get_read c.loop-place.at.items _ place done refl (next_within_at _ _ place next) c.index-done.ensures) in
    let same : Err fault ≡ c.from_residual-in_err-at-2.result = search rules in
    subst (λ (r : Result (Unit {0}) RestartFault). IfErr r
    (IsVenuesFault (map (λ p. (p.name.now, length p.lines.now)) pasts))) same
    (among (λ p. p.name.now) (λ p. length p.lines.now) pasts place past (done + 1) fault there (omega (arith, more))
    c.in_err-at-2.ensures.fault)

pub index_mut-requires : goal.index_mut-requires
index_mut-requires g c =
    omega (arith, next_within_at _ _ c.in-Some.place c.in-Some.ensures, c.as_slice.ensures.len)

pub loop-place-smaller : goal.loop-place-smaller
loop-place-smaller g c =
    let counts = map (λ p. length p.lines.now) c.args.pasts.now in
    let at = c.loop-place.at.items in
    let place = c.in-Some.place in
    let next : HasNext counts at place =
    subst (λ at. HasNext counts at place) c.as_slice.ensures.value c.in-Some.ensures in
    let done : next.done ≡ c.index-done.result.now =
    one_there (slice_get at place) next.done c.index-done.result.now next.done_there
    (slice_get_read at _ place c.index-done.result.now refl (next_within_at _ _ place next) c.index-done.ensures) in
    subst (λ n. left counts (set at place n) < left counts at)
    (ap (λ n. n + 1) done ∙ sym c.in_ok-at-2.ensures.next) (fewer_left counts at place next)

pub loop-place-preserved : goal.loop-place-preserved
loop-place-preserved g c =
    let pasts = map (λ p. ((g.D.Dialect.wording p.dialect).decoding, map (λ v. v.items) p.lines.now)) c.args.pasts.now in
    let counts = map (λ p. length p.lines.now) c.args.pasts.now in
    let at = c.loop-place.at.items in
    let place = c.in-Some.place in
    let done = c.index-done.result.now in
    let past = c.index-pasts-place.result in
    let each = c.requires in
    let next : HasNext counts at place =
    subst (λ at. HasNext counts at place) c.as_slice.ensures.value c.in-Some.ensures in
    let within = next_within (λ p. length p.lines.now) c.args.pasts.now _ place next in
    let start = get_or c.loop-place.starts place c.index-starts-place.result in
    subst (λ n. AllRedoTo pasts (set at place n) c.args.starts.now (set c.loop-place.starts place c.redo_at.new.start))
    (sym c.in_ok-at-2.ensures.next)
    (one_redone pasts at c.args.starts.now c.loop-place.starts place done
    ((g.D.Dialect.wording past.dialect).decoding, map (λ v. v.items) past.lines.now) start c.redo_at.new.start
    c.loop-place.invariant
    (record {
      there = slice_get-map (λ p. ((g.D.Dialect.wording p.dialect).decoding, map (λ v. v.items) p.lines.now)) c.args.pasts.now place
          ∙ ap (option_map (λ p. ((g.D.Dialect.wording p.dialect).decoding, map (λ v. v.items) p.lines.now)))
          (slice_get_read c.args.pasts.now _ place past refl within c.index-pasts-place.is);
      done_there = slice_get_read at _ place done refl (next_within_at _ _ place next) c.index-done.ensures;
      start_there = slice_get-get_or c.loop-place.starts place c.index-starts-place.result
          (omega (arith, within, c.loop-place.auto.starts, each));
    })
    c.in_ok-at-2.ensures.redoes)

pub returns-clause-redo : goal.returns-clause-redo
returns-clause-redo g c =
    let pasts = map (λ p. ((g.D.Dialect.wording p.dialect).decoding, map (λ v. v.items) p.lines.now)) c.args.pasts.now in
    let counts = map (λ p. length p.lines.now) c.args.pasts.now in
    all_redone pasts counts c.loop-place.at.items c.args.starts.now c.loop-place.starts
    (same_counts (λ p. (g.D.Dialect.wording p.dialect).decoding) (λ p. p.lines.now) (λ v. v.items) c.args.pasts.now)
    c.loop-place.invariant
    (subst (λ (at : List ℕ). AllDone counts at) c.as_slice.ensures.value c.in_default.ensures)
