use Rattle.std.proofs.Common.{◌≡◌, ◌<◌, ◌≤◌, ◌+◌, ℕ, get_or, length, map, Some, slice_get, refl, ap, sym, subst, ◌∙◌, arith}
use Rattle.std.specs.Option.{MatchOption, option_map}
use Rattle.std.proofs.lemmas.List.{length-map}
use Rattle.std.proofs.lemmas.Option.{slice_get-get_or, slice_get-map, slice_get_read, slice_get_within}
use Rattle.day_restart.specs.Redoing.{HasNext}
use Rattle.day_restart.proofs.Places.{none_found, some_found}
use Rattle.day_restart.proofs.restored.earliest.Goals as goal
use Rattle.day_restart.proofs.restored.earliest.Goals.{in-Some, in_default-2, in_default}

pub loop-place-preserved : goal.loop-place-preserved
loop-place-preserved g c =
    let pasts = c.args.pasts.now in
    let counts = map (λ p. length p.lines.now) pasts in
    let at = c.args.at.now in
    let place = c.loop-place.place in
    let past = c.index-pasts-place.result in
    let long = c.requires in
    let next : HasNext counts at place = record {
      lines_there = length past.lines.now;
      done = get_or at place 0;
      there = slice_get-map (λ p. length p.lines.now) pasts place
          ∙ ap (option_map (λ p. length p.lines.now))
          (slice_get_read pasts _ place past refl c.loop-place-test.true c.index-pasts-place.is);
      done_there = slice_get-get_or at place 0 (omega (arith, c.loop-place-test.true, long));
      more = c.if-at-place.false;
    } in
    elim c.match-found.branch [
      | in-Some w ↦ subst (λ found. MatchOption found ((k lines done : ℕ) → k < place + 1 → slice_get counts k ≡ Some lines
          → slice_get at k ≡ Some done → lines ≤ done) (HasNext counts at)) (sym w.found-is)
          (some_found _ (HasNext counts at) c.loop-place.found w.in-Some.best w.in-Some.is c.loop-place.invariant)
      | in_default-2 w ↦ subst (λ found. MatchOption found ((k lines done : ℕ) → k < place + 1 → slice_get counts k ≡ Some lines
          → slice_get at k ≡ Some done → lines ≤ done) (HasNext counts at)) (sym w.found-is) next
      | in_default w ↦ subst (λ found. MatchOption found ((k lines done : ℕ) → k < place + 1 → slice_get counts k ≡ Some lines
          → slice_get at k ≡ Some done → lines ≤ done) (HasNext counts at)) (sym w.found-is) next
    ]

pub returns : goal.returns
returns g c =
    let pasts = c.args.pasts.now in
    let counts = map (λ p. length p.lines.now) pasts in
    let long = length-map pasts (λ p. length p.lines.now) in
    none_found _ _ (HasNext counts c.args.at.now) c.loop-place.found
    (λ all k lines done there done_there.
    let within = slice_get_within counts k lines there in
    all k lines done (omega (arith, within, long, c.loop-place-test.false)) there done_there)
    c.loop-place.invariant
